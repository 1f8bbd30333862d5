use Rattle.std.proofs.Common.{ℕ, ◌<◌, ◌∙◌, None, Some, ap, arith, get_or, length}
use Rattle.std.proofs.lemmas.Option.{slice_get-get_or}
use Rattle.ve_table.specs.Tables.{IsLive}
use Rattle.ve_table_uses.proofs.tests.steps.drop_none.Goals as goal

-- no id is dead
pub drop_dead-requires : goal.drop_dead-requires
drop_dead-requires c = record {
  origins = λ a b x live word lt. at a lt;
  rows = λ b x v live found k d lt. at (get_or v k d).0 ((c.is_sound.ensures.rows b x v found).stands.row.1 k d lt);
  images = λ i e inside k d lt. at (get_or (get_or c.args.table.now.images i e) k d).0 ((c.is_sound.ensures.images i (get_or c.args.table.now.images i e) (slice_get-get_or c.args.table.now.images i e inside)).stands.row.1 k d lt);
}
  where
    at : (b : ℕ) → b < length c.args.table.now.words → IsLive c.args.table.now b
    at b lt =
        let inside : b < length c.args.table.now.forwards = omega (arith, lt, c.is_sound.ensures.one_forward_each) in
        slice_get-get_or c.args.table.now.forwards b None inside
        ∙ ap Some (c.live_count.ensures.all.0 (c.if-live_count-id_count.false ∙ c.id_count.ensures) b None inside)
