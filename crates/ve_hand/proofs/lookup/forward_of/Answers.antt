use Rattle.std.proofs.Common.{◌≤◌, None, length, sym, ap, ◌∙◌, arith}
use Rattle.std.specs.Prelude.{Option, unwrap_or}
use Rattle.std.proofs.lemmas.Option.{slice_get_past, unwrap_or-slice_get}
use Rattle.ve_theory.specs.Answers.{Row}
use Rattle.ve_hand.proofs.lookup.forward_of.Goals as goal

pub returns-else-id-id_count : goal.returns-else-id-id_count
returns-else-id-id_count c =
    let past : length c.args.table.now.forwards ≤ c.args.id = omega (arith, c.is_sound.ensures.one_forward_each) in
    ap (λ (o : Option (Option Row)). unwrap_or o None) (sym (slice_get_past c.args.table.now.forwards c.args.id past)) ∙ unwrap_or-slice_get c.args.table.now.forwards c.args.id None
