use Rattle.std.proofs.Common.{◌≡◌, length, map, refl, sym, ap, subst, ◌∙◌}
use Rattle.std.specs.List.{range_with_len}
use Rattle.ve_theory.specs.Combinations.{unit}
use Rattle.ve_table.specs.Sound.{IsSound}
use Rattle.ve_table.specs.Changes.{opened}
use Rattle.ve_table.specs.Roots.{AreRoots}
use Rattle.ve_table.proofs.Entries.{tabled}
use Rattle.ve_table.proofs.Opening.{opened_is, sound_opened, kept_opened}
use Rattle.ve_table.proofs.table.Table.open.Goals as goal

pub invariant_of-result : goal.invariant_of-result
invariant_of-result c =
    kept_opened _ refl c.in_ok-lists.ensures.rows (c.in_ok-lists.ensures.letters ∙ c.len-letters.ensures ∙ c.weights.result.now.ok.0 ∙ ap length c.weights.ensures ∙ c.is_valid.ensures.valid.presentation.one_weight_each) c.in_ok-lists.ensures.zero
    (subst (λ n. AreRoots n c.in_ok-lists.lists.entries.items) c.roots-roots.ensures c.in_ok-lists.ensures.entries)
    (c.in_ok-lists.ensures.images ∙ ap (λ n. map unit (range_with_len 0 n)) c.roots-roots.ensures)
    (c.from.ensures ∙ c.roots-roots.ensures)
    c.in_ok-lists.ensures.forwards
    (c.in_ok-lists.ensures.room ∙ c.roots-roots.ensures)
    c.in_ok-reaches.ensures
    c.is_valid.ensures.valid
    (c.reaches_are_bounded.ensures c.args.presentation.presentation c.is_valid.ensures.valid.presentation)

same : (c : goal.After-from) →
    tabled c.args.presentation 0 c.in_ok-lists.lists.images.items c.in_ok-lists.lists.bounds.items c.in_ok-lists.lists.rows.items c.in_ok-lists.lists.forwards.items c.in_ok-lists.lists.entries.items ≡ opened c.args.presentation
same c =
    opened_is c.args.presentation c.in_ok-lists.lists.entries.items c.in_ok-lists.lists.bounds.items c.in_ok-lists.lists.rows.items c.in_ok-lists.lists.forwards.items c.in_ok-lists.lists.images.items c.in_ok-lists.ensures.rows c.in_ok-lists.ensures.zero
    (subst (λ n. AreRoots n c.in_ok-lists.lists.entries.items) c.roots-roots.ensures c.in_ok-lists.ensures.entries)
    (c.in_ok-lists.ensures.images ∙ ap (λ n. map unit (range_with_len 0 n)) c.roots-roots.ensures)

pub returns-clause-opened : goal.returns-clause-opened
returns-clause-opened c = same c

pub returns-clause-sound : goal.returns-clause-sound
returns-clause-sound c = subst IsSound (sym (same c)) (sound_opened c.args.presentation c.is_valid.ensures.valid (c.reaches_are_bounded.ensures c.args.presentation.presentation c.is_valid.ensures.valid.presentation))
