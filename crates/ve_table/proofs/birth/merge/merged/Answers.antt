use Rattle.std.proofs.Common.{◌≡◌, [], sym, subst, ◌∙◌, eqb-true, arith}
use Rattle.std.specs.Prelude.{Contains}
use Rattle.std.proofs.lemmas.List.{nil_from_length}
use Rattle.ve_table.specs.Births.{Merges, no_left, no_right}
use Rattle.ve_table.proofs.birth.merge.merged.Goals as goal

pub returns-then-is_empty : goal.returns-then-is_empty
returns-then-is_empty c =
    let count = eqb-true c.args.left.len 0 (sym c.is_empty.ensures ∙ c.if-is_empty.true) in
    let none : c.args.left.items ≡ [] = nil_from_length c.args.left.items (omega (arith, count, c.args.left.ok.0)) in
    subst (λ l. Merges c.args.entries.now l c.args.right.items c.args.right.items) (sym none) (no_left c.args.right.items)

pub returns-then-is_empty-2 : goal.returns-then-is_empty-2
returns-then-is_empty-2 c =
    let count = eqb-true c.args.right.len 0 (sym c.is_empty-2.ensures ∙ c.if-is_empty-2.true) in
    let none : c.args.right.items ≡ [] = nil_from_length c.args.right.items (omega (arith, count, c.args.right.ok.0)) in
    subst (λ r. Merges c.args.entries.now c.args.left.items r c.args.left.items) (sym none) (no_right c.args.left.items)

pub merge-requires-clause-words : goal.merge-requires-clause-words
merge-requires-clause-words c =
    λ a b found other. c.requires.words a b (subst (λ l. Contains l a) c.deref.ensures.value found) (subst (λ l. Contains l b) c.deref-2.ensures.value other)
