use Rattle.std.proofs.Common.{◌≡◌, ◌≤◌, ◌+◌, ◌-◌, ℕ, List, ap, ap₂, sym, subst, ◌∙◌, arith}
use Rattle.ve_table.specs.declared.birth.Birth.{Birth}
use Rattle.ve_table.specs.declared.entry.Entry.{Entry}
use Rattle.ve_table.specs.Births.{AreBirths, IsWeightedBook, all_births, letters_weighing}
use Rattle.ve_table.proofs.Birthing.{births_start, births_skip, births_next, births_comparable, products_are, rising_book, IsReachRange, AreOfWeight}
use Rattle.ve_table.proofs.birth.births.Goals as goal
use Rattle.ve_table.proofs.birth.births.Goals.{then-from-reach+in_ok-letters+in_ok-products+in_ok-births, else-from-reach}

-- what the steps of one turn give
of_weight : (weights : List ℕ) (es : List Entry) (level weight from to gap : ℕ) (letters lent : List ℕ) (products : List Birth) → IsWeightedBook weights es → weight ≤ level → gap ≡ level - weight → IsReachRange es gap from to
    → letters ≡ letters_weighing weights weight → lent ≡ letters → products ≡ all_births from (to - from) lent → AreOfWeight weights es level weight products
of_weight weights es level weight from to gap letters lent products book le gap_is range letters_are lent_are products_are' =
    subst (AreOfWeight weights es level weight) (sym (products_are' ∙ ap (all_births from (to - from)) (lent_are ∙ letters_are)))
    (products_are weights es level weight from to book le (subst (λ r. IsReachRange es r from to) gap_is range))

pub loop-weight-init : goal.loop-weight-init
loop-weight-init c = births_start c.args.weights.now c.args.entries.now c.args.reach c.new-births.result.items c.requires.book c.new-births.ensures.items

pub of_reach-parents-requires-clause-rising : goal.of_reach-parents-requires-clause-rising
of_reach-parents-requires-clause-rising c = rising_book c.args.weights.now c.args.entries.now c.requires.book

pub merged-requires-clause-words : goal.merged-requires-clause-words
merged-requires-clause-words c =
    let r = c.of_reach-parents.ensures in
    let le : c.loop-weight.weight ≤ c.args.reach = omega (arith, c.if-from-reach.true, c.from.ensures) in
    let new = of_weight c.args.weights.now c.args.entries.now c.args.reach c.loop-weight.weight c.of_reach-parents.result.0 c.of_reach-parents.result.1 _ c.in_ok-letters.letters.items c.deref.result.now c.in_ok-products.products.items
    c.requires.book le (ap₂ (λ r w. r - w) c.from-then-from-reach.ensures c.from-then-from-reach-2.ensures) (record { bound = r.bound; below = r.below; here = r.here; above = r.above })
    c.in_ok-letters.ensures c.deref.ensures.value c.in_ok-products.ensures in
    λ a b first second. births_comparable c.args.weights.now c.args.entries.now c.args.reach c.loop-weight.weight c.loop-weight.births.items c.in_ok-products.products.items a b c.requires.book c.loop-weight.invariant new first second

pub loop-weight-preserved : goal.loop-weight-preserved
loop-weight-preserved c =
    elim c.if-from-reach.branch [
      | then-from-reach+in_ok-letters+in_ok-products+in_ok-births w ↦
          let r = w.of_reach-parents.ensures in
          let le : c.loop-weight.weight ≤ c.args.reach = omega (arith, w.if-from-reach.true, c.from.ensures) in
          let new = of_weight c.args.weights.now c.args.entries.now c.args.reach c.loop-weight.weight w.of_reach-parents.result.0 w.of_reach-parents.result.1 _ w.in_ok-letters.letters.items w.deref.result.now w.in_ok-products.products.items
          c.requires.book le (ap₂ (λ r w. r - w) w.from-then-from-reach.ensures w.from-then-from-reach-2.ensures) (record { bound = r.bound; below = r.below; here = r.here; above = r.above })
          w.in_ok-letters.ensures w.deref.ensures.value w.in_ok-products.ensures in
          subst (λ v. AreBirths c.args.weights.now c.args.entries.now c.args.reach (c.loop-weight.weight + 1) v.items) (sym w.births-is)
          (births_next c.args.weights.now c.args.entries.now c.args.reach c.loop-weight.weight c.loop-weight.births.items w.in_ok-products.products.items _ c.loop-weight.invariant new w.in_ok-births.ensures)
      | else-from-reach w ↦
          subst (λ v. AreBirths c.args.weights.now c.args.entries.now c.args.reach (c.loop-weight.weight + 1) v.items) (sym w.births-is)
          (births_skip c.args.weights.now c.args.entries.now c.args.reach c.loop-weight.weight c.loop-weight.births.items (omega (arith, w.if-from-reach.false, c.from.ensures)) c.loop-weight.invariant)
    ]
