use Rattle.std.proofs.Common.{◌≡◌, Some, rules}
use Rattle.std.specs.Prelude.{slice_get}
use Rattle.ve_table_uses.proofs.Numbering.{next_inside, next_number}
use Rattle.ve_table_uses.proofs.tests.vectors.has_numbers.Goals as goal

pub loop-at-preserved : goal.loop-at-preserved
loop-at-preserved c =
    let numbers = c.args.numbers.now in
    let here : slice_get c.args.v.now c.loop-at.at ≡ Some (c.in-Some.number.now, c.term-id.result.coef) = search rules in
    let number = c.in-Some.ensures.lookup.3 in
    record {
      numbers = next_number _ _ numbers c.loop-at.at c.term-id.result.id c.term-id.result.coef c.in-Some.number.now c.term-id.ensures (number.1 0) here c.loop-at.invariant.numbers;
      ids = next_inside _ _ c.loop-at.at (c.term-id.result.id, c.term-id.result.coef) c.term-id.ensures number.0 c.loop-at.invariant.ids;
    }
