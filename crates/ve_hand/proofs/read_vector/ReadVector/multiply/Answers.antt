use Rattle.std.proofs.Common.{rules, IsTrue, map, refl, ap}
use Rattle.ve_hand.specs.Views.{found_of, founds_of}
use Rattle.ve_hand.proofs.FoundLists.{all_rows, rows_told}
use Rattle.ve_hand.proofs.read_vector.ReadVector.multiply.Goals as goal

pub returns-then-not-has_rows_alone-clause-ok : goal.returns-then-not-has_rows_alone-clause-ok
returns-then-not-has_rows_alone-clause-ok c = (
  refl,
  λ all.
      let told : IsTrue c.has_rows_alone.result =
      (rows_told c.has_rows_alone.result c.args.self.now.founds c.in-Some.founds c.deref.result.now c.in-Some.is c.deref.ensures.value c.has_rows_alone.ensures).1 all in
      search rules,
)

pub returns-clause-ok : goal.returns-clause-ok
returns-clause-ok c =
    let told : IsTrue c.has_rows_alone.result = search rules in
    record {
      founds = map found_of c.in-Some.founds.items;
      was_read = ap founds_of c.in-Some.is;
      rows_alone = all_rows c.in-Some.founds.items (rw c.deref.ensures.value at (c.has_rows_alone.ensures.0 told));
      sum = rw c.unread.ensures.vector (rw c.deref-2.ensures.value at c.in_ok-product.ensures);
      unread_now = ap founds_of c.unread.ensures.unread;
    }
