use Rattle.std.proofs.Common.{rules, IsTrue, map, refl, ap}
use Rattle.ve_hand.specs.Views.{found_of, founds_of}
use Rattle.ve_hand.proofs.FoundLists.{any_forward, forwards_told}
use Rattle.ve_hand.proofs.read_vector.ReadVector.repair.Goals as goal

pub returns-then-not-has_forwards-clause-ok : goal.returns-then-not-has_forwards-clause-ok
returns-then-not-has_forwards-clause-ok c = (
  refl,
  λ has.
      let told : IsTrue c.has_forwards.result =
      (forwards_told c.has_forwards.result c.args.self.now.founds c.in-Some.founds c.deref.result.now c.in-Some.is c.deref.ensures.value c.has_forwards.ensures).1 has in
      search rules,
)

pub returns-clause-ok : goal.returns-clause-ok
returns-clause-ok c =
    let told : IsTrue c.has_forwards.result = search rules in
    record {
      founds = map found_of c.in-Some.founds.items;
      was_read = ap founds_of c.in-Some.is;
      some = any_forward c.in-Some.founds.items (rw c.deref.ensures.value at (c.has_forwards.ensures.0 told));
      sum = rw c.unread.ensures.vector (rw c.deref-2.ensures.value at c.in_ok-repaired.ensures);
      unread_now = ap founds_of c.unread.ensures.unread;
    }
