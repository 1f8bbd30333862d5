use Rattle.std.proofs.Common.{◌≡◌, ◌+◌, ◌*◌, ◌-◌, length, take}
use Rattle.std.specs.Prelude.{reverse}
use Rattle.ve_table.specs.ByLetter.{AreDealt}
use Rattle.ve_table.proofs.by_letter.rows_by_letter.Given as goal

abbrev pub invariant-ids : goal.invariant-ids
invariant-ids l = record {
  left : l.left.items ≡ take (length l.fn.rows.items - l._id * l.letters) (reverse l.fn.rows.items);
  dealt : AreDealt l.letters l._id 0 l.fn.rows.items l.lists.items;
}

abbrev pub invariant-letters : goal.invariant-letters
invariant-letters l = record {
  left : l.left.items ≡ take (length l.fn.rows.items - (l._id * l.letters + l.letter)) (reverse l.fn.rows.items);
  dealt : AreDealt l.letters l._id l.letter l.fn.rows.items l.lists.items;
}
