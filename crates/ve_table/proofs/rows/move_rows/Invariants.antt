use Rattle.std.proofs.Common.{◌≡◌, ◌+◌, ◌*◌, ◌<◌, ◌≤◌, ℕ, [], length, get_or}
use Rattle.ve_table.proofs.rows.move_rows.Given as goal

abbrev pub invariant-loop-letter : goal.invariant-loop-letter
invariant-loop-letter l = record {
  count : length l.rows ≡ length l.fn.rows;
  moved : (x : ℕ) → x < l.letter → get_or l.rows (l.to * l.letters + x) [] ≡ get_or l.fn.rows (l.from * l.letters + x) [];
  below : (k : ℕ) → k < l.to * l.letters → get_or l.rows k [] ≡ get_or l.fn.rows k [];
  above : (k : ℕ) → l.from * l.letters + l.letter ≤ k → get_or l.rows k [] ≡ get_or l.fn.rows k [];
}
