-- What a table's rows and forwards make known of elements.
use Rattle.std.specs.Prelude.{◌≡◌, ℕ, ◌<◌, ◌++◌, Some, slice_get}
use Rattle.ve_theory.specs.Combinations.{unit, scaled, difference, Alike}
use Rattle.ve_theory.specs.Words.{generator, times, same_word}
use Rattle.ve_theory.specs.Elements.{Element, times_letter}
use Rattle.ve_theory.specs.Presentations.{letter_count}
use Rattle.ve_theory.specs.Derivations.{Within}
use Rattle.ve_theory.specs.Answers.{Row}
use Rattle.ve_table.specs.Tables.{ActionTable, presented, word_at, row_at, element_of}
use Rattle.ve_machine.specs.Forwards.{Forwards, IsForwarding}

-- The elements that vanish by the rows and images of the opening and by the forwards: the least space that has these, and the
-- product of its elements with a letter wherever that stays within the level.
pub data Known (O : ActionTable) (forwards : Forwards) : Element → Type 0 where
  by_forwards : (v : Row) → IsForwarding (presented O).prime forwards v → Known O forwards (element_of O v)
  by_row : (b x : ℕ) (v : Row) → row_at O b x ≡ Some v
      → Known O forwards (difference (presented O).prime (unit (times (word_at O b) x)) (element_of O v))
  by_image : (i : ℕ) (v : Row) → slice_get O.images i ≡ Some v
      → Known O forwards (difference (presented O).prime (unit (generator i)) (element_of O v))
  alike : (u v : Element) → Alike same_word (presented O).prime u v → Known O forwards u → Known O forwards v
  combined : (c d : ℕ) (u v : Element) → Known O forwards u → Known O forwards v → Known O forwards (scaled c u ++ scaled d v)
  multiplied : (v : Element) (x : ℕ) → x < letter_count (presented O) → Within (presented O) O.level (times_letter v x)
      → Known O forwards v → Known O forwards (times_letter v x)
