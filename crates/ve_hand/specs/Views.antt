-- What a hand holds, as contracts see it.
use Rattle.std.specs.Prelude.{None, Option, Some, Vec, map}
use Rattle.std.specs.Global.{Global}
use Rattle.ve_theory.specs.Answers.{Row}
use Rattle.ve_machine.specs.Hands.{Found as SeatFound, Hand, Reading, beginning_hand, empty_hand, forward_found, none_found, read_forward, read_ids, read_image, row_found, summed_hand, tracing_hand, unread}
use Rattle.ve_hand.specs.declared.found.Found.{Found}
use Rattle.ve_hand.specs.declared.found.Found.TheVariants.{Forward, Nothing, Row as RowRead}
use Rattle.ve_hand.specs.declared.starting.StartRead.{StartRead}
use Rattle.ve_hand.specs.declared.starting.StartRead.TheVariants.{Forward as ForwardRead, Image}
use Rattle.ve_hand.specs.declared.starting.Starting.{Starting}
use Rattle.ve_hand.specs.declared.tracing.Tracing.{Tracing}
use Rattle.ve_hand.specs.declared.read_vector.ReadVector.{ReadVector}
use Rattle.ve_hand.specs.declared.stage.Stage.{Stage}
use Rattle.ve_hand.specs.declared.stage.Stage.TheVariants.{Empty, Starting as Starts, Summed, Tracing as Traces}
use Rattle.ve_hand.specs.declared.hand.Hand.TheInside.{Inside}
use Rattle.ve_hand.specs.Parts.{part_of}

abbrev pub found_of : Found → SeatFound
found_of (RowRead row) = row_found row
found_of (Forward forward) = forward_found forward
found_of Nothing = none_found

abbrev pub IsForwardFound : SeatFound → Type 0
IsForwardFound (row_found row) = ⊥
IsForwardFound (forward_found forward) = Unit {0}
IsForwardFound none_found = ⊥

-- the forward or the row that was read
abbrev pub forward_in : SeatFound → Option Row
forward_in (row_found row) = None
forward_in (forward_found forward) = Some forward
forward_in none_found = None

abbrev pub row_in : SeatFound → Option Row
row_in (row_found row) = Some row
row_in (forward_found forward) = None
row_in none_found = None

-- what f gives of an element that there is
abbrev pub and_then : Option SeatFound → (SeatFound → Option Row) → Option Row
and_then None f = None
and_then (Some found) f = f found

-- what was read for the ids of a vector
abbrev pub founds_of : Option (Vec Found Global) → Reading
founds_of None = unread
founds_of (Some founds) = read_ids (map found_of founds.items)

abbrev pub reading_of : ReadVector → Reading
reading_of v = founds_of v.founds

-- what was read for a beginning
abbrev pub start_of : Option StartRead → Reading
start_of None = unread
start_of (Some (Image image)) = read_image image
start_of (Some (ForwardRead row forward)) = read_forward row forward

abbrev pub starting_of : Starting → Hand
starting_of s = beginning_hand s.sum (part_of s.part) (map part_of s.parts.items) (start_of s.read)

abbrev pub tracing_of : Tracing → Hand
tracing_of t = tracing_hand t.sum t.coef (map part_of t.parts.items) t.product.vector t.letters.items (reading_of t.product)

abbrev pub stage_of : Stage → Hand
stage_of Empty = empty_hand
stage_of (Starts s) = starting_of s
stage_of (Traces t) = tracing_of t
stage_of (Summed v) = summed_hand v.vector (reading_of v)

abbrev pub hand_of : Inside → Hand
hand_of a = stage_of a.stage
