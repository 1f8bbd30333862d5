-- Terms of jobs, as contracts see them.
use Rattle.std.specs.Prelude.{ℕ, List, map}
use Rattle.ve_theory.specs.Words.{Word, letters, start}
use Rattle.ve_theory.specs.Elements.{AlgebraElement, Element}
use Rattle.ve_machine.specs.Hands.{Beginning as SeatBeginning, Part as SeatPart, from_forward, from_id, from_image}
use Rattle.ve_hand.specs.declared.part.Beginning.{Beginning}
use Rattle.ve_hand.specs.declared.part.Beginning.TheVariants.{Forward, Id, Image}
use Rattle.ve_hand.specs.declared.part.Part.{Part}

abbrev pub beginning_of : Beginning → SeatBeginning
beginning_of (Id id) = from_id id
beginning_of (Image root) = from_image root
beginning_of (Forward id letter) = from_forward id letter

abbrev pub part_of : Part → SeatPart
part_of part = record { beginning = beginning_of part.beginning; letters = part.letters.items; coefficient = part.coef }

-- a term of an algebra element at an id, and one of a module element
abbrev pub part_at_id : ℕ → List ℕ × ℕ → SeatPart
part_at_id b t = record { beginning = from_id b; letters = t.0; coefficient = t.1 }

abbrev pub part_of_image : Word × ℕ → SeatPart
part_of_image t = record { beginning = from_image (start t.0); letters = letters t.0; coefficient = t.1 }

abbrev pub parts_at_id : ℕ → AlgebraElement → List SeatPart
parts_at_id b r = map (part_at_id b) r

abbrev pub parts_of_images : Element → List SeatPart
parts_of_images q = map part_of_image q
