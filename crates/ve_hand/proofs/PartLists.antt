-- Parts that are made one after another.
use Rattle.std.proofs.Common.{◌≡◌, ℕ, ◌+◌, ◌<◌, List, [], ◌∷◌, ◌++◌, length, map, take, sym, ap₂, ◌∙◌}
use Rattle.std.specs.Prelude.{slice_index_or}
use Rattle.ve_theory.specs.Words.{Word, letters, start}
use Rattle.std.proofs.lemmas.List.{map_more, map_push}
use Rattle.ve_machine.specs.Hands.{Part, from_id, from_image}
use Rattle.ve_hand.specs.declared.part.Part.{Part as OwnPart}
use Rattle.ve_hand.specs.Parts.{part_at_id, part_of, part_of_image}

-- one part more
pub part_more : {X : Type 0} (f : X → Part) (terms : List X) (parts : List OwnPart) (part : OwnPart) (at : ℕ) (d : X) → at < length terms → part_of part ≡ f (slice_index_or terms at d)
    → map part_of parts ≡ map f (take at terms) → map part_of (parts ++ part ∷ []) ≡ map f (take (at + 1) terms)
part_more f terms parts part at d within is so_far =
    map_push part_of parts part
    ∙ ap₂ (λ (front : List Part) (last : Part). front ++ last ∷ []) so_far is
    ∙ sym (map_more f terms at d within)

-- a term with its letters and its coefficient

pub id_part : (b c : ℕ) (u : List ℕ) (t : List ℕ × ℕ) → u ≡ t.0 → c ≡ t.1 → ◌≡◌ {A = Part} (record { beginning = from_id b; letters = u; coefficient = c }) (part_at_id b t)
id_part b c u t same equal = ap₂ (λ (letters : List ℕ) (coefficient : ℕ). record { beginning = from_id b; letters = letters; coefficient = coefficient }) same equal

pub image_part : (i c : ℕ) (u : List ℕ) (w : Word) (t : Word × ℕ) → i ≡ start w → u ≡ letters w → w ≡ t.0 → c ≡ t.1
    → ◌≡◌ {A = Part} (record { beginning = from_image i; letters = u; coefficient = c }) (part_of_image t)
image_part i c u w t root spelled word equal =
    rw (root, spelled) (ap₂ (λ (v : Word) (coefficient : ℕ). record { beginning = from_image (start v); letters = letters v; coefficient = coefficient }) word equal)
