-- Words of a basis, as they are read.
use Rattle.std.specs.Prelude.{◌≡◌, ℕ, List, [], ◌∷◌, ◌++◌, Contains, codes, length, map}
use Rattle.ve_theory.specs.Words.{Word}
use Rattle.ve_formats.specs.WordText.{word_text}
use Rattle.ve_formats.specs.AnswerReading.{Draft, Grows}
use Rattle.ve_table.specs.declared.origin.Origin.{Origin}
use Rattle.ve_table.specs.Books.{spelled}
use Rattle.ve_table.specs.Numbers.{HasParentBelow}
use Rattle.ve_answers.specs.declared.head.Head.{Head}
use Rattle.ve_answers.specs.Heads.{draft_of}

-- the draft of a head, with these basis words
abbrev pub with_words : Head → List Word → Draft
with_words head words = record (draft_of head) { basis = words }

abbrev pub texts_of : Head → List Word → List (List ℕ)
texts_of head words = map (word_text head.names) words

-- behind these basis words, the text is that of a word that may stand next
pub record IsNextWord (head : Head) (words : List Word) (text : List ℕ) (w : Word) : Type 0 where
  pub grows : Grows (with_words head words) w
  pub spelling : text ≡ word_text head.names w

-- the same of the word that an origin spells, whose parent stands before it
pub record IsNextOrigin (head : Head) (words : List Word) (text : List ℕ) (o : Origin) : Type 0 where
  pub word : IsNextWord head words text (spelled words o)
  pub parent : HasParentBelow (length words) o

-- the line is that of a word that may stand next, and isn't there yet
pub record IsBasisLine (head : Head) (words : List Word) (line : List ℕ) (w : Word) : Type 0 where
  pub grows : Grows (with_words head words) w
  pub fresh : ¬ Contains words w
  pub text : line ≡ codes "basis " ++ word_text head.names w

-- The same of the word that an origin spells, whose parent stands before it. Its text joins the others.
pub record IsBasisOrigin (head : Head) (words : List Word) (line : List ℕ) (texts : List (List ℕ)) (o : Origin) : Type 0 where
  pub word : IsBasisLine head words line (spelled words o)
  pub parent : HasParentBelow (length words) o
  pub listed : texts ≡ texts_of head (words ++ spelled words o ∷ [])
