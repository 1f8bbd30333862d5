-- What follows from the relations of a presentation.
use Rattle.std.specs.Prelude.{ℕ, ◌<◌, ◌++◌, [], length}
use Rattle.ve_theory.specs.Residues.{Congruent}
use Rattle.ve_theory.specs.Combinations.{scaled, coefficient, Alike}
use Rattle.ve_theory.specs.Words.{Word, same_word}
use Rattle.ve_theory.specs.Elements.{Element, word_times, times_letter}
use Rattle.ve_theory.specs.Presentations.{Presentation, relators, relator, submodule_relation, letter_count, reach, IsWord}

-- A derivation: a tree of relations, combined and multiplied.
pub data Derivation : Type 0 where
  -- a word times the relator of a number
  by_relator : Word → ℕ → Derivation
  -- the submodule relation of a number
  by_submodule : ℕ → Derivation
  -- c times one derivation plus d times another
  combined : ℕ → Derivation → ℕ → Derivation → Derivation
  -- a derivation times a letter
  multiplied : Derivation → ℕ → Derivation
  -- zero, from nothing
  nothing : Derivation

-- the element that a derivation shows to vanish
unfoldable pub value : Presentation → Derivation → Element
value P (by_relator w number) = word_times w (relator P number)
value P (by_submodule number) = submodule_relation P number
value P (combined c s d t) = scaled c (value P s) ++ scaled d (value P t)
value P (multiplied t x) = times_letter (value P t) x
value P nothing = []

-- the derivation names words, letters and relations that the presentation has
unfoldable pub IsDerivation : Presentation → Derivation → Type 0
IsDerivation P (by_relator w number) = IsWord P w × (number < length (relators P))
IsDerivation P (by_submodule number) = number < length P.submodule
IsDerivation P (combined c s d t) = IsDerivation P s × IsDerivation P t
IsDerivation P (multiplied t x) = IsDerivation P t × (x < letter_count P)
IsDerivation P nothing = Unit {0}

-- the element's reach is at most k, once equal words are collected
abbrev pub Within : Presentation → ℕ → Element → Type 0
Within P k v = (w : Word) → k < reach P w → Congruent P.prime (coefficient same_word v w) 0

-- the value of the whole and of each part has reach at most k
unfoldable pub StaysWithin : Presentation → ℕ → Derivation → Type 0
StaysWithin P k (by_relator w number) = Within P k (value P (by_relator w number))
StaysWithin P k (by_submodule number) = Within P k (value P (by_submodule number))
StaysWithin P k (combined c s d t) = StaysWithin P k s × StaysWithin P k t × Within P k (value P (combined c s d t))
StaysWithin P k (multiplied t x) = StaysWithin P k t × Within P k (value P (multiplied t x))
StaysWithin P k nothing = Unit {0}

-- the element follows from the relations: it is in the submodule that they generate
pub record Derived (P : Presentation) (v : Element) : Type 0 where
  pub derivation : Derivation
  pub is_derivation : IsDerivation P derivation
  pub shows : Alike same_word P.prime (value P derivation) v

-- it follows without ever leaving the words of reach at most k
pub record DerivedWithin (P : Presentation) (k : ℕ) (v : Element) : Type 0 where
  pub derivation : Derivation
  pub is_derivation : IsDerivation P derivation
  pub stays : StaysWithin P k derivation
  pub shows : Alike same_word P.prime (value P derivation) v
