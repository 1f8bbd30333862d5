-- Terms, as the values of this crate hold them.
use Rattle.std.specs.Prelude.{◌≡◌, ℕ, ◌-◌, ◌<◌, ◌≤◌, ◌%◌, List, map, length, All}
use Rattle.ve_theory.specs.Combinations.{Combination, IsReduced}
use Rattle.ve_theory.specs.Words.{letters, start, Shortlex, word_length}
use Rattle.ve_theory.specs.Elements.{Element, AlgebraElement}
use Rattle.ve_theory.specs.Validity.{most_terms, most_length}
use Rattle.ve_pres.specs.declared.term.Term.{Term}

-- terms as pairs
abbrev pub pairs : List Term → Element
pairs terms = map (λ term. (term.word, term.coef)) terms

-- each coefficient replaced by its residue
abbrev pub residues : {K : Type 0} → ℕ → Combination K → Combination K
residues p v = map (λ t. (t.0, t.1 % p)) v

-- each coefficient replaced by the residue that makes zero with it
abbrev pub negatives : ℕ → Element → Element
negatives p v = map (λ t. (t.0, (p - t.1) % p)) v

-- An element within the limits: terms in strictly falling shortlex order, with coefficients other than 0, below some bound.
pub record IsKept (v : Element) : Type 0 where
  pub bound : ℕ
  pub reduced : IsReduced Shortlex bound v
  pub terms : length v ≤ most_terms
  pub lengths : All (λ t. word_length t.0 ≤ most_length) v

-- a sum of terms whose element is within the limits
pub record IsSummable (p : ℕ) (v : Element) : Type 0 where
  pub residues : All (λ t. t.1 < p) v
  pub lengths : All (λ t. word_length t.0 ≤ most_length) v
  pub terms : length v ≤ most_terms

-- a term of the algebra within the limits, kept as one of the first generator
pub record IsSummand (p : ℕ) (term : Term) : Type 0 where
  pub first : start term.word ≡ 0
  pub residue : term.coef < p
  pub short : word_length term.word ≤ most_length

-- an element of the free module on one generator, as an element of the algebra
abbrev pub in_algebra : Element → AlgebraElement
in_algebra v = map (λ t. (letters t.0, t.1)) v

-- all letters are among the first `count`
abbrev pub HasLettersBelow : (count : ℕ) → AlgebraElement → Type 0
HasLettersBelow count r = All (λ t. All (λ x. x < count) t.0) r

-- all generators are among the first `generators`, and all letters among the first `count`
abbrev pub HasWordsBelow : (generators count : ℕ) → Element → Type 0
HasWordsBelow generators count v = All (λ t. (start t.0 < generators) × All (λ x. x < count) (letters t.0)) v
