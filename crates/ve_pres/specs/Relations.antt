-- Relations that a presentation may keep.
use Rattle.std.specs.Prelude.{◌≤◌, length, All, IsTrue}
use Rattle.ve_theory.specs.Combinations.{IsReduced}
use Rattle.ve_theory.specs.Words.{Shortlex, ShortlexLetters}
use Rattle.ve_theory.specs.Elements.{AlgebraElement, Element, algebra_length, element_length, halved, IsAlgebraElementOf}
use Rattle.ve_theory.specs.Presentations.{Presentation, HasLetters, IsWord}
use Rattle.ve_theory.specs.Validity.{most_length, most_terms}
use Rattle.ve_pres.specs.Drafts.{IsRelatorOf}

-- a relator for the presentation, within the limits but for its cells
pub record IsKeepable (P : Presentation) (r : AlgebraElement) : Type 0 where
  pub reduced : IsReduced ShortlexLetters P.prime r
  pub letters : All (λ t. HasLetters P t.0) r
  pub own_half : IsTrue P.is_balanced → IsAlgebraElementOf P.prime r (halved P.inverses r)
  pub terms : length r ≤ most_terms
  pub short : algebra_length r ≤ most_length

-- the relator that a relation gives
pub record IsRelatorToKeep (P : Presentation) (element r : AlgebraElement) : Type 0 where
  pub is_relator : IsRelatorOf P element r
  pub reduced : IsReduced ShortlexLetters P.prime r
  pub letters : All (λ t. HasLetters P t.0) r
  pub own_half : IsTrue P.is_balanced → IsAlgebraElementOf P.prime r (halved P.inverses r)

pub record IsKeepableSubmodule (P : Presentation) (v : Element) : Type 0 where
  pub reduced : IsReduced Shortlex P.prime v
  pub words : All (λ t. IsWord P t.0) v
  pub terms : length v ≤ most_terms
  pub short : element_length v ≤ most_length
