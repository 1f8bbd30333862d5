-- Halved relations keep the answers of the module.
use Rattle.std.proofs.Common.{◌≡◌, ℕ, ◌<◌, ◌↔◌, length, All, sym, subst, ◌∙◌}
use Rattle.std.proofs.lemmas.List.Elements.{All-weaker}
use Rattle.ve_theory.specs.Combinations.{unit, difference}
use Rattle.ve_theory.specs.Words.{Word, generator, times, Weighted, start, letters}
use Rattle.ve_theory.specs.Elements.{Element}
use Rattle.ve_theory.specs.Presentations.{Presentation, IsWord, before}
use Rattle.ve_theory.specs.Derivations.{Derived}
use Rattle.ve_theory.specs.Levels.{IsLeast}
use Rattle.ve_theory.specs.Answers.{Action, Answer, IsModuleAnswer, HasDerivedRows, basis_word, image_row, matrix_row, combination_of}
use Rattle.ve_theory.specs.Laws.{BalanceKeepsTheModule}
use Rattle.ve_theory.proofs.Halves.{balance_keeps_derived}

-- a presentation with the same field, names, weights and generators, where the same elements are derived
module _ (P Q : Presentation) (prime : P.prime ≡ Q.prime) (names : P.names ≡ Q.names) (weights : P.weights ≡ Q.weights) (generators : P.generators ≡ Q.generators)
    (to : (v : Element) → Derived P v → Derived Q v) (back : (v : Element) → Derived Q v → Derived P v) where
  word_there : (w : Word) → IsWord P w → IsWord Q w
  word_there w h = (subst (λ n. start w < n) generators h.0, subst (λ ns. All (λ x. x < length ns) (letters w)) names h.1)

  word_back : (w : Word) → IsWord Q w → IsWord P w
  word_back w h = (subst (λ n. start w < n) (sym generators) h.0, subst (λ ns. All (λ x. x < length ns) (letters w)) (sym names) h.1)

  before_there : (v w : Word) → before P v w → before Q v w
  before_there v w h = subst (λ s. Weighted s v w) weights h

  before_back : (v w : Word) → before Q v w → before P v w
  before_back v w h = subst (λ s. Weighted s v w) (sym weights) h

  least_there : (w : Word) → IsLeast P w → IsLeast Q w
  least_there w L = record {
    word = word_there w L.word;
    irreducible = λ v earlier h.
        L.irreducible v
        (All-weaker (λ (t : Word × ℕ). IsWord Q t.0 × before Q t.0 w) (λ (t : Word × ℕ). IsWord P t.0 × before P t.0 w) (λ t e. (word_back t.0 e.0, before_back t.0 w e.1)) v earlier)
        (back (difference P.prime (unit w) v) (subst (λ p. Derived Q (difference p (unit w) v)) (sym prime) h));
  }

  rows_there : (A : Action) → HasDerivedRows P A → HasDerivedRows Q A
  rows_there A rows = record {
    images = λ i l.
        let row = combination_of A (image_row A i) in
        subst (λ p. Derived Q (difference p (unit (generator i)) row)) prime (to (difference P.prime (unit (generator i)) row) (rows.images i (subst (λ n. i < n) (sym generators) l)));
    matrices = λ x j l m.
        let row = combination_of A (matrix_row A x j) in
        let w : Word = times (basis_word A j) x in
        subst (λ p. Derived Q (difference p (unit w) row)) prime (to (difference P.prime (unit w) row) (rows.matrices x j (subst (λ ns. x < length ns) (sym names) l) m));
  }

  answer_there : ((w : Word) → IsLeast Q w → IsLeast P w) → (A : Answer) → IsModuleAnswer P A → IsModuleAnswer Q A
  answer_there least_back A F = record {
    shape = record { prime = F.shape.prime ∙ prime; names = F.shape.names ∙ names; generators = F.shape.generators ∙ generators };
    form = F.form;
    basis = record {
      rising = λ i j d h l. before_there _ _ (F.basis.rising i j d h l);
      only = All-weaker (IsLeast P) (IsLeast Q) least_there A.action.basis F.basis.only;
      every = λ w h. F.basis.every w (least_back w h);
    };
    rows = rows_there A.action F.rows;
  }

pub balance_keeps_the_module : BalanceKeepsTheModule
balance_keeps_the_module P Q V W B =
    let same : (v : Element) → (Derived P v ↔ Derived Q v) = balance_keeps_derived P Q V W B in
    let least : (w : Word) → IsLeast P w → IsLeast Q w = least_there P Q (sym B.prime) (sym B.names) (sym B.weights) (sym B.generators) (λ v. (same v).0) (λ v. (same v).1) in
    let least_back : (w : Word) → IsLeast Q w → IsLeast P w = least_there Q P B.prime B.names B.weights B.generators (λ v. (same v).1) (λ v. (same v).0) in
    record {
      derived = same;
      answers = λ A. (
        answer_there P Q (sym B.prime) (sym B.names) (sym B.weights) (sym B.generators) (λ v. (same v).0) (λ v. (same v).1) least_back A,
        answer_there Q P B.prime B.names B.weights B.generators (λ v. (same v).1) (λ v. (same v).0) least A,
      );
    }
