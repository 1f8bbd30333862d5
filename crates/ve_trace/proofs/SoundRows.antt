-- The rows of a sound table: there is one where the product is within the level, and it reaches no further than the product.
use Rattle.std.proofs.Common.{◌≡◌, ℕ, ◌+◌, ◌<◌, ◌≤◌, ◌⊎◌, inl, inr, List, ◌∷◌, All, Option, None, Some, IsSome, length, refl, ap, ◌∙◌, arith}
use Rattle.std.proofs.lemmas.List.Elements.{All-weaker}
use Rattle.std.proofs.lemmas.Bool.{cases_lt}
use Rattle.ve_theory.specs.Words.{Word, times, letters_weight}
use Rattle.ve_theory.specs.Presentations.{Presentation, letter_count, reach}
use Rattle.ve_theory.specs.Answers.{Row, IsNotAfter}
use Rattle.ve_theory.specs.Laws.{ReachAddsUp, IsTotalOrder}
use Rattle.ve_vec.specs.Tracing.{PartialTable}
use Rattle.ve_table.specs.Tables.{ActionTable, presented, word_at, row_at}
use Rattle.ve_table.specs.Sound.{IsRowOf}
use Rattle.ve_trace.specs.Within.{AreRowsOf}

-- a word that is not after another reaches no further
pub not_after_reach : (P : Presentation) → IsTotalOrder P → (v w : Word) → IsNotAfter P v w → reach P v ≤ reach P w
not_after_reach P ordered v w (inr same) = let e : reach P v ≡ reach P w = ap (reach P) same in omega arith
not_after_reach P ordered v w (inl earlier) = cases (cases_lt (reach P w) (reach P v))
  where
    cases : (reach P w < reach P v) ⊎ (reach P v ≤ reach P w) → reach P v ≤ reach P w
    cases (inl less) = absurd (ordered.irreflexive v (ordered.transitive v w v earlier (ordered.by_reach w v less)))
    cases (inr le) = le

-- an id of the table whose word, times the letters, is within the level
abbrev pub IsIdFor : ActionTable → List ℕ → ℕ → Type 0
IsIdFor T u b = (b < length T.words) × (reach (presented T) (word_at T b) + letters_weight (presented T).weights u ≤ T.level)

-- all ids of a vector are such
abbrev pub HasIdsFor : ActionTable → List ℕ → Row → Type 0
HasIdsFor T u v = All (λ t. IsIdFor T u t.0) v

-- the vector of a product that is within the level
pub record IsProductRow (T : ActionTable) (rows : PartialTable) (b x : ℕ) (u : List ℕ) : Type 0 where
  pub vector : Row
  pub known : rows b x ≡ Some vector
  pub row : IsRowOf T b x vector
  pub ids : HasIdsFor T u vector

some_of : {X : Type 0} (o : Option X) → IsSome o → (v : X) × (o ≡ Some v)
some_of (Some v) h = (v, refl)
some_of None h = absurd cc

module _ (adds : ReachAddsUp) (T : ActionTable) (rows : PartialTable) (p : ℕ) (are : AreRowsOf T p rows) (ordered : IsTotalOrder (presented T)) where
  abbrev P : Presentation
  P = presented T

  pub product_row : (b x : ℕ) (u : List ℕ) → x < letter_count P → IsIdFor T (x ∷ u) b → IsProductRow T rows b x u
  unfolding letters_weight
  product_row b x u is_letter fits = found (some_of (row_at T b x) ((are.sound.due b x).1 (fits.0, is_letter, omega (arith, fits.1))))
    where
      found : (v : Row) × (row_at T b x ≡ Some v) → IsProductRow T rows b x u
      found (v, is) =
          let row : IsRowOf T b x v = are.sound.rows b x v is in
          record {
            vector = v;
            known = are.same b x ∙ is;
            row = row;
            ids = All-weaker (λ (t : ℕ × ℕ). (t.0 < length T.words) × IsNotAfter P (word_at T t.0) (times (word_at T b) x)) (λ (t : ℕ × ℕ). IsIdFor T u t.0)
                (λ t h. (h.0, omega (arith, not_after_reach P ordered (word_at T t.0) (times (word_at T b) x) h.1, (adds P).1 (word_at T b) x, fits.1)))
                v row.not_after;
          }
