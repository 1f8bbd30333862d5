-- A term on its way through letters, as far as rows have one term.
use Rattle.std.proofs.Common.{◌≡◌, ◌≢◌, ℕ, ◌+◌, ◌*◌, ◌%◌, ◌<◌, ◌≤◌, nat_eq, List, [], ◌∷◌, ◌++◌, length, drop, get_or, Some, None, refl, sym, ap, ◌∙◌, subst, arith}
use Rattle.std.proofs.Math.Nat.{mod-mod}
use Rattle.std.proofs.lemmas.List.{drop_all}
use Rattle.ve_theory.specs.Combinations.{Combination, scaled, AllBefore, IsReduced, IsReducedOf}
use Rattle.ve_theory.proofs.Sums.{weigh, congruent-add, congruent-mul, SameWeights, SameWeights-refl, SameWeights-sym, SameWeights-trans, SameWeights-append, SameWeights-scaled, SameWeights_of, scaled-one, Alike_from_weights, weights_from_Alike, Decides-nat_eq}
use Rattle.ve_vec.specs.declared.term.Term.{Term}
use Rattle.ve_vec.specs.Terms.{pairs}
use Rattle.ve_vec.specs.Tracing.{PartialTable, vector_times_letters, AreReduced, CanTrace}
use Rattle.ve_trace.specs.Steps.{LeadsTo, single}
use Rattle.ve_trace.proofs.Adding.{weights_of, reduced_by, itself, onto}
use Rattle.ve_trace.proofs.Rows.{has_row, has_rows, sum_one}
use Rattle.ve_trace.proofs.Terms.{nothing_times}
use Rattle.ve_trace.proofs.Tracings.{IsOnTheWayAt, letters_alike, CanTrace-alike, way_starts, way_finds_at, way_goes_on_at}

-- a term that is reduced
pub record IsResidue (p c : ℕ) : Type 0 where
  pub positive : 0 < c
  pub below : c < p

pub coefficient_of : (p : ℕ) (t : Term) → IsReduced ◌<◌ p (single t) → IsResidue p t.coef
unfolding IsReduced
coefficient_of p t reduced = record { positive = reduced.0; below = reduced.1 }

pub single_reduced : (p : ℕ) (t : Term) → IsResidue p t.coef → IsReduced ◌<◌ p (single t)
unfolding IsReduced AllBefore
single_reduced p t residue = (residue.positive, residue.below, tt, tt)

-- a term times a row of one term
pub product_of_terms : (p a c : ℕ) (next : Term) → IsResidue p c → c ≡ (a * next.coef) % p → IsReducedOf ◌<◌ nat_eq p ((next.id, c) ∷ []) (scaled a (single next))
unfolding weigh scaled
product_of_terms p a c next residue c_is =
    reduced_by (single_reduced p (record { id = next.id; coef = c }) residue)
    (record { at = λ h. congruent-add p (c * h next.id) (a * next.coef * h next.id) 0 0 (congruent-mul p c (a * next.coef) (h next.id) (h next.id) (ap (λ n. n % p) c_is ∙ mod-mod (a * next.coef) p) refl) refl })

-- a term of the coefficient 0
zero_weighs_nothing : (p k : ℕ) → SameWeights p ((k, 0) ∷ []) []
unfolding weigh
zero_weighs_nothing p k = record { at = λ h. ap (λ n. n % p) (nothing (h k)) }
  where
    nothing : (n : ℕ) → 0 * n + 0 ≡ 0
    nothing n = omega arith

-- a row of one term, and one of none

pub only_term : (xs : List Term) (row : Combination ℕ) (d : Term) → 1 ≤ length xs → length xs < 2 → pairs xs ≡ row → single (get_or xs 0 d) ≡ row
only_term [] row d some few is = absurd (omega arith)
only_term (x ∷ []) row d some few is = is
only_term (x ∷ y ∷ xs) row d some few is = absurd (omega arith)

pub no_term : (xs : List Term) (row : Combination ℕ) → length xs < 1 → pairs xs ≡ row → [] ≡ row
no_term [] row few is = is
no_term (x ∷ xs) row few is = absurd (omega arith)

pub next_residue : (p : ℕ) (rows : PartialTable) (b x : ℕ) (next : Term) (row : Combination ℕ) → AreReduced p rows → rows b x ≡ Some row → single next ≡ row → IsResidue p next.coef
next_residue p rows b x next row reduced known is = coefficient_of p next (subst (IsReduced ◌<◌ p) (sym is) (reduced b x row known))

module _ (p : ℕ) (rows : PartialTable) (start : Term) (letters : List ℕ) where
  abbrev IsAt : Term → ℕ → Type 0
  IsAt t at = IsOnTheWayAt p rows (single start) letters (single t) letters at

  pub sets_out : IsReduced ◌<◌ p (single start) → CanTrace p rows (single start) letters → IsAt start 0
  sets_out reduced can = way_starts p rows (single start) letters letters refl reduced can

  pub finds_row : (t : Term) (at : ℕ) → at < length letters → IsAt t at → rows t.id (get_or letters at 0) ≢ None
  finds_row t at within way =
      has_row rows (single t) (get_or letters at 0) 0 t.id t.coef
      (has_rows p rows (single t) (get_or letters at 0) way.reduced (way_finds_at p rows (single start) letters (single t) letters at within way)) refl

  pub goes_on : (t next : Term) (row : Combination ℕ) (at c : ℕ) → at < length letters → IsAt t at → rows t.id (get_or letters at 0) ≡ Some row → single next ≡ row
      → c ≡ (t.coef * next.coef) % p → IsResidue p c → IsAt (record { id = next.id; coef = c }) (at + 1)
  goes_on t next row at c within way known row_is c_is residue =
      let P : Combination ℕ → Type 0 = λ w. IsReducedOf ◌<◌ nat_eq p ((next.id, c) ∷ []) (scaled t.coef w) in
      way_goes_on_at p rows (single start) letters (single t) ((next.id, c) ∷ []) letters at within way
      (sum_one p rows (single t) row ((next.id, c) ∷ []) (get_or letters at 0) t.id t.coef refl refl known (subst P row_is (product_of_terms p t.coef c next residue c_is)))

  pub stops : (t : Term) (at : ℕ) → IsAt t at → LeadsTo p rows start letters t (drop at letters)
  stops t at way = record {
    residue = (coefficient_of p t way.reduced).below;
    alike = Alike_from_weights nat_eq way.same;
    can = way.can;
  }

  pub arrives : (t : Term) (at : ℕ) → length letters ≤ at → IsAt t at → LeadsTo p rows start letters t (drop (length letters) letters)
  arrives t at past way =
      let L : List ℕ → Type 0 = λ u. LeadsTo p rows start letters t u in
      subst L (drop_all at letters past ∙ sym (drop_all (length letters) letters (omega arith))) (stops t at way)

  pub vanishes : (t : Term) (row : Combination ℕ) (at : ℕ) → at < length letters → IsAt t at → rows t.id (get_or letters at 0) ≡ Some row → [] ≡ row
      → LeadsTo p rows start letters (record { id = 0; coef = 0 }) (drop (length letters) letters)
  unfolding vector_times_letters CanTrace scaled IsReduced
  vanishes t row at within way known none =
      let P : Combination ℕ → Type 0 = λ w. IsReducedOf ◌<◌ nat_eq p [] (scaled t.coef w) in
      let next : IsOnTheWayAt p rows (single start) letters [] letters (at + 1) =
      way_goes_on_at p rows (single start) letters (single t) [] letters at within way
      (sum_one p rows (single t) row [] (get_or letters at 0) t.id t.coef refl refl known (subst P none (itself tt))) in
      let L : List ℕ → Type 0 = λ u. LeadsTo p rows start letters (record { id = 0; coef = 0 }) u in
      subst L (sym (drop_all (length letters) letters (omega arith)))
      (record {
        residue = omega (arith, (coefficient_of p t way.reduced).below);
        alike = Alike_from_weights nat_eq
            (SameWeights-trans (zero_weighs_nothing p 0) (SameWeights-trans (SameWeights_of (sym (nothing_times rows (drop (at + 1) letters)))) next.same));
        can = tt;
      })

  -- the product is added
  module _ (by : ℕ) (t : Term) (left : List ℕ) (leads : LeadsTo p rows start letters t left) (s w : Combination ℕ) where
    abbrev total : Combination ℕ
    total = s ++ scaled by (vector_times_letters rows (single start) letters)

    same : SameWeights p (vector_times_letters rows (single t) left) (vector_times_letters rows (single start) letters)
    same = weights_from_Alike nat_eq Decides-nat_eq p _ _ leads.alike

    pub term_added : left ≡ [] → IsReducedOf ◌<◌ nat_eq p w (s ++ scaled by (single t)) → IsReducedOf ◌<◌ nat_eq p w total
    unfolding vector_times_letters
    term_added none result =
        let S : List ℕ → Type 0 = λ u. SameWeights p (vector_times_letters rows (single t) u) (vector_times_letters rows (single start) letters) in
        onto result (SameWeights-append (SameWeights-refl p s) (SameWeights-scaled by (subst S none same)))

    module _ (z v : Combination ℕ) (none : z ≡ []) (of : IsReducedOf ◌<◌ nat_eq p v (z ++ scaled 1 (single t))) where
      vector_of_term : SameWeights p (single t) v
      vector_of_term =
          let S : Combination ℕ → Type 0 = λ y. SameWeights p v (y ++ scaled 1 (single t)) in
          SameWeights-sym (SameWeights-trans (subst S none (weights_of of)) (scaled-one p (single t)))

      pub first_finds : CanTrace p rows v left
      first_finds = CanTrace-alike p rows (single t) v left vector_of_term leads.can

      pub product_added : (u : Combination ℕ) → IsReducedOf ◌<◌ nat_eq p u (vector_times_letters rows v left) → IsReducedOf ◌<◌ nat_eq p w (s ++ scaled by u) → IsReducedOf ◌<◌ nat_eq p w total
      product_added u product result =
          onto result (SameWeights-append (SameWeights-refl p s)
          (SameWeights-scaled by (SameWeights-trans (weights_of product) (SameWeights-trans (letters_alike p rows v (single t) left (SameWeights-sym vector_of_term)) same))))
