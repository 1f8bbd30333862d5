-- Products of a vector with a number.
use Rattle.std.proofs.Common.{◌≡◌, ℕ, zero, suc, ◌+◌, ◌*◌, ◌%◌, ◌<◌, ◌≤◌, cond, nat_eq, List, [], ◌∷◌, ◌++◌, length, map, take, drop, get_or, refl, sym, ap, ◌∙◌, add-one, arith}
use Rattle.std.proofs.Math.ListN.{set}
use Rattle.std.proofs.Math.Nat.{add-mod, mod-mod, zero-mul}
use Rattle.ve_theory.specs.Combinations.{Combination, scaled, coefficient, Alike, AllBefore, IsReduced, IsReducedOf}
use Rattle.ve_vec.specs.declared.term.Term.{Term}
use Rattle.ve_vec.specs.Terms.{pairs}
use Rattle.ve_vec.proofs.Coefficients.{coefficient-scaled}
use Rattle.ve_vec.proofs.Merging.{at_key}

-- the products of the coefficients, reduced
abbrev pub products : ℕ → ℕ → Combination ℕ → Combination ℕ
products p by v = map (λ t. (t.0, (by * t.1) % p)) v

products-alike : (p by : ℕ) (v : Combination ℕ) → Alike nat_eq p (products p by v) (scaled by v)
unfolding scaled coefficient
products-alike p by [] k = refl
products-alike p by (t ∷ v) k =
    add-mod (cond (nat_eq t.0 k) ((by * t.1) % p) 0) (coefficient nat_eq (products p by v) k) p
    ∙ ap (λ n. (n + coefficient nat_eq (products p by v) k % p) % p) (at_key p (nat_eq t.0 k) ((by * t.1) % p) (by * t.1) (mod-mod (by * t.1) p))
    ∙ ap (λ n. (cond (nat_eq t.0 k) (by * t.1) 0 % p + n) % p) (products-alike p by v k)
    ∙ sym (add-mod (cond (nat_eq t.0 k) (by * t.1) 0) (coefficient nat_eq (scaled by v) k) p)

pub products-reduced : (p by : ℕ) (v w : Combination ℕ) → w ≡ products p by v → IsReduced ◌<◌ p w → IsReducedOf ◌<◌ nat_eq p w (scaled by v)
products-reduced p by v w w_is reduced = record { reduced = reduced; alike = rw w_is (products-alike p by v) }

pub no_product : (p by : ℕ) (v w : Combination ℕ) → w ≡ [] → by ≡ 0 → IsReducedOf ◌<◌ nat_eq p w (scaled by v)
unfolding IsReduced coefficient
no_product p by v w none zero_factor = rw (none, zero_factor) (record {
  reduced = tt;
  alike = λ k. ap (λ n. n % p) (sym (coefficient-scaled 0 v k ∙ zero-mul (coefficient nat_eq v k)));
})

pub map-products : (p by : ℕ) (v : Combination ℕ) → map (λ t. t.0) (products p by v) ≡ map (λ t. t.0) v
map-products p by [] = refl
map-products p by (t ∷ v) = ap (λ l. t.0 ∷ l) (map-products p by v)

-- a write of g at each place up to i
module _ {X : Type 0} (g : X → X) where
  abbrev pub written_up_to : ℕ → List X → List X
  written_up_to i xs = map g (take i xs) ++ drop i xs

  pub get_or-written : (xs : List X) (i : ℕ) (d : X) → get_or (written_up_to i xs) i d ≡ get_or xs i d
  get_or-written [] zero d = refl
  get_or-written [] (suc i) d = refl
  get_or-written (x ∷ xs) zero d = refl
  get_or-written (x ∷ xs) (suc i) d = get_or-written xs i d

  pub set-written : (xs : List X) (i : ℕ) (d : X) → i < length xs → set (written_up_to i xs) i (g (get_or xs i d)) ≡ written_up_to (suc i) xs
  set-written [] i d within = absurd (omega arith)
  set-written (x ∷ xs) zero d within = refl
  set-written (x ∷ xs) (suc i) d within = ap (λ l. g x ∷ l) (set-written xs i d (omega arith))

  pub length-written : (xs : List X) (i : ℕ) → length (written_up_to i xs) ≡ length xs
  length-written [] zero = refl
  length-written [] (suc i) = refl
  length-written (x ∷ xs) zero = refl
  length-written (x ∷ xs) (suc i) = omega (arith, length-written xs i)

  pub written_all : (xs : List X) (i : ℕ) → length xs ≤ i → written_up_to i xs ≡ map g xs
  written_all [] zero past = refl
  written_all [] (suc i) past = refl
  written_all (x ∷ xs) zero past = absurd (omega arith)
  written_all (x ∷ xs) (suc i) past = ap (λ l. g x ∷ l) (written_all xs i (omega arith))

-- a term's product
abbrev pub product_of : ℕ → ℕ → Term → Term
product_of p by t = record { id = t.id; coef = (by * t.coef) % p }

pub pairs-products : (p by : ℕ) (xs : List Term) → pairs (map (product_of p by) xs) ≡ products p by (pairs xs)
pairs-products p by [] = refl
pairs-products p by (x ∷ xs) = ap (λ l. (x.id, (by * x.coef) % p) ∷ l) (pairs-products p by xs)

-- one more product is written
pub write_product : (p by c : ℕ) (items xs : List Term) (i : ℕ) (d : Term) → i < length items → items ≡ written_up_to (product_of p by) i xs → c ≡ (by * (get_or items i d).coef) % p
    → set items i (record { id = (get_or items i d).id; coef = c }) ≡ written_up_to (product_of p by) (i + 1) xs
write_product p by c items xs i d within items_is c_is =
    let inside : i < length xs = omega (arith, ap length items_is, length-written (product_of p by) xs i) in
    let same : get_or items i d ≡ get_or xs i d = ap (λ l. get_or l i d) items_is ∙ get_or-written (product_of p by) xs i d in
    let term_is : record { id = (get_or items i d).id; coef = c } ≡ product_of p by (get_or xs i d) =
    ap (λ n. record { id = (get_or items i d).id; coef = n }) c_is ∙ ap (product_of p by) same in
    ap (λ l. set l i (record { id = (get_or items i d).id; coef = c })) items_is
    ∙ ap (λ t. set (written_up_to (product_of p by) i xs) i t) term_is
    ∙ set-written (product_of p by) xs i d inside
    ∙ ap (λ n. written_up_to (product_of p by) n xs) (sym (add-one i))

AllBefore-set : (k : ℕ) (xs : List Term) (i : ℕ) (d : Term) (c : ℕ) → AllBefore ◌<◌ k (pairs xs) → AllBefore ◌<◌ k (pairs (set xs i (record { id = (get_or xs i d).id; coef = c })))
unfolding AllBefore
AllBefore-set k [] i d c below = tt
AllBefore-set k (x ∷ xs) zero d c below = below
AllBefore-set k (x ∷ xs) (suc i) d c below = (below.0, AllBefore-set k xs i d c below.1)

-- a term gets another coefficient
pub IsReduced-set : (p : ℕ) (xs : List Term) (i : ℕ) (d : Term) (c : ℕ) → IsReduced ◌<◌ p (pairs xs) → 0 < c → c < p → IsReduced ◌<◌ p (pairs (set xs i (record { id = (get_or xs i d).id; coef = c })))
unfolding IsReduced
IsReduced-set p [] i d c reduced positive residue = tt
IsReduced-set p (x ∷ xs) zero d c reduced positive residue = (positive, residue, reduced.2, reduced.3)
IsReduced-set p (x ∷ xs) (suc i) d c reduced positive residue =
    (reduced.0, reduced.1, AllBefore-set x.id xs i d c reduced.2, IsReduced-set p xs i d c reduced.3 positive residue)

-- each coefficient is a nonzero residue
pub IsReduced-at : (p : ℕ) (xs : List Term) (i : ℕ) (d : Term) → IsReduced ◌<◌ p (pairs xs) → i < length xs → (0 < (get_or xs i d).coef) × ((get_or xs i d).coef < p)
unfolding IsReduced
IsReduced-at p [] i d reduced within = absurd (omega arith)
IsReduced-at p (x ∷ xs) zero d reduced within = (reduced.0, reduced.1)
IsReduced-at p (x ∷ xs) (suc i) d reduced within = IsReduced-at p xs i d reduced.3 (omega arith)
