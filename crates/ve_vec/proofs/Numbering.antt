-- New numbers for the ids of a vector.
use Rattle.std.proofs.Common.{◌≡◌, ℕ, zero, suc, ◌+◌, ◌<◌, List, [], ◌∷◌, length, map, get_or, refl, sym, ap, ◌∙◌, add-one, arith}
use Rattle.std.specs.Prelude.{All}
use Rattle.std.proofs.lemmas.List.Elements.{All-head, All-tail}
use Rattle.std.proofs.Math.ListN.{set}
use Rattle.ve_vec.specs.declared.term.Term.{Term}
use Rattle.ve_vec.specs.Terms.{pairs}
use Rattle.ve_vec.specs.Vectors.{numbered}
use Rattle.ve_vec.proofs.Scaling.{written_up_to, get_or-written, set-written, length-written}

abbrev pub number_of : List ℕ → Term → Term
number_of numbers t = record { id = get_or numbers t.id 0; coef = t.coef }

pub pairs-numbers : (numbers : List ℕ) (xs : List Term) → pairs (map (number_of numbers) xs) ≡ numbered numbers (pairs xs)
pairs-numbers numbers [] = refl
pairs-numbers numbers (x ∷ xs) = ap (λ l. (get_or numbers x.id 0, x.coef) ∷ l) (pairs-numbers numbers xs)

-- one more number is written
pub write_number : (numbers : List ℕ) (items xs : List Term) (i : ℕ) (d : Term) → i < length items → items ≡ written_up_to (number_of numbers) i xs
    → set items i (record { id = get_or numbers (get_or items i d).id 0; coef = (get_or items i d).coef }) ≡ written_up_to (number_of numbers) (i + 1) xs
write_number numbers items xs i d within items_is =
    let inside : i < length xs = omega (arith, ap length items_is, length-written (number_of numbers) xs i) in
    let same : get_or items i d ≡ get_or xs i d = ap (λ l. get_or l i d) items_is ∙ get_or-written (number_of numbers) xs i d in
    ap (λ l. set l i (number_of numbers (get_or items i d))) items_is
    ∙ ap (λ t. set (written_up_to (number_of numbers) i xs) i (number_of numbers t)) same
    ∙ set-written (number_of numbers) xs i d inside
    ∙ ap (λ n. written_up_to (number_of numbers) n xs) (sym (add-one i))

-- the id of a term that is not yet written is one of the vector's
pub id_below : (count : ℕ) (numbers : List ℕ) (items xs : List Term) (i : ℕ) (d : Term) → i < length items → items ≡ written_up_to (number_of numbers) i xs
    → All (λ t. t.0 < count) (pairs xs) → (get_or items i d).id < count
id_below count numbers items xs i d within items_is all =
    let inside : i < length xs = omega (arith, ap length items_is, length-written (number_of numbers) xs i) in
    let same : get_or items i d ≡ get_or xs i d = ap (λ l. get_or l i d) items_is ∙ get_or-written (number_of numbers) xs i d in
    rw same (id_at count xs i d inside all)
  where
    id_at : (count : ℕ) (xs : List Term) (i : ℕ) (d : Term) → i < length xs → All (λ t. t.0 < count) (pairs xs) → (get_or xs i d).id < count
    id_at count [] i d inside all = absurd (omega arith)
    id_at count (x ∷ xs) zero d inside all = All-head (λ (t : ℕ × ℕ). t.0 < count) _ _ all
    id_at count (x ∷ xs) (suc i) d inside all = id_at count xs i d (omega arith) (All-tail (λ (t : ℕ × ℕ). t.0 < count) _ _ all)
