-- Pieces that are numbers.
use Rattle.std.proofs.Common.{◌≡◌, ℕ, ◌-◌, ◌+◌, ◌<◌, ◌≤◌, Bor, get_or, List, [], ◌∷◌, ◌++◌, length, map, take, All, arith, sym, ap, ◌∙◌}
use Rattle.std.specs.Prelude.{decimal}
use Rattle.std.proofs.lemmas.List.{get_or-map, length-map, map_more, map_push, take_all}
use Rattle.std.proofs.lemmas.List.Elements.{All-get_or}

-- one piece more is a number
pub number_more : (pieces : List (Bor (List ℕ))) (at : ℕ) (d : Bor (List ℕ)) (numbers : List ℕ) (n : ℕ) → at < length pieces → (get_or pieces at d).now ≡ decimal n
    → map (λ piece. piece.now) (take at pieces) ≡ map decimal numbers → map (λ piece. piece.now) (take (at + 1) pieces) ≡ map decimal (numbers ++ n ∷ [])
number_more pieces at d numbers n less is before =
    map_more (λ p. p.now) pieces at d less
    ∙ (λ i. before i ++ is i ∷ [])
    ∙ sym (map_push decimal numbers n)

pub all_pieces : (pieces : List (Bor (List ℕ))) (at : ℕ) (numbers : List ℕ) → length pieces ≤ at → map (λ piece. piece.now) (take at pieces) ≡ map decimal numbers → map (λ piece. piece.now) pieces ≡ map decimal numbers
all_pieces pieces at numbers over is = ap (map (λ p. p.now)) (sym (take_all at pieces over)) ∙ is

-- one piece isn't a number
pub no_number : (pieces : List (Bor (List ℕ))) (at : ℕ) (d : Bor (List ℕ)) (limit : ℕ) → at < length pieces → ((n : ℕ) → n ≤ limit - 1 → (get_or pieces at d).now ≡ decimal n → ⊥)
    → (numbers : List ℕ) → All (λ n. n < limit) numbers → map (λ piece. piece.now) pieces ≡ map decimal numbers → ⊥
no_number pieces at d limit less unfit numbers below is =
    let size : length pieces ≡ length numbers = sym (length-map pieces (λ p. p.now)) ∙ ap length is ∙ length-map numbers decimal in
    let small : get_or numbers at 0 < limit = All-get_or (λ n. n < limit) numbers at 0 (omega (arith, less, size)) below in
    let number : (get_or pieces at d).now ≡ decimal (get_or numbers at 0) =
    sym (get_or-map (λ p. p.now) pieces at d [] less) ∙ ap (λ xs. get_or xs at []) is ∙ get_or-map decimal numbers at 0 [] (omega (arith, less, size)) in
    unfit (get_or numbers at 0) (omega (arith, small)) number
