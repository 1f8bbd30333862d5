-- Pieces with a joint between each two, and one more piece.
use Rattle.std.specs.Prelude.{◌≡◌, ℕ, suc, ◌+◌, ◌<◌, List, [], ◌∷◌, ◌++◌, map, length, codes, cond, nat_eq, refl, slice_get, Some}
use Rattle.std.specs.List.{join_with_byte}
use Rattle.std.proofs.Common.{ap, ◌∙◌, append_assoc, get_or, take, arith}
use Rattle.std.proofs.Math.Dec.{eqb-suc-zero}
use Rattle.std.proofs.lemmas.List.{take_more, map-append, length-map, length-take-le}
use Rattle.std.proofs.lemmas.Option.{get_or_from_slice_get}
use Rattle.ve_formats.specs.CanonicalText.{joined_terms, letters_text}

-- what stands before the next piece, behind `count` ones
abbrev pub joint_behind : ℕ → List ℕ → List ℕ
joint_behind count joint = cond (nat_eq count 0) [] joint

later_joint : (n : ℕ) (joint : List ℕ) → joint_behind (suc n) joint ≡ joint
later_joint n joint = ap (λ b. cond b [] joint) (eqb-suc-zero n)

joined_terms-last : (pieces : List (List ℕ)) (last : List ℕ) → joined_terms (pieces ++ last ∷ []) ≡ joined_terms pieces ++ joint_behind (length pieces) (codes " + ") ++ last
unfolding joined_terms
joined_terms-last [] last = refl
joined_terms-last (x ∷ []) last = rw (later_joint 0 (codes " + ")) refl
joined_terms-last (x ∷ y ∷ pieces) last =
    rw (joined_terms-last (y ∷ pieces) last, later_joint (suc (length pieces)) (codes " + "), later_joint (length pieces) (codes " + ")) (simp append_assoc)

join_with_byte-last : (joint : ℕ) (pieces : List (List ℕ)) (last : List ℕ) → join_with_byte joint (pieces ++ last ∷ []) ≡ join_with_byte joint pieces ++ joint_behind (length pieces) (joint ∷ []) ++ last
join_with_byte-last joint [] last = refl
join_with_byte-last joint (x ∷ []) last = rw (later_joint 0 (joint ∷ [])) (simp append_assoc)
join_with_byte-last joint (x ∷ y ∷ pieces) last =
    rw (join_with_byte-last joint (y ∷ pieces) last, later_joint (suc (length pieces)) (joint ∷ []), later_joint (length pieces) (joint ∷ [])) (simp append_assoc)

length-front : {T : Type 0} (f : T → List ℕ) (xs : List T) (n : ℕ) → n < length xs → length (map f (take n xs)) ≡ n
length-front f xs n inside = length-map (take n xs) f ∙ length-take-le n xs (omega arith)

map-front : {T : Type 0} (f : T → List ℕ) (xs : List T) (n : ℕ) (d : T) → n < length xs → map f (take (n + 1) xs) ≡ map f (take n xs) ++ f (get_or xs n d) ∷ []
map-front f xs n d inside = rw (take_more xs n d inside) (map-append f (take n xs) (get_or xs n d ∷ []))

same_term : {K : Type 0} (text : K × ℕ → List ℕ) (term : K × ℕ) (word : K) (coefficient : ℕ) → word ≡ term.0 → coefficient ≡ term.1 → text (word, coefficient) ≡ text term
same_term text term word coefficient same same_coefficient = rw (same, same_coefficient) refl

-- a line to which one more term is appended
pub next_term : {K : Type 0} (text : K × ℕ → List ℕ) (terms : List (K × ℕ)) (at : ℕ) (d : K × ℕ) (word : K) (coefficient : ℕ) (old line joined after : List ℕ) → at < length terms →
    word ≡ (get_or terms at d).0 → coefficient ≡ (get_or terms at d).1 →
    line ≡ old ++ joined_terms (map text (take at terms)) →
    joined ≡ line ++ joint_behind at (codes " + ") →
    after ≡ joined ++ text (word, coefficient) →
    after ≡ old ++ joined_terms (map text (take (at + 1) terms))
next_term text terms at d word coefficient old line joined after inside same same_coefficient is_line is_joined is_after =
    rw (map-front text terms at d inside, joined_terms-last (map text (take at terms)) (text (get_or terms at d)), length-front text terms at inside, is_after, is_joined, is_line, same_term text (get_or terms at d) word coefficient same same_coefficient) (simp append_assoc)

-- a line to which one more letter is appended
pub next_letter : (names : List (List ℕ)) (letters : List ℕ) (at : ℕ) (name old line joined after : List ℕ) → at < length letters →
    slice_get names (get_or letters at 0) ≡ Some name →
    line ≡ old ++ letters_text names (take at letters) →
    joined ≡ line ++ joint_behind at (codes "*") →
    after ≡ joined ++ name →
    after ≡ old ++ letters_text names (take (at + 1) letters)
next_letter names letters at name old line joined after inside named is_line is_joined is_after =
    let text : ℕ → List ℕ = λ x. get_or names x [] in
    rw (map-front text letters at 0 inside, join_with_byte-last 42 (map text (take at letters)) (text (get_or letters at 0)), length-front text letters at inside, get_or_from_slice_get names (get_or letters at 0) name [] named, is_after, is_joined, is_line) (simp append_assoc)
