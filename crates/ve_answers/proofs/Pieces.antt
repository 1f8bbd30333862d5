-- The pieces of a text, one after another.
use Rattle.std.proofs.Common.{◌≡◌, ℕ, ◌+◌, Bool, true, false, true≢false, Bor, inl, inr, List, [], ◌∷◌, ◌++◌, length, take, drop, map, All, refl, sym, ap, subst, ◌∙◌, append_assoc}
use Rattle.std.specs.Prelude.{nat_eq, not}
use Rattle.std.specs.List.{prefix_len}
use Rattle.std.proofs.Math.Numerals.{one-add}
use Rattle.std.proofs.lemmas.Bool.{cases_Bool, cond-true, cond-false, and_from, eqb-true}
use Rattle.std.proofs.lemmas.List.{map-append, take-append-drop}
use Rattle.std.proofs.lemmas.List.Elements.{All-nil, All-push}
use Rattle.ve_formats.specs.Lines.{each_after_space, each_after_space-append, each_after_space-one}
use Rattle.ve_formats.specs.Pieces.{IsCutBy, Lacks}
use Rattle.ve_formats.proofs.SpacedPieces.{after_space-cut}

-- ---- up to the first space

abbrev pub is_within : ℕ → Bool
is_within b = not (nat_eq b 32)

pub front_lacks : (text : List ℕ) → Lacks 32 (take (prefix_len is_within text) text)
front_lacks [] = refl
front_lacks (b ∷ text) =
    elim (cases_Bool (is_within b)) [
      | inl member ↦ rw (cond-true (is_within b) (1 + prefix_len is_within text) 0 member, one-add) (and_from _ _ member (front_lacks text))
      | inr other ↦ rw (cond-false (is_within b) (1 + prefix_len is_within text) 0 other) refl
    ]

not_false : (t : Bool) → not t ≡ false → t ≡ true
not_false true is = refl
not_false false is = sym is

pub back_cut : (text : List ℕ) → IsCutBy 32 (drop (prefix_len is_within text) text)
back_cut [] = tt
back_cut (b ∷ text) =
    elim (cases_Bool (is_within b)) [
      | inl member ↦ rw (cond-true (is_within b) (1 + prefix_len is_within text) 0 member, one-add) (back_cut text)
      | inr other ↦ rw (cond-false (is_within b) (1 + prefix_len is_within text) 0 other) (eqb-true b 32 (not_false (nat_eq b 32) other))
    ]

-- ---- one piece more

pub one_piece_more : (pieces : List (Bor (List ℕ))) (piece : Bor (List ℕ)) (rest behind : List ℕ) → rest ≡ 32 ∷ piece.now ++ behind
    → each_after_space (map (λ piece. piece.now) pieces) ++ rest ≡ each_after_space (map (λ piece. piece.now) (pieces ++ piece ∷ [])) ++ behind
one_piece_more pieces piece rest behind is =
    ap (λ t. each_after_space (map (λ piece. piece.now) pieces) ++ t) is
    ∙ sym (append_assoc (each_after_space (map (λ piece. piece.now) pieces)) (32 ∷ piece.now) behind)
    ∙ ap (λ t. t ++ behind) (sym longer)
  where
    longer : each_after_space (map (λ piece. piece.now) (pieces ++ piece ∷ [])) ≡ each_after_space (map (λ piece. piece.now) pieces) ++ (32 ∷ piece.now)
    longer =
        ap each_after_space (map-append (λ piece. piece.now) pieces (piece ∷ []))
        ∙ each_after_space-append (map (λ piece. piece.now) pieces) (piece.now ∷ [])
        ∙ ap (λ t. each_after_space (map (λ piece. piece.now) pieces) ++ t) (each_after_space-one piece.now)

pub lack_more : (pieces : List (Bor (List ℕ))) (piece : Bor (List ℕ)) → All (Lacks 32) (map (λ piece. piece.now) pieces) → Lacks 32 piece.now → All (Lacks 32) (map (λ piece. piece.now) (pieces ++ piece ∷ []))
lack_more pieces piece all last = subst (All (Lacks 32)) (sym (map-append (λ piece. piece.now) pieces (piece ∷ []))) (All-push (Lacks 32) (map (λ piece. piece.now) pieces) piece.now all last)

-- a text of pieces begins with a space
pub begins_cut : (text : List ℕ) (xs : List (List ℕ)) → text ≡ each_after_space xs → IsCutBy 32 text
begins_cut text xs is = subst (IsCutBy 32) (sym is) (after_space-cut xs)

pub not_cut : (text : List ℕ) → false ≡ nat_eq (length text) 0 → ((rest : List ℕ) → text ≡ 32 ∷ rest → ⊥) → IsCutBy 32 text → ⊥
not_cut [] some other cut = true≢false (sym some)
not_cut (b ∷ text) some other cut = other text (ap (λ c. c ∷ text) cut)

-- the first piece, cut off in front of the next space
pub is_cut_off : (text behind run rest : List ℕ) (n : ℕ) → text ≡ 32 ∷ behind → n ≡ prefix_len is_within behind → run ≡ take n behind → rest ≡ drop n behind → (text ≡ 32 ∷ run ++ rest) × Lacks 32 run × IsCutBy 32 rest
is_cut_off text behind run rest n is counted front back =
    let run_is : run ≡ take (prefix_len is_within behind) behind = front ∙ ap (λ m. take m behind) counted in
    let rest_is : rest ≡ drop (prefix_len is_within behind) behind = back ∙ ap (λ m. drop m behind) counted in
    let whole : run ++ rest ≡ behind = (λ i. run_is i ++ rest_is i) ∙ take-append-drop (prefix_len is_within behind) behind in
    (is ∙ ap (λ t. 32 ∷ t) (sym whole), subst (Lacks 32) (sym run_is) (front_lacks behind), subst (IsCutBy 32) (sym rest_is) (back_cut behind))

-- no pieces yet
pub no_pieces : (text : List ℕ) (pieces : List (Bor (List ℕ))) → pieces ≡ [] → text ≡ each_after_space (map (λ piece. piece.now) pieces) ++ text
unfolding each_after_space
no_pieces text pieces none = sym (ap (λ ps. each_after_space (map (λ piece. piece.now) ps) ++ text) none)

pub none_lack : (pieces : List (Bor (List ℕ))) → pieces ≡ [] → All (Lacks 32) (map (λ piece. piece.now) pieces)
none_lack pieces none = subst (λ ps. All (Lacks 32) (map (λ piece. piece.now) ps)) (sym none) (All-nil (Lacks 32))
