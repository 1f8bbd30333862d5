-- Relations that there is room for, and what the presentation is with them.
use Rattle.std.specs.Prelude.{◌≡◌, ℕ, zero, suc, ◌+◌, ◌-◌, ◌<◌, ◌≤◌, [], ◌∷◌, length, nat_eq, All, IsFalse}
use Rattle.std.proofs.Common.{subst, arith}
use Rattle.std.proofs.lemmas.Bool.{cond_both}
use Rattle.std.proofs.lemmas.Bool.Decides.{when_false}
use Rattle.std.proofs.lemmas.List.Elements.{All-nil, All-cons}
use Rattle.ve_theory.specs.Words.{generator, times, letters, start}
use Rattle.ve_theory.specs.Presentations.{Presentation, HasLetters, IsWord}
use Rattle.ve_theory.specs.Validity.{cells, algebra_cells, element_cells}
use Rattle.ve_pres.specs.Drafts.{Draft, TakesRelation, TakesSubmoduleRelation, IsRelationFault, IsSubmoduleRelationFault, with_relator, with_submodule_relation}
use Rattle.ve_pres.specs.declared.limit.Limit.{Limit}
use Rattle.ve_pres.specs.declared.limit.Limit.TheVariants.{Letters, Roots, Relations, Terms, Length, Cells}
use Rattle.ve_pres.specs.declared.limit.PresFault.{PresFault}
use Rattle.ve_pres.specs.declared.limit.PresFault.TheVariants.{Limit as Exceeds}
use Rattle.ve_make.specs.Symmetric.{product_power, product_order, order_relation, fixing_relation}
use Rattle.ve_make.specs.Parts.{HasRoom}
use Rattle.ve_make.proofs.Vanishing.{length-product_power}

-- ---- the relations' letters and cells

two_letters : (P : Presentation) (x y order : ℕ) → x < length P.names → y < length P.names → HasLetters P (product_power x y order)
two_letters P x y zero hx hy = All-nil (λ z. z < length P.names)
two_letters P x y (suc k) hx hy =
    All-cons (λ z. z < length P.names) x (y ∷ product_power x y k) hx (All-cons (λ z. z < length P.names) y (product_power x y k) hy (two_letters P x y k hx hy))

pub order_letters : (P : Presentation) (x y : ℕ) → x < y → y < length P.names → All (λ t. HasLetters P t.0) (order_relation P.prime x y)
order_letters P x y below last =
    All-cons (λ t. HasLetters P t.0) (product_power x y (product_order x y), 1) (([], P.prime - 1) ∷ []) (two_letters P x y (product_order x y) (omega arith) last)
    (All-cons (λ t. HasLetters P t.0) ([], P.prime - 1) [] (All-nil (λ z. z < length P.names)) (All-nil (λ t. HasLetters P t.0)))

pub fixing_words : (P : Presentation) (x : ℕ) → x < length P.names → 0 < P.generators → All (λ t. IsWord P t.0) (fixing_relation P.prime x)
unfolding start letters
fixing_words P x letter some =
    All-cons (λ t. IsWord P t.0) (times (generator 0) x, 1) ((generator 0, P.prime - 1) ∷ [])
    (some, All-cons (λ z. z < length P.names) x [] letter (All-nil (λ z. z < length P.names)))
    (All-cons (λ t. IsWord P t.0) (generator 0, P.prime - 1) [] (some, All-nil (λ z. z < length P.names)) (All-nil (λ t. IsWord P t.0)))

pub order_cells : (p x y : ℕ) → algebra_cells (order_relation p x y) ≤ 8
order_cells p x y =
    let letters = length-product_power x y (product_order x y) in
    let order : product_order x y ≤ 3 = cond_both (nat_eq y (x + 1)) 3 2 (λ n. n ≤ 3) (λ _. omega arith) (λ _. omega arith) in
    omega arith

pub fixing_cells : (p x : ℕ) → element_cells (fixing_relation p x) ≤ 8
unfolding letters
fixing_cells p x = omega arith

-- ---- what is taken

pub took_order : (draft new : Draft) (p x y : ℕ) → IsFalse draft.presentation.is_balanced → TakesRelation draft (order_relation p x y) new
    → new ≡ with_relator draft (order_relation p x y)
took_order draft new p x y plain takes =
    let same : takes.relator ≡ order_relation p x y = when_false _ _ plain takes.is_relator in
    subst (λ r. new ≡ with_relator draft r) same takes.taken

pub refused_order : (draft : Draft) (p x y : ℕ) (fault : PresFault) (limit : Limit) → IsFalse draft.presentation.is_balanced → HasRoom 600 draft → fault ≡ Exceeds limit
    → IsRelationFault draft (order_relation p x y) fault → ⊥
refused_order draft p x y fault limit plain room is h = go limit (subst (λ f. IsRelationFault draft (order_relation p x y) f) is h)
  where
    go : (l : Limit) → IsRelationFault draft (order_relation p x y) (Exceeds l) → ⊥
    go Letters h = h
    go Roots h = h
    go Relations h = let counted = room.counted in omega arith
    go (Terms count) h = h
    go (Length length) h = h
    go (Cells count) h =
        let same : h.relator ≡ order_relation p x y = when_false _ _ plain h.is_relator in
        let few = order_cells p x y in
        let counted = room.cells_taken in
        let sum : count ≡ cells draft.presentation + algebra_cells (order_relation p x y) = subst (λ r. count ≡ cells draft.presentation + algebra_cells r) same h.counted in
        let many = h.many in
        omega arith

pub took_fix : (draft new : Draft) (p x : ℕ) → TakesSubmoduleRelation draft (fixing_relation p x) new → new ≡ with_submodule_relation draft (fixing_relation p x)
took_fix draft new p x takes = takes.taken

pub refused_fix : (draft : Draft) (p x : ℕ) (fault : PresFault) (limit : Limit) → HasRoom 600 draft → fault ≡ Exceeds limit
    → IsSubmoduleRelationFault draft (fixing_relation p x) fault → ⊥
refused_fix draft p x fault limit room is h = go limit (subst (λ f. IsSubmoduleRelationFault draft (fixing_relation p x) f) is h)
  where
    go : (l : Limit) → IsSubmoduleRelationFault draft (fixing_relation p x) (Exceeds l) → ⊥
    go Letters h = h
    go Roots h = h
    go Relations h = let counted = room.counted in omega arith
    go (Terms count) h = h
    go (Length length) h = h
    go (Cells count) h =
        let few = fixing_cells p x in
        let counted = room.cells_taken in
        let sum = h.1 in
        let many = h.2 in
        omega arith
