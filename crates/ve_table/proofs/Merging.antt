-- What a merge of two rising lists has.
use Rattle.std.proofs.Common.{◌≡◌, suc, ◌⊎◌, inl, inr, List, [], ◌∷◌, ◌++◌, get_or, sym, ap, subst, ◌∙◌, arith}
use Rattle.std.specs.Prelude.{All, AllPairs, Contains}
use Rattle.std.proofs.lemmas.List.{append_assoc}
use Rattle.std.proofs.lemmas.List.Elements.{All-cons, All-head, All-tail}
use Rattle.std.proofs.lemmas.List.Kept.{AllPairs-cons}
use Rattle.ve_theory.specs.Words.{Word, letters, IsSmaller}
use Rattle.ve_lemmas.proofs.Orders.{differs_transitive}
use Rattle.ve_lemmas.proofs.Lists.{Contains-here, Contains-later, Contains-cons}
use Rattle.ve_table.specs.declared.entry.Entry.{Entry}
use Rattle.ve_table.specs.declared.birth.Birth.{Birth}
use Rattle.ve_table.specs.Births.{product_of, SmallerBirth, Merges, no_left, no_right, from_left, from_right}

-- rising lists

pub first_before : {X : Type 0} (R : X → X → Type 0) (x : X) (xs : List X) → AllPairs R (x ∷ xs) → All (R x) xs
first_before R x xs pairs k d lt = pairs 0 (suc k) d (omega arith) (omega (arith, lt))

pub rest_rises : {X : Type 0} (R : X → X → Type 0) (x : X) (xs : List X) → AllPairs R (x ∷ xs) → AllPairs R xs
rest_rises R x xs pairs i j d lt within = pairs (suc i) (suc j) d (omega (arith, lt)) (omega (arith, within))

-- the order

pub smaller_through : (u v w : Word) → IsSmaller u v → IsSmaller v w → IsSmaller u w
smaller_through u v w (inl less) (inl more) = inl (omega (arith, less, more))
smaller_through u v w (inl less) (inr rest) = inl (omega (arith, less, rest.0))
smaller_through u v w (inr rest) (inl more) = inl (omega (arith, rest.0, more))
smaller_through u v w (inr first) (inr second) = inr (first.0 ∙ second.0, differs_transitive (letters u) (letters v) (letters w) first.1 second.1)

below_all : (es : List Entry) (a b : Birth) (xs : List Birth) → SmallerBirth es a b → AllPairs (SmallerBirth es) (b ∷ xs) → All (SmallerBirth es a) (b ∷ xs)
below_all es a b xs less rising =
    All-cons (SmallerBirth es a) b xs less
    (λ k d lt. smaller_through (product_of es a) (product_of es b) (product_of es (get_or xs k d)) less (first_before (SmallerBirth es) b xs rising k d lt))

-- merges

pub all_merged : (es : List Entry) (P : Birth → Type 0) (left right merged : List Birth) → Merges es left right merged → All P left → All P right → All P merged
all_merged es P _ _ _ (no_left right) first second = second
all_merged es P _ _ _ (no_right left) first second = first
all_merged es P _ _ _ (from_left a b left right merged less rest) first second =
    All-cons P a merged (All-head P a left first) (all_merged es P left (b ∷ right) merged rest (All-tail P a left first) second)
all_merged es P _ _ _ (from_right a b left right merged less rest) first second =
    All-cons P b merged (All-head P b right second) (all_merged es P (a ∷ left) right merged rest first (All-tail P b right second))

pub merged_rises : (es : List Entry) (left right merged : List Birth) → Merges es left right merged → AllPairs (SmallerBirth es) left → AllPairs (SmallerBirth es) right → AllPairs (SmallerBirth es) merged
merged_rises es _ _ _ (no_left right) first second = second
merged_rises es _ _ _ (no_right left) first second = first
merged_rises es _ _ _ (from_left a b left right merged less rest) first second =
    AllPairs-cons (SmallerBirth es) a merged
    (all_merged es (SmallerBirth es a) left (b ∷ right) merged rest (first_before (SmallerBirth es) a left first) (below_all es a b right less second))
    (merged_rises es left (b ∷ right) merged rest (rest_rises (SmallerBirth es) a left first) second)
merged_rises es _ _ _ (from_right a b left right merged less rest) first second =
    AllPairs-cons (SmallerBirth es) b merged
    (all_merged es (SmallerBirth es b) (a ∷ left) right merged rest (below_all es b a left less first) (first_before (SmallerBirth es) b right second))
    (merged_rises es (a ∷ left) right merged rest first (rest_rises (SmallerBirth es) b right second))

pub merged_has : (es : List Entry) (left right merged : List Birth) (x : Birth) → Merges es left right merged → Contains left x ⊎ Contains right x → Contains merged x
merged_has es _ _ _ x (no_left right) (inl found) = absurd (omega (arith, found.1))
merged_has es _ _ _ x (no_left right) (inr found) = found
merged_has es _ _ _ x (no_right left) (inl found) = found
merged_has es _ _ _ x (no_right left) (inr found) = absurd (omega (arith, found.1))
merged_has es _ _ _ x (from_left a b left right merged less rest) (inl found) =
    elim (Contains-cons a x left found) [
      | inl here ↦ subst (Contains (a ∷ merged)) here (Contains-here a merged)
      | inr there ↦ Contains-later a x merged (merged_has es left (b ∷ right) merged x rest (inl there))
    ]
merged_has es _ _ _ x (from_left a b left right merged less rest) (inr found) = Contains-later a x merged (merged_has es left (b ∷ right) merged x rest (inr found))
merged_has es _ _ _ x (from_right a b left right merged less rest) (inl found) = Contains-later b x merged (merged_has es (a ∷ left) right merged x rest (inl found))
merged_has es _ _ _ x (from_right a b left right merged less rest) (inr found) =
    elim (Contains-cons b x right found) [
      | inl here ↦ subst (Contains (b ∷ merged)) here (Contains-here b merged)
      | inr there ↦ Contains-later b x merged (merged_has es (a ∷ left) right merged x rest (inr there))
    ]

-- a step of a merge

pub step_left : (es : List Entry) (a b : Birth) (left right after_a after_b rest : List Birth) → left ≡ a ∷ after_a → right ≡ b ∷ after_b → SmallerBirth es a b → Merges es after_a right rest → Merges es left right (a ∷ rest)
step_left es a b left right after_a after_b rest left_is right_is less merges =
    subst (λ l. Merges es l right (a ∷ rest)) (sym left_is)
    (subst (λ r. Merges es (a ∷ after_a) r (a ∷ rest)) (sym right_is)
    (from_left a b after_a after_b rest less (subst (λ r. Merges es after_a r rest) right_is merges)))

pub step_right : (es : List Entry) (a b : Birth) (left right after_a after_b rest : List Birth) → left ≡ a ∷ after_a → right ≡ b ∷ after_b → SmallerBirth es b a → Merges es left after_b rest → Merges es left right (b ∷ rest)
step_right es a b left right after_a after_b rest left_is right_is less merges =
    subst (λ l. Merges es l right (b ∷ rest)) (sym left_is)
    (subst (λ r. Merges es (a ∷ after_a) r (b ∷ rest)) (sym right_is)
    (from_right a b after_a after_b rest less (subst (λ l. Merges es l after_b rest) left_is merges)))

pub one_more : (es : List Entry) (left right done new rest : List Birth) (a : Birth) → new ≡ done ++ a ∷ [] → Merges es left right (done ++ a ∷ rest) → Merges es left right (new ++ rest)
one_more es left right done new rest a new_is merges = subst (Merges es left right) (sym (append_assoc done (a ∷ []) rest) ∙ ap (λ l. l ++ rest) (sym new_is)) merges

pub contains_rest : (a x : Birth) (left after : List Birth) → left ≡ a ∷ after → Contains after x → Contains left x
contains_rest a x left after left_is found = subst (λ l. Contains l x) (sym left_is) (Contains-later a x after found)

pub contains_head : (a : Birth) (left after : List Birth) → left ≡ a ∷ after → Contains left a
contains_head a left after left_is = subst (λ l. Contains l a) (sym left_is) (Contains-here a after)
