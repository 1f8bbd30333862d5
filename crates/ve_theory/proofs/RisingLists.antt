-- Rising lists with the same members are equal. So sizes and closing levels are determined.
use Rattle.std.proofs.Common.{◌≡◌, ℕ, zero, suc, ◌+◌, ◌<◌, ◌⊎◌, ◌↔◌, inl, inr, List, [], ◌∷◌, length, AllPairs, Contains, refl, sym, ap, ap₂, ◌∙◌, subst, arith, sum_by}
use Rattle.std.proofs.lemmas.Bool.{cases_order}
use Rattle.std.proofs.lemmas.List.Elements.{All-contains}
use Rattle.ve_theory.specs.Words.{Word}
use Rattle.ve_theory.specs.Presentations.{Presentation, IsPresentation, before}
use Rattle.ve_theory.specs.Levels.{IsNormal, Lists, HasSize, IsClosingLevel, steps_to}
use Rattle.ve_theory.proofs.Orders.{before_irreflexive, before_transitive}
use Rattle.ve_theory.proofs.Members.{Contains-here, Contains-later, Contains-nil, Contains-cons}

rising_head : (P : Presentation) (x : Word) (us : List Word) → AllPairs (before P) (x ∷ us) → (w : Word) → Contains us w → before P x w
rising_head P x us h w (k, l, e) = subst (before P x) e (h 0 (suc k) w (omega arith) (omega arith))

rising_tail : (P : Presentation) (x : Word) (us : List Word) → AllPairs (before P) (x ∷ us) → AllPairs (before P) us
rising_tail P x us h i j d l m = h (suc i) (suc j) d (omega arith) (omega arith)

-- two rising lists where each has the members of the other
same_rising : (P : Presentation) (us vs : List Word) → AllPairs (before P) us → AllPairs (before P) vs → ((w : Word) → Contains us w → Contains vs w) → ((w : Word) → Contains vs w → Contains us w)
    → us ≡ vs
same_rising P [] [] h k f g = refl
same_rising P [] (y ∷ vs) h k f g = absurd (Contains-nil y (g y (Contains-here y vs)))
same_rising P (x ∷ us) [] h k f g = absurd (Contains-nil x (f x (Contains-here x us)))
same_rising P (x ∷ us) (y ∷ vs) h k f g =
    ap₂ (λ a b. a ∷ b) same (same_rising P us vs (rising_tail P x us h) (rising_tail P y vs k) there back)
  where
    heads : (x ≡ y) ⊎ Contains us y → (y ≡ x) ⊎ Contains vs x → x ≡ y
    heads (inl e) m = e
    heads (inr l) (inl e) = sym e
    heads (inr l) (inr m) = absurd (before_irreflexive P x (before_transitive P x y x (rising_head P x us h y l) (rising_head P y vs k x m)))

    same : x ≡ y
    same = heads (Contains-cons x y us (g y (Contains-here y vs))) (Contains-cons y x vs (f x (Contains-here x us)))

    there : (w : Word) → Contains us w → Contains vs w
    there w m = cases (Contains-cons y w vs (f w (Contains-later x w us m)))
      where
        cases : (y ≡ w) ⊎ Contains vs w → Contains vs w
        cases (inl e) = absurd (before_irreflexive P x (subst (before P x) (sym (same ∙ e)) (rising_head P x us h w m)))
        cases (inr n) = n

    back : (w : Word) → Contains vs w → Contains us w
    back w m = cases (Contains-cons x w us (g w (Contains-later y w vs m)))
      where
        cases : (x ≡ w) ⊎ Contains us w → Contains us w
        cases (inl e) = absurd (before_irreflexive P y (subst (before P y) (sym (sym same ∙ e)) (rising_head P y vs k w m)))
        cases (inr n) = n

pub lists_of_words : (P : Presentation) (us vs : List Word) → IsPresentation P → AllPairs (before P) us → AllPairs (before P) vs → ((w : Word) → Contains us w ↔ Contains vs w) → us ≡ vs
lists_of_words P us vs V h k e = same_rising P us vs h k (λ w. (e w).0) (λ w. (e w).1)

pub same_Lists : (P : Presentation) (Q : Word → Type 0) (us vs : List Word) → Lists P Q us → Lists P Q vs → us ≡ vs
same_Lists P Q us vs L M =
    same_rising P us vs L.rising M.rising (λ w m. M.every w (All-contains Q us w L.only m)) (λ w m. L.every w (All-contains Q vs w M.only m))

pub sizes : (P : Presentation) (k m n : ℕ) → IsPresentation P → HasSize P k m → HasSize P k n → m ≡ n
unfolding HasSize
sizes P zero m n V g h = g ∙ sym h
sizes P (suc k) m n V g h =
    g.2 ∙ (ap (λ ws. length ws + sum_by (steps_to P (suc k)) ws) (same_Lists P (IsNormal P k) g.0 h.0 g.1 h.1) ∙ sym h.2)

pub closing_levels : (P : Presentation) (j k : ℕ) → IsClosingLevel P j → IsClosingLevel P k → j ≡ k
closing_levels P j k g h = cases (cases_order j k)
  where
    cases : (j ≡ k) ⊎ ((j < k) ⊎ (k < j)) → j ≡ k
    cases (inl e) = e
    cases (inr (inl l)) = absurd (h.least j l g.closes)
    cases (inr (inr l)) = absurd (g.least k l h.closes)
