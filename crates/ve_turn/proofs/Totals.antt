-- Lists of views: sums over them, and what a change of one leaves.
use Rattle.std.proofs.Common.{◌≡◌, ◌≢◌, ℕ, zero, suc, ◌+◌, ◌≤◌, List, [], ◌∷◌, ◌++◌, length, set, sym, refl, ap, ◌∙◌, subst, ⊎_elim, arith}
use mathlib.Core.Option.{some, some-injective, some-ne-none}
use mathlib.Core.Logic.{dite}
use native.Mathlib.Decide.{ℕ_discrete}
use lib.ListN.{get_elem?}
use Rattle.atomic_table.proofs.Lists.{at_set, set_else}
use Rattle.ve_turn.specs.Rule.{total}

abbrev pick : {P : Type 0} → Dec P → ℕ → ℕ → ℕ
pick (yes _) a b = a
pick (no _) a b = b

-- the function with c at i
pub put : (ℕ → ℕ) → ℕ → ℕ → ℕ → ℕ
put f i c k = pick (ℕ_discrete k i) c (f k)

pub put_here : (f : ℕ → ℕ) (i c : ℕ) → put f i c i ≡ c
unfolding put
put_here f i c = go (ℕ_discrete i i)
  where
    go : (d : Dec (i ≡ i)) → pick d c (f i) ≡ c
    go (yes _) = refl
    go (no n) = absurd (n refl)

pub put_else : (f : ℕ → ℕ) (i c k : ℕ) → k ≢ i → put f i c k ≡ f k
unfolding put
put_else f i c k other = go (ℕ_discrete k i)
  where
    go : (d : Dec (k ≡ i)) → pick d c (f k) ≡ f k
    go (yes e) = absurd (other e)
    go (no _) = refl

module _ {A : Type 0} where
  pub set_there : (l : List A) (i : ℕ) (a b : A) → get_elem? l i ≡ some a → get_elem? (set l i b) i ≡ some b
  set_there [] i a b e = absurd (some-ne-none a (sym e))
  set_there (x ∷ xs) zero a b e = refl
  set_there (x ∷ xs) (suc i) a b e = set_there xs i a b e

  pub total_set : (f : A → ℕ) (l : List A) (i : ℕ) (a b : A) → get_elem? l i ≡ some a → total f (set l i b) + f a ≡ total f l + f b
  total_set f [] i a b e = absurd (some-ne-none a (sym e))
  total_set f (x ∷ xs) zero a b e = let s : f x ≡ f a = ap f (some-injective x a e) in omega arith
  total_set f (x ∷ xs) (suc i) a b e = let s = total_set f xs i a b e in omega arith

  pub total_snoc : (f : A → ℕ) (l : List A) (a : A) → total f (l ++ a ∷ []) ≡ total f l + f a
  total_snoc f [] a = omega arith
  total_snoc f (x ∷ xs) a = let s = total_snoc f xs a in omega arith

  pub total_le : (f g : A → ℕ) (l : List A) → ((a : A) → f a ≤ g a) → total f l ≤ total g l
  total_le f g [] h = omega arith
  total_le f g (x ∷ xs) h = let s = total_le f g xs h in let t = h x in omega arith

  pub one_of : (f : A → ℕ) (l : List A) (i : ℕ) (a : A) → get_elem? l i ≡ some a → f a ≤ total f l
  one_of f [] i a e = absurd (some-ne-none a (sym e))
  one_of f (x ∷ xs) zero a e = let s : f x ≡ f a = ap f (some-injective x a e) in omega arith
  one_of f (x ∷ xs) (suc i) a e = let s = one_of f xs i a e in omega arith

  pub two_of : (f : A → ℕ) (l : List A) (i k : ℕ) (a b : A) → i ≢ k → get_elem? l i ≡ some a → get_elem? l k ≡ some b → f a + f b ≤ total f l
  two_of f [] i k a b other e d = absurd (some-ne-none a (sym e))
  two_of f (x ∷ xs) zero zero a b other e d = absurd (other refl)
  two_of f (x ∷ xs) zero (suc k) a b other e d = let s : f x ≡ f a = ap f (some-injective x a e) in let t = one_of f xs k b d in omega arith
  two_of f (x ∷ xs) (suc i) zero a b other e d = let s : f x ≡ f b = ap f (some-injective x b d) in let t = one_of f xs i a e in omega arith
  two_of f (x ∷ xs) (suc i) (suc k) a b other e d = let s = two_of f xs i k a b (λ h. other (ap suc h)) e d in omega arith

  -- what holds of each, after a change of one
  pub each_set : (P : ℕ → A → Type 0) (l : List A) (i : ℕ) (b : A) → P i b → ((k : ℕ) (a : A) → k ≢ i → get_elem? l k ≡ some a → P k a) → (k : ℕ) (a : A) → get_elem? (set l i b) k ≡ some a → P k a
  each_set P l i b mine others k a e = ⊎_elim (λ (t : (k ≡ i) × (b ≡ a)). subst (λ (x : ℕ × A). P x.0 x.1) (λ c. (sym t.0 c, t.1 c)) mine)
      (λ (t : (k ≢ i) × (get_elem? l k ≡ some a)). others k a t.0 t.1) (at_set l i k b a e)

  -- the same, with one more
  pub each_snoc : (P : ℕ → A → Type 0) (l : List A) (b : A) → P (length l) b → ((k : ℕ) (a : A) → get_elem? l k ≡ some a → P k a) → (k : ℕ) (a : A) → get_elem? (l ++ b ∷ []) k ≡ some a → P k a
  each_snoc P [] b mine others zero a e = subst (P zero) (some-injective b a e) mine
  each_snoc P [] b mine others (suc k) a e = absurd (some-ne-none a (sym e))
  each_snoc P (x ∷ xs) b mine others zero a e = others zero a e
  each_snoc P (x ∷ xs) b mine others (suc k) a e = each_snoc (λ i y. P (suc i) y) xs b mine (λ i y d. others (suc i) y d) k a e

  -- some element at k with P, after a change of the one at i that keeps P
  pub still_set : (P : A → Type 0) (l : List A) (i : ℕ) (a b : A) → get_elem? l i ≡ some a → (P a → P b) → (k : ℕ) → (x : A) × (get_elem? l k ≡ some x) × P x → (x : A) × (get_elem? (set l i b) k ≡ some x) × P x
  still_set P l i a b at keep k h = dite (ℕ_discrete k i)
      (λ e. (b, subst (λ (n : ℕ). get_elem? (set l i b) n ≡ some b) (sym e) (set_there l i a b at), keep (subst P (some-injective h.0 a (sym h.1 ∙ (ap (get_elem? l) e ∙ at))) h.2)))
      (λ other. (h.0, set_else l i k b other ∙ h.1, h.2))

  -- two different elements stand at two places
  pub elsewhere : (l : List A) (i k : ℕ) (a b : A) → get_elem? l i ≡ some a → get_elem? l k ≡ some b → (a ≡ b → ⊥) → i ≢ k
  elsewhere l i k a b e d differ same = differ (some-injective a b (sym e ∙ (ap (get_elem? l) same ∙ d)))

-- the function with d in place of c
pub swap_for : (ℕ → ℕ) → ℕ → ℕ → ℕ → ℕ
swap_for f c d k = pick (ℕ_discrete (f k) c) d (f k)

pub swapped : (f : ℕ → ℕ) (c d k : ℕ) → f k ≡ c → swap_for f c d k ≡ d
unfolding swap_for
swapped f c d k is = go (ℕ_discrete (f k) c)
  where
    go : (t : Dec (f k ≡ c)) → pick t d (f k) ≡ d
    go (yes _) = refl
    go (no n) = absurd (n is)

pub unswapped : (f : ℕ → ℕ) (c d k : ℕ) → f k ≢ c → swap_for f c d k ≡ f k
unfolding swap_for
unswapped f c d k other = go (ℕ_discrete (f k) c)
  where
    go : (t : Dec (f k ≡ c)) → pick t d (f k) ≡ f k
    go (yes e) = absurd (other e)
    go (no _) = refl
