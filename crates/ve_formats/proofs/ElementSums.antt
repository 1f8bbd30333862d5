-- Sums, products and powers of values are unique, and each has a value or a fault.
use Rattle.std.proofs.Common.{◌≡◌, ◌≢◌, ℕ, zero, suc, ◌+◌, ◌*◌, ◌<◌, ◌≤◌, ◌⊎◌, inl, inr, List, [], ◌∷◌, ◌++◌, length, Result, Ok, Err, true, ltb, refl, sym, ap, ◌∙◌, arith}
use Rattle.std.proofs.lemmas.Bool.{cases_lt, ltb-true}
use Rattle.std.proofs.lemmas.List.Elements.{All-contains}
use Rattle.std.proofs.lemmas.List.Sums.{AllPass-from_list_all}
use Rattle.ve_theory.specs.Residues.{IsFieldPrime, primes}
use Rattle.ve_theory.specs.Combinations.{unit}
use Rattle.ve_theory.specs.Words.{ShortlexLetters, Shortlex, same_letters, same_word}
use Rattle.ve_theory.specs.Elements as elements
use Rattle.ve_theory.specs.Elements.{AlgebraElement, Element, IsAlgebraElementOf, IsElementOf, algebra_length, element_length, element_times}
use Rattle.ve_theory.specs.Laws.{ReducedListsAreUnique}
use Rattle.ve_theory.specs.Validity.{most_terms, most_length}
use Rattle.ve_formats.specs.Causes as why
use Rattle.ve_formats.specs.Causes.{Cause, beyond}
use Rattle.ve_formats.specs.Once.{ExactlyOne}
use Rattle.ve_formats.specs.Values.{AddsUp, added, too_many, Multiplies, multiplied, too_long, HasPower, zeroth, first, next, stopped}
use Rattle.ve_formats.specs.Values as algebra
use Rattle.ve_formats.specs.ModuleValues as modules
use Rattle.ve_formats.specs.ModuleValues.{ModuleAddsUp, ModuleMultiplies}
use Rattle.ve_formats.proofs.Collecting.{collected}
use Rattle.ve_formats.proofs.WordOrders.{letters_order, words_order}

-- a length that counts: of factors that are not zero
abbrev CountsLong : {X Y : Type 0} → List X → List Y → ℕ → Type 0
CountsLong u v n = ((u ≢ []) × (v ≢ []) × (most_length < n)) ⊎ (u ≢ [] → v ≢ [] → n ≤ most_length)

counts_long : {X Y : Type 0} (u : List X) (v : List Y) (n : ℕ) → CountsLong u v n
counts_long [] v n = inr (λ h k. absurd (h refl))
counts_long (x ∷ u) [] n = inr (λ h k. absurd (k refl))
counts_long (x ∷ u) (y ∷ v) n = by_length (cases_lt most_length n)
  where
    by_length : (most_length < n) ⊎ (n ≤ most_length) → CountsLong (x ∷ u) (y ∷ v) n
    by_length (inl h) = inl (λ e. absurd (cc), λ e. absurd (cc), h)
    by_length (inr h) = inr (λ e k. h)

-- what follows a value; a fault stays
abbrev pub after : {X Y : Type 0} → (X → Result Y Cause) → Result X Cause → Result Y Cause
after f (Ok x) = f x
after f (Err cause) = Err cause

module _ (unique : ReducedListsAreUnique) (p : ℕ) (some : 0 < p) where
  pub one_list : (e : AlgebraElement) → ExactlyOne (λ v. IsAlgebraElementOf p v e)
  one_list e =
      let list = collected ShortlexLetters same_letters letters_order (λ k. Unit {0}) p some e in
      record { it = list.list; holds = list.holds; only = λ other h. unique.algebra p other list.list h.reduced list.holds.reduced (λ k. h.alike k ∙ sym (list.holds.alike k)) }

  pub one_module_list : (e : Element) → ExactlyOne (λ v. IsElementOf p v e)
  one_module_list e =
      let list = collected Shortlex same_word words_order (λ k. Unit {0}) p some e in
      record { it = list.list; holds = list.holds; only = λ other h. unique.elements p other list.list h.reduced list.holds.reduced (λ k. h.alike k ∙ sym (list.holds.alike k)) }

  pub one_sum : (u v : AlgebraElement) → ExactlyOne (AddsUp p u v)
  one_sum u v = by_count (cases_lt most_terms (length u + length v))
    where
      by_count : (most_terms < length u + length v) ⊎ (length u + length v ≤ most_terms) → ExactlyOne (AddsUp p u v)
      by_count (inl many) = record { it = Err (beyond (why.terms (length u + length v))); holds = too_many many; only = only }
        where
          only : (other : Result AlgebraElement Cause) → AddsUp p u v other → other ≡ Err (beyond (why.terms (length u + length v)))
          only _ (added w few h) = absurd (omega arith)
          only _ (too_many h) = refl
      by_count (inr few) = record { it = Ok list.it; holds = added list.it few list.holds; only = only }
        where
          list : ExactlyOne (λ v1. IsAlgebraElementOf p v1 (u ++ v))
          list = one_list (u ++ v)

          only : (other : Result AlgebraElement Cause) → AddsUp p u v other → other ≡ Ok list.it
          only _ (added w few h) = ap (λ w. Ok w) (list.only w h)
          only _ (too_many h) = absurd (omega arith)

  pub one_product : (u v : AlgebraElement) → ExactlyOne (Multiplies p u v)
  one_product u v = by_count (cases_lt most_terms (length u * length v)) (counts_long u v (algebra_length u + algebra_length v))
    where
      by_count : (most_terms < length u * length v) ⊎ (length u * length v ≤ most_terms) → CountsLong u v (algebra_length u + algebra_length v) → ExactlyOne (Multiplies p u v)
      by_count (inl many) long = record { it = Err (beyond (why.terms (length u * length v))); holds = algebra.too_many many; only = only }
        where
          only : (other : Result AlgebraElement Cause) → Multiplies p u v other → other ≡ Err (beyond (why.terms (length u * length v)))
          only _ (multiplied w few short h) = absurd (omega arith)
          only _ (algebra.too_many h) = refl
          only _ (too_long few h k much) = absurd (omega arith)
      by_count (inr few) (inl long) = record { it = Err (beyond (why.length (algebra_length u + algebra_length v))); holds = too_long few long.0 long.1 long.2; only = only }
        where
          only : (other : Result AlgebraElement Cause) → Multiplies p u v other → other ≡ Err (beyond (why.length (algebra_length u + algebra_length v)))
          only _ (multiplied w few short h) = let fits = short long.0 long.1 in absurd (omega arith)
          only _ (algebra.too_many h) = absurd (omega arith)
          only _ (too_long few h k much) = refl
      by_count (inr few) (inr short) = record { it = Ok list.it; holds = multiplied list.it few short list.holds; only = only }
        where
          list : ExactlyOne (λ v1. IsAlgebraElementOf p v1 (elements.product u v))
          list = one_list (elements.product u v)

          only : (other : Result AlgebraElement Cause) → Multiplies p u v other → other ≡ Ok list.it
          only _ (multiplied w few short h) = ap (λ w. Ok w) (list.only w h)
          only _ (algebra.too_many h) = absurd (omega arith)
          only _ (too_long few h k much) = let fits = short h k in absurd (omega arith)

  pub one_module_sum : (u v : Element) → ExactlyOne (ModuleAddsUp p u v)
  one_module_sum u v = by_count (cases_lt most_terms (length u + length v))
    where
      by_count : (most_terms < length u + length v) ⊎ (length u + length v ≤ most_terms) → ExactlyOne (ModuleAddsUp p u v)
      by_count (inl many) = record { it = Err (beyond (why.terms (length u + length v))); holds = modules.too_many many; only = only }
        where
          only : (other : Result Element Cause) → ModuleAddsUp p u v other → other ≡ Err (beyond (why.terms (length u + length v)))
          only _ (modules.added w few h) = absurd (omega arith)
          only _ (modules.too_many h) = refl
      by_count (inr few) = record { it = Ok list.it; holds = modules.added list.it few list.holds; only = only }
        where
          list : ExactlyOne (λ v1. IsElementOf p v1 (u ++ v))
          list = one_module_list (u ++ v)

          only : (other : Result Element Cause) → ModuleAddsUp p u v other → other ≡ Ok list.it
          only _ (modules.added w few h) = ap (λ w. Ok w) (list.only w h)
          only _ (modules.too_many h) = absurd (omega arith)

  pub one_module_product : (u : Element) (v : AlgebraElement) → ExactlyOne (ModuleMultiplies p u v)
  one_module_product u v = by_count (cases_lt most_terms (length u * length v)) (counts_long u v (element_length u + algebra_length v))
    where
      by_count : (most_terms < length u * length v) ⊎ (length u * length v ≤ most_terms) → CountsLong u v (element_length u + algebra_length v) → ExactlyOne (ModuleMultiplies p u v)
      by_count (inl many) long = record { it = Err (beyond (why.terms (length u * length v))); holds = modules.too_many many; only = only }
        where
          only : (other : Result Element Cause) → ModuleMultiplies p u v other → other ≡ Err (beyond (why.terms (length u * length v)))
          only _ (modules.multiplied w few short h) = absurd (omega arith)
          only _ (modules.too_many h) = refl
          only _ (modules.too_long few h k much) = absurd (omega arith)
      by_count (inr few) (inl long) = record { it = Err (beyond (why.length (element_length u + algebra_length v))); holds = modules.too_long few long.0 long.1 long.2; only = only }
        where
          only : (other : Result Element Cause) → ModuleMultiplies p u v other → other ≡ Err (beyond (why.length (element_length u + algebra_length v)))
          only _ (modules.multiplied w few short h) = let fits = short long.0 long.1 in absurd (omega arith)
          only _ (modules.too_many h) = absurd (omega arith)
          only _ (modules.too_long few h k much) = refl
      by_count (inr few) (inr short) = record { it = Ok list.it; holds = modules.multiplied list.it few short list.holds; only = only }
        where
          list : ExactlyOne (λ v1. IsElementOf p v1 (element_times u v))
          list = one_module_list (element_times u v)

          only : (other : Result Element Cause) → ModuleMultiplies p u v other → other ≡ Ok list.it
          only _ (modules.multiplied w few short h) = ap (λ w. Ok w) (list.only w h)
          only _ (modules.too_many h) = absurd (omega arith)
          only _ (modules.too_long few h k much) = let fits = short h k in absurd (omega arith)

  -- powers

  raised : AlgebraElement → ℕ → Result AlgebraElement Cause
  raised u zero = Ok (unit [])
  raised u (suc zero) = Ok u
  raised u (suc (suc k)) = after (λ v. (one_product v u).it) (raised u (suc k))

  raised_has : (u : AlgebraElement) (k : ℕ) → HasPower p u k (raised u k)
  unfolding raised
  raised_has u zero = zeroth
  raised_has u (suc zero) = first
  raised_has u (suc (suc k)) = further (raised u (suc k)) (raised_has u (suc k))
    where
      further : (r : Result AlgebraElement Cause) → HasPower p u (suc k) r → HasPower p u (suc (suc k)) (after (λ v. (one_product v u).it) r)
      further (Ok v) h = next h (one_product v u).holds
      further (Err cause) h = stopped h

  raised_only : (u : AlgebraElement) {k : ℕ} {r : Result AlgebraElement Cause} → HasPower p u k r → r ≡ raised u k
  unfolding raised
  raised_only u zeroth = refl
  raised_only u first = refl
  raised_only u (next {v} {r} h m) = (one_product v u).only r m ∙ ap (after (λ v. (one_product v u).it)) (raised_only u h)
  raised_only u (stopped h) = ap (after (λ v. (one_product v u).it)) (raised_only u h)

  pub one_power : (u : AlgebraElement) (k : ℕ) → ExactlyOne (HasPower p u k)
  one_power u k = record { it = raised u k; holds = raised_has u k; only = λ r h. raised_only u h }

-- the primes are positive
pub prime_positive : (p : ℕ) → IsFieldPrime p → 0 < p
unfolding primes
prime_positive p h = ltb-true 0 p (All-contains (λ q. ltb 0 q ≡ true) primes p (AllPass-from_list_all (λ q. ltb 0 q) primes refl) h)
