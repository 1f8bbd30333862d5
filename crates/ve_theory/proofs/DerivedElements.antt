-- What is derived is closed under sums, scalings and letters; within a level too, where the words allow it.
use Rattle.std.proofs.Common.{◌≡◌, ℕ, ◌*◌, ◌%◌, ◌<◌, [], ◌∷◌, ◌++◌, length, refl, sym, ap, ◌∙◌, arith, mul-zero}
use Rattle.ve_theory.specs.Combinations.{Combination, scaled, coefficient}
use Rattle.ve_theory.specs.Words.{Word, times, same_word}
use Rattle.ve_theory.specs.Elements.{Element, times_letter, word_times}
use Rattle.ve_theory.specs.Presentations.{Presentation, IsWord, letter_count, relators, relator, submodule_relation}
use Rattle.ve_theory.specs.Derivations.{Derivation, by_relator, by_submodule, combined, multiplied, nothing, value, IsDerivation, Within, StaysWithin, Derived, DerivedWithin}
use Rattle.ve_theory.proofs.Sums.{weigh, weigh-append, weigh-scaled, SameWeights, SameWeights-refl, SameWeights-sym, SameWeights-trans, SameWeights-append, SameWeights-scaled, coefficient-append, coefficient-scaled, congruent-add, congruent-mul, Alike_from_weights, weights_from_Alike, Decides-same_word}
use Rattle.ve_theory.proofs.Products.{SameWeights-times_letter}

-- sums times a letter

pub times_letter-append : (u v : Element) (x : ℕ) → times_letter (u ++ v) x ≡ times_letter u x ++ times_letter v x
unfolding times_letter
times_letter-append [] v x = refl
times_letter-append (t ∷ u) v x = ap (λ r. (times t.0 x, t.1) ∷ r) (times_letter-append u v x)

pub times_letter-scaled : (c : ℕ) (v : Element) (x : ℕ) → times_letter (scaled c v) x ≡ scaled c (times_letter v x)
unfolding times_letter scaled
times_letter-scaled c [] x = refl
times_letter-scaled c (t ∷ v) x = ap (λ r. (times t.0 x, c * t.1) ∷ r) (times_letter-scaled c v x)

-- derived elements

pub Derived-shows : (P : Presentation) {v : Element} (h : Derived P v) → SameWeights P.prime (value P h.derivation) v
Derived-shows P {v} h = weights_from_Alike same_word Decides-same_word P.prime (value P h.derivation) v h.shows

pub Derived-by : (P : Presentation) (t : Derivation) (v : Element) → IsDerivation P t → SameWeights P.prime (value P t) v → Derived P v
Derived-by P t v h e = record { derivation = t; is_derivation = h; shows = Alike_from_weights same_word e }

pub Derived-alike : (P : Presentation) {u v : Element} → SameWeights P.prime u v → Derived P u → Derived P v
Derived-alike P {u} {v} e h = Derived-by P h.derivation v h.is_derivation (SameWeights-trans (Derived-shows P h) e)

pub Derived-nothing : (P : Presentation) → Derived P []
unfolding value IsDerivation
Derived-nothing P = Derived-by P nothing [] tt (SameWeights-refl P.prime [])

pub Derived-combined : (P : Presentation) (c d : ℕ) {u v : Element} → Derived P u → Derived P v → Derived P (scaled c u ++ scaled d v)
unfolding value IsDerivation
Derived-combined P c d {u} {v} h k =
    Derived-by P (combined c h.derivation d k.derivation) (scaled c u ++ scaled d v) (h.is_derivation, k.is_derivation)
    (SameWeights-append (SameWeights-scaled c (Derived-shows P h)) (SameWeights-scaled d (Derived-shows P k)))

pub SameWeights-equal : {K : Type 0} {p : ℕ} {u v : Combination K} → ((h : K → ℕ) → weigh h u ≡ weigh h v) → SameWeights p u v
SameWeights-equal {p = p} e = record { at = λ h. ap (λ n. n % p) (e h) }

pub Derived-append : (P : Presentation) {u v : Element} → Derived P u → Derived P v → Derived P (u ++ v)
Derived-append P {u} {v} h k =
    Derived-alike P (SameWeights-equal (λ g. simp (weigh-append, weigh-scaled) (omega arith))) (Derived-combined P 1 1 h k)

pub Derived-scaled : (P : Presentation) (c : ℕ) {u : Element} → Derived P u → Derived P (scaled c u)
Derived-scaled P c {u} h =
    Derived-alike P (SameWeights-equal (λ g. simp (weigh-append, weigh-scaled) (omega arith))) (Derived-combined P c 0 h h)

pub Derived-times : (P : Presentation) (x : ℕ) {v : Element} → x < letter_count P → Derived P v → Derived P (times_letter v x)
unfolding value IsDerivation
Derived-times P x {v} l h = Derived-by P (multiplied h.derivation x) (times_letter v x) (h.is_derivation, l) (SameWeights-times_letter x (Derived-shows P h))

pub Derived-relator : (P : Presentation) (w : Word) (number : ℕ) → IsWord P w → number < length (relators P) → Derived P (word_times w (relator P number))
unfolding value IsDerivation
Derived-relator P w number h l = Derived-by P (by_relator w number) (word_times w (relator P number)) (h, l) (SameWeights-refl P.prime (word_times w (relator P number)))

pub Derived-submodule : (P : Presentation) (number : ℕ) → number < length P.submodule → Derived P (submodule_relation P number)
unfolding value IsDerivation
Derived-submodule P number l = Derived-by P (by_submodule number) (submodule_relation P number) l (SameWeights-refl P.prime (submodule_relation P number))

-- within a level

pub DerivedWithin-shows : (P : Presentation) (k : ℕ) {v : Element} (h : DerivedWithin P k v) → SameWeights P.prime (value P h.derivation) v
DerivedWithin-shows P k {v} h = weights_from_Alike same_word Decides-same_word P.prime (value P h.derivation) v h.shows

pub DerivedWithin-by : (P : Presentation) (k : ℕ) (t : Derivation) (v : Element) → IsDerivation P t → StaysWithin P k t → SameWeights P.prime (value P t) v → DerivedWithin P k v
DerivedWithin-by P k t v h s e = record { derivation = t; is_derivation = h; stays = s; shows = Alike_from_weights same_word e }

pub DerivedWithin-alike : (P : Presentation) (k : ℕ) {u v : Element} → SameWeights P.prime u v → DerivedWithin P k u → DerivedWithin P k v
DerivedWithin-alike P k {u} {v} e h = DerivedWithin-by P k h.derivation v h.is_derivation h.stays (SameWeights-trans (DerivedWithin-shows P k h) e)

pub Within-alike : (P : Presentation) (k : ℕ) {u v : Element} → SameWeights P.prime u v → Within P k u → Within P k v
Within-alike P k {u} {v} e h = λ w l. sym (Alike_from_weights same_word e w) ∙ h w l

pub Within-append : (P : Presentation) (k : ℕ) (u v : Element) → Within P k u → Within P k v → Within P k (u ++ v)
Within-append P k u v g h = λ w l.
    ap (λ n. n % P.prime) (coefficient-append same_word u v w)
    ∙ congruent-add P.prime (coefficient same_word u w) 0 (coefficient same_word v w) 0 (g w l) (h w l)

pub Within-scaled : (P : Presentation) (k c : ℕ) (v : Element) → Within P k v → Within P k (scaled c v)
Within-scaled P k c v h = λ w l.
    ap (λ n. n % P.prime) (coefficient-scaled same_word c v w)
    ∙ (congruent-mul P.prime c c (coefficient same_word v w) 0 refl (h w l) ∙ ap (λ n. n % P.prime) (mul-zero c))

pub StaysWithin-value : (P : Presentation) (k : ℕ) (t : Derivation) → StaysWithin P k t → Within P k (value P t)
unfolding StaysWithin value coefficient
StaysWithin-value P k (by_relator w number) h = h
StaysWithin-value P k (by_submodule number) h = h
StaysWithin-value P k (combined c s d t) h = h.2
StaysWithin-value P k (multiplied t x) h = h.1
StaysWithin-value P k nothing h = λ w l. refl

pub DerivedWithin-combined : (P : Presentation) (k c d : ℕ) {u v : Element} → DerivedWithin P k u → DerivedWithin P k v → DerivedWithin P k (scaled c u ++ scaled d v)
unfolding value IsDerivation StaysWithin
DerivedWithin-combined P k c d {u} {v} g h =
    DerivedWithin-by P k (combined c g.derivation d h.derivation) (scaled c u ++ scaled d v) (g.is_derivation, h.is_derivation) (g.stays, h.stays, within)
    (SameWeights-append (SameWeights-scaled c (DerivedWithin-shows P k g)) (SameWeights-scaled d (DerivedWithin-shows P k h)))
  where
    within : Within P k (scaled c (value P g.derivation) ++ scaled d (value P h.derivation))
    within = Within-append P k (scaled c (value P g.derivation)) (scaled d (value P h.derivation))
        (Within-scaled P k c (value P g.derivation) (StaysWithin-value P k g.derivation g.stays)) (Within-scaled P k d (value P h.derivation) (StaysWithin-value P k h.derivation h.stays))

pub DerivedWithin-nothing : (P : Presentation) (k : ℕ) → DerivedWithin P k []
unfolding value IsDerivation StaysWithin
DerivedWithin-nothing P k = DerivedWithin-by P k nothing [] tt tt (SameWeights-refl P.prime [])

-- times a letter, where the product stays within the level
pub DerivedWithin-times : (P : Presentation) (k x : ℕ) {v : Element} → x < letter_count P → Within P k (times_letter v x) → DerivedWithin P k v → DerivedWithin P k (times_letter v x)
unfolding value IsDerivation StaysWithin
DerivedWithin-times P k x {v} l m h =
    DerivedWithin-by P k (multiplied h.derivation x) (times_letter v x) (h.is_derivation, l)
    (h.stays, Within-alike P k (SameWeights-sym (SameWeights-times_letter x (DerivedWithin-shows P k h))) m)
    (SameWeights-times_letter x (DerivedWithin-shows P k h))
