-- The unit of an id stands for its word.
use Rattle.std.proofs.Common.{◌≡◌, ℕ, ◌+◌, ◌*◌, ◌-◌, ◌%◌, ◌<◌, inr, Bool, true, false, cond, List, [], ◌++◌, length, refl, sym, ap, subst, ◌∙◌, arith}
use Rattle.std.specs.Prelude.{All}
use Rattle.std.proofs.Math.Nat.{mod_self, zero-mod}
use Rattle.std.proofs.lemmas.List.Elements.{All-cons, All-nil}
use Rattle.ve_theory.specs.Residues.{Congruent}
use Rattle.ve_theory.specs.Combinations.{unit, scaled, difference, extended, coefficient, Alike, AllBefore, IsReduced}
use Rattle.ve_theory.specs.Words.{Word, same_word}
use Rattle.ve_theory.specs.Presentations.{Presentation}
use Rattle.ve_theory.specs.Derivations.{nothing, value, IsDerivation, StaysWithin, DerivedWithin}
use Rattle.ve_theory.specs.Answers.{IsNotAfter}
use Rattle.ve_table.specs.Tables.{ActionTable, presented, word_at}
use Rattle.ve_table.specs.Sound.{StandsFor, IsVectorOf}

pub unit_reduced : (p c : ℕ) → 1 < p → IsReduced ◌<◌ p (unit c)
unfolding IsReduced AllBefore
unit_reduced p c large = (omega arith, large, tt, tt)

all-unit : (P : ℕ × ℕ → Type 0) (c : ℕ) → P (c, 1) → All P (unit c)
all-unit P c here = All-cons P (c, 1) [] here (All-nil P)

-- a word minus itself vanishes
vanishes : (p : ℕ) (w : Word) → 0 < p → Alike same_word p [] (difference p (unit w) (scaled 1 (unit w) ++ []))
unfolding coefficient scaled
vanishes p w large k = same (same_word w k)
  where
    same : (b : Bool) → Congruent p 0 (cond b 1 0 + (cond b ((p - 1) * (1 * 1)) 0 + 0))
    same true = rw (whole) (zero_mod ∙ sym self_mod)
      where
        whole : 1 + ((p - 1) * (1 * 1) + 0) ≡ p
        whole = omega arith

        zero_mod : 0 % p ≡ 0
        zero_mod = zero-mod p

        self_mod : p % p ≡ 0
        self_mod = mod_self p
    same false = refl

nothing_derived : (P : Presentation) (k : ℕ) (w : Word) → 0 < P.prime → DerivedWithin P k (difference P.prime (unit w) (scaled 1 (unit w) ++ []))
unfolding value IsDerivation StaysWithin
nothing_derived P k w large = record { derivation = nothing; is_derivation = tt; stays = tt; shows = vanishes P.prime w large }

extended_unit : (f : ℕ → List (Word × ℕ)) (c : ℕ) → extended f (unit c) ≡ scaled 1 (f c) ++ []
unfolding extended
extended_unit f c = refl

pub unit_stands : (T : ActionTable) (c : ℕ) (w : Word) → 1 < (presented T).prime → c < length T.words → word_at T c ≡ w → StandsFor T w (unit c)
unit_stands T c w large within is = record {
  row = (unit_reduced (presented T).prime c large, all-unit (λ t. t.0 < length T.words) c within);
  derived = subst (λ v. DerivedWithin (presented T) T.level (difference (presented T).prime (unit w) v)) (ap (λ v. scaled 1 (unit v) ++ []) (sym is) ∙ sym (extended_unit (λ j. unit (word_at T j)) c))
      (nothing_derived (presented T) T.level w (omega (arith, large)));
}

pub unit_vector : (T : ActionTable) (c : ℕ) (w : Word) → 1 < (presented T).prime → c < length T.words → word_at T c ≡ w → IsVectorOf T w (unit c)
unit_vector T c w large within is = record {
  stands = unit_stands T c w large within is;
  not_after = all-unit (λ t. (t.0 < length T.words) × IsNotAfter (presented T) (word_at T t.0) w) c (within, inr is);
}
