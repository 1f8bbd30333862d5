-- How many calls of a source or a sink have failed.
use Rattle.std.specs.Prelude.{◌≡◌, ℕ, ◌+◌, ◌-◌, ◌^◌, ◌<◌, ◌≤◌, ◌⊎◌, min, Option, Some, None}
use Rattle.std.proofs.Common.{arith, inl, inr, sym, ◌∙◌}

-- the faults so far, and the last value of their count, at which it stands still, where it has one
pub record Count : Type 0 where
  pub faults : ℕ
  pub last : Option ℕ

-- the count rose, or it stands at its last value
pub record HasRisen (old new : Count) : Type 0 where
  pub last : new.last ≡ old.last
  pub faults : (old.faults < new.faults) ⊎ ((old.last ≡ Some old.faults) × (new.faults ≡ old.faults))

-- the greatest value of a `u64`
abbrev pub last_u64 : ℕ
last_u64 = 2 ^ 64 - 1

-- a `u64` after one more, which stands still at the greatest value
abbrev pub next_u64 : ℕ → ℕ
next_u64 n = min (n + 1) last_u64

-- a count never falls
pub HasRisen-le : (old new : Count) → HasRisen old new → old.faults ≤ new.faults
HasRisen-le old new risen = elim risen.faults [ inl more ↦ omega arith | inr still ↦ omega (arith, still.1) ]

-- a count that has no last value rises
pub HasRisen-endless : (old new : Count) → old.last ≡ None → HasRisen old new → old.faults < new.faults
HasRisen-endless old new endless risen =
    elim risen.faults [ inl more ↦ more | inr still ↦ let differ : None ≡ Some old.faults = sym endless ∙ still.0 in cc ]
