use Rattle.std.proofs.Common.{inl, inr, refl, ◌≡◌, ◌⊎◌, ℕ}
use Rattle.ve_formats.specs.PresentationLines.{takes_version}
use Rattle.ve_read.proofs.HeaderLines.{version_first}
use Rattle.ve_read.proofs.draft.Draft.version.Goals as goal
use Rattle.ve_read.proofs.draft.Draft.version.Goals.{in-Blank+then-version-eq1, in-Blank+else-version-eq1+then-version-eq2, in-Blank+else-version-eq1+else-version-eq2, in-Versioned, in-Built}

neither : (n : ℕ) → (n ≡ 1 → ⊥) → (n ≡ 2 → ⊥) → (n ≡ 1) ⊎ (n ≡ 2) → ⊥
neither n one two (inl is) = one is
neither n one two (inr is) = two is

pub returns : goal.returns
returns c = elim c.match-self.branch [
  | in-Blank+then-version-eq1 w ↦ rw (w.in-Blank.is, w.if-version-eq1.true, w.result-is) (record { stands = (refl, inl refl); works = takes_version 1; kept = tt })
  | in-Blank+else-version-eq1+then-version-eq2 w ↦ rw (w.in-Blank.is, w.if-version-eq2.true, w.result-is) (record { stands = (refl, inr refl); works = takes_version 2; kept = tt })
  | in-Blank+else-version-eq1+else-version-eq2 w ↦ rw (w.in-Blank.is, w.result-is) (inl (refl, λ h. neither _ w.if-version-eq1.false w.if-version-eq2.false h.1))
  | in-Versioned w ↦ rw (w.in-Versioned.is, w.result-is) (inl (refl, λ h. let late = h.0 in cc))
  | in-Built w ↦ rw (w.in-Built.is, w.result-is) (inl (refl, version_first w.in-Built.field-0 c.args.version))
]
