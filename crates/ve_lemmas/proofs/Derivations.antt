-- What is derived within a level.
use Rattle.std.proofs.Common.{ℕ, [], ◌∷◌, ◌++◌, All}
use Rattle.std.proofs.lemmas.List.Elements.{All-head, All-tail}
use Rattle.ve_theory.specs.Combinations.{Combination, scaled, extended}
use Rattle.ve_theory.specs.Elements.{Element}
use Rattle.ve_theory.specs.Presentations.{Presentation}
use Rattle.ve_theory.specs.Derivations.{DerivedWithin}
use Rattle.ve_theory.proofs.Sums.{SameWeights-refl, SameWeights-append, scaled-one}
use Rattle.ve_theory.proofs.DerivedElements.{DerivedWithin-alike, DerivedWithin-nothing, DerivedWithin-combined}

pub DerivedWithin-append : (P : Presentation) (k : ℕ) {u v : Element} → DerivedWithin P k u → DerivedWithin P k v → DerivedWithin P k (u ++ v)
DerivedWithin-append P k {u} {v} g h = DerivedWithin-alike P k (SameWeights-append (scaled-one P.prime u) (scaled-one P.prime v)) (DerivedWithin-combined P k 1 1 g h)

pub DerivedWithin-extended : {K : Type 0} (P : Presentation) (k : ℕ) (f : K → Element) (v : Combination K) → All (λ t. DerivedWithin P k (f t.0)) v → DerivedWithin P k (extended f v)
unfolding extended
DerivedWithin-extended P k f [] all = DerivedWithin-nothing P k
DerivedWithin-extended {K} P k f (t ∷ v) all =
    DerivedWithin-alike P k (SameWeights-append (SameWeights-refl P.prime (scaled t.1 (f t.0))) (scaled-one P.prime (extended f v)))
    (DerivedWithin-combined P k t.1 1 (All-head (λ (s : K × ℕ). DerivedWithin P k (f s.0)) t v all) (DerivedWithin-extended P k f v (All-tail (λ (s : K × ℕ). DerivedWithin P k (f s.0)) t v all)))
