-- Keys are equal where they are the same.
use Rattle.std.proofs.Common.{◌≡◌, Bool, true, ◌&&◌, refl, sym, ap, ◌∙◌, true≢false, eq-eqb, eqb-true}
use Rattle.std.proofs.Math.Dec.{eqb}
use Rattle.std.proofs.lemmas.Bool.{and_parts}
use Rattle.ve_core.specs.declared.done.Key.{Key}
use Rattle.ve_core.specs.declared.done.Key.TheVariants.{Image, Relator, Sub}
use Rattle.ve_core.specs.contracts.done.KeyPartialEq.TheImpl as equality

abbrev pub key_eq : Key → Key → Bool
key_eq = (equality.ghosts).eq

pub same_key : (x y : Key) → key_eq x y ≡ true → x ≡ y
same_key (Relator a b) (Relator c d) is = let parts = and_parts (eqb a c) (eqb b d) is in λ i. Relator (eqb-true a c parts.0 i) (eqb-true b d parts.1 i)
same_key (Relator a b) (Sub d) is = absurd (true≢false (sym is))
same_key (Relator a b) (Image c d) is = absurd (true≢false (sym is))
same_key (Sub b) (Relator c d) is = absurd (true≢false (sym is))
same_key (Sub b) (Sub d) is = λ i. Sub (eqb-true b d is i)
same_key (Sub b) (Image c d) is = absurd (true≢false (sym is))
same_key (Image a b) (Relator c d) is = absurd (true≢false (sym is))
same_key (Image a b) (Sub d) is = absurd (true≢false (sym is))
same_key (Image a b) (Image c d) is = let parts = and_parts (eqb a c) (eqb b d) is in λ i. Image (eqb-true a c parts.0 i) (eqb-true b d parts.1 i)

pub own_key : (x : Key) → key_eq x x ≡ true
own_key (Relator a b) = ap (λ t. t && eqb b b) (eq-eqb a a refl) ∙ eq-eqb b b refl
own_key (Sub b) = eq-eqb b b refl
own_key (Image a b) = ap (λ t. t && eqb b b) (eq-eqb a a refl) ∙ eq-eqb b b refl
