-- What contracts see of a source.
use Rattle.std.specs.Prelude.{◌≡◌, ℕ, List, [], ◌++◌, Option, Some, None, IfSome}
use Rattle.std.proofs.Common.{refl, sym, ap, subst, ◌∙◌, append_assoc, append-nil}
use Rattle.std.specs.Io.KnownBytes.{prepend_known, IsAtEnd}
use Rattle.std.specs.Prelude.{Option}
use Rattle.ve_port.specs.Count.{Count, HasRisen}

-- the bytes that are left, where the source tells them, and the count of its faults
pub record Input : Type 0 where
  pub left : Option (List ℕ)
  pub count : Count

-- the source gave these bytes, which were its next ones, without a fault
pub record Gives (old new : Input) (bytes : List ℕ) : Type 0 where
  pub left : old.left ≡ prepend_known bytes new.left
  pub count : new.count ≡ old.count

-- the source gave nothing, by a fault
pub record Fails (old new : Input) : Type 0 where
  pub left : new.left ≡ old.left
  pub count : HasRisen old.count new.count

prepend_known-nil : (known : Option (List ℕ)) → prepend_known [] known ≡ known
prepend_known-nil None = refl
prepend_known-nil (Some xs) = refl

prepend_known-append : (a b : List ℕ) (known : Option (List ℕ)) → prepend_known a (prepend_known b known) ≡ prepend_known (a ++ b) known
prepend_known-append a b None = refl
prepend_known-append a b (Some xs) = ap Some (sym (append_assoc a b xs))

-- a source that is left alone gives nothing
pub Gives-nil : (source : Input) → Gives source source []
Gives-nil source = record { left = sym (prepend_known-nil source.left); count = refl }

-- one piece after another
pub Gives-append : {old mid new : Input} {a b : List ℕ} → Gives old mid a → Gives mid new b → Gives old new (a ++ b)
Gives-append {old} {mid} {new} {a} {b} first second = record {
  left = first.left ∙ ap (prepend_known a) second.left ∙ prepend_known-append a b new.left;
  count = second.count ∙ first.count;
}

-- a fault after some pieces
pub HasRisen-after : {old mid new : Input} {a : List ℕ} → Gives old mid a → Fails mid new → HasRisen old.count new.count
HasRisen-after {old} {mid} {new} {a} given fails = subst (λ count. HasRisen count new.count) given.count fails.count

-- a piece of no bytes, which the source gave where it had none left
pub Gives-end : {old new : Input} → Gives old new [] → IsAtEnd old.left → IsAtEnd new.left
Gives-end {old} {new} given at_end = subst IsAtEnd (given.left ∙ prepend_known-nil new.left) at_end

-- pieces up to the end of the input, which are all the bytes that were left
pub Gives-all : {old new : Input} {bytes : List ℕ} → Gives old new bytes → IsAtEnd new.left → IfSome old.left (λ xs. xs ≡ bytes)
Gives-all {old} {new} {bytes} given at_end = subst (λ known. IfSome known (λ xs. xs ≡ bytes)) (sym given.left) (all_known bytes new.left at_end)
  where
    all_known : (xs : List ℕ) (known : Option (List ℕ)) → IsAtEnd known → IfSome (prepend_known xs known) (λ ys. ys ≡ xs)
    all_known xs None at_end = tt
    all_known xs (Some ys) at_end = ap (λ zs. xs ++ zs) at_end ∙ append-nil xs
