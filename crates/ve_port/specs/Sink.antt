-- What contracts see of a sink.
use Rattle.std.specs.Prelude.{◌≡◌, ℕ, List, [], ◌++◌, Option, Some, None}
use Rattle.std.specs.Io.KnownBytes.{append_known}
use Rattle.std.proofs.Common.{refl, sym, ap, ◌∙◌, append_assoc, append-nil}
use Rattle.ve_port.specs.Count.{Count, HasRisen}

-- the bytes that are written, where the sink tells them, and the count of its faults
pub record Output : Type 0 where
  pub written : Option (List ℕ)
  pub count : Count

-- the sink gained the whole text, without a fault
pub record Gains (old new : Output) (text : List ℕ) : Type 0 where
  pub written : new.written ≡ append_known old.written text
  pub count : new.count ≡ old.count

-- the sink gained a part of the text, from its front
pub record GainsPrefix (old new : Output) (text : List ℕ) : Type 0 where
  pub part : List ℕ
  pub rest : List ℕ
  pub is_prefix : text ≡ part ++ rest
  pub written : new.written ≡ append_known old.written part

-- the sink gained a part of the text at most, by a fault
pub record Breaks (old new : Output) (text : List ℕ) : Type 0 where
  pub prefix : GainsPrefix old new text
  pub count : HasRisen old.count new.count

append_known-nil : (known : Option (List ℕ)) → append_known known [] ≡ known
append_known-nil None = refl
append_known-nil (Some xs) = ap Some (append-nil xs)

append_known-append : (known : Option (List ℕ)) (a b : List ℕ) → append_known (append_known known a) b ≡ append_known known (a ++ b)
append_known-append None a b = refl
append_known-append (Some xs) a b = ap Some (append_assoc xs a b)

-- a sink that is left alone gains the empty text
pub Gains-nil : (out : Output) → Gains out out []
Gains-nil out = record { written = sym (append_known-nil out.written); count = refl }

-- one text after another
pub Gains-append : {old mid new : Output} {a b : List ℕ} → Gains old mid a → Gains mid new b → Gains old new (a ++ b)
Gains-append {old} {mid} {new} {a} {b} first second = record {
  written = second.written ∙ ap (λ known. append_known known b) first.written ∙ append_known-append old.written a b;
  count = second.count ∙ first.count;
}

-- a sink that is left alone has the front of each text
pub GainsPrefix-nil : (out : Output) (text : List ℕ) → GainsPrefix out out text
GainsPrefix-nil out text = record { part = []; rest = text; is_prefix = refl; written = (Gains-nil out).written }

-- the whole text is a part of it
pub GainsPrefix-whole : {old new : Output} {text : List ℕ} → Gains old new text → GainsPrefix old new text
GainsPrefix-whole {text} gains = record { part = text; rest = []; is_prefix = sym (append-nil text); written = gains.written }

-- a part of a text is a part of each longer one
pub GainsPrefix-longer : {old new : Output} {text : List ℕ} → GainsPrefix old new text → (more : List ℕ) → GainsPrefix old new (text ++ more)
GainsPrefix-longer {old} {new} {text} gains more = record {
  part = gains.part;
  rest = gains.rest ++ more;
  is_prefix = ap (λ xs. xs ++ more) gains.is_prefix ∙ append_assoc gains.part gains.rest more;
  written = gains.written;
}

-- a text, and then a part of another
pub GainsPrefix-after : {old mid new : Output} {a b : List ℕ} → Gains old mid a → GainsPrefix mid new b → GainsPrefix old new (a ++ b)
GainsPrefix-after {old} {mid} {new} {a} {b} before gains = record {
  part = a ++ gains.part;
  rest = gains.rest;
  is_prefix = ap (λ xs. a ++ xs) gains.is_prefix ∙ sym (append_assoc a gains.part gains.rest);
  written = gains.written ∙ ap (λ known. append_known known gains.part) before.written ∙ append_known-append old.written a gains.part;
}
