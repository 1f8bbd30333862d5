-- What a call that writes a text leaves of its sink, and how the writings of the text's parts make one.
-- A text is written by puts of its lines, and a put answers `Failed`, which `?` makes the fault `Sink`.
use Rattle.std.specs.Prelude.{◌≡◌, ℕ, ◌+◌, ◌<◌, ◌≤◌, List, ◌++◌, length, take, drop, get_or, Result, Ok, Err, OnOk, IfErr, IsErrAnd}
use Rattle.std.specs.List.{flat_map}
use Rattle.std.proofs.Common.{[], ◌∷◌, refl, sym, ap, subst, ◌∙◌, append-nil}
use Rattle.std.proofs.lemmas.List.{take_all, take_more, take-append-drop}
use Rattle.std.proofs.lemmas.Grind.{flat_map-append}
use Rattle.ve_port.specs.declared.fault.OutFault.{OutFault}
use Rattle.ve_port.specs.declared.fault.OutFault.TheVariants.{Sink, Memory}
use Rattle.ve_port.specs.Count.{HasRisen}
use Rattle.ve_port.specs.Sink.{Output, Gains, GainsPrefix, Breaks, Gains-append, GainsPrefix-nil, GainsPrefix-longer, GainsPrefix-after}

-- the writing of the text stopped at a fault, which is the sink's only where the sink's count rose
pub record Stops (old new : Output) (text : List ℕ) (fault : OutFault) : Type 0 where
  pub prefix : GainsPrefix old new text
  pub sink : fault ≡ Sink → HasRisen old.count new.count
  pub memory : fault ≡ Memory → new.count ≡ old.count

-- the call wrote the whole text, or it stopped
pub record Writes {A : Type 0} (old new : Output) (text : List ℕ) (r : Result A OutFault) : Type 0 where
  pub gained : OnOk r (Gains old new text)
  pub stopped : IfErr r (λ fault. Stops old new text fault)

-- ---- where a writing stops

-- in a put of the whole text
pub Stops-put : {old new : Output} {text : List ℕ} → Breaks old new text → Stops old new text Sink
Stops-put breaks = record { prefix = breaks.prefix; sink = λ _. breaks.count; memory = λ differ. cc }

-- by want of memory, before the first byte
pub Stops-memory : (out : Output) (text : List ℕ) → Stops out out text Memory
Stops-memory out text = record { prefix = GainsPrefix-nil out text; sink = λ differ. cc; memory = λ _. refl }

-- in the first part of the text
pub Stops-longer : {old new : Output} {text : List ℕ} {fault : OutFault} → Stops old new text fault → (more : List ℕ) → Stops old new (text ++ more) fault
Stops-longer stop more = record { prefix = GainsPrefix-longer stop.prefix more; sink = stop.sink; memory = stop.memory }

-- in a later part, after the first is written
pub Stops-after : {old mid new : Output} {a b : List ℕ} {fault : OutFault} → Gains old mid a → Stops mid new b fault → Stops old new (a ++ b) fault
Stops-after {old} {mid} {new} {a} {b} {fault} before stop = record {
  prefix = GainsPrefix-after before stop.prefix;
  sink = λ is. subst (λ count. HasRisen count new.count) before.count (stop.sink is);
  memory = λ is. stop.memory is ∙ before.count;
}

-- ---- what a call answers

-- the whole text is written
pub Writes-gained : {A : Type 0} {old new : Output} {text : List ℕ} (x : A) → Gains old new text → Writes old new text (Ok x)
Writes-gained x gains = record { gained = gains; stopped = tt }

-- the call hands on the fault at which the writing stopped
pub Writes-stopped : {A : Type 0} {old new : Output} {text : List ℕ} {fault : OutFault} {r : Result A OutFault} → IsErrAnd r (λ e. e ≡ fault) → Stops old new text fault → Writes old new text r
Writes-stopped {r = Ok x} same stop = absurd same
Writes-stopped {old} {new} {text} {r = Err e} same stop = record { gained = tt; stopped = subst (λ f. Stops old new text f) (sym same) stop }

-- the call ends with the call that writes the last part, and hands on its answer
pub Writes-after : {A : Type 0} {old mid new : Output} {a b : List ℕ} {r : Result A OutFault} → Gains old mid a → Writes mid new b r → Writes old new (a ++ b) r
Writes-after {r = Ok x} before writes = Writes-gained x (Gains-append before writes.gained)
Writes-after {r = Err fault} before writes = record { gained = tt; stopped = Stops-after before writes.stopped }

-- ---- a loop over items, which writes what f makes of each

flat_map-take_next : {X : Type 0} (f : X → List ℕ) (items : List X) (at : ℕ) (item : X) → at < length items → item ≡ get_or items at item → flat_map f (take (at + 1) items) ≡ flat_map f (take at items) ++ f item
flat_map-take_next f items at item inside is =
    ap (flat_map f) (take_more items at item inside ∙ ap (λ x. take at items ++ x ∷ []) (sym is))
    ∙ flat_map-append f (take at items) (item ∷ []) ∙ ap (λ xs. flat_map f (take at items) ++ xs) (append-nil (f item))

-- the next item is written
pub Gains-item : {X : Type 0} (f : X → List ℕ) (items : List X) (at : ℕ) (item : X) {old mid new : Output} → at < length items → item ≡ get_or items at item → Gains old mid (flat_map f (take at items)) → Gains mid new (f item) → Gains old new (flat_map f (take (at + 1) items))
Gains-item f items at item {old} {mid} {new} inside is before here =
    subst (λ xs. Gains old new xs) (sym (flat_map-take_next f items at item inside is)) (Gains-append before here)

-- each item is written
pub Gains-items : {X : Type 0} (f : X → List ℕ) (items : List X) (at : ℕ) {old new : Output} → length items ≤ at → Gains old new (flat_map f (take at items)) → Gains old new (flat_map f items)
Gains-items f items at {old} {new} outside gains = subst (λ xs. Gains old new (flat_map f xs)) (take_all at items outside) gains

-- the writing stops in an item
pub Stops-item : {X : Type 0} (f : X → List ℕ) (items : List X) (at : ℕ) (item : X) {old mid new : Output} {fault : OutFault} → at < length items → item ≡ get_or items at item → Gains old mid (flat_map f (take at items)) → Stops mid new (f item) fault → Stops old new (flat_map f items) fault
Stops-item f items at item {old} {mid} {new} {fault} inside is before stop =
    subst (λ xs. Stops old new xs fault)
    (ap (λ xs. xs ++ flat_map f (drop (at + 1) items)) (sym (flat_map-take_next f items at item inside is))
    ∙ sym (flat_map-append f (take (at + 1) items) (drop (at + 1) items)) ∙ ap (flat_map f) (take-append-drop (at + 1) items))
    (Stops-longer (Stops-after before stop) (flat_map f (drop (at + 1) items)))
