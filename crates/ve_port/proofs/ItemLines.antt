-- Texts that have a line for each item, as a loop writes them.
use Rattle.std.specs.Prelude.{◌≡◌, ℕ, ◌+◌, ◌<◌, ◌≤◌, List, [], ◌∷◌, length, map, refl}
use Rattle.std.specs.List.{flat_map}
use Rattle.std.proofs.Common.{sym, subst, ◌∙◌, append_assoc, take, get_or}
use Rattle.std.proofs.lemmas.List.{get_or_default}
use Rattle.ve_formats.specs.Lines.{text_of_lines, line_text}
use Rattle.ve_port.specs.declared.fault.OutFault.{OutFault}
use Rattle.ve_port.specs.Sink.{Output, Gains}
use Rattle.ve_port.specs.Writing.{Stops, Gains-item, Gains-items, Stops-item}

text_of_items : {T : Type 0} (line : T → List ℕ) (items : List T) → text_of_lines (map line items) ≡ flat_map (λ item. line_text (line item)) items
unfolding text_of_lines
text_of_items line [] = refl
text_of_items line (item ∷ items) = rw (text_of_items line items) (sym (append_assoc (line item) (10 ∷ []) (flat_map (λ item. line_text (line item)) items)))

-- the text of the lines of the first `at` items
abbrev pub text_before : {T : Type 0} → (T → List ℕ) → List T → ℕ → List ℕ
text_before line items at = flat_map (λ item. line_text (line item)) (take at items)

pub Gains-line : {T : Type 0} (line : T → List ℕ) (items : List T) (at : ℕ) (item d : T) {old mid new : Output} → at < length items → item ≡ get_or items at d
    → Gains old mid (text_before line items at) → Gains mid new (line_text (line item)) → Gains old new (text_before line items (at + 1))
Gains-line line items at item d inside is before here =
    Gains-item (λ x. line_text (line x)) items at item inside (is ∙ get_or_default items at d item inside) before here

pub Gains-each : {T : Type 0} (line : T → List ℕ) (items : List T) (at : ℕ) {old new : Output} → length items ≤ at → Gains old new (text_before line items at)
    → Gains old new (text_of_lines (map line items))
Gains-each line items at {old} {new} outside gains =
    subst (λ text. Gains old new text) (sym (text_of_items line items)) (Gains-items (λ x. line_text (line x)) items at outside gains)

pub Stops-each : {T : Type 0} (line : T → List ℕ) (items : List T) (at : ℕ) (item d : T) {old mid new : Output} {fault : OutFault} → at < length items → item ≡ get_or items at d
    → Gains old mid (text_before line items at) → Stops mid new (line_text (line item)) fault → Stops old new (text_of_lines (map line items)) fault
Stops-each line items at item d {old} {mid} {new} {fault} inside is before stop =
    subst (λ text. Stops old new text fault) (sym (text_of_items line items))
    (Stops-item (λ x. line_text (line x)) items at item inside (is ∙ get_or_default items at d item inside) before stop)
