-- Texts that are written line by line.
use Rattle.std.specs.Prelude.{◌≡◌, ℕ, ◌+◌, List, [], ◌∷◌, ◌++◌, Result}
use Rattle.std.proofs.Common.{sym, subst, append_assoc}
use Rattle.ve_formats.specs.AnswerText.{numbered}
use Rattle.ve_formats.specs.Lines.{text_of_lines, line_text, text_of_lines-append, text_of_lines-one}
use Rattle.ve_port.specs.declared.fault.OutFault.{OutFault}
use Rattle.ve_port.specs.Sink.{Output, Gains}
use Rattle.ve_port.specs.Writing.{Stops, Stops-longer, Stops-after, Writes, Writes-after}

-- ---- a line, and the lines behind it

first_line : (line : List ℕ) (lines : List (List ℕ)) → line_text line ++ text_of_lines lines ≡ text_of_lines (line ∷ lines)
unfolding text_of_lines
first_line line lines = append_assoc line (10 ∷ []) (text_of_lines lines)

pub Stops-line : (line : List ℕ) (lines : List (List ℕ)) {old new : Output} {fault : OutFault} → Stops old new (line_text line) fault → Stops old new (text_of_lines (line ∷ lines)) fault
Stops-line line lines {old} {new} {fault} stop = subst (λ text. Stops old new text fault) (first_line line lines) (Stops-longer stop (text_of_lines lines))

pub Stops-behind : (line : List ℕ) (lines : List (List ℕ)) {old mid new : Output} {fault : OutFault} → Gains old mid (line_text line) → Stops mid new (text_of_lines lines) fault → Stops old new (text_of_lines (line ∷ lines)) fault
Stops-behind line lines {old} {mid} {new} {fault} before stop = subst (λ text. Stops old new text fault) (first_line line lines) (Stops-after before stop)

pub Writes-behind : (line : List ℕ) (lines : List (List ℕ)) {A : Type 0} {old mid new : Output} {r : Result A OutFault} → Gains old mid (line_text line) → Writes mid new (text_of_lines lines) r → Writes old new (text_of_lines (line ∷ lines)) r
Writes-behind line lines {A} {old} {mid} {new} {r} before writes = subst (λ text. Writes old new text r) (first_line line lines) (Writes-after before writes)

pub Writes-last : (line : List ℕ) {A : Type 0} {old new : Output} {r : Result A OutFault} → Writes old new (line_text line) r → Writes old new (text_of_lines (line ∷ [])) r
Writes-last line {A} {old} {new} {r} writes = subst (λ text. Writes old new text r) (sym (text_of_lines-one line)) writes

-- ---- some lines, and the lines behind them

pub Stops-lines : (front back : List (List ℕ)) {old new : Output} {fault : OutFault} → Stops old new (text_of_lines front) fault → Stops old new (text_of_lines (front ++ back)) fault
Stops-lines front back {old} {new} {fault} stop = subst (λ text. Stops old new text fault) (sym (text_of_lines-append front back)) (Stops-longer stop (text_of_lines back))

pub Stops-behind_lines : (front back : List (List ℕ)) {old mid new : Output} {fault : OutFault} → Gains old mid (text_of_lines front) → Stops mid new (text_of_lines back) fault → Stops old new (text_of_lines (front ++ back)) fault
Stops-behind_lines front back {old} {mid} {new} {fault} before stop = subst (λ text. Stops old new text fault) (sym (text_of_lines-append front back)) (Stops-after before stop)

pub Writes-behind_lines : (front back : List (List ℕ)) {A : Type 0} {old mid new : Output} {r : Result A OutFault} → Gains old mid (text_of_lines front) → Writes mid new (text_of_lines back) r → Writes old new (text_of_lines (front ++ back)) r
Writes-behind_lines front back {A} {old} {mid} {new} {r} before writes = subst (λ text. Writes old new text r) (sym (text_of_lines-append front back)) (Writes-after before writes)

-- ---- the number of a line stands under another name

pub Gains-number : (word : List ℕ) {number same : ℕ} {old new : Output} → number ≡ same → Gains old new (line_text (numbered word number)) → Gains old new (line_text (numbered word same))
Gains-number word {number} {same} {old} {new} is gains = subst (λ n. Gains old new (line_text (numbered word n))) is gains

pub Stops-number : (word : List ℕ) {number same : ℕ} {old new : Output} {fault : OutFault} → number ≡ same → Stops old new (line_text (numbered word number)) fault → Stops old new (line_text (numbered word same)) fault
Stops-number word {number} {same} {old} {new} {fault} is stop = subst (λ n. Stops old new (line_text (numbered word n)) fault) is stop

pub Writes-number : (word : List ℕ) {number same : ℕ} {A : Type 0} {old new : Output} {r : Result A OutFault} → number ≡ same → Writes old new (line_text (numbered word number)) r → Writes old new (line_text (numbered word same)) r
Writes-number word {number} {same} {A} {old} {new} {r} is writes = subst (λ n. Writes old new (line_text (numbered word n)) r) is writes
