-- Lines of a word and a number, and the line `balance`.
use Rattle.std.specs.Prelude.{◌≡◌, ℕ, List, [], ◌∷◌, codes, cond, true, false, Ok}
use Rattle.std.proofs.Common.{ap, sym, subst}
use Rattle.ve_theory.specs.Presentations.{Presentation}
use Rattle.ve_formats.specs.Lines.{text_of_lines}
use Rattle.ve_formats.specs.CanonicalText.{balance_line}
use Rattle.ve_port.specs.declared.fault.OutFault.{OutFault}
use Rattle.ve_port.specs.Sink.{Output, Gains, Gains-nil}
use Rattle.ve_port.specs.Writing.{Stops, Writes, Writes-gained}
use Rattle.ve_show.specs.Parts.{numbered_line}

-- the number stands under another name

pub Gains-number : (word : List ℕ) {old new : Output} {number same : ℕ} → number ≡ same → Gains old new (numbered_line word number) → Gains old new (numbered_line word same)
Gains-number word {old} {new} is gains = subst (λ n. Gains old new (numbered_line word n)) is gains

pub Stops-number : (word : List ℕ) {old new : Output} {number same : ℕ} {fault : OutFault} → number ≡ same → Stops old new (numbered_line word number) fault → Stops old new (numbered_line word same) fault
Stops-number word {old} {new} {fault} is stop = subst (λ n. Stops old new (numbered_line word n) fault) is stop

pub balance_text : (P : Presentation) → P.is_balanced ≡ true → text_of_lines (balance_line P) ≡ codes "balance\n"
unfolding text_of_lines
balance_text P is = ap (λ b. text_of_lines (cond b (codes "balance" ∷ []) [])) is

no_balance_text : (P : Presentation) → P.is_balanced ≡ false → text_of_lines (balance_line P) ≡ []
unfolding text_of_lines
no_balance_text P is = ap (λ b. text_of_lines (cond b (codes "balance" ∷ []) [])) is

pub Writes-no_balance : (P : Presentation) {A : Type 0} (x : A) (out : Output) → P.is_balanced ≡ false → Writes out out (text_of_lines (balance_line P)) (Ok x)
Writes-no_balance P x out is = Writes-gained x (subst (λ text. Gains out out text) (sym (no_balance_text P is)) (Gains-nil out))

pub ruleset balance_texts = (balance_text)
