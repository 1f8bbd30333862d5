-- Lines that fill the same place, one after another.
use Rattle.std.proofs.Common.{◌≡◌, ℕ, suc, ◌-◌, ◌+◌, ◌<◌, ◌≤◌, List, [], ◌∷◌, ◌++◌, arith, sym, ap, subst}
use Rattle.std.specs.Prelude.{replicate}
use Rattle.ve_formats.specs.AnswerReading.{Draft, Place, Fills, opened}
use Rattle.ve_answers.specs.declared.lines.Lines.{Lines}
use Rattle.ve_answers.specs.declared.refusal.AnswerRefusal.{AnswerRefusal}
use Rattle.ve_answers.specs.Steps.{TakesLine, RefusesNext, Leads, Refuses}
use Rattle.ve_answers.proofs.Steps.{line_leads, leads_then, nothing_leads, next_refused}

-- as many places as are left behind the first
left_after : (place : Place) (count at : ℕ) → at < count → replicate (count - at) place ≡ place ∷ replicate (count - (at + 1)) place
left_after place count at less = let more : count - at ≡ suc (count - (at + 1)) = omega (arith, less) in ap (λ n. replicate n place) more

-- what the lines of the first places lead to
abbrev pub LeadsOver : Place → ℕ → List Place → Draft → Lines → ℕ → Draft → Lines → Type 0
LeadsOver place count left start old at draft now = Leads start (replicate count place ++ left) old draft (replicate (count - at) place ++ left) now

module _ (place : Place) (count : ℕ) (left : List Place) (start : Draft) (old : Lines) where
  pub first_line : LeadsOver place count left start old 0 start old
  first_line = let all : count ≡ count - 0 = omega arith in subst (λ n. Leads start (replicate count place ++ left) old start (replicate n place ++ left) old) all (nothing_leads start (replicate count place ++ left) old)

  pub all_lines : (at : ℕ) (last : Draft) (new : Lines) → count ≤ at → LeadsOver place count left start old at last new → Leads start (replicate count place ++ left) old last left new
  all_lines at last new over leads = let none : count - at ≡ 0 = omega (arith, over) in subst (λ n. Leads start (replicate count place ++ left) old last (replicate n place ++ left) new) none leads

  module _ (at : ℕ) (before : Draft) (mid : Lines) (less : at < count) (leads : LeadsOver place count left start old at before mid) where
    pub line_more : (after : Draft) (new : Lines) (line : List ℕ) → opened place after ≡ [] → TakesLine mid line new → Fills before place line after → LeadsOver place count left start old (at + 1) after new
    line_more after new line opens takes fills =
        leads_then leads
        (subst (λ ps. Leads before (ps ++ left) mid after (replicate (count - (at + 1)) place ++ left) new) (sym (left_after place count at less))
        (subst (λ ps. Leads before (place ∷ (replicate (count - (at + 1)) place ++ left)) mid after (ps ++ (replicate (count - (at + 1)) place ++ left)) new) opens
        (line_leads takes fills)))

    pub line_refused : {Among : List ℕ → Type 0} (refusal : AnswerRefusal) → RefusesNext mid Among refusal → ((next : Draft) (line : List ℕ) → Fills before place line next → Among line)
        → Refuses start (replicate count place ++ left) old refusal
    line_refused refusal refuses among =
        leads.failed refusal
        (subst (λ ps. Refuses before (ps ++ left) mid refusal) (sym (left_after place count at less))
        (next_refused (replicate (count - (at + 1)) place ++ left) refuses among))
