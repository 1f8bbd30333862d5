-- Steps from one line to the next.
use Rattle.std.proofs.Common.{◌≡◌, ℕ, suc, ◌+◌, List, [], ◌∷◌, ◌++◌, arith, refl, sym, ap, subst, ◌∙◌}
use Rattle.ve_formats.specs.AnswerReading.{Draft, Place, Fills, FillAll, one, FailAt, misfit, too_few, too_many, later, opened}
use Rattle.ve_answers.specs.declared.lines.Lines.{Lines}
use Rattle.ve_answers.specs.declared.refusal.AnswerRefusal.{AnswerRefusal}
use Rattle.ve_answers.specs.declared.refusal.AnswerRefusal.TheVariants.{Line, Memory}
use Rattle.ve_answers.specs.Steps.{lines_left, TakesLine, RefusesNext, Refuses, Leads}

-- a line that fills its place leads on
pub line_leads : {draft next : Draft} {place : Place} {left : List Place} {old new : Lines} {line : List ℕ} → TakesLine old line new → Fills draft place line next
    → Leads draft (place ∷ left) old next (opened place next ++ left) new
line_leads {draft} {next} {place} {left} {old} {new} {line} takes fills = record {
  filled = λ last rest. subst (λ lines. FillAll draft (place ∷ left) lines last) (sym takes.lines) (one fills rest);
  failed = failed;
}
  where
    failed : (refusal : AnswerRefusal) → Refuses next (opened place next ++ left) new refusal → Refuses draft (place ∷ left) old refusal
    failed Memory h = tt
    failed (Line number) h = record {
      behind = suc h.behind;
      count = omega (arith, h.count, takes.taken);
      fails = subst (λ lines. FailAt draft (place ∷ left) lines (suc h.behind)) (sym takes.lines) (later fills h.fails);
    }

-- where the next line fills its place in h way, its number is told
pub next_refused : {draft : Draft} {place : Place} (left : List Place) {old : Lines} {Among : List ℕ → Type 0} {refusal : AnswerRefusal} → RefusesNext old Among refusal
    → ((next : Draft) (line : List ℕ) → Fills draft place line next → Among line) → Refuses draft (place ∷ left) old refusal
next_refused {draft} {place} left {old} {Among} {refusal} refuses among = subst (Refuses draft (place ∷ left) old) (sym refuses.number) (record { behind = 1; count = refl; fails = fails (lines_left old) refl })
  where
    fails : (lines : List (List ℕ)) → lines_left old ≡ lines → FailAt draft (place ∷ left) (lines_left old) 1
    fails [] is = subst (λ lines. FailAt draft (place ∷ left) lines 1) (sym is) too_few
    fails (line ∷ behind) is = subst (λ lines. FailAt draft (place ∷ left) lines 1) (sym is) (misfit (λ next fills. refuses.other line behind is (among next line fills)))

pub leads_then : {draft middle last : Draft} {places between left : List Place} {old mid new : Lines} → Leads draft places old middle between mid → Leads middle between mid last left new → Leads draft places old last left new
leads_then first second = record {
  filled = λ last rest. first.filled last (second.filled last rest);
  failed = λ refusal h. first.failed refusal (second.failed refusal h);
}

-- a line behind the last place
pub behind_refused : (old : Lines) (line : List ℕ) (behind : List (List ℕ)) → lines_left old ≡ line ∷ behind → (draft : Draft) → Refuses draft [] old (Line (old.taken + 1))
behind_refused old line behind is draft = record { behind = 1; count = refl; fails = subst (λ lines. FailAt draft [] lines 1) (sym is) too_many }

-- nothing was taken
pub nothing_leads : (draft : Draft) (places : List Place) (lines : Lines) → Leads draft places lines draft places lines
nothing_leads draft places lines = record { filled = λ last rest. rest; failed = λ refusal h. h }

-- a line that was taken, and fills its place in no way
pub taken_refused : {old new : Lines} {line : List ℕ} {refusal : AnswerRefusal} (Among : List ℕ → Type 0) → TakesLine old line new → refusal ≡ Line new.taken → (Among line → ⊥) → RefusesNext old Among refusal
taken_refused {old} {new} {line} Among takes told unfit = record {
  number = told ∙ ap Line takes.taken;
  other = λ other behind is among. let same : other ≡ line = cc (takes.lines, is) in unfit (subst Among same among);
}

-- where the text has ended, no line is among any
pub ended_refused : {old : Lines} {refusal : AnswerRefusal} (Among : List ℕ → Type 0) → lines_left old ≡ [] → refusal ≡ Line (old.taken + 1) → RefusesNext old Among refusal
ended_refused Among none told = record { number = told; other = λ line behind is among. absurd (cc (none, is)) }
