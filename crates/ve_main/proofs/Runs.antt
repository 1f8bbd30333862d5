-- A run where nothing fails ends with what is due to its text.
use Rattle.std.specs.Prelude.{◌≡◌, ℕ, ◌+◌, ◌<◌, ◌≤◌, ◌⊎◌, Bool, List, [], ◌++◌, length, drop, take, Option, Some, None, IfSome, refl, Result, Ok, Err, OnOk, OnErr, IfErr}
use Rattle.std.specs.Io.KnownBytes.{prepend_known}
use Rattle.std.proofs.Common.{ap, sym, subst, ◌∙◌, inl, inr, arith, append-nil, length-append}
use Rattle.ve_theory.specs.Presentations.{Presentation, IsPresentation}
use Rattle.ve_theory.specs.Levels.{IsFinishedAt, IsOutgrown}
use Rattle.ve_theory.specs.Laws.{ListsAreUnique}
use Rattle.ve_theory.specs.Answers.{Answer, HasShape, MeetsRelations}
use Rattle.ve_theory.specs.Verdicts.{Verdict, is_quotient, shape_differs, relator_fails, submodule_fails, basis_word_fails, IsVerdict}
use Rattle.ve_port.specs.Source.{Input, Gives}
use Rattle.ve_port.specs.Sink as Sink
use Rattle.ve_port.specs.Sink.{Gains, Breaks}
use Rattle.ve_formats.specs.Causes.{Cause}
use Rattle.ve_formats.specs.PresentationText.{Spells, IsRefusedAt}
use Rattle.ve_formats.specs.AnswerReading.{ShowsAnswer, IsNoAnswerAt}
use Rattle.ve_formats.specs.Messages.{answer_refusal_message, refusal_message}
use Rattle.ve_read.specs.Cutting.{IsSplitAt}
use Rattle.ve_words.specs.declared.command.Command.{Command}
use Rattle.ve_words.specs.declared.command.Command.TheVariants.{Alone, Shared, Show, Check, Make}
use Rattle.ve_words.specs.declared.fault.WordsFault.{WordsFault}
use Rattle.ve_words.specs.declared.fault.WordsFault.TheVariants.{Refused as Unmeant, Memory as Wanted}
use Rattle.ve_words.specs.Meaning.{Means, WordsMeanOnce}
use Rattle.std.proofs.lemmas.Result.{IfErr-weaker}
use Rattle.ve_main.specs.declared.stop.Stop.{Stop}
use Rattle.ve_main.specs.declared.stop.Stop.TheVariants.{Words, TooLong, Refused, NoPresentation, Input as Source, Output, Memory}
use Rattle.ve_main.specs.Commands.{IsReading, HasLimit, IsShowing, IsChecking, CanMake, CannotMake, Enumerates, Shows}
use Rattle.ve_main.specs.Stops.{status_of, message_of, stop_of_words}
use Rattle.ve_main.specs.Refusals.{IsRefused}
use Rattle.ve_main.specs.Claims.{IsClaim, IsCut, IsNoClaim, no_presentation, no_answer, Judges, verdict_status}
use Rattle.ve_main.specs.Ending.{most_input, TakesAll, TakesTooMany, TakesClaim, TakesPresentation, TakesFew, Refuses, StopsTakingText, StopsWriting, Streams, Calls, Performs, Finishes, Because, BecauseOf, IsDue, too_long, refused, finished, outgrown, shown, checked, made, not_made, IsServed, Tells}
use Rattle.ve_main.proofs.Endings.{never_both}
use Rattle.ve_main.proofs.Reading.{few_all}

-- ---- the input

-- where a source tells its bytes, those that it gave are their front
told_rest : (old new : Input) (bytes text : List ℕ) → Gives old new bytes → old.left ≡ Some text → (left : Option (List ℕ)) → new.left ≡ left
    → (rest : List ℕ) × (new.left ≡ Some rest) × (text ≡ bytes ++ rest)
told_rest old new bytes text gives told None is = let e : Some text ≡ None = sym told ∙ gives.left ∙ ap (prepend_known bytes) is in cc
told_rest old new bytes text gives told (Some rest) is =
    let e : Some text ≡ Some (bytes ++ rest) = sym told ∙ gives.left ∙ ap (prepend_known bytes) is in (rest, is, cc)

-- all of them, where the whole input was taken
told_bytes : (old new : Input) (bytes text : List ℕ) → TakesAll old new bytes → old.left ≡ Some text → bytes ≡ text
told_bytes old new bytes text takes told =
    let split = told_rest old new bytes text takes.gives told new.left refl in
    let none : split.0 ≡ [] = subst (λ left. IfSome left (λ xs. xs ≡ [])) split.1 takes.ends in
    sym (split.2 ∙ ap (λ rest. bytes ++ rest) none ∙ append-nil bytes)

short_enough : (old new : Input) (bytes text : List ℕ) → TakesAll old new bytes → old.left ≡ Some text → length text ≤ most_input
short_enough old new bytes text takes told = subst (λ t. length t ≤ most_input) (told_bytes old new bytes text takes told) takes.short

too_many : (old new : Input) (text : List ℕ) → TakesTooMany old new → old.left ≡ Some text → most_input < length text
too_many old new text takes told =
    let split = told_rest old new takes.bytes text takes.gives told new.left refl in
    let lengths : length text ≡ length takes.bytes + length split.0 = ap length split.2 ∙ length-append takes.bytes split.0 in
    let long = takes.long in
    omega arith

-- ---- what is due

-- A text has one reading: it spells one presentation, which is valid, or is refused at one line for one cause. It is cut at one
-- place, and shows one answer, or is refused at one line. And lists are unique.
pub record IsReadOnce : Type 0 where
  pub same_presentation : (text : List ℕ) (P Q : Presentation) → Spells text P → Spells text Q → P ≡ Q
  pub same_refusal : (text : List ℕ) (line other : ℕ) (cause why : Cause) → IsRefusedAt text line cause → IsRefusedAt text other why → (line ≡ other) × (cause ≡ why)
  pub never_both_readings : (text : List ℕ) (P : Presentation) (line : ℕ) (cause : Cause) → Spells text P → IsRefusedAt text line cause → ⊥
  pub valid : (text : List ℕ) (P : Presentation) → Spells text P → IsPresentation P
  pub same_place : (text : List ℕ) (at other : ℕ) → at ≤ length text → other ≤ length text → IsSplitAt text at → IsSplitAt text other → at ≡ other
  pub same_answer : (text : List ℕ) (A B : Answer) → ShowsAnswer text A → ShowsAnswer text B → A ≡ B
  pub same_line : (text : List ℕ) (line other : ℕ) → IsNoAnswerAt text line → IsNoAnswerAt text other → line ≡ other
  pub never_both_answers : (text : List ℕ) (A : Answer) (line : ℕ) → ShowsAnswer text A → IsNoAnswerAt text line → ⊥
  pub lists : ListsAreUnique
  pub words : WordsMeanOnce

abbrev IsStatus : ℕ → List ℕ → ℕ → List ℕ → Type 0
IsStatus status said due message = ((status ≡ due) × (said ≡ message)) ⊎ (status ≡ 6)

-- what a command refuses it reads; one that enumerates reads, and one that reads doesn't make
refuses_reads : (command : Command) (text message : List ℕ) → Refuses command text message → IsReading command
refuses_reads (Alone bound summary) text message r = tt
refuses_reads (Shared workers bound summary) text message r = tt
refuses_reads Show text message r = tt
refuses_reads Check text message r = tt
refuses_reads (Make points node prime) text message r = absurd r

limit_reads : (command : Command) (limit : ℕ) → HasLimit command limit → IsReading command
limit_reads (Alone bound summary) limit h = tt
limit_reads (Shared workers bound summary) limit h = tt
limit_reads Show limit h = absurd h
limit_reads Check limit h = absurd h
limit_reads (Make points node prime) limit h = absurd h

limit_never_shows : (command : Command) (limit : ℕ) → HasLimit command limit → IsShowing command → ⊥
limit_never_shows (Alone bound summary) limit h s = s
limit_never_shows (Shared workers bound summary) limit h s = s
limit_never_shows Show limit h s = h
limit_never_shows Check limit h s = h
limit_never_shows (Make points node prime) limit h s = h

shows_reads : (command : Command) → IsShowing command → IsReading command
shows_reads (Alone bound summary) h = absurd h
shows_reads (Shared workers bound summary) h = absurd h
shows_reads Show h = tt
shows_reads Check h = absurd h
shows_reads (Make points node prime) h = absurd h

checks_reads : (command : Command) → IsChecking command → IsReading command
checks_reads (Alone bound summary) h = absurd h
checks_reads (Shared workers bound summary) h = absurd h
checks_reads Show h = absurd h
checks_reads Check h = tt
checks_reads (Make points node prime) h = absurd h

limit_never_checks : (command : Command) (limit : ℕ) → HasLimit command limit → IsChecking command → ⊥
limit_never_checks (Alone bound summary) limit h s = s
limit_never_checks (Shared workers bound summary) limit h s = s
limit_never_checks Show limit h s = h
limit_never_checks Check limit h s = h
limit_never_checks (Make points node prime) limit h s = h

shows_never_checks : (command : Command) → IsShowing command → IsChecking command → ⊥
shows_never_checks (Alone limit summary) r m = m
shows_never_checks (Shared workers limit summary) r m = m
shows_never_checks Show r m = m
shows_never_checks Check r m = r
shows_never_checks (Make points node prime) r m = m

-- what a command refuses that enumerates, shows or checks
refused_limit : (command : Command) (limit : ℕ) → HasLimit command limit → (text message : List ℕ) → Refuses command text message → IsRefused text message
refused_limit (Alone bound summary) limit h text message r = r
refused_limit (Shared workers bound summary) limit h text message r = r
refused_limit Show limit h text message r = absurd h
refused_limit Check limit h text message r = absurd h
refused_limit (Make points node prime) limit h text message r = absurd h

refused_show : (command : Command) → IsShowing command → (text message : List ℕ) → Refuses command text message → IsRefused text message
refused_show (Alone bound summary) h text message r = absurd h
refused_show (Shared workers bound summary) h text message r = absurd h
refused_show Show h text message r = r
refused_show Check h text message r = absurd h
refused_show (Make points node prime) h text message r = absurd h

refused_check : (command : Command) → IsChecking command → (text message : List ℕ) → Refuses command text message → IsNoClaim text message
refused_check (Alone bound summary) h text message r = absurd h
refused_check (Shared workers bound summary) h text message r = absurd h
refused_check Show h text message r = absurd h
refused_check Check h text message r = r
refused_check (Make points node prime) h text message r = absurd h

reads_never_makes : (command : Command) → IsReading command → CanMake command → ⊥
reads_never_makes (Alone limit summary) r m = m
reads_never_makes (Shared workers limit summary) r m = m
reads_never_makes Show r m = m
reads_never_makes Check r m = m
reads_never_makes (Make points node prime) r m = r

reads_never_cannot : (command : Command) → IsReading command → CannotMake command → ⊥
reads_never_cannot (Alone limit summary) r m = m
reads_never_cannot (Shared workers limit summary) r m = m
reads_never_cannot Show r m = m
reads_never_cannot Check r m = m
reads_never_cannot (Make points node prime) r m = r

made_or_not : (command : Command) → CanMake command → CannotMake command → ⊥
made_or_not (Alone limit summary) m n = m
made_or_not (Shared workers limit summary) m n = m
made_or_not Show m n = m
made_or_not Check m n = m
made_or_not (Make points node prime) m n = n m

same_limit : (command : Command) (limit bound : ℕ) → HasLimit command limit → HasLimit command bound → limit ≡ bound
same_limit (Alone l summary) limit bound h k = h ∙ sym k
same_limit (Shared workers l summary) limit bound h k = h ∙ sym k
same_limit Show limit bound h k = absurd h
same_limit Check limit bound h k = absurd h
same_limit (Make points node prime) limit bound h k = absurd h

-- ---- one reading alone

module _ (once : IsReadOnce) (text : List ℕ) where
  same_cut : {at other : ℕ} → IsCut text at → IsCut text other → at ≡ other
  same_cut {at} {other} cut also = once.same_place text at other cut.within also.within cut.split also.split

  spells_or_refused : (P : Presentation) (front message : List ℕ) → Spells front P → IsRefused front message → ⊥
  spells_or_refused P front message spells r = once.never_both_readings front P r.line r.cause spells r.refused

  same_message : (front message said : List ℕ) → IsRefused front message → IsRefused front said → message ≡ said
  same_message front message said r q =
      let same = once.same_refusal front r.line q.line r.cause q.cause r.refused q.refused in
      r.told ∙ ap (λ l. refusal_message l r.cause) same.0 ∙ ap (refusal_message q.line) same.1 ∙ sym q.told

  claim_or_none : (P : Presentation) (A : Answer) (message : List ℕ) → IsClaim text P A → IsNoClaim text message → ⊥
  claim_or_none P A message claim (no_presentation {at} cut r) =
      spells_or_refused P (take claim.at text) message claim.spells (subst (λ n. IsRefused (take n text) message) (same_cut cut claim.cut) r)
  claim_or_none P A message claim (no_answer {at} {P = Q} cut spells none) =
      once.never_both_answers (drop claim.at text) A none.line claim.shows (subst (λ n. IsNoAnswerAt (drop n text) none.line) (same_cut cut claim.cut) none.refused)

  same_no_claim : (message said : List ℕ) → IsNoClaim text message → IsNoClaim text said → message ≡ said
  same_no_claim message said (no_presentation {at} cut r) (no_presentation {at = other} also q) =
      same_message (take other text) message said (subst (λ n. IsRefused (take n text) message) (same_cut cut also) r) q
  same_no_claim message said (no_presentation {at} cut r) (no_answer {at = other} {P} also spells none) =
      absurd (spells_or_refused P (take other text) message spells (subst (λ n. IsRefused (take n text) message) (same_cut cut also) r))
  same_no_claim message said (no_answer {at} {P} cut spells none) (no_presentation {at = other} also q) =
      absurd (spells_or_refused P (take at text) said spells (subst (λ n. IsRefused (take n text) said) (same_cut also cut) q))
  same_no_claim message said (no_answer {at} cut spells none) (no_answer {at = other} also reads nothing) =
      let line = once.same_line (drop other text) none.line nothing.line (subst (λ n. IsNoAnswerAt (drop n text) none.line) (same_cut cut also) none.refused) nothing.refused in
      none.told ∙ ap answer_refusal_message line ∙ sym nothing.told

  same_refusals : (command : Command) (message said : List ℕ) → Refuses command text message → Refuses command text said → message ≡ said
  same_refusals (Alone bound summary) message said r q = same_message text message said r q
  same_refusals (Shared workers bound summary) message said r q = same_message text message said r q
  same_refusals Show message said r q = same_message text message said r q
  same_refusals Check message said r q = same_no_claim message said r q
  same_refusals (Make points node prime) message said r q = absurd r

-- ---- one verdict alone

yes_or_seven : (verdict : Verdict) → (verdict ≡ is_quotient) ⊎ (verdict_status verdict ≡ 7)
yes_or_seven is_quotient = inl refl
yes_or_seven shape_differs = inr refl
yes_or_seven (relator_fails number row) = inr refl
yes_or_seven (submodule_fails number) = inr refl
yes_or_seven (basis_word_fails row) = inr refl

-- a quotient has no failure
yes_alone : (P : Presentation) (A : Answer) (verdict : Verdict) → HasShape P A → MeetsRelations P A.action → IsVerdict P A verdict → verdict_status verdict ≡ 0
unfolding IsVerdict
yes_alone P A is_quotient shape meets h = refl
yes_alone P A shape_differs shape meets h = absurd (h shape)
yes_alone P A (relator_fails number row) shape meets h = absurd (h.fails (meets.relators number row h.exists.0 h.exists.1))
yes_alone P A (submodule_fails number) shape meets h = absurd (h.fails (meets.submodule number h.exists))
yes_alone P A (basis_word_fails row) shape meets h = absurd (h.fails (meets.own_rows row h.exists))

yes_parts : (P : Presentation) (A : Answer) (verdict : Verdict) → verdict ≡ is_quotient → IsVerdict P A verdict → HasShape P A × MeetsRelations P A.action
unfolding IsVerdict
yes_parts P A verdict is h = subst (IsVerdict P A) is h

same_status : (P : Presentation) (A : Answer) (verdict other : Verdict) → IsVerdict P A verdict → IsVerdict P A other → verdict_status verdict ≡ verdict_status other
same_status P A verdict other h k =
    elim (yes_or_seven verdict) [
      | inl is ↦ let parts = yes_parts P A verdict is h in ap verdict_status is ∙ sym (yes_alone P A other parts.0 parts.1 k)
      | inr seven ↦ elim (yes_or_seven other) [
        | inl is ↦ let parts = yes_parts P A other is k in yes_alone P A verdict parts.0 parts.1 h ∙ sym (ap verdict_status is)
        | inr also ↦ seven ∙ sym also
      ]
    ]

module _ (once : IsReadOnce) (command : Command) (text : List ℕ) where
  -- a text whose presentation was enumerated to the end
  due_finished : (P : Presentation) (limit level : ℕ) → HasLimit command limit → length text ≤ most_input → Spells text P → IsFinishedAt P limit level
      → (due : ℕ) (message : List ℕ) → IsDue command text due message → IsStatus 0 [] due message
  due_finished P limit level has short spells done _ _ (too_long _ long) = absurd (omega arith)
  due_finished P limit level has short spells done _ _ (refused {message} _ r) = absurd (spells_or_refused once text P text message spells (refused_limit command limit has text message r))
  due_finished P limit level has short spells done _ _ (finished _ _ _ _) = inl (refl, refl)
  due_finished P limit level has short spells done _ _ (outgrown {P = Q} {limit = bound} {level = k} {size = n} also _ reads over) =
      let same : IsOutgrown P limit k n = subst (λ R. IsOutgrown R limit k n) (once.same_presentation text Q P reads spells)
      (subst (λ b. IsOutgrown Q b k n) (same_limit command bound limit also has) over) in
      absurd (never_both once.lists P limit level k n (once.valid text P spells) done same)
  due_finished P limit level has short spells done _ _ (shown _ _ _) = inl (refl, refl)
  due_finished P limit level has short spells done _ _ (checked _ checks _ _ _) = absurd (limit_never_checks command limit has checks)
  due_finished P limit level has short spells done _ _ (made _) = inl (refl, refl)
  due_finished P limit level has short spells done _ _ (not_made no_made) = absurd (reads_never_cannot command (limit_reads command limit has) no_made)

  -- one whose presentation is too large for the limit
  due_outgrown : (P : Presentation) (limit level size : ℕ) → HasLimit command limit → length text ≤ most_input → Spells text P → IsOutgrown P limit level size
      → (due : ℕ) (message : List ℕ) → IsDue command text due message → IsStatus 1 [] due message
  due_outgrown P limit level size has short spells over _ _ (too_long _ long) = absurd (omega arith)
  due_outgrown P limit level size has short spells over _ _ (refused {message} _ r) = absurd (spells_or_refused once text P text message spells (refused_limit command limit has text message r))
  due_outgrown P limit level size has short spells over _ _ (finished {P = Q} {limit = bound} {level = k} also _ reads done) =
      let same : IsFinishedAt P limit k = subst (λ R. IsFinishedAt R limit k) (once.same_presentation text Q P reads spells)
      (subst (λ b. IsFinishedAt Q b k) (same_limit command bound limit also has) done) in
      absurd (never_both once.lists P limit k level size (once.valid text P spells) same over)
  due_outgrown P limit level size has short spells over _ _ (outgrown _ _ _ _) = inl (refl, refl)
  due_outgrown P limit level size has short spells over _ _ (shown shows _ _) = absurd (limit_never_shows command limit has shows)
  due_outgrown P limit level size has short spells over _ _ (checked _ checks _ _ _) = absurd (limit_never_checks command limit has checks)
  due_outgrown P limit level size has short spells over _ _ (made makes) = absurd (reads_never_makes command (limit_reads command limit has) makes)
  due_outgrown P limit level size has short spells over _ _ (not_made no_made) = absurd (reads_never_cannot command (limit_reads command limit has) no_made)

  due_enumerated : (P : Presentation) (limit : ℕ) (summary : Bool) (status : ℕ) (out : List ℕ) → HasLimit command limit → length text ≤ most_input → Spells text P
      → Enumerates P limit summary status out → (due : ℕ) (message : List ℕ) → IsDue command text due message → IsStatus status [] due message
  due_enumerated P limit summary status out has short spells (inl (is, done)) due message h =
      subst (λ s. IsStatus s [] due message) (sym is) (due_finished P limit done.answer.closed has short spells done.finished due message h)
  due_enumerated P limit summary status out has short spells (inr (is, over)) due message h =
      subst (λ s. IsStatus s [] due message) (sym is) (due_outgrown P limit over.level over.size has short spells over.outgrown due message h)

  -- one that is shown
  due_shown : (P : Presentation) → IsShowing command → length text ≤ most_input → Spells text P → (due : ℕ) (message : List ℕ) → IsDue command text due message → IsStatus 0 [] due message
  due_shown P shows short spells _ _ (too_long _ long) = absurd (omega arith)
  due_shown P shows short spells _ _ (refused {message} _ r) = absurd (spells_or_refused once text P text message spells (refused_show command shows text message r))
  due_shown P shows short spells _ _ (finished _ _ _ _) = inl (refl, refl)
  due_shown P shows short spells _ _ (outgrown {P = Q} {limit = bound} also _ _ _) = absurd (limit_never_shows command bound also shows)
  due_shown P shows short spells _ _ (shown _ _ _) = inl (refl, refl)
  due_shown P shows short spells _ _ (checked _ checks _ _ _) = absurd (shows_never_checks command shows checks)
  due_shown P shows short spells _ _ (made _) = inl (refl, refl)
  due_shown P shows short spells _ _ (not_made no_made) = absurd (reads_never_cannot command (shows_reads command shows) no_made)

  -- one whose claim is checked
  due_checked : (P : Presentation) (A : Answer) (verdict : Verdict) → IsChecking command → length text ≤ most_input → IsClaim text P A → IsVerdict P A verdict
      → (due : ℕ) (message : List ℕ) → IsDue command text due message → IsStatus (verdict_status verdict) [] due message
  due_checked P A verdict checks short claim is _ _ (too_long _ long) = absurd (omega arith)
  due_checked P A verdict checks short claim is _ _ (refused {message} _ r) = absurd (claim_or_none once text P A message claim (refused_check command checks text message r))
  due_checked P A verdict checks short claim is _ _ (finished {limit} has _ _ _) = absurd (limit_never_checks command limit has checks)
  due_checked P A verdict checks short claim is _ _ (outgrown {limit} has _ _ _) = absurd (limit_never_checks command limit has checks)
  due_checked P A verdict checks short claim is _ _ (shown shows _ _) = absurd (shows_never_checks command shows checks)
  due_checked P A verdict checks short claim is _ _ (checked {P = Q} {A = B} other _ _ also judged) =
      let place : also.at ≡ claim.at = same_cut once text also.cut claim.cut in
      let presentation : Q ≡ P = once.same_presentation (take claim.at text) Q P (subst (λ n. Spells (take n text) Q) place also.spells) claim.spells in
      let answer : B ≡ A = once.same_answer (drop claim.at text) B A (subst (λ n. ShowsAnswer (drop n text) B) place also.shows) claim.shows in
      inl (same_status P A verdict other is (subst (λ C. IsVerdict P C other) answer (subst (λ R. IsVerdict R B other) presentation judged)), refl)
  due_checked P A verdict checks short claim is _ _ (made makes) = absurd (reads_never_makes command (checks_reads command checks) makes)
  due_checked P A verdict checks short claim is _ _ (not_made no_made) = absurd (reads_never_cannot command (checks_reads command checks) no_made)

  -- numbers that have a presentation, and others
  due_made : CanMake command → (due : ℕ) (message : List ℕ) → IsDue command text due message → IsStatus 0 [] due message
  due_made makes _ _ (too_long reads long) = absurd (reads_never_makes command reads makes)
  due_made makes _ _ (refused {message} _ r) = absurd (reads_never_makes command (refuses_reads command text message r) makes)
  due_made makes _ _ (finished _ _ _ _) = inl (refl, refl)
  due_made makes _ _ (outgrown {P = Q} {limit = bound} also _ _ _) = absurd (reads_never_makes command (limit_reads command bound also) makes)
  due_made makes _ _ (shown _ _ _) = inl (refl, refl)
  due_made makes _ _ (checked _ checks _ _ _) = absurd (reads_never_makes command (checks_reads command checks) makes)
  due_made makes _ _ (made _) = inl (refl, refl)
  due_made makes _ _ (not_made no_made) = absurd (made_or_not command makes no_made)

  due_not_made : CannotMake command → (due : ℕ) (message : List ℕ) → IsDue command text due message → IsStatus 3 (message_of NoPresentation) due message
  due_not_made cannot _ _ (too_long reads long) = absurd (reads_never_cannot command reads cannot)
  due_not_made cannot _ _ (refused {message} _ r) = absurd (reads_never_cannot command (refuses_reads command text message r) cannot)
  due_not_made cannot _ _ (finished {P = Q} {limit = bound} also _ _ _) = absurd (reads_never_cannot command (limit_reads command bound also) cannot)
  due_not_made cannot _ _ (outgrown {P = Q} {limit = bound} also _ _ _) = absurd (reads_never_cannot command (limit_reads command bound also) cannot)
  due_not_made cannot _ _ (shown shows _ _) = absurd (reads_never_cannot command (shows_reads command shows) cannot)
  due_not_made cannot _ _ (checked _ checks _ _ _) = absurd (reads_never_cannot command (checks_reads command checks) cannot)
  due_not_made cannot _ _ (made makes) = absurd (made_or_not command makes cannot)
  due_not_made cannot _ _ (not_made _) = inl (refl, refl)

  -- a text that is refused, and one that is too long
  due_refusal : (said : List ℕ) → length text ≤ most_input → Refuses command text said → (due : ℕ) (message : List ℕ) → IsDue command text due message → IsStatus 3 said due message
  due_refusal said short r _ _ (too_long _ long) = absurd (omega arith)
  due_refusal said short r _ _ (refused {message} _ also) = inl (refl, same_refusals once text command said message r also)
  due_refusal said short r _ _ (finished {P = Q} {limit} has _ spells _) = absurd (spells_or_refused once text Q text said spells (refused_limit command limit has text said r))
  due_refusal said short r _ _ (outgrown {P = Q} {limit} has _ spells _) = absurd (spells_or_refused once text Q text said spells (refused_limit command limit has text said r))
  due_refusal said short r _ _ (shown {P = Q} shows _ spells) = absurd (spells_or_refused once text Q text said spells (refused_show command shows text said r))
  due_refusal said short r _ _ (checked {P = Q} {A = B} _ checks _ claim _) = absurd (claim_or_none once text Q B said claim (refused_check command checks text said r))
  due_refusal said short r _ _ (made makes) = absurd (reads_never_makes command (refuses_reads command text said r) makes)
  due_refusal said short r _ _ (not_made no_made) = absurd (reads_never_cannot command (refuses_reads command text said r) no_made)

  due_cut : IsReading command → most_input < length text → (due : ℕ) (message : List ℕ) → IsDue command text due message → IsStatus 3 (message_of TooLong) due message
  due_cut reads long _ _ (too_long _ _) = inl (refl, refl)
  due_cut reads long _ _ (refused short _) = absurd (omega arith)
  due_cut reads long _ _ (finished _ short _ _) = absurd (omega arith)
  due_cut reads long _ _ (outgrown _ short _ _) = absurd (omega arith)
  due_cut reads long _ _ (shown _ short _) = absurd (omega arith)
  due_cut reads long _ _ (checked _ _ short _ _) = absurd (omega arith)
  due_cut reads long _ _ (made makes) = absurd (reads_never_makes command reads makes)
  due_cut reads long _ _ (not_made no_made) = absurd (reads_never_cannot command reads no_made)

-- ---- the words

pub asked_limit : (words : List (List ℕ)) (command : Command) → Means words command → (limit : ℕ) → HasLimit command limit → limit ≤ 1000000
asked_limit words (Alone bound summary) asks limit has =
    let number = asks.takes.values.0 in
    let most = number.accepted.3 in
    let value = number.value in
    omega arith
asked_limit words (Shared workers bound summary) asks limit has =
    let number = asks.takes.values.1 in
    let most = number.accepted.3 in
    let value = number.value in
    omega arith
asked_limit words Show asks limit has = absurd has
asked_limit words Check asks limit has = absurd has
asked_limit words (Make points node prime) asks limit has = absurd has

pub stopped_words : (words : List (List ℕ)) (streams : Streams) (fault : WordsFault) → (fault ≡ Unmeant → (command : Command) → Means words command → ⊥)
    → Because (stop_of_words fault) words streams streams
stopped_words words streams Unmeant none = inl (refl, (λ command means. none refl command means), refl)
stopped_words words streams Wanted none = inr (inl (refl, refl))

-- ---- what stops a command while its text is written

pub stopped_command : (command : Command) (E : ℕ → List ℕ → Type 0) (old new : Streams) → ((status : ℕ) (text : List ℕ) → E status text → Calls command old.source new.source status text)
    → new.source.count ≡ old.source.count → TakesFew old.source new.source → (stop : Stop) → StopsWriting E old.out new.out stop → BecauseOf stop command old new
stopped_command command E old new calls count few Words h = h
stopped_command command E old new calls count few TooLong h = absurd h
stopped_command command E old new calls count few (Refused message) h = absurd h
stopped_command command E old new calls count few NoPresentation h = absurd h
stopped_command command E old new calls count few Source h = absurd h
stopped_command command E old new calls count few Output ((status, text, called, gains), risen) = ((status, text, calls status text called, gains), risen)
stopped_command command E old new calls count few Memory (same, inl nothing) = (count, same, few, inl nothing)
stopped_command command E old new calls count few Memory (same, inr (status, text, called, gains)) = (count, same, few, inr (status, text, calls status text called, gains))

pub stopped_enumeration : {X : Type 0} (limit : ℕ) (summary : Bool) (old new : Streams) (P : Presentation) → TakesPresentation old.source new.source P
    → (r : Result X Stop) → IfErr r (StopsWriting (Enumerates P limit summary) old.out new.out) → IfErr r (λ stop. BecauseOf stop (Alone limit summary) old new)
stopped_enumeration limit summary old new P taken r h =
    IfErr-weaker r _ _ (λ stop stops. stopped_command (Alone limit summary) (Enumerates P limit summary) old new (λ status text called. (P, taken, called)) taken.takes.gives.count
    (few_all old.source new.source taken.bytes taken.takes) stop stops) h

-- what is asked of threads stops as what is asked of one
because_shared : (workers limit : ℕ) (summary : Bool) (old new : Streams) (stop : Stop) → BecauseOf stop (Alone limit summary) old new → BecauseOf stop (Shared workers limit summary) old new
because_shared workers limit summary old new Words h = h
because_shared workers limit summary old new TooLong h = h
because_shared workers limit summary old new (Refused message) h = h
because_shared workers limit summary old new NoPresentation h = h
because_shared workers limit summary old new Source h = h
because_shared workers limit summary old new Output h = h
because_shared workers limit summary old new Memory h = h

pub stopped_shared : {X : Type 0} (workers limit : ℕ) (summary : Bool) (old new : Streams) (r : Result X Stop) → IfErr r (λ stop. BecauseOf stop (Alone limit summary) old new)
    → IfErr r (λ stop. BecauseOf stop (Shared workers limit summary) old new)
stopped_shared workers limit summary old new r h = IfErr-weaker r _ _ (because_shared workers limit summary old new) h

pub stopped_show : {X : Type 0} (old new : Streams) (P : Presentation) → TakesPresentation old.source new.source P
    → (r : Result X Stop) → IfErr r (StopsWriting (Shows P) old.out new.out) → IfErr r (λ stop. BecauseOf stop Show old new)
stopped_show old new P taken r h =
    IfErr-weaker r _ _ (λ stop stops. stopped_command Show (Shows P) old new (λ status text called. (P, taken, called)) taken.takes.gives.count
    (few_all old.source new.source taken.bytes taken.takes) stop stops) h

pub stopped_claim : (old new : Streams) → new.out ≡ old.out → (stop : Stop) → StopsTakingText IsNoClaim old.source new.source stop → BecauseOf stop Check old new
stopped_claim old new same Words h = h
stopped_claim old new same TooLong h = (tt, h, same)
stopped_claim old new same (Refused message) h = (h, same)
stopped_claim old new same NoPresentation h = absurd h
stopped_claim old new same Source (risen, few) = (tt, risen, few, same)
stopped_claim old new same Output h = absurd h
stopped_claim old new same Memory (count, few) = (count, ap (λ out. out.count) same, few, inl same)

pub stopped_verdict : {X : Type 0} (old new : Streams) (P : Presentation) (A : Answer) → TakesClaim old.source new.source P A
    → (r : Result X Stop) → IfErr r (StopsWriting (Judges P A) old.out new.out) → IfErr r (λ stop. BecauseOf stop Check old new)
stopped_verdict old new P A taken r h =
    IfErr-weaker r _ _ (λ stop stops. stopped_command Check (Judges P A) old new (λ status text called. (P, A, taken, called)) taken.takes.gives.count
    (few_all old.source new.source taken.bytes taken.takes) stop stops) h

-- ---- how a run ends

-- what was taken is the whole text
whole : (old new : Input) (text : List ℕ) (P : Presentation) → TakesPresentation old new P → old.left ≡ Some text → (length text ≤ most_input) × Spells text P
whole old new text P taken told = (
  short_enough old new taken.bytes text taken.takes told,
  subst (λ t. Spells t P) (told_bytes old new taken.bytes text taken.takes told) taken.spells,
)

performed_due : IsReadOnce → (command : Command) (old new : Streams) (status : ℕ) (out text : List ℕ) → Calls command old.source new.source status out
    → (IsReading command → old.source.left ≡ Some text) → (due : ℕ) (message : List ℕ) → IsDue command text due message → IsStatus status [] due message
performed_due once (Alone limit summary) old new status out text (P, taken, calls) told due message h =
    let all = whole old.source new.source text P taken (told tt) in
    due_enumerated once (Alone limit summary) text P limit summary status out refl all.0 all.1 calls due message h
performed_due once (Shared workers limit summary) old new status out text (P, taken, calls) told due message h =
    let all = whole old.source new.source text P taken (told tt) in
    due_enumerated once (Shared workers limit summary) text P limit summary status out refl all.0 all.1 calls due message h
performed_due once Show old new status out text (P, taken, shows) told due message h =
    let all = whole old.source new.source text P taken (told tt) in
    subst (λ s. IsStatus s [] due message) (sym shows.0) (due_shown once Show text P tt all.0 all.1 due message h)
performed_due once Check old new status out text (P, A, taken, judges) told due message h =
    let all : taken.bytes ≡ text = told_bytes old.source new.source taken.bytes text taken.takes (told tt) in
    subst (λ s. IsStatus s [] due message) (sym judges.is_status)
    (due_checked once Check text P A judges.verdict tt (short_enough old.source new.source taken.bytes text taken.takes (told tt)) (subst (λ t. IsClaim t P A) all taken.claim)
    judges.is_verdict due message h)
performed_due once (Make points node prime) old new status out text (nothing, (makes, shows)) told due message h =
    subst (λ s. IsStatus s [] due message) (sym shows.0) (due_made once (Make points node prime) text makes due message h)

pub finished_due : IsReadOnce → {words : List (List ℕ)} {old new : Streams} {status : ℕ} → Finishes words old new status → (command : Command) (text : List ℕ) (due : ℕ) (message : List ℕ)
    → IsServed words old new command text → IsDue command text due message → IsStatus status [] due message
finished_due once {words} {old} {new} {status} ends command text due message served is_due =
    let same : ends.command ≡ command = once.words words ends.command command ends.asks served.asks in
    let performs : Performs command old new status = subst (λ c. Performs c old new status) same ends.performs in
    performed_due once command old new status performs.0 text performs.1 served.told due message is_due

because_due : IsReadOnce → {words : List (List ℕ)} {old new : Streams} (stop : Stop) (command : Command) → BecauseOf stop command old new
    → (text : List ℕ) (due : ℕ) (message : List ℕ) → IsServed words old new command text → IsDue command text due message → IsStatus (status_of stop) (message_of stop) due message
because_due once Words command because text due message served is_due = absurd because
because_due once {old = old} {new = new} TooLong command because text due message served is_due =
    due_cut once command text because.0 (too_many old.source new.source text because.1 (served.told because.0)) due message is_due
because_due once {old = old} {new = new} (Refused told) command ((bytes, takes, r), nothing) text due message served is_due =
    let reads : IsReading command = refuses_reads command bytes told.items r in
    let all : bytes ≡ text = told_bytes old.source new.source bytes text takes (served.told reads) in
    due_refusal once command text told.items (short_enough old.source new.source bytes text takes (served.told reads))
    (subst (λ t. Refuses command t told.items) all r) due message is_due
because_due once NoPresentation command because text due message served is_due = due_not_made once command text because.0 due message is_due
because_due once Source command because text due message served is_due = absurd (served.source_holds because.1)
because_due once Output command because text due message served is_due = absurd (served.out_holds because.1)
because_due once Memory command because text due message served is_due = inr refl

pub stopped_due : IsReadOnce → {words : List (List ℕ)} {old new : Streams} (stop : Stop) → Because stop words old new → (command : Command) (text : List ℕ) (due : ℕ) (message : List ℕ)
    → IsServed words old new command text → IsDue command text due message → IsStatus (status_of stop) (message_of stop) due message
stopped_due once stop (inl (_, asks_none, _)) command text due message served is_due = absurd (asks_none command served.asks)
stopped_due once stop (inr (inl (memory, _))) command text due message served is_due = inr (ap status_of memory)
stopped_due once {words} {old} {new} stop (inr (inr (other, asks, because))) command text due message served is_due =
    because_due once stop command (subst (λ c. BecauseOf stop c old new) (once.words words other command asks served.asks) because) text due message served is_due

-- what a put of a message tells
pub told_put : {A E : Type 0} {err err' : Sink.Output} {message said : List ℕ} (r : Result A E) → OnOk r (Gains err err' message) → OnErr r (Breaks err err' message) → message ≡ said
    → Tells err err' said
told_put {err = err} {err' = err'} (Ok x) gained failed same = inl (subst (Gains err err') same gained)
told_put {err = err} {err' = err'} (Err e) gained failed same = inr (subst (Breaks err err') same failed)

-- what is told, with its status
pub told_status : {status due : ℕ} {said message : List ℕ} {err err' : Sink.Output} → IsStatus status said due message → Tells err err' said
    → ((status ≡ due) × Tells err err' message) ⊎ (status ≡ 6)
told_status {err = err} {err' = err'} (inl (same, also)) tells = inl (same, subst (Tells err err') also tells)
told_status (inr memory) tells = inr memory
