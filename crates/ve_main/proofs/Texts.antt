-- What is written, and what stops it.
use Rattle.std.specs.Prelude.{◌≡◌, ℕ, Bool, List, cond}
use Rattle.std.proofs.Common.{refl, sym, subst, inl, inr}
use Rattle.ve_port.specs.declared.fault.OutFault.{OutFault}
use Rattle.ve_port.specs.declared.fault.OutFault.TheVariants.{Sink, Memory as NoMemory}
use Rattle.ve_port.specs.Sink as Sinks
use Rattle.ve_port.specs.Sink.{Gains}
use Rattle.ve_port.specs.Writing.{Stops}
use Rattle.ve_theory.specs.Presentations.{Presentation}
use Rattle.ve_theory.specs.Levels.{IsFinishedAt, IsOutgrown}
use Rattle.ve_theory.specs.Answers.{Answer, IsModuleAnswer}
use Rattle.ve_theory.specs.Laws.{DecidesModule}
use Rattle.ve_formats.specs.AnswerText.{answer_text}
use Rattle.ve_formats.specs.SummaryText.{summary_text}
use Rattle.ve_formats.specs.OutgrownText.{outgrown_text}
use Rattle.ve_make.specs.Symmetric.{IsMade, symmetric_presentation}
use Rattle.ve_main.specs.declared.stop.Stop.{Stop}
use Rattle.ve_main.specs.declared.stop.Stop.TheVariants.{Words, TooLong, Refused, NoPresentation, Input, Output, Memory}
use Rattle.ve_main.specs.Stops.{stop_of}
use Rattle.ve_main.specs.Commands.{Enumerates, Shows, ShowsMade}
use Rattle.ve_main.specs.Ending.{StopsWriting, StopsMaking, WritesText, BeginsText}

-- a writing that stopped, of a text that is called for
pub stopped_writing : (Calls : ℕ → List ℕ → Type 0) (old new : Sinks.Output) (status : ℕ) (text : List ℕ) (fault : OutFault) → Calls status text → Stops old new text fault
    → StopsWriting Calls old new (stop_of fault)
stopped_writing Calls old new status text Sink calls stops = ((status, text, calls, stops.prefix), stops.sink refl)
stopped_writing Calls old new status text NoMemory calls stops = (stops.memory refl, inr (status, text, calls, stops.prefix))

pub answer_called : (P : Presentation) (limit level : ℕ) (summary : Bool) (A : Answer) → IsFinishedAt P limit level → IsModuleAnswer P A → A.closed ≡ level → DecidesModule P A.action
    → Enumerates P limit summary 0 (cond summary (summary_text A) (answer_text A))
answer_called P limit level summary A finished is closed decides =
    let at_closed : IsFinishedAt P limit A.closed = subst (IsFinishedAt P limit) (sym closed) finished in
    inl (refl, record { answer = A; finished = at_closed; is_answer = record { module_answer = is; closed = at_closed.closing }; decides = decides; is_text = refl })

pub over_called : (P : Presentation) (limit level size : ℕ) (summary : Bool) → IsOutgrown P limit level size → Enumerates P limit summary 1 (outgrown_text level size limit)
over_called P limit level size summary outgrown = inr (refl, record { level = level; size = size; outgrown = outgrown; is_text = refl })

-- showing what was made is showing the presentation with these numbers
pub made_written : (points node prime : ℕ) (P : Presentation) (old new : Sinks.Output) (status : ℕ) → IsMade points node prime → P ≡ symmetric_presentation points node prime
    → WritesText (Shows P) old new status → WritesText (ShowsMade points node prime) old new status
made_written points node prime P old new status made is (text, shows, gains) = (text, (made, subst (λ Q. Shows Q status text) is shows), gains)

made_begun : (points node prime : ℕ) (P : Presentation) (old new : Sinks.Output) → IsMade points node prime → P ≡ symmetric_presentation points node prime
    → BeginsText (Shows P) old new → BeginsText (ShowsMade points node prime) old new
made_begun points node prime P old new made is (status, text, shows, gains) = (status, text, (made, subst (λ Q. Shows Q status text) is shows), gains)

pub made_stopped : (points node prime : ℕ) (P : Presentation) (old new : Sinks.Output) (stop : Stop) → IsMade points node prime → P ≡ symmetric_presentation points node prime
    → StopsWriting (Shows P) old new stop → StopsMaking points node prime old new stop
made_stopped points node prime P old new Words made is h = h
made_stopped points node prime P old new TooLong made is h = h
made_stopped points node prime P old new (Refused message) made is h = h
made_stopped points node prime P old new NoPresentation made is h = absurd h
made_stopped points node prime P old new Input made is h = h
made_stopped points node prime P old new Output made is h = (made_begun points node prime P old new made is h.0, h.1)
made_stopped points node prime P old new Memory made is (count, inl same) = (count, inl same)
made_stopped points node prime P old new Memory made is (count, inr begun) = (count, inr (made_begun points node prime P old new made is begun))
