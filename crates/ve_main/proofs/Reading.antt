-- The input, taken piece by piece.
use Rattle.std.specs.Prelude.{◌≡◌, ℕ, ◌+◌, ◌≤◌, List, length, drop, take}
use Rattle.std.specs.Io.KnownBytes.{prepend_known}
use Rattle.std.proofs.Common.{ap, sym, subst, ◌∙◌, arith, length-append}
use Rattle.ve_port.specs.Count.{HasRisen}
use Rattle.ve_main.specs.declared.stop.Stop.{Stop}
use Rattle.ve_main.specs.declared.stop.Stop.TheVariants.{Words, TooLong, Refused, NoPresentation, Input as Source, Output, Memory}
use Rattle.ve_theory.specs.Presentations.{Presentation}
use Rattle.ve_theory.specs.Answers.{Answer}
use Rattle.ve_formats.specs.PresentationText.{Spells}
use Rattle.ve_formats.specs.AnswerReading.{ShowsAnswer}
use Rattle.ve_main.specs.Refusals.{IsRefused}
use Rattle.ve_main.specs.Claims.{IsClaim, IsCut, IsNoAnswer, IsNoClaim, no_presentation, no_answer}
use Rattle.ve_main.specs.Ending.{StopsTaking, StopsReading, StopsReadingText, StopsTakingText, TakesFew, TakesAll}
use Rattle.ve_port.specs.Source.{Input, Gives, Gives-nil, Gives-append}

-- these bytes were taken, at most one more than an input may have; the buffer keeps its room
pub record HasTaken (old now : Input) (text buffer : List ℕ) : Type 0 where
  pub gives : Gives old now text
  pub bounded : length text ≤ 16777217
  pub room : length buffer ≡ 65536

takes_few : {old new : Input} {bytes : List ℕ} → Gives old new bytes → length bytes ≤ 16777217 → TakesFew old new
takes_few {bytes = bytes} gives few = record { bytes = bytes; left = gives.left; few = few }

-- what stopped a later take stopped the reading
pub StopsReading-after : {old mid : Input} {text : List ℕ} (room : ℕ) → Gives old mid text → length text + room ≤ 16777217 → (new : Input) (stop : Stop) → StopsTaking mid new room stop
    → StopsReading old new stop
StopsReading-after room before few new Words h = h
StopsReading-after room before few new TooLong h = absurd h
StopsReading-after room before few new (Refused message) h = h
StopsReading-after room before few new NoPresentation h = h
StopsReading-after {old} {mid} {text} room before few new Source h = (
  subst (λ count. HasRisen count new.count) before.count h.count,
  record { bytes = text; left = before.left ∙ ap (prepend_known text) (sym h.left); few = omega arith },
)
StopsReading-after room before few new Output h = h
StopsReading-after {old} {mid} {text} room before few new Memory (bytes, gives, short) = (
  gives.count ∙ before.count,
  takes_few (Gives-append before gives) (omega (arith, length-append text bytes)),
)

-- want of memory before anything was taken, and after everything was
pub few_nothing : (source : Input) → TakesFew source source
few_nothing source = takes_few (Gives-nil source) (omega arith)

pub few_all : (old new : Input) (bytes : List ℕ) → TakesAll old new bytes → TakesFew old new
few_all old new bytes takes = takes_few takes.gives (let short = takes.short in omega arith)

-- what stopped the reading stopped what is made of the text
pub stops_reading : (Refuses : List ℕ → List ℕ → Type 0) (old new : Input) (stop : Stop) → StopsReading old new stop → StopsTakingText Refuses old new stop
stops_reading Refuses old new Words h = h
stops_reading Refuses old new TooLong h = h
stops_reading Refuses old new (Refused message) h = absurd h
stops_reading Refuses old new NoPresentation h = h
stops_reading Refuses old new Source h = h
stops_reading Refuses old new Output h = h
stops_reading Refuses old new Memory h = h

pub stops_text : (Refuses : List ℕ → List ℕ → Type 0) (old new : Input) (bytes : List ℕ) → TakesAll old new bytes → (stop : Stop) → StopsReadingText (Refuses bytes) stop
    → StopsTakingText Refuses old new stop
stops_text Refuses old new bytes takes Words h = h
stops_text Refuses old new bytes takes TooLong h = absurd h
stops_text Refuses old new bytes takes (Refused message) h = (bytes, takes, h)
stops_text Refuses old new bytes takes NoPresentation h = h
stops_text Refuses old new bytes takes Source h = absurd h
stops_text Refuses old new bytes takes Output h = h
stops_text Refuses old new bytes takes Memory h = (takes.gives.count, few_all old new bytes takes)

-- what stopped the reading of the front, or of the answer behind it, stopped the reading of the claim
pub stops_otherwise : (Refuses Others : List ℕ → Type 0) → ((message : List ℕ) → Refuses message → Others message) → (stop : Stop) → StopsReadingText Refuses stop
    → StopsReadingText Others stop
stops_otherwise Refuses Others further Words h = h
stops_otherwise Refuses Others further TooLong h = h
stops_otherwise Refuses Others further (Refused message) h = further message.items h
stops_otherwise Refuses Others further NoPresentation h = h
stops_otherwise Refuses Others further Source h = h
stops_otherwise Refuses Others further Output h = h
stops_otherwise Refuses Others further Memory h = h

pub stops_in_front : (text front : List ℕ) (at : ℕ) → IsCut text at → front ≡ take at text → (stop : Stop) → StopsReadingText (IsRefused front) stop → StopsReadingText (IsNoClaim text) stop
stops_in_front text front at cut is =
    stops_otherwise (IsRefused front) (IsNoClaim text) (λ message r. no_presentation cut (subst (λ t. IsRefused t message) is r))

pub stops_behind : (text front behind : List ℕ) (at : ℕ) (P : Presentation) → IsCut text at → front ≡ take at text → behind ≡ drop at text → Spells front P
    → (stop : Stop) → StopsReadingText (IsNoAnswer behind) stop → StopsReadingText (IsNoClaim text) stop
stops_behind text front behind at P cut is also spells =
    stops_otherwise (IsNoAnswer behind) (IsNoClaim text)
    (λ message r. no_answer cut (subst (λ t. Spells t P) is spells) (subst (λ t. IsNoAnswer t message) also r))

pub is_claim : (text front behind : List ℕ) (at : ℕ) (P : Presentation) (A : Answer) → IsCut text at → front ≡ take at text → behind ≡ drop at text → Spells front P
    → ShowsAnswer behind A → IsClaim text P A
is_claim text front behind at P A cut is also spells shows = record {
  at = at;
  cut = cut;
  spells = subst (λ t. Spells t P) is spells;
  shows = subst (λ t. ShowsAnswer t A) also shows;
}
