-- How a run ends: its status, and what it took from the input and wrote to the outputs.
use Rattle.std.specs.Prelude.{◌≡◌, ℕ, ◌+◌, ◌<◌, ◌≤◌, ◌⊎◌, List, [], ◌++◌, length, IfSome, Some}
use Rattle.ve_theory.specs.Presentations.{Presentation}
use Rattle.std.specs.Io.KnownBytes.{prepend_known}
use Rattle.ve_port.specs.Count.{HasRisen}
use Rattle.ve_port.specs.Source as Source
use Rattle.ve_port.specs.Source.{Gives, Fails}
use Rattle.ve_port.specs.Sink as Sink
use Rattle.ve_port.specs.Sink.{Gains, GainsPrefix, Breaks}
use Rattle.ve_formats.specs.PresentationText.{Spells}
use Rattle.ve_formats.specs.Messages.{too_long_message, no_presentation_message}
use Rattle.ve_theory.specs.Levels.{IsFinishedAt, IsOutgrown}
use Rattle.ve_theory.specs.Answers.{Answer}
use Rattle.ve_theory.specs.Verdicts.{Verdict, IsVerdict}
use Rattle.ve_words.specs.Meaning.{Means}
use Rattle.ve_main.specs.Refusals.{IsRefused}
use Rattle.ve_main.specs.Claims.{IsClaim, IsNoClaim, Judges, verdict_status}
use Rattle.ve_make.specs.Symmetric.{IsMade}
use Rattle.ve_main.specs.Commands.{IsReading, HasLimit, IsShowing, IsChecking, CanMake, CannotMake, Enumerates, Shows, ShowsMade}
use Rattle.ve_main.specs.Stops.{status_of, message_of}
use Rattle.ve_words.specs.declared.command.Command.{Command}
use Rattle.ve_words.specs.declared.command.Command.TheVariants.{Alone, Shared, Show, Check, Make}
use Rattle.ve_main.specs.declared.stop.Stop.{Stop}
use Rattle.ve_main.specs.declared.stop.Stop.TheVariants.{Words, TooLong, Refused, NoPresentation, Input, Output, Memory}

-- the most bytes that an input may have
abbrev pub most_input : ℕ
most_input = 16777216

-- the whole input was taken: these bytes, after which the source has none left
pub record TakesAll (old new : Source.Input) (bytes : List ℕ) : Type 0 where
  pub gives : Gives old new bytes
  pub ends : IfSome new.left (λ left. left ≡ [])
  pub short : length bytes ≤ most_input

-- one byte too many was taken
pub record TakesTooMany (old new : Source.Input) : Type 0 where
  pub bytes : List ℕ
  pub gives : Gives old new bytes
  pub long : length bytes ≡ most_input + 1

-- the next bytes were taken, so many and at most `room`, and added to the text; none are taken at the end alone
pub record TakesPiece (old new : Source.Input) (room : ℕ) (text text' : List ℕ) (count : ℕ) : Type 0 where
  pub bytes : List ℕ
  pub gives : Gives old new bytes
  pub added : text' ≡ text ++ bytes
  pub counted : length bytes ≡ count
  pub fits : count ≤ room
  pub ends : count ≡ 0 → IfSome new.left (λ left. left ≡ [])

-- why the next bytes, at most so many, were not added to the text
abbrev pub StopsTaking : Source.Input → Source.Input → ℕ → Stop → Type 0
StopsTaking old new room Words = ⊥
StopsTaking old new room TooLong = ⊥
StopsTaking old new room (Refused message) = ⊥
StopsTaking old new room NoPresentation = ⊥
StopsTaking old new room Input = Fails old new
StopsTaking old new room Output = ⊥
StopsTaking old new room Memory = (bytes : List ℕ) × Gives old new bytes × (length bytes ≤ room)

-- at most one byte more than an input may have was taken
pub record TakesFew (old new : Source.Input) : Type 0 where
  pub bytes : List ℕ
  pub left : old.left ≡ prepend_known bytes new.left
  pub few : length bytes ≤ most_input + 1

-- why the input was not taken whole
abbrev pub StopsReading : Source.Input → Source.Input → Stop → Type 0
StopsReading old new Words = ⊥
StopsReading old new TooLong = TakesTooMany old new
StopsReading old new (Refused message) = ⊥
StopsReading old new NoPresentation = ⊥
StopsReading old new Input = HasRisen old.count new.count × TakesFew old new
StopsReading old new Output = ⊥
StopsReading old new Memory = (new.count ≡ old.count) × TakesFew old new

-- why nothing was made of a text: it is refused with a message, or memory was wanted
abbrev pub StopsReadingText : (List ℕ → Type 0) → Stop → Type 0
StopsReadingText Refuses Words = ⊥
StopsReadingText Refuses TooLong = ⊥
StopsReadingText Refuses (Refused message) = Refuses message.items
StopsReadingText Refuses NoPresentation = ⊥
StopsReadingText Refuses Input = ⊥
StopsReadingText Refuses Output = ⊥
StopsReadingText Refuses Memory = Unit {0}

-- the input was taken whole, and it spells this presentation
pub record TakesPresentation (old new : Source.Input) (P : Presentation) : Type 0 where
  pub bytes : List ℕ
  pub takes : TakesAll old new bytes
  pub spells : Spells bytes P

-- the input was taken whole, and it is a presentation's text with the answer's that is claimed for it
pub record TakesClaim (old new : Source.Input) (P : Presentation) (A : Answer) : Type 0 where
  pub bytes : List ℕ
  pub takes : TakesAll old new bytes
  pub claim : IsClaim bytes P A

-- why nothing was made of the input, where some texts are refused with messages
abbrev pub StopsTakingText : (List ℕ → List ℕ → Type 0) → Source.Input → Source.Input → Stop → Type 0
StopsTakingText Refuses old new Words = ⊥
StopsTakingText Refuses old new TooLong = TakesTooMany old new
StopsTakingText Refuses old new (Refused message) = (bytes : List ℕ) × TakesAll old new bytes × Refuses bytes message.items
StopsTakingText Refuses old new NoPresentation = ⊥
StopsTakingText Refuses old new Input = HasRisen old.count new.count × TakesFew old new
StopsTakingText Refuses old new Output = ⊥
StopsTakingText Refuses old new Memory = (new.count ≡ old.count) × TakesFew old new

-- a text that is called for with this status was written
abbrev pub WritesText : (ℕ → List ℕ → Type 0) → Sink.Output → Sink.Output → ℕ → Type 0
WritesText Calls old new status = (text : List ℕ) × Calls status text × Gains old new text

-- a part of such a text was written, from its front
abbrev pub BeginsText : (ℕ → List ℕ → Type 0) → Sink.Output → Sink.Output → Type 0
BeginsText Calls old new = (status : ℕ) × (text : List ℕ) × Calls status text × GainsPrefix old new text

-- why it was not written whole
abbrev pub StopsWriting : (ℕ → List ℕ → Type 0) → Sink.Output → Sink.Output → Stop → Type 0
StopsWriting Calls old new Words = ⊥
StopsWriting Calls old new TooLong = ⊥
StopsWriting Calls old new (Refused message) = ⊥
StopsWriting Calls old new NoPresentation = ⊥
StopsWriting Calls old new Input = ⊥
StopsWriting Calls old new Output = BeginsText Calls old new × HasRisen old.count new.count
StopsWriting Calls old new Memory = (new.count ≡ old.count) × ((new ≡ old) ⊎ BeginsText Calls old new)

-- why the text of a presentation that is made from numbers was not written whole: there is none, or the writing stopped
abbrev pub StopsMaking : (points node prime : ℕ) → Sink.Output → Sink.Output → Stop → Type 0
StopsMaking points node prime old new Words = ⊥
StopsMaking points node prime old new TooLong = ⊥
StopsMaking points node prime old new (Refused message) = ⊥
StopsMaking points node prime old new NoPresentation = (¬ IsMade points node prime) × (new ≡ old)
StopsMaking points node prime old new Input = ⊥
StopsMaking points node prime old new Output = StopsWriting (ShowsMade points node prime) old new Output
StopsMaking points node prime old new Memory = StopsWriting (ShowsMade points node prime) old new Memory

-- what stood before a run, and what stands after it, of the input and of the output
pub record Streams : Type 0 where
  pub source : Source.Input
  pub out : Sink.Output

-- What a command calls for: a status and a text, by what it took from the source.
abbrev pub Calls : Command → Source.Input → Source.Input → ℕ → List ℕ → Type 0
Calls (Alone limit summary) old new status text = (P : Presentation) × TakesPresentation old new P × Enumerates P limit summary status text
Calls (Shared workers limit summary) old new status text = (P : Presentation) × TakesPresentation old new P × Enumerates P limit summary status text
Calls Show old new status text = (P : Presentation) × TakesPresentation old new P × Shows P status text
Calls Check old new status text = (P : Presentation) × (A : Answer) × TakesClaim old new P A × Judges P A status text
Calls (Make points node prime) old new status text = (new ≡ old) × ShowsMade points node prime status text

-- which texts a command refuses, and with what message
abbrev pub Refuses : Command → List ℕ → List ℕ → Type 0
Refuses (Alone limit summary) text message = IsRefused text message
Refuses (Shared workers limit summary) text message = IsRefused text message
Refuses Show text message = IsRefused text message
Refuses Check text message = IsNoClaim text message
Refuses (Make points node prime) text message = ⊥

-- The run wrote the whole text that the command calls for, with this status.
abbrev pub Performs : Command → Streams → Streams → ℕ → Type 0
Performs command old new status = WritesText (Calls command old.source new.source) old.out new.out status

pub record Finishes (words : List (List ℕ)) (old new : Streams) (status : ℕ) : Type 0 where
  pub command : Command
  pub asks : Means words command
  pub performs : Performs command old new status

-- A part of the text that the command calls for was written, from its front.
abbrev pub WritesPart : Command → Streams → Streams → Type 0
WritesPart command old new = BeginsText (Calls command old.source new.source) old.out new.out

-- What each cause of an end without the text says, where the words ask for a command.
abbrev pub BecauseOf : Stop → Command → Streams → Streams → Type 0
BecauseOf Words command old new = ⊥
BecauseOf TooLong command old new = IsReading command × TakesTooMany old.source new.source × (new.out ≡ old.out)
BecauseOf (Refused message) command old new = ((bytes : List ℕ) × TakesAll old.source new.source bytes × Refuses command bytes message.items) × (new.out ≡ old.out)
BecauseOf NoPresentation command old new = CannotMake command × (new ≡ old)
BecauseOf Input command old new = IsReading command × HasRisen old.source.count new.source.count × TakesFew old.source new.source × (new.out ≡ old.out)
BecauseOf Output command old new = WritesPart command old new × HasRisen old.out.count new.out.count
BecauseOf Memory command old new =
    (new.source.count ≡ old.source.count) × (new.out.count ≡ old.out.count) × TakesFew old.source new.source × ((new.out ≡ old.out) ⊎ WritesPart command old new)

-- The words ask for no command; or memory was wanted while they were read; or they ask for one that stopped for the cause.
abbrev pub Because : Stop → List (List ℕ) → Streams → Streams → Type 0
Because stop words old new =
    ((stop ≡ Words) × ((command : Command) → ¬ Means words command) × (new ≡ old))
    ⊎ (((stop ≡ Memory) × (new ≡ old))
    ⊎ ((command : Command) × Means words command × BecauseOf stop command old new))

-- the message stands on the error output, or a part of it where that failed
abbrev pub Tells : Sink.Output → Sink.Output → List ℕ → Type 0
Tells old new message = Gains old new message ⊎ Breaks old new message

-- The run stopped for a cause, and told it.
pub record StopsFor (stop : Stop) (words : List (List ℕ)) (old new : Streams) (err err' : Sink.Output) (status : ℕ) : Type 0 where
  pub ends : status ≡ status_of stop
  pub because : Because stop words old new
  pub tells : Tells err err' (message_of stop)

-- How a run ends: with the text and a silent error output, or for a cause.
abbrev pub Ends : List (List ℕ) → Streams → Streams → Sink.Output → Sink.Output → ℕ → Type 0
Ends words old new err err' status = ((err' ≡ err) × Finishes words old new status) ⊎ ((stop : Stop) × StopsFor stop words old new err err' status)

-- What is due to a text under a command: a status, and a message for the error output.
pub data IsDue (command : Command) (text : List ℕ) : ℕ → List ℕ → Type 0 where
  too_long : IsReading command → most_input < length text → IsDue command text 3 too_long_message
  refused : {message : List ℕ} → length text ≤ most_input → Refuses command text message → IsDue command text 3 message
  finished : {P : Presentation} {limit level : ℕ} → HasLimit command limit → length text ≤ most_input → Spells text P → IsFinishedAt P limit level → IsDue command text 0 []
  outgrown : {P : Presentation} {limit level size : ℕ} → HasLimit command limit → length text ≤ most_input → Spells text P → IsOutgrown P limit level size → IsDue command text 1 []
  shown : {P : Presentation} → IsShowing command → length text ≤ most_input → Spells text P → IsDue command text 0 []
  checked : {P : Presentation} {A : Answer} (verdict : Verdict) → IsChecking command → length text ≤ most_input → IsClaim text P A → IsVerdict P A verdict
      → IsDue command text (verdict_status verdict) []
  made : CanMake command → IsDue command text 0 []
  not_made : CannotMake command → IsDue command text 3 no_presentation_message

-- The words ask for the command, the source tells the text where one is read, and neither the source nor the output fails.
pub record IsServed (words : List (List ℕ)) (old new : Streams) (command : Command) (text : List ℕ) : Type 0 where
  pub asks : Means words command
  pub told : IsReading command → old.source.left ≡ Some text
  pub source_holds : ¬ HasRisen old.source.count new.source.count
  pub out_holds : ¬ HasRisen old.out.count new.out.count

-- Then the run ends with what is due to the text, or for want of memory.
abbrev pub ServesAll : List (List ℕ) → Streams → Streams → Sink.Output → Sink.Output → ℕ → Type 0
ServesAll words old new err err' status = (command : Command) (text : List ℕ) (due : ℕ) (message : List ℕ)
    → IsServed words old new command text → IsDue command text due message → ((status ≡ due) × Tells err err' message) ⊎ (status ≡ 6)
