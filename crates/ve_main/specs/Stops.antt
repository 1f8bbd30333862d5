-- The statuses and messages of runs that end without a text.
use Rattle.std.specs.Prelude.{ℕ, List}
use Rattle.ve_formats.specs.Messages.{usage_message, too_long_message, no_presentation_message, input_message, output_message, memory_message}
use Rattle.ve_port.specs.declared.fault.OutFault.{OutFault}
use Rattle.ve_port.specs.declared.fault.OutFault.TheVariants.{Sink, Memory as NoMemory}
use Rattle.ve_words.specs.declared.fault.WordsFault.{WordsFault}
use Rattle.ve_words.specs.declared.fault.WordsFault.TheVariants.{Refused as NoCommand, Memory as WantOfMemory}
use Rattle.ve_main.specs.declared.stop.Stop.{Stop}
use Rattle.ve_main.specs.declared.stop.Stop.TheVariants.{Words, TooLong, Refused, NoPresentation, Input, Output, Memory}

abbrev pub status_of : Stop → ℕ
status_of Words = 2
status_of TooLong = 3
status_of (Refused message) = 3
status_of NoPresentation = 3
status_of Input = 4
status_of Output = 5
status_of Memory = 6

abbrev pub message_of : Stop → List ℕ
message_of Words = usage_message
message_of TooLong = too_long_message
message_of (Refused message) = message.items
message_of NoPresentation = no_presentation_message
message_of Input = input_message
message_of Output = output_message
message_of Memory = memory_message

-- the cause of a run that stopped in its text
abbrev pub stop_of : OutFault → Stop
stop_of Sink = Output
stop_of NoMemory = Memory

-- the cause of a run whose words give no command
abbrev pub stop_of_words : WordsFault → Stop
stop_of_words NoCommand = Words
stop_of_words WantOfMemory = Memory
