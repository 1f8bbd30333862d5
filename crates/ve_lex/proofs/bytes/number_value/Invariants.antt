use Rattle.std.proofs.Common.{◌≡◌, ◌<◌, ◌^◌, take}
use Rattle.ve_formats.specs.Tokens.{number_value}
use Rattle.ve_lex.proofs.bytes.number_value.Given as goal

abbrev pub invariant-loop-digit : goal.invariant-loop-digit
invariant-loop-digit l = record { so_far : l.value ≡ number_value (take l.digit-index l.digits); small : l.value < 10 ^ l.digit-index }
