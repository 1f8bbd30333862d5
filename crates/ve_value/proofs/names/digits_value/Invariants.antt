use Rattle.std.proofs.Common.{◌≡◌, ◌<◌, ◌^◌, take}
use Rattle.std.specs.Prelude.{IsTrue}
use Rattle.std.specs.List.{list_all}
use Rattle.ve_theory.specs.Validity.{is_digit}
use Rattle.ve_formats.specs.Tokens.{number_value}
use Rattle.ve_value.proofs.names.digits_value.Given as goal

abbrev pub invariant-loop-digit : goal.invariant-loop-digit
invariant-loop-digit l = record {
  so_far : l.number ≡ number_value (take l.digit-index l.digits);
  small : l.number < 10 ^ l.digit-index;
  all : IsTrue (list_all is_digit (take l.digit-index l.digits));
}
