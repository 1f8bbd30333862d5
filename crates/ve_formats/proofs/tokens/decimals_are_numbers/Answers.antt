use Rattle.ve_formats.proofs.Decimals.{is_number-decimal, number_value-decimal, decimal-number_value, length-decimal}
use Rattle.ve_formats.proofs.tokens.decimals_are_numbers.Goals as goal

pub returns-clause-digits : goal.returns-clause-digits
returns-clause-digits c = is_number-decimal

pub returns-clause-value : goal.returns-clause-value
returns-clause-value c = number_value-decimal

pub returns-clause-length : goal.returns-clause-length
returns-clause-length c = length-decimal

pub returns-clause-only : goal.returns-clause-only
returns-clause-only c = decimal-number_value
