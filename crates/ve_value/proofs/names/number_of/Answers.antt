use Rattle.std.proofs.Common.{◌≡◌, ◌∙◌, length, sym, arith}
use Rattle.std.proofs.lemmas.List.{nil_from_length}
use Rattle.ve_value.proofs.GeneratorNames.{never_empty, never_zero_first, never_longer, number_given}
use Rattle.ve_value.proofs.names.number_of.Goals as goal
use Rattle.ve_value.proofs.names.number_of.Goals.{then-first-eq48-via-then-first-eq48, then-first-eq48-via-else-first-eq48+then-digits-gt3}

pub returns-in_default : goal.returns-in_default
returns-in_default c = λ n some small is.
    let none : length c.args.digits.now ≡ 0 = omega (arith, c.in_default.ensures.item.3) in
    never_empty n small (sym (nil_from_length _ none) ∙ is)

pub returns-then-first-eq48 : goal.returns-then-first-eq48
returns-then-first-eq48 c = λ n some small is. elim c.then-first-eq48.branch [
  | then-first-eq48-via-then-first-eq48 w ↦ never_zero_first n _ some small (sym (c.in-Some.ensures.item.3.1 0) ∙ w.if-first-eq48.true) is
  | then-first-eq48-via-else-first-eq48+then-digits-gt3 w ↦ never_longer n _ small w.if-digits-gt3.true is
]

pub returns : goal.returns
returns c =
    number_given _ _ c.in-Some.ensures.item.3.0 (λ zero. c.if-first-eq48.false (c.in-Some.ensures.item.3.1 0 ∙ zero)) c.if-digits-gt3.false
    c.decimals_are_numbers.ensures.digits c.decimals_are_numbers.ensures.only c.digits_value.ensures
