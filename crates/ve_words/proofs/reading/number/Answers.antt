use Rattle.std.proofs.Common.{ℕ, List, refl, inl, inr, arith}
use Rattle.std.specs.Prelude.{Result, Some, None}
use Rattle.std.specs.Str.Parse.{ParsesUnsigned, ExplainsUnsignedError, HasUnsignedDigitsIfOk}
use Rattle.clap.specs.Words.{found_of}
use Rattle.ve_words.proofs.Values.{number_given, number_other, number_none}
use Rattle.ve_words.proofs.reading.number.Goals as goal
use Rattle.ve_words.proofs.reading.number.Goals.{then-number-low-via-then-number-low, then-number-low-via-else-number-low+then-number-high}

pub returns-clause-given : goal.returns-clause-given
returns-clause-given c =
    number_given _ (λ bs r. ParsesUnsigned 64 10 bs r × ExplainsUnsignedError 10 bs r × HasUnsignedDigitsIfOk bs r) (λ u x g. g.0) (found_of c.args.matches.now)
    c.args.name.now c.args.low c.args.high c.in-Some.number (Some c.in-Some.number)
    c.in-Some.ensures.none c.in-Some.ensures.value refl c.if-number-low.false c.if-number-high.false

pub returns-in_default-clause-refused : goal.returns-in_default-clause-refused
returns-in_default-clause-refused c = (
  refl,
  number_none _ (λ bs r. ParsesUnsigned 64 10 bs r × ExplainsUnsignedError 10 bs r × HasUnsignedDigitsIfOk bs r) (λ u x g. g.0) (found_of c.args.matches.now)
      c.args.name.now c.args.low c.args.high None c.in_default.ensures.value refl,
)

pub returns-then-number-low-clause-refused : goal.returns-then-number-low-clause-refused
returns-then-number-low-clause-refused c = (
  refl,
  number_other _ (λ bs r. ParsesUnsigned 64 10 bs r × ExplainsUnsignedError 10 bs r × HasUnsignedDigitsIfOk bs r) (λ u x g. g.0) (found_of c.args.matches.now)
      c.args.name.now c.args.low c.args.high c.in-Some.number (Some c.in-Some.number) c.in-Some.ensures.value refl
      (elim c.then-number-low.branch [
        | then-number-low-via-then-number-low w ↦ inl w.if-number-low.true
        | then-number-low-via-else-number-low+then-number-high w ↦ inr w.if-number-high.true
      ]),
)
