use Rattle.std.proofs.Common.{◌≡◌, ◌+◌, ◌-◌, ◌<◌, length, subst, ℕ, arith}
use Rattle.ve_pres.proofs.HalfSteps.{IsPartOfInverse, inverse_begins, inverse_goes_on, inverse_is_missing}
use Rattle.ve_pres.proofs.presentation.Presentation.times_inverse.Goals as goal

pub loop-left-init : goal.loop-left-init
loop-left-init c = inverse_begins c.args.self.now.presentation c.args.word c.args.letters.now

pub returns-in_default : goal.returns-in_default
returns-in_default c =
    let below : c.loop-left.left - 1 < length c.args.letters.now = omega (arith, c.loop-left.invariant.within, c.loop-left-test.true) in
    inverse_is_missing c.args.self.now.presentation c.args.letters.now (c.loop-left.left - 1) below c.in_default.ensures.inverse

pub loop-left-preserved : goal.loop-left-preserved
loop-left-preserved c =
    let below : c.loop-left.left - 1 < length c.args.letters.now = omega (arith, c.loop-left.invariant.within, c.loop-left-test.true) in
    let place : c.loop-left.left ≡ c.loop-left.left - 1 + 1 = omega (arith, c.loop-left-test.true) in
    let P : ℕ → Type 0 = λ n. IsPartOfInverse c.args.self.now.presentation c.args.word c.args.letters.now n c.loop-left.product in
    inverse_goes_on c.args.self.now.presentation c.args.word c.args.letters.now (c.loop-left.left - 1) c.in-Some.inverse c.loop-left.product _ below (subst P place c.loop-left.invariant)
    c.in-Some.ensures.inverse
    c.in-Some.ensures.exists
    c.in_ok-push.ensures.ok
