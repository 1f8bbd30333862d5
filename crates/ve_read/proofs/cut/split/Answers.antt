use Rattle.std.proofs.Common.{inl}
use Rattle.ve_read.proofs.Cuts.{passed_nothing, passed_line, cut_behind_end}
use Rattle.ve_read.proofs.cut.split.Goals as goal

pub loop-line-init : goal.loop-line-init
loop-line-init c = passed_nothing c.args.text.now

pub returns-then-is_end-clause-place : goal.returns-then-is_end-clause-place
returns-then-is_end-clause-place c =
    inl (cut_behind_end _ _ _ _ c.in-Some.ensures.lines c.in-Some.ensures.places c.loop-line.invariant (c.is_end.ensures.0 c.if-is_end.true))

pub loop-line-preserved : goal.loop-line-preserved
loop-line-preserved c =
    passed_line _ _ _ _ c.in-Some.ensures.lines c.in-Some.ensures.places c.loop-line.invariant (λ h. let is = c.is_end.ensures.1 h in let other = c.if-is_end.false in absurd (cc))
