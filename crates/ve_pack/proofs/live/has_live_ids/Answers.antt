use Rattle.std.proofs.Common.{rules, ◌≤◌, get_or, arith}
use Rattle.ve_theory.proofs.Reduced.{All_from_AllBefore}
use Rattle.ve_pack.proofs.live.has_live_ids.Goals as goal

pub returns-then-term-dead : goal.returns-then-term-dead
returns-then-term-dead c = (
  λ low k d lt.
      let within = All_from_AllBefore ◌≤◌ c.in-Some.term.id c.args.vector.now c.in-Some.ensures.greatest k d lt in
      c.requires.below (get_or c.args.vector.now k d).0 (omega (arith, within, c.if-term-dead.true)),
  λ live. search rules,
)
