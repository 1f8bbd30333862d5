use Rattle.std.proofs.Common.{[], ap, sym, ◌∙◌, append-nil, arith, length}
use Rattle.std.proofs.lemmas.List.{length_push, drop_all, map-append}
use Rattle.ve_vec.specs.Terms.{pairs}
use Rattle.ve_vec.proofs.Merging.{start_right, once_more}
use Rattle.ve_vec.proofs.TermSteps.{first_scaled, push_scaled, finish}
use Rattle.ve_vec.proofs.merge.append_scaled.Goals as goal

pub loop-term-init : goal.loop-term-init
loop-term-init c = (omega (arith, c.in_ok-reserve.ensures.ok), rw c.reserve.ensures.items (start_right _ _ _ _ c.requires.terms))

pub mul-requires-clause-second : goal.mul-requires-clause-second
mul-requires-clause-second c = (first_scaled _ _ _ _ _ _ _ c.loop-term-test.true c.loop-term.invariant.1).residue

pub loop-term-preserved : goal.loop-term-preserved
loop-term-preserved c =
    let next = first_scaled _ _ _ _ _ _ _ c.loop-term-test.true c.loop-term.invariant.1 in (
      omega (arith, c.loop-term.invariant.0, c.loop-term-test.true, ap length c.push_reserved.ensures.items ∙ length_push _ _),
      push_scaled _ _ _ _ _ _ _ c.loop-term-test.true c.loop-term.invariant.1 _ _ (c.mul.ensures.nonzero c.requires.nonzero next.positive)
          c.mul.ensures.residue c.mul.ensures.product c.push_reserved.ensures.items,
    )

pub returns-clause-ok : goal.returns-clause-ok
returns-clause-ok c =
    finish _ _ _ _ [] _ _ (drop_all _ _ c.loop-term-test.false) (sym (append-nil _)) c.loop-term.invariant.1

pub returns-then-by-eq1-clause-ok : goal.returns-then-by-eq1-clause-ok
returns-then-by-eq1-clause-ok c =
    rw (c.if-by-eq1.true, c.in_ok-extend_from_slice.ensures.ok, map-append)
    (once_more c.args.field.now (pairs c.args.sum.now.items) (pairs c.args.right.now) c.requires.terms)
