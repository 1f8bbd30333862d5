use Rattle.std.proofs.Common.{rules, ◌≡◌, ◌*◌, ◌%◌, ◌<◌, IsTrue, nat_eq, take, ap, ◌∙◌, arith}
use Rattle.std.proofs.lemmas.List.{take_all}
use Rattle.ve_theory.proofs.Sums.{Alike_from_weights}
use Rattle.ve_settle.proofs.Heaps.{added_all, nothing_pushed, pushed, start_pushing}
use Rattle.ve_settle.proofs.Vectors.{part_more, term_all, term_residue}
use Rattle.ve_settle.proofs.heap.TermHeap.push_scaled.Goals as goal

pub returns-then-by-eq0-clause-sum : goal.returns-then-by-eq0-clause-sum
returns-then-by-eq0-clause-sum c = Alike_from_weights nat_eq (nothing_pushed _ _ _ _ c.if-by-eq0.true)

pub loop-at-init : goal.loop-at-init
loop-at-init c = record { field = search rules; sum = start_pushing _ _ _; ids = search rules }

pub mul-coef-requires-clause-second : goal.mul-coef-requires-clause-second
mul-coef-requires-clause-second c =
    rw c.loop-at.invariant.field (term_residue c.args.self.now.field _ _ _ c.requires.fits c.term-term.ensures).1

pub invariant_of-self : goal.invariant_of-self
invariant_of-self c = record {
  ordered = search rules;
  residues = added_all _ (λ t. t.1 < c.loop-at.self.field) c.push.result _ _ _ c.push.ensures.permutation c.push.ensures.unchanged c.mul-coef.ensures.residue c.loop-at.self.residues;
}

pub loop-at-preserved : goal.loop-at-preserved
loop-at-preserved c = record {
  field = c.loop-at.invariant.field;
  sum = pushed _ c.args.by c.term-term.result.id c.term-term.result.coef c.mul-coef.result _ _ _ _ _ c.loop-at.invariant.sum c.in_ok-push.ensures.permutation
      (c.mul-coef.ensures.product ∙ ap (λ q. (c.args.by * c.term-term.result.coef) % q) c.loop-at.invariant.field)
      (part_more c.args.vector.now c.loop-at.at _ c.term-term.ensures);
  ids = λ among all of_vector.
      added_all _ (λ t. IsTrue (among t.0)) c.push.result _ _ _ c.push.ensures.permutation c.push.ensures.unchanged
      (term_all (λ t. IsTrue (among t.0)) _ _ _ c.term-term.ensures of_vector) (c.loop-at.invariant.ids among all of_vector);
}

pub returns-clause-sum : goal.returns-clause-sum
returns-clause-sum c =
    let whole : take c.loop-at.at c.args.vector.now ≡ c.args.vector.now = take_all _ _ (omega (arith, c.loop-at-test.false, c.len-at-end.ensures)) in
    Alike_from_weights nat_eq
    (rw whole at c.loop-at.invariant.sum)
