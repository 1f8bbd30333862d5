use Rattle.std.proofs.Common.{◌<◌, length, arith, ◌∙◌}
use Rattle.ve_vec.specs.Vectors.{numbered}
use Rattle.ve_lemmas.proofs.InPlace.{map_next}
use Rattle.ve_table.proofs.Unmoved.{next_numbered, one_unmoved}
use Rattle.ve_table.proofs.table.drop_dead.renumber_vectors.Goals as goal
use Rattle.ve_table.proofs.table.drop_dead.renumber_vectors.Goals.{then-not-is_below, else-not-is_below}

pub renumber-requires-clause-ids : goal.renumber-requires-clause-ids
renumber-requires-clause-ids c =
    (next_numbered c.args.numbers.now c.args.vectors.now c.loop-vector.vector-items c.loop-vector.vector-index c.vector-item.result c.requires.vectors (omega (arith, c.loop-vector-test.true, c.loop-vector.auto.vector-items)) c.loop-vector.invariant).ids

pub renumber-requires-clause-order : goal.renumber-requires-clause-order
renumber-requires-clause-order c =
    (next_numbered c.args.numbers.now c.args.vectors.now c.loop-vector.vector-items c.loop-vector.vector-index c.vector-item.result c.requires.vectors (omega (arith, c.loop-vector-test.true, c.loop-vector.auto.vector-items)) c.loop-vector.invariant).order

pub loop-vector-preserved : goal.loop-vector-preserved
loop-vector-preserved c =
    let inside : c.loop-vector.vector-index < length c.args.vectors.now = omega (arith, c.loop-vector-test.true, c.loop-vector.auto.vector-items) in
    let within : c.loop-vector.vector-index < length c.loop-vector.vector-items = omega (arith, c.loop-vector-test.true, c.loop-vector.auto.vector-items) in
    elim c.if-not-is_below.branch [
      | then-not-is_below w ↦
          w.vector-items-is
          ∙ map_next (numbered c.args.numbers.now) c.args.vectors.now c.loop-vector.vector-items c.loop-vector.vector-index c.vector-item.result w.renumber.new.self inside within c.loop-vector.invariant w.renumber.ensures
      | else-not-is_below w ↦
          w.vector-items-is
          ∙ one_unmoved c.args.numbers.now c.args.least c.args.vectors.now c.loop-vector.vector-items c.loop-vector.vector-index c.vector-item.result c.requires.least inside within c.loop-vector.invariant (c.is_below.ensures.0 w.if-not-is_below.false)
    ]
