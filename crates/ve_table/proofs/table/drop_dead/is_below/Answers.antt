use Rattle.std.proofs.lemmas.Bool.{ltb-true, lt-ltb}
use Rattle.ve_table.proofs.Unmoved.{leading_below}
use Rattle.ve_table.proofs.table.drop_dead.is_below.Goals as goal

pub returns-in-Some : goal.returns-in-Some
returns-in-Some c =
    let is = leading_below c.in-Some.term.id c.in-Some.term.coef c.args.id c.args.vector.now c.in-Some.ensures.first c.in-Some.ensures.greatest in
    (λ below. is.0 (ltb-true c.in-Some.term.id c.args.id below), λ all. lt-ltb c.in-Some.term.id c.args.id (is.1 all))
