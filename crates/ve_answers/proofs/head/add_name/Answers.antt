use Rattle.std.proofs.Common.{ℕ, List, ◌∷◌, ◌++◌, sym, subst}
use Rattle.ve_formats.specs.AnswerReading.{AreNames}
use Rattle.ve_answers.proofs.NewNames.{unfit, formless}
use Rattle.ve_answers.proofs.head.add_name.Goals as goal

pub returns-in_default-clause-refused : goal.returns-in_default-clause-refused
returns-in_default-clause-refused c = λ refused behind are. formless c.args.names.now c.args.piece.now behind c.in_default.ensures are

pub returns-in_default-fault-clause-refused : goal.returns-in_default-fault-clause-refused
returns-in_default-fault-clause-refused c = λ refused behind are.
    let said = c.add.ensures in
    unfit c.args.names.now c.in-Some.name.now c.add.result said.rooted said.taken said.full c.in-Err.fault c.in-Err.is c.in_default-fault.not-Memory behind
    (subst (λ (name : List ℕ). AreNames (c.args.names.now ++ name ∷ behind)) (sym c.in-Some.ensures.0) are)
