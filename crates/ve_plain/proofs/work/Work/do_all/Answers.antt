use Rattle.ve_plain.proofs.Going.{Continues-trans}
use Rattle.ve_plain.proofs.Jobs.{all_settled}
use Rattle.ve_plain.proofs.work.Work.do_all.Goals as goal

pub returns-in_err-relators-clause-continues : goal.returns-in_err-relators-clause-continues
returns-in_err-relators-clause-continues c = Continues-trans _ _ _ c.submodule_relations.ensures.continues c.relators.ensures.continues

pub returns-clause-continues : goal.returns-clause-continues
returns-clause-continues c = Continues-trans _ _ _ c.submodule_relations.ensures.continues c.relators.ensures.continues

pub returns-clause-settled : goal.returns-clause-settled
returns-clause-settled c =
    all_settled c.args.self.now c.submodule_relations.new.self c.relators.new.self c.requires c.in_ok-submodule_relations.ensures.settles c.in_ok-relators.ensures.settles
    c.in_ok-submodule_relations.ensures.done c.in_ok-relators.ensures.done
