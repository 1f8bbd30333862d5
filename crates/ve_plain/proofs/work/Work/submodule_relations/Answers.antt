use Rattle.std.proofs.Common.{◌+◌, subst, sym}
use Rattle.ve_plain.specs.Works.{Settles}
use Rattle.ve_plain.proofs.Going.{Continues-refl, Continues-trans}
use Rattle.ve_plain.proofs.Settling.{Settles-trans}
use Rattle.ve_plain.proofs.Jobs.{KnowsSubmoduleBelow, one_more_relation, reach_there}
use Rattle.ve_plain.proofs.work.Work.submodule_relations.Goals as goal
use Rattle.ve_plain.proofs.work.Work.submodule_relations.Goals.{then-due_sub-from+in_ok-submodule_relation, else-due_sub-from}

pub returns-in_err-submodule_relation-clause-continues : goal.returns-in_err-submodule_relation-clause-continues
returns-in_err-submodule_relation-clause-continues c = Continues-trans _ _ _ c.loop-number.invariant.settles.continues c.submodule_relation.ensures.continues

pub loop-number-preserved : goal.loop-number-preserved
loop-number-preserved c =
    let old = c.args.self.now in
    let now = c.loop-number.self in
    let so_far = c.loop-number.invariant in
    elim c.if-due_sub-from.branch [
      | then-due_sub-from+in_ok-submodule_relation w ↦ record {
        settles = subst (Settles old) (sym w.self-is) (Settles-trans old now w.submodule_relation.new.self so_far.settles w.in_ok-submodule_relation.ensures.settles);
        done = subst (λ work. KnowsSubmoduleBelow old work (c.loop-number.number + 1)) (sym w.self-is)
            (one_more_relation old now w.submodule_relation.new.self so_far.settles.continues w.submodule_relation.ensures.continues c.loop-number.number so_far.done
            (λ O at_work is_due. w.in_ok-submodule_relation.ensures.done O at_work));
      }
      | else-due_sub-from w ↦ record {
        settles = subst (Settles old) (sym w.self-is) so_far.settles;
        done = subst (λ work. KnowsSubmoduleBelow old work (c.loop-number.number + 1)) (sym w.self-is)
            (one_more_relation old now now so_far.settles.continues (Continues-refl now.table so_far.settles.continues.sound) c.loop-number.number so_far.done
            (λ O at_work is_due. absurd (let there = reach_there O now.table c.loop-number.number at_work is_due in w.if-due_sub-from.false cc)));
      }
    ]
