use Rattle.std.proofs.Common.{ap}
use Rattle.ve_read.specs.Forms.{declared_of}
use Rattle.ve_read.specs.Drafts.{built_of, stage_of}
use Rattle.ve_read.proofs.LetterLines.{judged_first}
use Rattle.ve_read.proofs.building.Building.judge_first.Goals as goal

pub returns-clause-judged : goal.returns-clause-judged
returns-clause-judged c =
    judged_first (built_of c.args.self.now) (declared_of c.args.letter.now) (declared_of c.args.inverse.now) (ap stage_of c.requires.stage)
    c.in_ok-check_weight.ensures.place c.in_ok-check_weight-2.ensures.place c.judge.result c.judge.ensures
