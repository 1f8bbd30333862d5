use Rattle.std.proofs.Common.{inr, ap, ◌<◌, arith}
use Rattle.std.proofs.lemmas.Result.{err_from_is_err_and}
use Rattle.ve_formats.specs.PresentationLines.{refuses_generators}
use Rattle.ve_read.specs.Drafts.{stage_of}
use Rattle.ve_read.proofs.HeaderLines.{generators_taken}
use Rattle.ve_read.proofs.building.Building.generators.Goals as goal

pub returns : goal.returns
returns c =
    let positive : 0 < c.args.count = omega arith in
    rw c.at.ensures (generators_taken c.args.self c.requires.kept c.requires.stage c.args.count positive c.in_ok-set_roots.ensures.judged _ c.in_ok-set_roots.ensures.ok)

pub returns-in_err-set_roots : goal.returns-in_err-set_roots
returns-in_err-set_roots c =
    let failed = err_from_is_err_and c.from_residual.result c.from_residual.ensures.1 in
    let positive : 0 < c.args.count = omega arith in
    let many = c.in_err-set_roots.ensures.judged in
    rw (failed.1, failed.2, many.0) (inr ((ap stage_of c.requires.stage, positive), refuses_generators c.args.count many.1))
