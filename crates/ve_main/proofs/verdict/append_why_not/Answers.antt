use Rattle.std.proofs.Common.{subst}
use Rattle.ve_check.specs.declared.verdict.Verdict.TheVariants.{No}
use Rattle.ve_check.specs.Verdicts.{CountsFromOne}
use Rattle.ve_main.proofs.Verdicts.{relator_told}
use Rattle.ve_main.proofs.verdict.append_why_not.Goals as goal

pub returns-in_ok-append_counted-in-RelatorFails : goal.returns-in_ok-append_counted-in-RelatorFails
returns-in_ok-append_counted-in-RelatorFails c =
    let counts = subst (λ why. CountsFromOne (No why)) c.in-RelatorFails.is c.requires in
    rw c.in-RelatorFails.is (relator_told c.append_counted-in-RelatorFails.result c.args.text.now.items _ _ c.in-RelatorFails.number c.in-RelatorFails.row counts.0 counts.1
    c.in_ok-append_counted-in-RelatorFails.ensures c.append_counted-in-RelatorFails.ensures)
