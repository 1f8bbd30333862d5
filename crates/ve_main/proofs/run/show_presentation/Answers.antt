use Rattle.ve_main.proofs.Runs.{stopped_show}
use Rattle.ve_main.proofs.run.show_presentation.Goals as goal

pub returns-clause-stopped : goal.returns-clause-stopped
returns-clause-stopped g c = stopped_show _ _ c.in_ok-presentation.presentation.presentation c.in_ok-presentation.ensures.taken _ c.write_shown.ensures.stopped
