use Rattle.ve_main.proofs.Runs.{stopped_enumeration}
use Rattle.ve_main.proofs.run.answer_presentation.Goals as goal

pub returns-clause-stopped : goal.returns-clause-stopped
returns-clause-stopped g c =
    stopped_enumeration c.args.limit c.args.summary _ _ c.in_ok-presentation.presentation.presentation c.in_ok-presentation.ensures.taken _ c.write_enumeration.ensures.stopped
