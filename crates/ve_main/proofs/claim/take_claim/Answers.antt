use Rattle.std.proofs.lemmas.Result.{IfErr-weaker}
use Rattle.ve_main.specs.Claims.{IsNoClaim}
use Rattle.ve_main.proofs.Reading.{stops_text}
use Rattle.ve_main.proofs.claim.take_claim.Goals as goal

pub returns-clause-stopped : goal.returns-clause-stopped
returns-clause-stopped g c =
    IfErr-weaker c.read_claim.result _ _ (λ stop stops. stops_text IsNoClaim _ _ c.in_ok-input.input.items c.in_ok-input.ensures.taken stop stops)
    (rw c.deref.ensures.value at c.read_claim.ensures.stopped)
