use Rattle.std.proofs.Common.{arith}
use Rattle.ve_pres.specs.Built.{draft_of}
use Rattle.ve_pres.proofs.presentation.Presentation.m.Goals as goal

pub returns-clause-within : goal.returns-clause-within
returns-clause-within c =
    omega (arith, c.self.invariant.m, (c.valid_reaches_are_small.ensures (draft_of c.self.inside).presentation c.self.invariant.valid).submodule)
