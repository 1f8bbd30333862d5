use Rattle.std.proofs.Common.{◌≡◌, arith}
use Rattle.ve_read.proofs.HeaderLines.{balance_taken}
use Rattle.ve_read.proofs.building.Building.balance.Goals as goal

pub returns : goal.returns
returns c =
    let two : c.args.self.presentation.presentation.version ≡ 2 = omega (arith, c.version.ensures) in
    rw c.at.ensures (balance_taken c.args.self c.requires.kept c.requires.stage two _ c.balance.ensures.balanced)
