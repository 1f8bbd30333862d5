use Rattle.std.proofs.Common.{◌≡◌, false}
use Rattle.ve_show.proofs.Numbered.{Writes-no_balance}
use Rattle.ve_show.proofs.text.show_balance.Goals as goal

pub returns : goal.returns
returns g c =
    let plain : c.args.presentation.now.presentation.is_balanced ≡ false = cc in
    Writes-no_balance c.args.presentation.now.presentation _ _ plain
