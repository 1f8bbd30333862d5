use Rattle.std.proofs.Common.{ap, ◌∙◌, sym, ◌∷◌, Some}
use Rattle.atomic_table.specs.Table.{rest}
use Rattle.ve_turn.proofs.steps.lift.Goals as goal

pub exchange-requires : goal.exchange-requires
exchange-requires g c = let is = c.requires.inside.2 in let x = c.requires.inside.1 in
    (c.requires.table.0, (Some x, ap (λ m. m.1) is ∙ ap (λ m. (0, Some x) ∷ rest m.1) (sym is)))
