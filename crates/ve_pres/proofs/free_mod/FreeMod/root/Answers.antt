use Rattle.std.proofs.Common.{◌≡◌, ◌<◌, ℕ}
use Rattle.std.proofs.lemmas.Result.{IfOk-weaker}
use Rattle.ve_theory.specs.Combinations.{IsReduced, unit}
use Rattle.ve_theory.specs.Elements.{Element}
use Rattle.ve_theory.specs.Words.{Shortlex}
use Rattle.ve_pres.proofs.InAlgebra.{reduced_word}
use Rattle.ve_pres.proofs.free_mod.FreeMod.root.Goals as goal

pub returns-clause-reduced : goal.returns-clause-reduced
returns-clause-reduced c =
    let P : Element → Type 0 = λ element. element ≡ unit c.root.result in
    let Q : Element → Type 0 = λ element. (p : ℕ) → 1 < p → IsReduced Shortlex p element in
    IfOk-weaker _ P Q (λ element one p large. reduced_word p _ element large one) c.of_word.ensures
