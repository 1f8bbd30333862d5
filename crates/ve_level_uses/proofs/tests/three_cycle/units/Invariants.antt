use Rattle.std.proofs.Common.{◌≡◌, map, take}
use Rattle.ve_theory.specs.Combinations.{unit}
use Rattle.ve_level_uses.proofs.tests.three_cycle.units.Given as goal

abbrev pub invariant-loop-place : goal.invariant-loop-place
invariant-loop-place l = l.rows.items ≡ map unit (take l.place-index l.places)
