use Rattle.ve_examples.proofs.examples.triangle_is_balanced.Goals as goal
use Rattle.ve_examples.proofs.InverseTests.{triangle_valid, balanced_triangle_presents, triangle_balanced}

pub returns : goal.returns
returns c = record { valid = triangle_valid; presentation = balanced_triangle_presents; balance = triangle_balanced }
