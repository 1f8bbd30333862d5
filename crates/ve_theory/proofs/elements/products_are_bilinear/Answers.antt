use Rattle.ve_theory.proofs.Products.{products_are_bilinear}
use Rattle.ve_theory.proofs.elements.products_are_bilinear.Goals as goal

pub returns : goal.returns
returns c = products_are_bilinear
