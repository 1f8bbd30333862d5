use Rattle.std.proofs.Common.{◌∙◌, rules, sym}
use Rattle.ve_pres.proofs.InAlgebra.{first_times, first_words, view_limit, view_product, view_reduced}
use Rattle.ve_pres.proofs.WordBounds.{letters_of_times}
use Rattle.ve_pres.proofs.free_alg.FreeAlg.mul.Goals as goal

pub times-requires-clause-left : goal.times-requires-clause-left
times-requires-clause-left c = view_reduced _ _ _ c.self.invariant c.self.view_is c.requires.left

pub returns-in_err-element-clause-limit : goal.returns-in_err-element-clause-limit
returns-in_err-element-clause-limit c = rw (sym (view_limit _ _ c.args.other.now c.self.view_is)) (search rules)

pub invariant_of-result : goal.invariant_of-result
invariant_of-result c = first_words _ _ _ c.in_ok-element.ensures.product (first_times _ _ c.self.invariant)

pub returns-clause-product : goal.returns-clause-product
returns-clause-product c = view_product _ _ _ _ _ c.self.invariant c.self.view_is c.in_ok-element.ensures.product

pub returns-clause-limit : goal.returns-clause-limit
returns-clause-limit c = sym (view_limit _ _ c.args.other.now c.self.view_is) ∙ c.in_ok-element.ensures.limit

pub returns-clause-letters : goal.returns-clause-letters
returns-clause-letters c n left right = letters_of_times _ n _ _ _ _ c.self.view_is c.in_ok-element.ensures.product left right
