use Rattle.std.proofs.Common.{◌∙◌, sym, ap, is_some, arith}
use Rattle.ve_value.proofs.TokenLists.{tokens_from, tokens_past}
use Rattle.ve_value.proofs.ModuleSteps.{module_begins, module_goes_further, module_fails, module_ends}
use Rattle.ve_value.proofs.module_shape.is_module_expression.Goals as goal

pub returns-in_default : goal.returns-in_default
returns-in_default c =
    let before = rw (tokens_from c.args.tokens.now c.loop-placed.placed-index c.loop-placed-test.true) at c.loop-placed.invariant.before in
    sym (ap is_some (module_fails _ _ _ _ before (λ r h. c.read.ensures.next r h ∙ c.in_default.is)))

pub returns : goal.returns
returns c =
    let before = rw (tokens_past c.args.tokens.now c.loop-placed.placed-index c.loop-placed-test.false) at c.loop-placed.invariant.before in
    module_ends _ _ before _ c.is_whole.ensures

pub loop-placed-preserved : goal.loop-placed-preserved
loop-placed-preserved c =
    let before = rw (tokens_from c.args.tokens.now c.loop-placed.placed-index c.loop-placed-test.true) at c.loop-placed.invariant.before in
    record {
      depth = omega (arith, c.in-Some.ensures.depth);
      before = module_goes_further _ _ _ _ _ before (λ r h. c.read.ensures.next r h ∙ c.in-Some.is);
    }

pub loop-placed-init : goal.loop-placed-init
loop-placed-init c = record { depth = omega arith; before = module_begins _ }
