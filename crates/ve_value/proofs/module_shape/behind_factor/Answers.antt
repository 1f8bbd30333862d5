use Rattle.std.proofs.Common.{◌≡◌, ◌∙◌, false, refl, sym}
use Rattle.std.specs.Prelude.{◌&&◌}
use Rattle.ve_lex.specs.Lexed.{token_of}
use Rattle.ve_value.specs.ModuleShapes.{ends_factor}
use Rattle.ve_value.proofs.ModuleSteps.{factor_ends, factor_goes_on}
use Rattle.ve_value.proofs.module_shape.behind_factor.Goals as goal
use Rattle.ve_value.proofs.module_shape.behind_factor.Goals.{else-is_whole-via-then-is_whole+else-is_joining, else-is_whole-via-else-is_whole}

pub returns-then-is_joining-clause-next : goal.returns-then-is_joining-clause-next
returns-then-is_joining-clause-next c =
    factor_ends c.args.shape (token_of c.args.token.now) c.is_whole.result _ c.is_whole.ensures c.if-is_whole.true (sym c.is_joining.ensures ∙ c.if-is_joining.true) c.behind_term.ensures.next

pub returns-in_err-next-clause-next : goal.returns-in_err-next-clause-next
returns-in_err-next-clause-next c =
    let on : (c.is_whole.result && ends_factor (token_of c.args.token.now)) ≡ false = elim c.else-is_whole.branch [
      | else-is_whole-via-then-is_whole+else-is_joining w ↦ rw (w.if-is_whole.true) (sym w.is_joining.ensures ∙ w.if-is_joining.false)
      | else-is_whole-via-else-is_whole w ↦ rw (w.if-is_whole.false) refl
    ] in
    rw (c.from_residual.ensures) (factor_goes_on c.args.shape (token_of c.args.token.now) c.is_whole.result _ c.is_whole.ensures on (λ r h. c.read.ensures.next r h ∙ c.in_err-next.was))

pub returns-clause-next : goal.returns-clause-next
returns-clause-next c =
    let on : (c.is_whole.result && ends_factor (token_of c.args.token.now)) ≡ false = elim c.else-is_whole.branch [
      | else-is_whole-via-then-is_whole+else-is_joining w ↦ rw (w.if-is_whole.true) (sym w.is_joining.ensures ∙ w.if-is_joining.false)
      | else-is_whole-via-else-is_whole w ↦ rw (w.if-is_whole.false) refl
    ] in
    factor_goes_on c.args.shape (token_of c.args.token.now) c.is_whole.result _ c.is_whole.ensures on (λ r h. c.read.ensures.next r h ∙ c.in_ok-next.was)
