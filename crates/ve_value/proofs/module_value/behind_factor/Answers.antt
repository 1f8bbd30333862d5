use Rattle.std.proofs.Common.{◌≡◌, ◌∙◌, false, refl, sym}
use Rattle.std.specs.Prelude.{◌&&◌}
use Rattle.std.proofs.lemmas.Result.{err_from_is_err_and}
use Rattle.ve_lex.specs.Lexed.{token_of}
use Rattle.ve_value.specs.ModuleShapes.{ends_factor}
use Rattle.ve_value.specs.declared.module_value.Term.TheVariants.{Multiplying}
use Rattle.ve_value.proofs.ModuleWorkSteps.{module_work, product_can_read, product_reads, product_fails, factor_can_read, factor_reads, factor_fails}
use Rattle.ve_value.proofs.module_value.behind_factor.Goals as goal
use Rattle.ve_value.proofs.module_value.behind_factor.Goals.{else-is_whole-via-then-is_whole+else-is_joining, else-is_whole-via-else-is_whole}

pub returns-in_err-value : goal.returns-in_err-value
returns-in_err-value c =
    let failed = err_from_is_err_and c.from_residual.result c.from_residual.ensures.1 in
    rw (failed.1, failed.2)
    (product_fails _ (module_work c.args.pending (Multiplying c.args.value c.args.work)) _ _ _ _ _ refl c.is_whole.ensures c.if-is_whole.true (sym c.is_joining.ensures ∙ c.if-is_joining.true) c.in_err-value.ensures)

pub behind_term-requires : goal.behind_term-requires
behind_term-requires c =
    product_can_read _ (module_work c.args.pending (Multiplying c.args.value c.args.work)) _ _ _ _ _ refl c.is_whole.ensures c.if-is_whole.true (sym c.is_joining.ensures ∙ c.if-is_joining.true)
    c.in_ok-value.ensures c.requires.goes_on

pub returns-then-is_joining : goal.returns-then-is_joining
returns-then-is_joining c =
    product_reads _ (module_work c.args.pending (Multiplying c.args.value c.args.work)) _ _ _ _ _ _ refl c.is_whole.ensures c.if-is_whole.true (sym c.is_joining.ensures ∙ c.if-is_joining.true)
    c.in_ok-value.ensures c.behind_term.ensures

pub read-requires-clause-goes_on : goal.read-requires-clause-goes_on
read-requires-clause-goes_on c =
    let on : (c.is_whole.result && ends_factor (token_of c.args.token.now)) ≡ false = elim c.else-is_whole.branch [
      | else-is_whole-via-then-is_whole+else-is_joining w ↦ rw (w.if-is_whole.true) (sym w.is_joining.ensures ∙ w.if-is_joining.false)
      | else-is_whole-via-else-is_whole w ↦ rw (w.if-is_whole.false) refl
    ] in
    factor_can_read _ (module_work c.args.pending (Multiplying c.args.value c.args.work)) _ _ _ _ refl c.is_whole.ensures on c.requires.goes_on

pub returns-in_err-work : goal.returns-in_err-work
returns-in_err-work c =
    let on : (c.is_whole.result && ends_factor (token_of c.args.token.now)) ≡ false = elim c.else-is_whole.branch [
      | else-is_whole-via-then-is_whole+else-is_joining w ↦ rw (w.if-is_whole.true) (sym w.is_joining.ensures ∙ w.if-is_joining.false)
      | else-is_whole-via-else-is_whole w ↦ rw (w.if-is_whole.false) refl
    ] in
    let failed = err_from_is_err_and c.from_residual-in_err-work.result c.from_residual-in_err-work.ensures.1 in
    rw (failed.1, failed.2)
    (factor_fails _ (module_work c.args.pending (Multiplying c.args.value c.args.work)) _ _ _ _ _ refl c.is_whole.ensures on c.in_err-work.ensures)

pub returns : goal.returns
returns c =
    let on : (c.is_whole.result && ends_factor (token_of c.args.token.now)) ≡ false = elim c.else-is_whole.branch [
      | else-is_whole-via-then-is_whole+else-is_joining w ↦ rw (w.if-is_whole.true) (sym w.is_joining.ensures ∙ w.if-is_joining.false)
      | else-is_whole-via-else-is_whole w ↦ rw (w.if-is_whole.false) refl
    ] in
    factor_reads _ (module_work c.args.pending (Multiplying c.args.value c.args.work)) _ _ _ _ _ refl c.is_whole.ensures on c.in_ok-work.ensures
