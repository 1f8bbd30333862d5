use Rattle.std.proofs.Common.{◌≡◌, cond, arith, refl, ap, ◌∙◌, get_or}
use Rattle.std.specs.Int.{from_bool}
use Rattle.ve_formats.specs.PresentationText.{is_sign}
use Rattle.ve_lex.specs.Lexed.{token_of}
use Rattle.ve_value.proofs.TokenLists.{past_end, tokens_from, tokens_past}
use Rattle.ve_read.proofs.Depth.{deep_here, deep_nowhere, deep_further, counted_if, counts_one}
use Rattle.ve_read.proofs.lines.is_too_deep.Goals as goal

pub returns-then-opened-closed : goal.returns-then-opened-closed
returns-then-opened-closed c =
    let t = token_of (get_or c.args.tokens.now c.loop-placed.placed-index past_end).token in
    let before = rw (tokens_from c.args.tokens.now c.loop-placed.placed-index c.loop-placed-test.true) at c.loop-placed.invariant.deep in
    let opened : c.from-opened.result ≡ cond (is_sign 40 t) 1 0 = counted_if _ _ (c.from-opened.ensures ∙ ap from_bool c.is_sign.ensures) in
    let closed : c.from-closed.result ≡ cond (is_sign 41 t) 1 0 = counted_if _ _ (c.from-closed.ensures ∙ ap from_bool c.is_sign-in-loop-placed.ensures) in
    let many = c.if-opened-closed.true in
    (λ h. deep_here _ _ _ _ (deep_further _ _ t _ _ c.loop-placed.invariant.within before) (omega arith), λ h. refl)

pub loop-placed-preserved : goal.loop-placed-preserved
loop-placed-preserved c =
    let t = token_of (get_or c.args.tokens.now c.loop-placed.placed-index past_end).token in
    let before = rw (tokens_from c.args.tokens.now c.loop-placed.placed-index c.loop-placed-test.true) at c.loop-placed.invariant.deep in
    let opened : c.from-opened.result ≡ cond (is_sign 40 t) 1 0 = counted_if _ _ (c.from-opened.ensures ∙ ap from_bool c.is_sign.ensures) in
    let closed : c.from-closed.result ≡ cond (is_sign 41 t) 1 0 = counted_if _ _ (c.from-closed.ensures ∙ ap from_bool c.is_sign-in-loop-placed.ensures) in
    record {
      opened = omega (arith, counts_one (is_sign 40 t));
      closed = omega (arith, counts_one (is_sign 41 t));
      within = c.if-opened-closed.false;
      deep = rw (opened, closed) (deep_further _ _ t _ _ c.loop-placed.invariant.within before);
    }

pub returns : goal.returns
returns c =
    let before = c.loop-placed.invariant in
    (λ h. absurd (cc), λ h. absurd (deep_nowhere _ _ _ _ before.deep (tokens_past c.args.tokens.now c.loop-placed.placed-index c.loop-placed-test.false) before.within h))
