use Rattle.std.proofs.Common.{◌≡◌, ◌+◌, ◌++◌, arith, refl, sym, ap, ◌∙◌}
use Rattle.std.specs.Prelude.{codes, decimal}
use Rattle.std.proofs.lemmas.Bool.Decides.{Decides-eqb}
use Rattle.std.proofs.lemmas.List.{append_cancel_left}
use Rattle.std.proofs.lemmas.Slice.Eq.{strip_prefix_is}
use Rattle.ve_answers.proofs.NextWords.{root_number, root_text}
use Rattle.ve_answers.proofs.basis.root_of.Goals as goal

pub returns-in_err-strip_prefix : goal.returns-in_err-strip_prefix
returns-in_err-strip_prefix c =
    let stripped = strip_prefix_is Decides-eqb c.args.text.now (codes "e") c.strip_prefix.result c.strip_prefix.ensures.cases in
    let none = rw c.in_err-strip_prefix.was at stripped in
    rw c.from_residual.ensures (λ i less same. none (decimal (i + 1)) (same ∙ root_text c.args.head.now.names i))

pub returns-in_err-number : goal.returns-in_err-number
returns-in_err-number c =
    let stripped = strip_prefix_is Decides-eqb c.args.text.now (codes "e") c.strip_prefix.result c.strip_prefix.ensures.cases in
    let first : c.args.text.now ≡ codes "e" ++ c.in_ok-strip_prefix.field-0.now = rw c.in_ok-strip_prefix.was at stripped in
    rw c.from_residual-in_err-number.ensures
    (λ i less same. c.in_err-number.ensures (i + 1) (omega (arith, less, c.from.ensures)) (append_cancel_left (codes "e") _ _ (sym first ∙ same ∙ root_text c.args.head.now.names i)))

pub returns-in_err-root : goal.returns-in_err-root
returns-in_err-root c =
    let stripped = strip_prefix_is Decides-eqb c.args.text.now (codes "e") c.strip_prefix.result c.strip_prefix.ensures.cases in
    let first : c.args.text.now ≡ codes "e" ++ c.in_ok-strip_prefix.field-0.now = rw c.in_ok-strip_prefix.was at stripped in
    let whole : c.args.text.now ≡ codes "e" ++ decimal c.in_ok-number.number = first ∙ ap (λ t. codes "e" ++ t) c.in_ok-number.ensures.0 in
    rw c.from_residual-in_err-root.ensures
    (λ i less same.
    let number : c.in_ok-number.number ≡ i + 1 =
    root_number c.args.head.now c.args.text.now c.in_ok-number.number whole (omega (arith, c.in_ok-number.ensures.1, c.from.ensures, c.requires.generators)) i (omega (arith, less, c.requires.generators)) same in
    c.in_err-root.ensures (omega (arith, number)))

pub returns : goal.returns
returns c =
    let stripped = strip_prefix_is Decides-eqb c.args.text.now (codes "e") c.strip_prefix.result c.strip_prefix.ensures.cases in
    let first : c.args.text.now ≡ codes "e" ++ c.in_ok-strip_prefix.field-0.now = rw c.in_ok-strip_prefix.was at stripped in
    let number : c.in_ok-number.number ≡ c.in_ok-root.root + 1 = omega (arith, c.in_ok-root.ensures.0, c.in_ok-root.ensures.1) in (
      c.in_ok-root.root,
      omega (arith, c.in_ok-root.ensures.0, c.in_ok-root.ensures.1, c.in_ok-number.ensures.1, c.from.ensures),
      refl,
      first ∙ ap (λ t. codes "e" ++ t) c.in_ok-number.ensures.0 ∙ ap (λ n. codes "e" ++ decimal n) number ∙ sym (root_text c.args.head.now.names c.in_ok-root.root),
    )
