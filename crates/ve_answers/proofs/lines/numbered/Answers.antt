use Rattle.std.proofs.Common.{◌≡◌, ℕ, List, ◌∷◌, ◌++◌, sym, ap, ◌∙◌}
use Rattle.std.specs.Prelude.{decimal}
use Rattle.std.proofs.lemmas.Bool.Decides.{Decides-eqb}
use Rattle.std.proofs.lemmas.Slice.Eq.{strip_prefix_is}
use Rattle.std.proofs.lemmas.List.{append_cancel_left}
use Rattle.ve_answers.proofs.TextEnds.{option_weaker}
use Rattle.ve_answers.proofs.lines.numbered.Goals as goal

behind : (xs ys : List ℕ) → 32 ∷ xs ≡ 32 ∷ ys → xs ≡ ys
behind xs ys is = cc

pub returns-in_err-strip_prefix : goal.returns-in_err-strip_prefix
returns-in_err-strip_prefix c =
    let stripped = strip_prefix_is Decides-eqb c.args.line.now c.args.word.now c.strip_prefix.result c.strip_prefix.ensures.cases in
    let none = rw c.in_err-strip_prefix.was at stripped in
    rw c.from_residual.ensures (λ n least is. none (32 ∷ decimal n) is)

pub returns : goal.returns
returns c =
    let stripped = strip_prefix_is Decides-eqb c.args.line.now c.args.word.now c.strip_prefix.result c.strip_prefix.ensures.cases in
    let first : c.args.line.now ≡ c.args.word.now ++ c.in_ok-strip_prefix.field-0.now = rw c.in_ok-strip_prefix.was at stripped in
    let whole : c.args.line.now ≡ c.args.word.now ++ 32 ∷ c.in_ok-behind_space.field-0.now = first ∙ ap (λ t. c.args.word.now ++ t) c.in_ok-behind_space.ensures in
    option_weaker c.decimal.result
    (λ none n least is. none n least (behind c.in_ok-behind_space.field-0.now (decimal n) (append_cancel_left c.args.word.now _ _ (sym whole ∙ is))))
    (λ n some. (whole ∙ ap (λ ds. c.args.word.now ++ 32 ∷ ds) some.0, some.1))
    c.decimal.ensures
