use Rattle.std.proofs.Common.{◌≡◌, ◌++◌, ◌∷◌, [], arith}
use Rattle.std.proofs.lemmas.Bool.Decides.{Decides-eqb}
use Rattle.std.proofs.lemmas.List.Sums.{suffix_len-le-length}
use Rattle.std.proofs.lemmas.Slice.Eq.{strip_suffix_is}
use Rattle.ve_answers.proofs.LastStar.{is_no_star, no_star, split_at_star}
use Rattle.ve_answers.proofs.basis.split_star.Goals as goal

pub overflow_sub-text : goal.overflow_sub-text
overflow_sub-text c = omega (arith, suffix_len-le-length is_no_star c.args.text.now, c.length_behind_star.ensures)

pub returns-in_err-strip_suffix : goal.returns-in_err-strip_suffix
returns-in_err-strip_suffix c =
    let stripped = strip_suffix_is Decides-eqb c.split_at.result.0.now (42 ∷ []) c.strip_suffix.result c.strip_suffix.ensures.cases in
    let none = rw c.in_err-strip_suffix.was at stripped in
    rw c.from_residual.ensures (no_star c.args.text.now _ c.length_behind_star.ensures _ _ c.split_at.ensures.front c.split_at.ensures.back none)

pub returns : goal.returns
returns c =
    let stripped = strip_suffix_is Decides-eqb c.split_at.result.0.now (42 ∷ []) c.strip_suffix.result c.strip_suffix.ensures.cases in
    let some : c.split_at.result.0.now ≡ c.in_ok-strip_suffix.field-0.now ++ 42 ∷ [] = rw c.in_ok-strip_suffix.was at stripped in
    split_at_star c.args.text.now _ c.length_behind_star.ensures _ _ c.split_at.ensures.front c.split_at.ensures.back _ some
