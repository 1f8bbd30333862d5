use Rattle.std.proofs.Common.{◌≡◌, ◌++◌, ap, ◌∙◌}
use Rattle.std.specs.Prelude.{codes}
use Rattle.std.specs.Str.{bytes_eq}
use Rattle.std.proofs.lemmas.Bool.Decides.{Decides-eqb}
use Rattle.std.proofs.lemmas.Slice.Eq.{strip_prefix_is}
use Rattle.ve_answers.proofs.MatrixSteps.{is_named, not_named}
use Rattle.ve_answers.proofs.rows.names_letter.Goals as goal

pub returns-in-Some : goal.returns-in-Some
returns-in-Some c =
    let stripped = strip_prefix_is Decides-eqb c.args.line.now (codes "letter ") c.strip_prefix.result c.strip_prefix.ensures.cases in
    let line : c.args.line.now ≡ codes "letter " ++ c.in-Some.rest.now = rw c.in-Some.is at stripped in
    is_named c.args.line.now (codes "letter ") c.in-Some.rest.now c.args.name.now c.eq.result line (c.eq.ensures ∙ ap (λ n. bytes_eq c.in-Some.rest.now n) c.as_bytes.ensures.value)

pub returns-in-None : goal.returns-in-None
returns-in-None c =
    let stripped = strip_prefix_is Decides-eqb c.args.line.now (codes "letter ") c.strip_prefix.result c.strip_prefix.ensures.cases in
    not_named c.args.line.now (codes "letter ") c.args.name.now (rw c.in-None.is at stripped)
