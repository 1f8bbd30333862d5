use Rattle.std.proofs.Common.{◌&&◌, ap, ◌∙◌}
use Rattle.std.specs.List.{list_all}
use Rattle.ve_formats.specs.Tokens.{is_name_part}
use Rattle.ve_answers.proofs.NameTexts.{name_by_parts, nothing_is_no_name}
use Rattle.ve_answers.proofs.words.is_name.Goals as goal

pub returns-then-is_name_letter : goal.returns-then-is_name_letter
returns-then-is_name_letter c =
    name_by_parts c.args.bytes.now c.in-Some.rest.now c.in-Some.first.now _ c.in-Some.ensures.cases.0
    (c.are_name_parts.ensures ∙ ap (λ t. t && list_all is_name_part c.in-Some.rest.now) c.if-is_name_letter.ensures)

pub returns-else-is_name_letter : goal.returns-else-is_name_letter
returns-else-is_name_letter c =
    name_by_parts c.args.bytes.now c.in-Some.rest.now c.in-Some.first.now _ c.in-Some.ensures.cases.0
    (c.if-is_name_letter.false ∙ ap (λ t. t && list_all is_name_part c.in-Some.rest.now) c.if-is_name_letter.ensures)

pub returns-in-None : goal.returns-in-None
returns-in-None c = nothing_is_no_name _ c.in-None.ensures.cases
