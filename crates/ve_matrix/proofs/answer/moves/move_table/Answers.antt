use Rattle.std.proofs.Common.{◌∙◌, ap}
use Rattle.ve_pres.specs.Drafts.{Draft}
use Rattle.ve_matrix.proofs.Copying.{taken_count, taken_columns, taken_matrices}
use Rattle.ve_matrix.proofs.answer.moves.move_table.Goals as goal

pub matrices_of-requires-clause-count : goal.matrices_of-requires-clause-count
matrices_of-requires-clause-count c = taken_count c.args.table c.in_ok-presentation.field-0 c.in_ok-presentation.ensures

pub matrices_of-requires-clause-columns : goal.matrices_of-requires-clause-columns
matrices_of-requires-clause-columns c = taken_columns c.args.table c.in_ok-presentation.field-0 c.in_ok-presentation.ensures c.is_sound.ensures

pub returns : goal.returns
returns c =
    let parts = c.in_ok-presentation.ensures in
    record {
      prime = c.field.ensures.field ∙ ap (λ (draft : Draft). draft.presentation.prime) parts.draft;
      names = c.in_ok-copy.ensures ∙ c.names.ensures ∙ ap (λ (draft : Draft). draft.presentation.names) parts.draft;
      generators = c.roots.ensures ∙ ap (λ (draft : Draft). draft.presentation.generators) parts.draft;
      level = parts.level;
      few = parts.few;
      origins = parts.origins;
      images = parts.images;
      matrices = taken_matrices c.args.table c.in_ok-presentation.field-0 parts c.in_ok-matrices_of.field-0.items c.in_ok-matrices_of.ensures;
    }
