use Rattle.std.proofs.Common.{◌+◌, inr, ap, sym, subst, ◌∙◌}
use Rattle.ve_levels.specs.Advancing.{IsSameFinished}
use Rattle.ve_levels.proofs.Sizes.{next_fits}
use Rattle.ve_levels.proofs.advancing.open_next.Goals as goal

pub returns-in-Ok-grow : goal.returns-in-Ok-grow
returns-in-Ok-grow c limit small = record {
  is_open = c.requires.is_open;
  fits = next_fits c.args.finished limit c.finished_levels_settle.ensures c.is_finished.ensures small;
  draft = c.in-Ok-grow.ensures.ok.draft ∙ c.in-Ok.ensures.packed.draft;
  level = c.in-Ok-grow.ensures.ok.level ∙ ap (λ k. k + 1) c.in-Ok.ensures.packed.level;
  opening = inr (c.in-Ok.packed, c.is_finished-2.ensures, c.in-Ok.ensures.packed.packed, c.in-Ok-grow.ensures.ok);
}

pub returns-in-Err-grow : goal.returns-in-Err-grow
returns-in-Err-grow c limit small =
    subst (IsSameFinished c.args.finished) (sym c.in-Err-grow.ensures.err) (record {
      draft = c.in-Ok.ensures.packed.draft;
      level = c.in-Ok.ensures.packed.level;
      words = c.packed_words_are_live.ensures c.in-Ok.packed c.is_finished-2.ensures.sound c.in-Ok.ensures.packed.packed ∙ c.in-Ok.ensures.packed.words;
    })
