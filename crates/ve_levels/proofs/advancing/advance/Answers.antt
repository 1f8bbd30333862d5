use Rattle.std.proofs.Common.{◌≡◌, ◌+◌, IsTrue, refl, sym, ap, subst, ◌∙◌, arith}
use Rattle.ve_theory.specs.Levels.{HasSize}
use Rattle.ve_table.specs.Tables.{presented}
use Rattle.ve_table.specs.Changes.{next_count}
use Rattle.ve_levels.proofs.Bounds.{next_level_within}
use Rattle.ve_levels.proofs.Sizes.{next_size}
use Rattle.ve_levels.proofs.advancing.advance.Goals as goal

pub returns-then-closes : goal.returns-then-closes
returns-then-closes c = c.close.ensures c.args.limit

pub overflow_add-level : goal.overflow_add-level
overflow_add-level c =
    let fits = next_level_within (presented c.args.finished) (c.valid_reaches_are_small.ensures (presented c.args.finished) c.is_finished.ensures.sound.valid) c.args.finished.level c.args.limit c.requires.limit
    (c.open_levels_are_bounded.ensures (presented c.args.finished) c.args.finished.level c.requires.fits.0 c.args.limit c.is_finished.ensures.sound.valid.presentation c.requires.fits.1 c.requires.fits.2
    (λ closes. let answered : IsTrue c.closes.result = c.closes.ensures.1 closes in absurd cc)) in
    omega (arith, fits, c.level-level.ensures, ap (λ T. T.level) c.table-then-size-from.ensures)

pub returns-then-size-from : goal.returns-then-size-from
returns-then-size-from c =
    let size : c.next_size-size.result ≡ next_count c.args.finished = c.next_size-size.ensures ∙ ap next_count c.table.ensures in
    let level : c.level-level.result ≡ c.args.finished.level = c.level-level.ensures ∙ ap (λ T. T.level) c.table-then-size-from.ensures in record {
      is_open = λ closes. let answered : IsTrue c.closes.result = c.closes.ensures.1 closes in absurd cc;
      next_level = ap (λ k. k + 1) level;
      has_size =
          subst (λ k. HasSize (presented c.args.finished) (k + 1) c.next_size-size.result) (sym level)
          (subst (HasSize (presented c.args.finished) (c.args.finished.level + 1)) (sym size) (next_size c.args.finished c.finished_levels_settle.ensures c.is_finished.ensures));
      exceeds = omega (arith, c.from.ensures, c.if-size-from.true);
      draft = refl;
      level = refl;
    }

pub open_next-requires-clause-level : goal.open_next-requires-clause-level
open_next-requires-clause-level c =
    next_level_within (presented c.args.finished) (c.valid_reaches_are_small.ensures (presented c.args.finished) c.is_finished.ensures.sound.valid) c.args.finished.level c.args.limit c.requires.limit
    (c.open_levels_are_bounded.ensures (presented c.args.finished) c.args.finished.level c.requires.fits.0 c.args.limit c.is_finished.ensures.sound.valid.presentation c.requires.fits.1 c.requires.fits.2
    (λ closes. let answered : IsTrue c.closes.result = c.closes.ensures.1 closes in absurd cc))

pub returns : goal.returns
returns c =
    let size : c.next_size-size.result ≡ next_count c.args.finished = c.next_size-size.ensures ∙ ap next_count c.table.ensures in
    c.open_next.ensures c.args.limit (omega (arith, size, c.from.ensures, c.if-size-from.false))
