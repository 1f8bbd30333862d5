use Rattle.std.proofs.Common.{◌<◌, ◌^◌, ◌∙◌, ◌∷◌, ◌++◌, [], length, All, sym, ap, subst, Vec, Global}
use Rattle.std.proofs.lemmas.List.Elements.{All-head, All-tail}
use Rattle.ve_theory.specs.Answers.{Row}
use Rattle.ve_matrix.specs.Matrices.{HasColumnsBelow}
use Rattle.ve_matrix.proofs.Copying.{one_moved, all_moved}
use Rattle.ve_matrix.proofs.answer.moves.matrices_of.Goals as goal

pub loop-list-preserved : goal.loop-list-preserved
loop-list-preserved c =
    let P : Vec Row Global → Type 0 = λ list. length list.items < 2 ^ 32 in
    let Q : Vec Row Global → Type 0 = λ list. HasColumnsBelow (length list.items) list.items in
    record {
      moved =
          one_moved c.args.rows.items c.loop-list.list-iterator.rest.items c.next.new.self.rest.items c.in-Some.list c.loop-list.matrices.items c.push.new.self.items
          c.in-Some.ensures.steps.0 (c.in_ok-push.ensures.items ∙ ap (λ m. c.loop-list.matrices.items ++ m ∷ []) c.of_rows.ensures) c.loop-list.invariant.moved;
      count = All-tail P c.in-Some.list c.next.new.self.rest.items (subst (All P) c.in-Some.ensures.steps.0 c.loop-list.invariant.count);
      columns = All-tail Q c.in-Some.list c.next.new.self.rest.items (subst (All Q) c.in-Some.ensures.steps.0 c.loop-list.invariant.columns);
    }

pub of_rows-requires-clause-count : goal.of_rows-requires-clause-count
of_rows-requires-clause-count c =
    let P : Vec Row Global → Type 0 = λ list. length list.items < 2 ^ 32 in
    All-head P c.in-Some.list c.next.new.self.rest.items (subst (All P) c.in-Some.ensures.steps.0 c.loop-list.invariant.count)

pub of_rows-requires-clause-columns : goal.of_rows-requires-clause-columns
of_rows-requires-clause-columns c =
    let Q : Vec Row Global → Type 0 = λ list. HasColumnsBelow (length list.items) list.items in
    All-head Q c.in-Some.list c.next.new.self.rest.items (subst (All Q) c.in-Some.ensures.steps.0 c.loop-list.invariant.columns)

pub returns : goal.returns
returns c =
    all_moved c.args.rows.items c.loop-list.list-iterator.rest.items c.loop-list.matrices.items (sym c.loop-list.list-iterator.rest.ok.0 ∙ c.in-None.ensures.steps.0) c.loop-list.invariant.moved
