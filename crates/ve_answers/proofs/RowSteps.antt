-- Rows, one after another.
use Rattle.std.proofs.Common.{◌≡◌, ℕ, ◌+◌, ◌<◌, ◌≤◌, List, [], ◌∷◌, ◌++◌, length, All, arith, refl, sym, subst, ◌∙◌}
use Rattle.std.specs.Prelude.{replicate}
use Rattle.std.proofs.lemmas.List.{length_push}
use Rattle.std.proofs.lemmas.List.Elements.{All-nil, All-push}
use Rattle.ve_theory.specs.Answers.{Row, IsRow}
use Rattle.ve_formats.specs.AnswerReading.{Draft, Place}
use Rattle.ve_answers.specs.declared.head.Head.{Head}
use Rattle.ve_answers.specs.declared.lines.Lines.{Lines}
use Rattle.ve_answers.specs.declared.refusal.AnswerRefusal.{AnswerRefusal}
use Rattle.ve_answers.specs.Rows.{IsRowLine, IsRowPlace}
use Rattle.ve_answers.specs.Steps.{IsCounted, TakesLine, RefusesNext, Leads, Refuses}
use Rattle.ve_answers.proofs.RepeatedPlaces.{LeadsOver, first_line, all_lines, line_more, line_refused}

module _ (head : Head) (word : List ℕ) (count : ℕ) (old : Lines) where
  pub record RowsSoFar (at : ℕ) (rows : List Row) (now : Lines) : Type 0 where
    pub leads : (place : Place) (with_rows : List Row → Draft) (left : List Place) → IsRowPlace head word place with_rows → LeadsOver place count left (with_rows []) old at (with_rows rows) now
    pub counted : IsCounted now
    pub size : length rows ≡ at
    pub all : All (IsRow head.field head.dimension) rows

  pub no_rows : (rows : List Row) → rows ≡ [] → IsCounted old → RowsSoFar 0 rows old
  no_rows rows none counted =
      subst (λ rs. RowsSoFar 0 rs old) (sym none)
      (record {
        leads = λ place with_rows left fits. first_line place count left (with_rows []) old;
        counted = counted;
        size = refl;
        all = All-nil (IsRow head.field head.dimension);
      })

  module _ (at : ℕ) (rows : List Row) (mid : Lines) (less : at < count) (before : RowsSoFar at rows mid) where
    pub one_row : (line : List ℕ) (v : Row) (next : Lines) → TakesLine mid line next → IsRowLine head word line v → (pushed : List Row) → pushed ≡ rows ++ v ∷ [] → RowsSoFar (at + 1) pushed next
    one_row line v next takes is pushed pushed_is =
        subst (λ rs. RowsSoFar (at + 1) rs next) (sym pushed_is)
        (record {
          leads = λ place with_rows left fits.
              line_more place count left (with_rows []) old at (with_rows rows) mid less (before.leads place with_rows left fits)
              (with_rows (rows ++ v ∷ [])) next line (fits.opens (with_rows (rows ++ v ∷ []))) takes (fits.fills rows line v is);
          counted = takes.counted;
          size = length_push rows v ∙ omega (arith, before.size);
          all = All-push (IsRow head.field head.dimension) rows v before.all is.row;
        })

    pub row_refused : (refusal : AnswerRefusal) → RefusesNext mid (λ line. (v : Row) × IsRowLine head word line v) refusal
        → (place : Place) (with_rows : List Row → Draft) (left : List Place) → IsRowPlace head word place with_rows → Refuses (with_rows []) (replicate count place ++ left) old refusal
    row_refused refusal refuses place with_rows left fits =
        line_refused place count left (with_rows []) old at (with_rows rows) mid less (before.leads place with_rows left fits) refusal refuses (λ next line f. fits.only rows line next f)

  pub all_rows : (at : ℕ) (rows : List Row) (new : Lines) → count ≤ at → RowsSoFar at rows new
      → (place : Place) (with_rows : List Row → Draft) (left : List Place) → IsRowPlace head word place with_rows → Leads (with_rows []) (replicate count place ++ left) old (with_rows rows) left new
  all_rows at rows new over so_far place with_rows left fits = all_lines place count left (with_rows []) old at (with_rows rows) new over (so_far.leads place with_rows left fits)
