-- A row whose dead ids are replaced is a row of its product.
use Rattle.std.proofs.Common.{◌≡◌, ℕ, ◌≤◌, nat_eq, false, Some, None, [], get_or, All, refl, sym, ap, ◌∙◌}
use Rattle.std.proofs.Math.ListN.{set}
use Rattle.std.proofs.lemmas.List.{set-get_or}
use Rattle.std.proofs.lemmas.List.Elements.{All-weaker}
use Rattle.ve_theory.specs.Combinations.{unit, difference, extended}
use Rattle.ve_theory.specs.Words.{times}
use Rattle.ve_theory.specs.Answers.{Row}
use Rattle.ve_theory.specs.Laws.{IsTotalOrder}
use Rattle.ve_theory.proofs.Sums.{Alike_from_weights, SameWeights-refl, SameWeights-sym, SameWeights-difference, extended-difference}
use Rattle.ve_theory.proofs.Remainders.{All-extended}
use Rattle.ve_theory.proofs.DerivedElements.{DerivedWithin-alike}
use Rattle.ve_table.specs.Tables.{ActionTable, presented, word_at, row_at}
use Rattle.ve_table.specs.Sound.{IsSound, IsRowOf, HasLiveIds}
use Rattle.ve_table.specs.Changes.{with_row}
use Rattle.ve_machine.specs.Forwards.{stand_in, IsRewritten}
use Rattle.ve_settle.specs.Settling.{Rewrites}
use Rattle.ve_machine.proofs.ReducedSums.{reduced_keys, reduced_same}
use Rattle.ve_machine.proofs.Forwardings.{are_falling, stands_below, live_unchanged, IsForwarding-alike, vector_less_stand_ins}
use Rattle.ve_machine.proofs.ResolvedVectors.{forwarding_derived}
use Rattle.ve_settle.proofs.WordVectors.{vector_kept}

pub rewritten_row : (T : ActionTable) → IsSound T → IsTotalOrder (presented T) → (b x : ℕ) (row next : Row) → row_at T b x ≡ Some row
    → IsRewritten (presented T).prime T.forwards row next → IsRowOf T b x next
rewritten_row T sound order b x row next row_is rewritten =
    vector_kept T sound order (times (word_at T b) x) row next (sound.rows b x row row_is) rewritten.reduced
    (DerivedWithin-alike (presented T) T.level (extended-difference (presented T).prime (λ j. unit (word_at T j)) row next)
    (forwarding_derived T sound (difference (presented T).prime row next)
    (IsForwarding-alike (presented T).prime T.forwards
    (SameWeights-difference (SameWeights-refl (presented T).prime row) (SameWeights-sym (reduced_same (presented T).prime next (extended (stand_in T.forwards) row) rewritten)))
    (vector_less_stand_ins (presented T).prime T.forwards row))))
    (λ Q lower all.
    reduced_keys Q (presented T).prime next (extended (stand_in T.forwards) row) rewritten
    (All-extended Q (stand_in T.forwards) row
    (All-weaker (λ (t : ℕ × ℕ). Q t.0) (λ (t : ℕ × ℕ). All (λ (s : ℕ × ℕ). Q s.0) (stand_in T.forwards t.0))
    (λ t holds. All-weaker (λ (s : ℕ × ℕ). s.0 ≤ t.0) (λ (s : ℕ × ℕ). Q s.0) (λ s le. lower s.0 t.0 le holds) (stand_in T.forwards t.0) (stands_below T.forwards (are_falling T sound) t.0))
    row all)))

row_again : (T : ActionTable) (b x : ℕ) (row : Row) → row_at T b x ≡ Some row → T ≡ with_row T b x row
row_again T b x row row_is =
    let inner : set (get_or T.rows b []) x (Some row) ≡ get_or T.rows b [] = ap (λ r. set (get_or T.rows b []) x r) (sym row_is) ∙ set-get_or (get_or T.rows b []) x None in
    let outer : set T.rows b (set (get_or T.rows b []) x (Some row)) ≡ T.rows = ap (λ r. set T.rows b r) inner ∙ set-get_or T.rows b [] in
    ap (λ r. record T { rows = r }) (sym outer)

-- no dead id was there
pub nothing_rewritten : (T : ActionTable) (b x : ℕ) (row : Row) → IsSound T → row_at T b x ≡ Some row → HasLiveIds T row → Rewrites T b x false T
nothing_rewritten T b x row sound row_is live = record {
  row = row;
  is_row = row_is;
  next = row;
  rewritten = record { reduced = (sound.rows b x row row_is).stands.row.0; alike = Alike_from_weights nat_eq (live_unchanged (presented T).prime T.forwards row live) };
  change = row_again T b x row row_is;
  settled = (λ none. live, λ all. refl);
  same = λ none. refl;
}
