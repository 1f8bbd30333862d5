use Rattle.std.proofs.Common.{◌≡◌, ◌-◌, drop, map, ◌+◌, ◌∷◌, ◌++◌, [], ℕ, ◌<◌, true, false, List, length, take, get_or, ap, ap₂, sym, ◌∙◌, arith}
use Rattle.std.specs.Prelude.{count_by}
use Rattle.std.specs.List.{range_with_len}
use Rattle.std.proofs.lemmas.List.Sums.{count_by_more_yes, count_by_more_no}
use Rattle.std.proofs.lemmas.List.FromFn.{map-range_with_len_more}
use Rattle.std.proofs.lemmas.List.{length-take, length-drop, get_or-drop, take_rest}
use Rattle.ve_table.specs.declared.entry.Entry.{Entry}
use Rattle.ve_table.specs.Deaths.{is_live_entry}
use Rattle.ve_table.proofs.LiveRows.{all_kept}
use Rattle.ve_table.proofs.Deaths.{no_entry}
use Rattle.ve_table.proofs.table.drop_dead.new_numbers.Goals as goal
use Rattle.ve_table.proofs.table.drop_dead.new_numbers.Goals.{then-is_live, else-is_live}

pub loop-id-preserved : goal.loop-id-preserved
loop-id-preserved c =
    let i : ℕ = c.loop-id.id in
    let es : List Entry = c.args.entries.now.items in
    let live = all_kept es i (omega (arith, c.loop-id-test.true, c.requires.bound)) (λ k d low lt. c.requires.live k d low (omega (arith, lt, c.loop-id-test.true))) in
    c.in_ok-push.ensures.items ∙ ap₂ (λ l n. l ++ n ∷ []) c.loop-id.invariant (sym live) ∙ sym (map-range_with_len_more (λ b. count_by is_live_entry (take b es)) 0 i i (omega arith))

pub loop-entry-init : goal.loop-entry-init
loop-entry-init c =
    let es : List Entry = c.args.entries.now.items in
    let end : c.loop-id.id ≡ c.args.least + 0 = omega (arith, c.loop-id-test.false, c.loop-id.auto.id-end) in
    let same : c.args.least ≡ c.args.least + 0 = omega arith in
    record {
      so_far = c.loop-id.invariant ∙ ap (λ n. map (λ b. count_by is_live_entry (take b es)) (range_with_len 0 n)) end;
      number_is = sym (all_kept es c.args.least c.requires.bound c.requires.live) ∙ ap (λ n. count_by is_live_entry (take n es)) same;
      small = omega arith;
    }

-- the entries from the first dead one on
entries_from : (es now : List Entry) (least i : ℕ) → now ≡ es → get_or (take (length now - least) (drop least now)) i no_entry ≡ get_or es (least + i) no_entry
entries_from es now least i same = ap (λ l. get_or l i no_entry) (take_rest now least ∙ ap (drop least) same) ∙ get_or-drop least es i no_entry

pub loop-entry-preserved : goal.loop-entry-preserved
loop-entry-preserved c =
    let i : ℕ = c.args.least + c.loop-entry.entry-index in
    let es : List Entry = c.args.entries.now.items in
    let e : Entry = no_entry in
    let now : List Entry = c.deref.result.now in
    let within : i < length es =
    omega (arith, c.loop-entry-test.true, length-take (length now - c.args.least) (drop c.args.least now), length-drop c.args.least now, ap length c.deref.ensures.value) in
    let here : c.is_live.result ≡ is_live_entry (get_or es i e) = c.is_live.ensures.value ∙ ap is_live_entry (entries_from es now c.args.least c.loop-entry.entry-index c.deref.ensures.value) in
    let next : i + 1 ≡ c.args.least + (c.loop-entry.entry-index + 1) = omega arith in
    let so_far =
    c.in_ok-push-2.ensures.items ∙ ap₂ (λ l n. l ++ n ∷ []) c.loop-entry.invariant.so_far c.loop-entry.invariant.number_is ∙ sym (map-range_with_len_more (λ b. count_by is_live_entry (take b es)) 0 i i (omega arith))
    ∙ ap (λ n. map (λ b. count_by is_live_entry (take b es)) (range_with_len 0 n)) next in
    elim c.if-is_live.branch [
      | then-is_live w ↦
          let live : is_live_entry (get_or es i e) ≡ true = sym here ∙ w.if-is_live.true in
          let more = count_by_more_yes is_live_entry es i e within live in
          record {
            so_far = so_far;
            number_is = w.number-is ∙ ap (λ n. n + 1) c.loop-entry.invariant.number_is ∙ sym more ∙ ap (λ n. count_by is_live_entry (take n es)) next;
            small = omega (arith, w.number-is, c.loop-entry.invariant.small);
          }
      | else-is_live w ↦
          let dead : is_live_entry (get_or es i e) ≡ false = sym here ∙ w.if-is_live.false in
          let more = count_by_more_no is_live_entry es i e within dead in
          record {
            so_far = so_far;
            number_is = w.number-is ∙ c.loop-entry.invariant.number_is ∙ sym more ∙ ap (λ n. count_by is_live_entry (take n es)) next;
            small = omega (arith, w.number-is, c.loop-entry.invariant.small);
          }
    ]

pub returns : goal.returns
returns c =
    let es : List Entry = c.args.entries.now.items in
    let now : List Entry = c.deref.result.now in
    let end : c.args.least + c.loop-entry.entry-index ≡ length es =
    omega (arith, c.loop-entry-test.false, c.loop-entry.auto.entry-index-end, length-take (length now - c.args.least) (drop c.args.least now), length-drop c.args.least now, ap length c.deref.ensures.value, c.requires.bound) in
    c.loop-entry.invariant.so_far ∙ ap (λ n. map (λ b. count_by is_live_entry (take b es)) (range_with_len 0 n)) end
