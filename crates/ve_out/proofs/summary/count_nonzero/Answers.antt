use Rattle.std.proofs.Common.{◌≡◌, ℕ, ◌+◌, ◌*◌, ◌^◌, ◌<◌, ◌≤◌, length, arith, sym, subst, ◌∙◌}
use Rattle.ve_out.proofs.Figures.{IsCounted, counted_next, product_room}
use Rattle.ve_out.proofs.summary.count_nonzero.Goals as goal

pub overflow_add-count : goal.overflow_add-count
overflow_add-count c =
    let n = length c.args.matrix.now in
    let inside : c.loop-at.at < n = omega (arith, c.size-at-end.ensures, c.loop-at-test.true) in
    let next = counted_next c.requires.0 c.args.matrix.now c.loop-at.at c.loop-at.count c.row.result.now c.requires.1 inside c.row.ensures c.loop-at.invariant in
    let more : c.loop-at.count + length c.row.result.now ≤ (c.loop-at.at + 1) * n = next.room in
    let room : c.loop-at.at * n + n < 2 ^ 64 = product_room c.loop-at.at n inside c.is_square.ensures.count in
    omega (arith, c.len.ensures, more, room, times_next c.loop-at.at n)
  where
    times_next : (a n : ℕ) → (a + 1) * n ≡ a * n + n
    times_next a n = omega arith

pub loop-at-preserved : goal.loop-at-preserved
loop-at-preserved c =
    let inside : c.loop-at.at < length c.args.matrix.now = omega (arith, c.size-at-end.ensures, c.loop-at-test.true) in
    let next = counted_next c.requires.0 c.args.matrix.now c.loop-at.at c.loop-at.count c.row.result.now c.requires.1 inside c.row.ensures c.loop-at.invariant in
    subst (λ k. IsCounted c.args.matrix.now (c.loop-at.at + 1) (c.loop-at.count + k)) (sym c.len.ensures) next
