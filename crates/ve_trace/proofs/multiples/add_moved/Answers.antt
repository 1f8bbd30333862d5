use Rattle.std.proofs.Common.{[], ◌≡◌, arith}
use Rattle.std.proofs.lemmas.List.{nil_from_length}
use Rattle.ve_trace.proofs.multiples.add_moved.Goals as goal

pub returns : goal.returns
returns c =
    let none : c.args.sum.now ≡ [] = nil_from_length _ (omega (arith, c.len.ensures, c.if-len-gt0.false)) in
    rw none c.multiply.ensures
