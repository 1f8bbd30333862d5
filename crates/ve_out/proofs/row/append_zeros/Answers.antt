use Rattle.std.proofs.Common.{◌≡◌, ◌≤◌, ◌*◌, ◌++◌, length, take, arith, ap, ◌∙◌, sym, IfOk}
use Rattle.std.proofs.lemmas.List.{length-take-le}
use Rattle.ve_out.specs.Parts.{zero_entries}
use Rattle.ve_out.proofs.Entries.{zeros_to, length-zero_entries}
use Rattle.ve_out.proofs.row.append_zeros.Goals as goal

pub slice_bounds-append-end : goal.slice_bounds-append-end
slice_bounds-append-end c =
    let size : length c.args.zeros.now ≡ 2 * c.requires.zeros.0 = ap length c.requires.zeros.1 ∙ length-zero_entries c.requires.zeros.0 in
    sym (length-take-le (2 * c.args.count) c.args.zeros.now (omega (arith, c.requires.zeros.2)))

pub returns : goal.returns
returns c =
    let front : take (2 * c.args.count) c.args.zeros.now ≡ zero_entries c.args.count = zeros_to c.args.count c.requires.zeros.0 c.args.zeros.now c.requires.zeros.1 c.requires.zeros.2 in
    rw front at c.append.ensures
