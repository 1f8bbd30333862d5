use Rattle.std.proofs.Common.{◌≤◌, length, arith}
use Rattle.ve_word.proofs.Spellings.{spellings}
use Rattle.std.proofs.lemmas.List.{length-take}
use Rattle.ve_word.proofs.word.Word.prefix.Goals as goal

pub slice_bounds-from_slice-end : goal.slice_bounds-from_slice-end
slice_bounds-from_slice-end c =
    let room : c.args.length ≤ length c.deref.result.now = grind (arith, spellings) in
    grind (arith, length-take)
