use Rattle.std.proofs.Common.{◌≡◌, ◌<◌, length, arith, rules}
use Rattle.std.proofs.lemmas.Grind.{get_or_default_zero}
use Rattle.ve_theory.specs.Words.{letters}
use Rattle.ve_word.proofs.Spellings.{spellings}
use Rattle.ve_word.proofs.word.Word.letters.Goals as goal

pub returns-clause-bytes : goal.returns-clause-bytes
returns-clause-bytes c k d h =
    let same : letters c.args.self.now ≡ c.deref-letters.result.now = grind (arith, spellings) in
    let within : k < length c.deref-letters.result.now = rw same at h in
    rw (same, get_or_default_zero) (search rules)
