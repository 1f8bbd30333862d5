use Rattle.std.proofs.Common.{refl}
use Rattle.ve_pres.proofs.KeptElements.{kept_word}
use Rattle.ve_pres.proofs.free_mod.FreeMod.of_word.Goals as goal

pub invariant_of-result : goal.invariant_of-result
invariant_of-result c = kept_word c.args.word _ _ _ c.requires c.in_ok-push.ensures.items c.in_ok-terms.ensures.items refl refl
