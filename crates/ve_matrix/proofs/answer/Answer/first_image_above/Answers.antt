use Rattle.ve_matrix.proofs.RisingWords.{generator_letters}
use Rattle.ve_matrix.proofs.answer.Answer.first_image_above.Goals as goal

pub is_up_to-requires-clause-word : goal.is_up_to-requires-clause-word
is_up_to-requires-clause-word c = generator_letters c.args.presentation.now.presentation c.loop-root.root _ c.root-word.ensures
