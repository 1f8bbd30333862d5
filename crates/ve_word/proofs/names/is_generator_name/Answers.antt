use Rattle.std.proofs.Common.{arith}
use Rattle.std.proofs.lemmas.Grind.{common_steps}
use Rattle.ve_word.proofs.Places.{is_rooted-tests}
use Rattle.ve_word.proofs.names.is_generator_name.Goals as goal

pub returns-then-bytes-eq101 : goal.returns-then-bytes-eq101
returns-then-bytes-eq101 c = grind (arith, common_steps, is_rooted-tests)

pub returns-else-bytes-eq101 : goal.returns-else-bytes-eq101
returns-else-bytes-eq101 c = grind (arith, common_steps, is_rooted-tests)
