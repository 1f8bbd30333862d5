use Rattle.ve_hand.proofs.FoundLists.{rows_told}
use Rattle.ve_hand.proofs.read_vector.ReadVector.has_rows.Goals as goal

pub returns-in-Some : goal.returns-in-Some
returns-in-Some c = rows_told c.has_rows_alone.result c.args.self.now.founds c.in-Some.founds c.deref.result.now c.in-Some.is c.deref.ensures.value c.has_rows_alone.ensures
