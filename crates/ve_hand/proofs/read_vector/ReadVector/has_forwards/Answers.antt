use Rattle.ve_hand.proofs.FoundLists.{forwards_told}
use Rattle.ve_hand.proofs.read_vector.ReadVector.has_forwards.Goals as goal

pub returns-in-Some : goal.returns-in-Some
returns-in-Some c = forwards_told c.has_forwards.result c.args.self.now.founds c.in-Some.founds c.deref.result.now c.in-Some.is c.deref.ensures.value c.has_forwards.ensures
