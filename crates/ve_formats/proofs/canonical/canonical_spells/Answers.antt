use Rattle.ve_formats.proofs.CanonicalSpelling.{canonical_spells}
use Rattle.ve_formats.proofs.canonical.canonical_spells.Goals as goal

pub returns : goal.returns
returns c = canonical_spells
