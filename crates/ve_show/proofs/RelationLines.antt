-- The lines of relations.
use Rattle.std.specs.Prelude.{◌≡◌, ℕ, ◌+◌, [], length, slice_index_or}
use Rattle.std.proofs.lemmas.List.{get_or-append-add, length-append}
use Rattle.ve_theory.specs.Presentations.{Presentation, relator, relators, inverse_relators}

-- the relators that don't come from letters are the relations
pub relator-relation : (P : Presentation) (first at : ℕ) → first ≡ length (inverse_relators P.prime 0 P.inverses) → relator P (first + at) ≡ slice_index_or P.relations at []
relator-relation P first at is = rw is (get_or-append-add (inverse_relators P.prime 0 P.inverses) P.relations at [])

pub length-relators : (P : Presentation) → length (relators P) ≡ length (inverse_relators P.prime 0 P.inverses) + length P.relations
length-relators P = length-append (inverse_relators P.prime 0 P.inverses) P.relations
