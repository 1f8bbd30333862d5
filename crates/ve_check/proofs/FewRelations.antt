-- A valid presentation has few relators.
use Rattle.std.proofs.Common.{ℕ, ◌+◌, ◌<◌, ◌≤◌, ◌^◌, List, [], ◌∷◌, length, length-append, arith}
use Rattle.std.specs.Prelude.{Option, Some, None}
use Rattle.ve_theory.specs.Presentations.{Presentation, inverse_relators, relators}
use Rattle.ve_theory.specs.Validity.{IsValid}
use Rattle.ve_lemmas.proofs.Relators.{length-inverse_relators}

pub few_relators : (P : Presentation) → IsValid P → length (relators P) < 2 ^ 31
few_relators P valid =
    omega (arith, length-append (inverse_relators P.prime 0 P.inverses) P.relations, length-inverse_relators P.prime 0 P.inverses, valid.relation_count, valid.letters, valid.presentation.one_inverse_each)

pub few_submodule_relations : (P : Presentation) → IsValid P → length P.submodule < 2 ^ 31
few_submodule_relations P valid = omega (arith, valid.relation_count)
