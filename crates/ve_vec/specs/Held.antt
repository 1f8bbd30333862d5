-- Where terms are held. No public clause cites this module.
use Rattle.std.specs.Prelude.{◌≡◌, ◌≤◌, List, length, take}
use Rattle.ve_vec.specs.declared.term.Term.{Term}
use Rattle.ve_vec.specs.declared.few.Few.{Few}
use Rattle.ve_vec.specs.declared.terms.Held.{Held}
use Rattle.ve_vec.specs.declared.terms.Held.TheVariants as held

abbrev pub few_terms : Few → List Term
few_terms few = take few.count few.places

abbrev pub held_terms : Held → List Term
held_terms (held.Few few) = few_terms few
held_terms (held.Many list) = list.value.items

-- there are two places, and no more terms
abbrev pub IsFew : Few → Type 0
IsFew few = (few.count ≤ 2) × (length few.places ≡ 2)

abbrev pub IsHeld : Held → Type 0
IsHeld (held.Few few) = IsFew few
IsHeld (held.Many list) = Unit {0}
