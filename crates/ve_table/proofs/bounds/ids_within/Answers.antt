use Rattle.std.proofs.Common.{◌≡◌, ◌<◌, inl, inr, List, length, get_or, ap, arith}
use Rattle.std.proofs.lemmas.Bool.{cases_lt}
use Rattle.std.proofs.lemmas.Option.{slice_get_within, get_or_from_slice_get}
use Rattle.ve_table.specs.declared.entry.Entry.{Entry}
use Rattle.ve_table.proofs.bounds.ids_within.Goals as goal

pub returns-clause-due : goal.returns-clause-due
returns-clause-due c =
    λ b e found.
    let es : List Entry = c.args.entries.now in
    let within : b < length es = slice_get_within es b e found in
    let reach_is : (get_or es b e).reach ≡ e.reach = ap (λ (e : Entry). e.reach) (get_or_from_slice_get es b e e found) in (
      λ lt. let below = c.first_of_reach.ensures.below b e (omega arith) lt in omega (arith, below, reach_is, c.saturating_sub-above.ensures, c.from.ensures, c.from-2.ensures),
      λ le.
          elim (cases_lt b c.first_of_reach.result) [
            | inl lt ↦ lt
            | inr past ↦ let rest = c.first_of_reach.ensures.rest b e past within in absurd (omega (arith, rest, reach_is, c.saturating_sub-above.ensures, c.from.ensures, c.from-2.ensures, le))
          ],
    )
