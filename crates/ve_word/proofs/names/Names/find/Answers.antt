use Rattle.std.proofs.Common.{◌≡◌, ◌↔◌, ℕ, Some, slice_get, string_bytes, ◌∙◌}
use Rattle.ve_word.proofs.Places.{found-in, absent-from_found}
use Rattle.ve_word.proofs.names.Names.find.Goals as goal

found : (c : goal.In_ok-letter) → (letter : ℕ) → (Some c.in_ok-letter.letter ≡ Some letter) ↔ (slice_get c.args.self.now letter ≡ Some c.args.name.now)
found c =
    found-in string_bytes _ _ _ _ c.self.view_is c.self.invariant.distinct c.in_ok-letter.ensures.index

pub returns-clause-found : goal.returns-clause-found
returns-clause-found c = found c

pub returns-clause-absent : goal.returns-clause-absent
returns-clause-absent c = absent-from_found _ _ (Some c.in_ok-letter.letter) (found c)

found_none :
    (c : goal.After-from_residual) →
    (letter : ℕ) → (c.from_residual.result ≡ Some letter) ↔ (slice_get c.args.self.now letter ≡ Some c.args.name.now)
found_none c =
    found-in string_bytes _ _ _ _ c.self.view_is c.self.invariant.distinct (c.from_residual.ensures ∙ c.in_err-letter.ensures.index)

pub returns-in_err-letter-clause-found : goal.returns-in_err-letter-clause-found
returns-in_err-letter-clause-found c = found_none c

pub returns-in_err-letter-clause-absent : goal.returns-in_err-letter-clause-absent
returns-in_err-letter-clause-absent c = absent-from_found _ _ _ (found_none c)
