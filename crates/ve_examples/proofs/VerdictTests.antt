-- A case of each verdict.
use Rattle.std.proofs.Common.{ℕ, zero, suc, ◌<◌, [], ◌∷◌, refl, arith}
use Rattle.ve_theory.specs.Combinations.{unit, scaled, extended, coefficient}
use Rattle.ve_theory.specs.Presentations.{inverse_relators, relator}
use Rattle.ve_theory.specs.Answers.{RelatorVanishes, SubmoduleVanishes, HasOwnRow, row_times_letters, row_times_element, word_row}
use Rattle.ve_theory.specs.Verdicts.{IsVerdict, is_quotient, shape_differs, relator_fails, submodule_fails, basis_word_fails}
use Rattle.ve_examples.specs.TwoCycle.{two_cycle, two_cycle_answer}
use Rattle.ve_examples.specs.ProportionalGenerators.{proportional_generators, proportional_generators_answer}
use Rattle.ve_examples.specs.WrongAnswers.{other_field, x_is_no_cycle, other_multiple, vanishing_basis_word}
use Rattle.ve_examples.proofs.SumTests.{are_alike_rows-true}
use Rattle.ve_examples.proofs.WholeTests.{IsWorkedOut}

pub quotient_told : IsWorkedOut two_cycle two_cycle_answer (1 ∷ 2 ∷ 3 ∷ 2 ∷ []) → IsVerdict two_cycle two_cycle_answer is_quotient
unfolding IsVerdict
quotient_told shown = (shown.answer.module_answer.shape, shown.meets)

pub shape_told : IsVerdict two_cycle other_field shape_differs
unfolding IsVerdict other_field two_cycle two_cycle_answer
shape_told shape = absurd (omega (arith, shape.prime))

relator_nonzero : RelatorVanishes two_cycle x_is_no_cycle.action 0 0 → ⊥
unfolding two_cycle two_cycle_answer x_is_no_cycle inverse_relators extended scaled row_times_letters coefficient
relator_nonzero zeros = absurd (omega (arith, zeros 0))

pub relator_told : IsVerdict two_cycle x_is_no_cycle (relator_fails 0 0)
unfolding IsVerdict two_cycle two_cycle_answer x_is_no_cycle inverse_relators
relator_told = record {
  shape = record { prime = refl; names = refl; generators = refl };
  exists = (omega arith, omega arith);
  earlier = λ number row l m. absurd (omega arith);
  earlier_rows = λ i l. absurd (omega arith);
  fails = relator_nonzero;
}

sub_nonzero : SubmoduleVanishes proportional_generators other_multiple.action 0 → ⊥
unfolding proportional_generators proportional_generators_answer other_multiple extended scaled word_row coefficient
sub_nonzero zeros = absurd (omega (arith, zeros 0))

pub submodule_told : IsVerdict proportional_generators other_multiple (submodule_fails 0)
unfolding IsVerdict proportional_generators proportional_generators_answer other_multiple inverse_relators extended scaled row_times_letters coefficient
submodule_told = record {
  shape = record { prime = refl; names = refl; generators = refl };
  exists = omega arith;
  relators_vanish = vanish;
  earlier = λ number l. absurd (omega arith);
  fails = sub_nonzero;
}
  where
    vanish : (number row : ℕ) → number < 1 → row < 1 → RelatorVanishes proportional_generators other_multiple.action number row
    vanish zero zero l m = are_alike_rows-true 5 (row_times_element other_multiple.action (unit 0) (relator proportional_generators 0)) [] refl
    vanish (suc number) row l m = absurd (omega arith)
    vanish zero (suc row) l m = absurd (omega arith)

own_row_missing : HasOwnRow two_cycle vanishing_basis_word.action 0 → ⊥
unfolding two_cycle two_cycle_answer vanishing_basis_word word_row coefficient
own_row_missing same = absurd (omega (arith, same 0))

pub basis_word_told : IsVerdict two_cycle vanishing_basis_word (basis_word_fails 0)
unfolding IsVerdict two_cycle two_cycle_answer vanishing_basis_word inverse_relators extended scaled row_times_letters coefficient
basis_word_told = record {
  shape = record { prime = refl; names = refl; generators = refl };
  exists = omega arith;
  relators_vanish = vanish;
  submodule_vanishes = λ number l. absurd (omega arith);
  earlier = λ row l. absurd (omega arith);
  fails = own_row_missing;
}
  where
    vanish : (number row : ℕ) → number < 1 → row < 1 → RelatorVanishes two_cycle vanishing_basis_word.action number row
    vanish zero zero l m = are_alike_rows-true 2 (row_times_element vanishing_basis_word.action (unit 0) (relator two_cycle 0)) [] refl
    vanish (suc number) row l m = absurd (omega arith)
    vanish zero (suc row) l m = absurd (omega arith)
