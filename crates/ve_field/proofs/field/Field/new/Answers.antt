use Rattle.std.proofs.Common.{refl, sym, ◌∙◌}
use Rattle.ve_theory.specs.Residues.{primes}
use Rattle.ve_field.proofs.TableOfPrimes.{found, missed}
use Rattle.ve_field.proofs.field.Field.new.Goals as goal

pub returns-in_err-prime-clause-prime : goal.returns-in_err-prime-clause-prime
unfolding primes
returns-in_err-prime-clause-prime c = (
  λ some. let none = rw c.from_residual.ensures at some in cc,
  λ prime. absurd (missed c.args.p primes prime.0 (sym c.find_prime.ensures ∙ c.in_err-prime.was {u = tt}) prime.1 prime.2),
)

pub invariant_of-result : goal.invariant_of-result
unfolding primes
invariant_of-result c =
    let looked = found c.args.p primes c.in_ok-prime.prime (sym c.find_prime.ensures ∙ c.in_ok-prime.was) in
    rw looked.0 looked.1

pub returns-clause-prime : goal.returns-clause-prime
unfolding primes
returns-clause-prime c =
    let looked = found c.args.p primes c.in_ok-prime.prime (sym c.find_prime.ensures ∙ c.in_ok-prime.was) in
    (λ _. looked.1, λ _. refl)
