-- Congruent numbers, the primes of fields, and inverses.
pub use Rattle.ve_theory.proofs.Sums.{congruent-add, congruent-mul, prime-large}
pub use Rattle.ve_theory.proofs.Inverses.{power_inverts}
