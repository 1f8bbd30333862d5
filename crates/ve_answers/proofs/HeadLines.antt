-- The first lines, each read or refused.
use Rattle.std.proofs.Common.{◌≡◌, ℕ, ◌+◌, ◌^◌, ◌<◌, ◌≤◌, List, [], ◌∷◌, ◌++◌, true, arith, refl, sym, subst}
use Rattle.std.specs.Prelude.{codes, decimal, ltb}
use Rattle.std.proofs.lemmas.List.Elements.{All-contains}
use Rattle.std.proofs.lemmas.List.Sums.{AllPass-from_list_all}
use Rattle.std.proofs.lemmas.Bool.{ltb-true}
use Rattle.std.proofs.lemmas.List.{append_cancel_left}
use Rattle.std.proofs.lemmas.Fmt.{decimal_injective}
use Rattle.ve_theory.specs.Residues.{IsFieldPrime, primes}
use Rattle.ve_formats.specs.Lines.{each_after_space}
use Rattle.ve_formats.specs.AnswerText.{numbered}
use Rattle.ve_formats.specs.AnswerReading as places
use Rattle.ve_formats.specs.AnswerReading.{AreNames, Draft, Place, Fills, a_version, a_prime, some_names, some_generators, a_level, a_dimension}
use Rattle.ve_formats.proofs.SpacedPieces.{numbers_once}
use Rattle.ve_answers.specs.declared.lines.Lines.{Lines}
use Rattle.ve_answers.specs.declared.refusal.AnswerRefusal.{AnswerRefusal}
use Rattle.ve_answers.specs.declared.refusal.AnswerRefusal.TheVariants.{Line}
use Rattle.ve_answers.specs.Steps.{TakesLine, RefusesNext, ReadsLine, RefusesLine, lines_left}
use Rattle.ve_answers.proofs.Steps.{line_leads, next_refused, taken_refused, ended_refused}
use Rattle.ve_answers.proofs.Places.{is_prime, are_names, is_generators}

prime_small : (p : ℕ) → IsFieldPrime p → p ≤ 255
unfolding primes
prime_small p h = let less = ltb-true p 256 (All-contains (λ q. ltb q 256 ≡ true) primes p (AllPass-from_list_all (λ q. ltb q 256) primes refl) h) in omega (arith, less)

pub prime_read : {old new : Lines} (p : ℕ) → IsFieldPrime p → TakesLine old (numbered (codes "prime") p) new → ReadsLine places.prime old (λ draft. record draft { prime = p }) new
prime_read p is takes draft left = line_leads takes (a_prime p is)

pub no_prime_line : {old : Lines} {refusal : AnswerRefusal} → RefusesNext old (λ line. (p : ℕ) × (p ≤ 255) × (line ≡ numbered (codes "prime") p)) refusal → RefusesLine places.prime old refusal
no_prime_line refuses draft left = next_refused left refuses (λ next line f. let a = is_prime f in (a.0, prime_small a.0 a.1, a.2))

pub no_prime : {old new : Lines} {refusal : AnswerRefusal} (n : ℕ) → n ≤ 255 → (IsFieldPrime n → ⊥) → TakesLine old (numbered (codes "prime") n) new → refusal ≡ Line new.taken → RefusesLine places.prime old refusal
no_prime n most unfit takes told draft left =
    next_refused left
    (taken_refused (λ line. (p : ℕ) × IsFieldPrime p × (line ≡ numbered (codes "prime") p)) takes told
    (λ a. unfit (subst IsFieldPrime (numbers_once (codes "prime") a.0 n (omega (arith, prime_small a.0 a.1)) (omega (arith, most)) (sym a.2)) a.1)))
    (λ next line f. is_prime f)

pub generators_read : {old new : Lines} (s : ℕ) → 0 < s → s ≤ 255 → TakesLine old (numbered (codes "module") s) new → ReadsLine places.generators old (λ draft. record draft { generators = s }) new
generators_read s some most takes draft left = line_leads takes (some_generators s some most)

pub no_generators_line : {old : Lines} {refusal : AnswerRefusal} → RefusesNext old (λ line. (s : ℕ) × (s ≤ 255) × (line ≡ numbered (codes "module") s)) refusal → RefusesLine places.generators old refusal
no_generators_line refuses draft left = next_refused left refuses (λ next line f. let a = is_generators f in (a.0, a.2, a.3))

pub no_generators : {old new : Lines} {refusal : AnswerRefusal} (n : ℕ) → n ≡ 0 → TakesLine old (numbered (codes "module") n) new → refusal ≡ Line new.taken → RefusesLine places.generators old refusal
no_generators n zero takes told draft left =
    next_refused left
    (taken_refused (λ line. (s : ℕ) × (0 < s) × (s ≤ 255) × (line ≡ numbered (codes "module") s)) takes told
    (λ a. let same : n ≡ a.0 = numbers_once (codes "module") n a.0 (omega (arith, zero)) (omega (arith, a.2)) a.3 in absurd (omega (arith, same, zero, a.1))))
    (λ next line f. is_generators f)

pub names_read : {old new : Lines} (line : List ℕ) (xs : List (List ℕ)) → AreNames xs → line ≡ codes "letters" ++ each_after_space xs → TakesLine old line new → ReadsLine places.names old (λ draft. record draft { names = xs }) new
names_read line xs are is takes draft left = line_leads takes (subst (λ l. Fills draft places.names l (record draft { names = xs })) (sym is) (some_names xs are))

pub no_names : {old new : Lines} {refusal : AnswerRefusal} (line : List ℕ) → ((xs : List (List ℕ)) → AreNames xs → line ≡ codes "letters" ++ each_after_space xs → ⊥) → TakesLine old line new → refusal ≡ Line new.taken → RefusesLine places.names old refusal
no_names line unfit takes told draft left =
    next_refused left
    (taken_refused (λ other. (xs : List (List ℕ)) × AreNames xs × (other ≡ codes "letters" ++ each_after_space xs)) takes told (λ a. unfit a.0 a.1 a.2))
    (λ next other f. are_names f)

pub no_line_of_names : (old : Lines) {refusal : AnswerRefusal} → lines_left old ≡ [] → refusal ≡ Line (old.taken + 1) → RefusesLine places.names old refusal
no_line_of_names old none told draft left =
    next_refused left
    (ended_refused (λ other. (xs : List (List ℕ)) × AreNames xs × (other ≡ codes "letters" ++ each_after_space xs)) none told)
    (λ next other f. are_names f)
