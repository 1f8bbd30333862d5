-- From the first line to those of the basis.
use Rattle.std.proofs.Common.{◌≡◌, ℕ, ◌^◌, ◌<◌, ◌≤◌, List, [], ◌∷◌, append-nil, arith, subst}
use Rattle.std.specs.Prelude.{codes}
use Rattle.ve_formats.specs.AnswerText.{numbered}
use Rattle.ve_formats.specs.AnswerReading as places
use Rattle.ve_formats.specs.AnswerReading.{Draft, Place, a_version, a_level, a_dimension, blank_draft, body_places, head_places, opened}
use Rattle.ve_answers.specs.declared.lines.Lines.{Lines}
use Rattle.ve_answers.specs.declared.refusal.AnswerRefusal.{AnswerRefusal}
use Rattle.ve_answers.specs.Steps.{Leads, ReadsLine, Refuses, RefusesLine, RefusesNext, TakesLine}
use Rattle.ve_answers.proofs.Places.{is_version, is_level, is_dimension}
use Rattle.ve_answers.proofs.Steps.{line_leads, leads_then, next_refused}

-- the places behind the level, the generators, the names, the prime and the version
abbrev from_dimension : List Place
from_dimension = places.dimension ∷ []

abbrev from_level : List Place
from_level = places.closed ∷ from_dimension

abbrev from_generators : List Place
from_generators = places.generators ∷ from_level

abbrev from_names : List Place
from_names = places.names ∷ from_generators

abbrev from_prime : List Place
from_prime = places.prime ∷ from_names

-- the greatest number below 2^32
abbrev pub greatest : ℕ
greatest = 4294967295

pub below_greatest : (n most : ℕ) → n ≤ most → most ≡ greatest → n < 2 ^ 32
below_greatest n most least is = omega (arith, least, is)

abbrev pub head_draft : ℕ → List (List ℕ) → ℕ → ℕ → ℕ → Draft
head_draft p names s closed d = record blank_draft { prime = p; names = names; generators = s; closed = closed; dimension = d }

pub no_version : {lines : Lines} {refusal : AnswerRefusal} → RefusesNext lines (λ line. line ≡ codes "venum-answer 1") refusal → Refuses blank_draft head_places lines refusal
no_version refuses = next_refused from_prime refuses (λ next line f. is_version f)

module _ {first second : Lines} (version : TakesLine first (codes "venum-answer 1") second) where
  to_prime : Leads blank_draft head_places first blank_draft from_prime second
  unfolding opened
  to_prime = line_leads version a_version

  pub prime_refused : (refusal : AnswerRefusal) → RefusesLine places.prime second refusal → Refuses blank_draft head_places first refusal
  prime_refused refusal refuses = to_prime.failed refusal (refuses blank_draft from_names)

  module _ (p : ℕ) {third : Lines} (prime : ReadsLine places.prime second (λ draft. record draft { prime = p }) third) where
    to_names : Leads blank_draft head_places first (record blank_draft { prime = p }) from_names third
    unfolding opened
    to_names = leads_then to_prime (prime blank_draft from_names)

    pub names_refused : (refusal : AnswerRefusal) → RefusesLine places.names third refusal → Refuses blank_draft head_places first refusal
    names_refused refusal refuses = to_names.failed refusal (refuses (record blank_draft { prime = p }) from_generators)

    module _ (xs : List (List ℕ)) {fourth : Lines} (names : ReadsLine places.names third (λ draft. record draft { names = xs }) fourth) where
      to_generators : Leads blank_draft head_places first (record blank_draft { prime = p; names = xs }) from_generators fourth
      unfolding opened
      to_generators = leads_then to_names (names (record blank_draft { prime = p }) from_generators)

      pub generators_refused : (refusal : AnswerRefusal) → RefusesLine places.generators fourth refusal → Refuses blank_draft head_places first refusal
      generators_refused refusal refuses = to_generators.failed refusal (refuses (record blank_draft { prime = p; names = xs }) from_level)

      module _ (s : ℕ) {fifth : Lines} (generators : ReadsLine places.generators fourth (λ draft. record draft { generators = s }) fifth) where
        to_level : Leads blank_draft head_places first (head_draft p xs s 0 0) from_level fifth
        unfolding opened
        to_level = leads_then to_generators (generators (record blank_draft { prime = p; names = xs }) from_level)

        pub level_refused : {refusal : AnswerRefusal} (most : ℕ) → most ≡ greatest → RefusesNext fifth (λ line. (k : ℕ) × (k ≤ most) × (line ≡ numbered (codes "closed") k)) refusal
            → Refuses blank_draft head_places first refusal
        level_refused {refusal} most is refuses =
            to_level.failed refusal (next_refused from_dimension refuses (λ next line f. let a = is_level f in (a.0, omega (arith, a.1, is), a.2)))

        module _ (k : ℕ) (small : k < 2 ^ 32) {sixth : Lines} (closed : TakesLine fifth (numbered (codes "closed") k) sixth) where
          to_dimension : Leads blank_draft head_places first (head_draft p xs s k 0) from_dimension sixth
          unfolding opened
          to_dimension = leads_then to_level (line_leads closed (a_level k small))

          pub dimension_refused : {refusal : AnswerRefusal} (most : ℕ) → most ≡ greatest → RefusesNext sixth (λ line. (d : ℕ) × (d ≤ most) × (line ≡ numbered (codes "dimension") d)) refusal
              → Refuses blank_draft head_places first refusal
          dimension_refused {refusal} most is refuses =
              to_dimension.failed refusal (next_refused [] refuses (λ next line f. let a = is_dimension f in (a.0, omega (arith, a.1, is), a.2)))

          -- all first lines
          pub head_leads : (d : ℕ) → d < 2 ^ 32 → {last : Lines} → TakesLine sixth (numbered (codes "dimension") d) last
              → Leads blank_draft head_places first (head_draft p xs s k d) (body_places (head_draft p xs s k d)) last
          unfolding opened
          head_leads d least {last} dimension =
              subst (λ ps. Leads blank_draft head_places first (head_draft p xs s k d) ps last) (append-nil (body_places (head_draft p xs s k d)))
              (leads_then to_dimension (line_leads dimension (a_dimension d least)))
