-- The canonical text of a presentation spells it.
use Rattle.std.proofs.Common.{◌≡◌, ℕ, ◌≤◌, ◌⊎◌, Bool, false, List, [], ◌∷◌, ◌++◌, map, refl, sym, subst, ◌∙◌, inl, inr, arith}
use Rattle.std.specs.Prelude.{codes, decimal, IsTrue}
use Rattle.std.proofs.lemmas.Bool.{cases_Bool, cond-true, cond-false, true≢false}
use Rattle.ve_theory.specs.Residues.{IsFieldPrime}
use Rattle.ve_theory.specs.Presentations.{Presentation}
use Rattle.ve_theory.specs.Validity.{IsValid, is_name}
use Rattle.ve_formats.specs.Tokens.{number, number_value}
use Rattle.ve_formats.specs.PresentationLines.{blank_draft, a_version, a_prime, some_generators, a_balance, after_version, among_letters, after_generators, among_relations, takes_version, takes_prime, takes_generators, takes_balance, word}
use Rattle.ve_formats.specs.PresentationText.{Spells, AcceptsAll}
use Rattle.ve_formats.specs.CanonicalText.{canonical, canonical_lines, balance_line, letter_lines, relation_line, submodule_line}
use Rattle.ve_formats.proofs.Decimals.{number_value-decimal}
use Rattle.ve_formats.proofs.TextLines.{lines_of-text_of_lines}
use Rattle.ve_formats.proofs.WrittenLines.{lexed_word, lexed_whole, reads_number, reads_name}
use Rattle.ve_formats.proofs.CanonicalLines.{Completes, completes_after, completes_all_relations, draft_of, prime_small}
use Rattle.ve_formats.proofs.CanonicalLetters.{lettered, completes_all_letters}

module _ (P : Presentation) (V : IsValid P) where
  abbrev relations_and_end : List (List ℕ)
  relations_and_end = map (relation_line P) P.relations ++ (map (submodule_line P) P.submodule ++ codes "end" ∷ [])

  abbrev module_and_more : List (List ℕ)
  module_and_more = (codes "module " ++ decimal P.generators) ∷ (balance_line P ++ relations_and_end)

  -- without relations, and balanced or not
  abbrev bare : Bool → Presentation
  bare b = record P { is_balanced = b; relations = []; submodule = [] }

  balance_needs_two : IsTrue P.is_balanced → P.version ≡ 2
  balance_needs_two balanced = cases V.version
    where
      cases : (P.version ≡ 1) ⊎ (P.version ≡ 2) → P.version ≡ 2
      cases (inl one) = absurd (true≢false (sym balanced ∙ (V.plain one).0))
      cases (inr two) = two

  completes_balance : Completes P (draft_of P V after_generators (bare false) 0) (balance_line P ++ relations_and_end)
  unfolding is_name
  completes_balance =
      elim (cases_Bool P.is_balanced) [
        | inl balanced ↦
            rw (cond-true P.is_balanced (codes "balance" ∷ []) [] balanced)
            (completes_after (λ e. absurd (cc)) (lexed_whole (codes "balance") (word (codes "balance") ∷ []) (reads_name (codes "balance") refl)) a_balance (refl, balance_needs_two balanced) takes_balance
            (subst (λ b. Completes P (draft_of P V among_relations (bare b) 0) relations_and_end) balanced (completes_all_relations P V among_relations (inr refl))))
        | inr plain ↦
            rw (cond-false P.is_balanced (codes "balance" ∷ []) [] plain)
            (subst (λ b. Completes P (draft_of P V after_generators (bare b) 0) relations_and_end) plain (completes_all_relations P V after_generators (inl refl)))
      ]

  completes_generators : Completes P (lettered P V P.names P.inverses P.weights) module_and_more
  unfolding is_name
  completes_generators =
      let n = P.generators in
      let range = V.generators in
      let value : number_value (decimal n) ≡ n = number_value-decimal n (omega (arith, range.1)) in
      completes_after (λ e. absurd (cc)) (lexed_word (codes "module") refl (lexed_whole (decimal n) (number (decimal n) ∷ []) (reads_number n (omega (arith, range.1)))))
      (some_generators (decimal n)) (refl, omega (arith, value, range.0)) (takes_generators (number_value (decimal n)) (omega (arith, value, range.1)))
      (subst (λ m. Completes P (draft_of P V after_generators (record P { is_balanced = false; generators = m; relations = []; submodule = [] }) 0) (balance_line P ++ relations_and_end)) (sym value) completes_balance)

  completes_prime : Completes P (draft_of P V after_version (record blank_draft.presentation { version = P.version }) 0)
      ((codes "prime " ++ decimal P.prime) ∷ (letter_lines P 0 P.inverses ++ module_and_more))
  unfolding is_name
  completes_prime =
      let p = P.prime in
      let small = prime_small p V.presentation.field in
      let value : number_value (decimal p) ≡ p = number_value-decimal p (omega (arith, small)) in
      completes_after (λ e. absurd (cc)) (lexed_word (codes "prime") refl (lexed_whole (decimal p) (number (decimal p) ∷ []) (reads_number p (omega (arith, small)))))
      (a_prime (decimal p)) refl (takes_prime (number_value (decimal p)) (subst IsFieldPrime (sym value) V.presentation.field))
      (subst (λ q. Completes P (draft_of P V among_letters (record blank_draft.presentation { version = P.version; prime = q }) 0) (letter_lines P 0 P.inverses ++ module_and_more)) (sym value)
      (completes_all_letters P V completes_generators))

  version_small : P.version ≤ 2
  version_small = cases V.version
    where
      cases : (P.version ≡ 1) ⊎ (P.version ≡ 2) → P.version ≤ 2
      cases (inl one) = omega arith
      cases (inr two) = omega arith

  completes_canonical : Completes P blank_draft (canonical_lines P)
  unfolding is_name canonical_lines
  completes_canonical =
      let n = P.version in
      let value : number_value (decimal n) ≡ n = number_value-decimal n (omega (arith, version_small)) in
      completes_after (λ e. absurd (cc)) (lexed_word (codes "venum") refl (lexed_whole (decimal n) (number (decimal n) ∷ []) (reads_number n (omega (arith, version_small)))))
      (a_version (decimal n)) (refl, subst (λ m. (m ≡ 1) ⊎ (m ≡ 2)) (sym value) V.version) (takes_version (number_value (decimal n)))
      (subst (λ m. Completes P (draft_of P V after_version (record blank_draft.presentation { version = m }) 0) ((codes "prime " ++ decimal P.prime) ∷ (letter_lines P 0 P.inverses ++ module_and_more))) (sym value)
      completes_prime)

pub canonical_spells : (P : Presentation) → IsValid P → Spells (canonical P) P
unfolding canonical
canonical_spells P V =
    let k = completes_canonical P V in
    record {
      last = k.last;
      lines = subst (λ lines. AcceptsAll blank_draft lines k.last) (sym (lines_of-text_of_lines (canonical_lines P) k.one_line)) k.accepts;
      ended = k.ended;
      presentation = k.presentation;
    }
