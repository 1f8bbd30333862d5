-- The texts of terms, and the tokens that they are read as.
use Rattle.std.proofs.Common.{ℕ, ◌+◌, ◌<◌, ◌≤◌, ◌^◌, Bool, true, false, ◌||◌, List, [], ◌∷◌, All, refl, arith}
use Rattle.std.specs.Prelude.{decimal, slice_index_or, IsTrue, IsFalse, codes, ◌++◌}
use Rattle.std.proofs.Common.{sym, subst, append_assoc}
use Rattle.ve_formats.specs.Expressions.{times_sign}
use Rattle.std.specs.List.{list_all}
use Rattle.std.proofs.lemmas.List.Elements.{All-head, All-tail, All-get_or}
use Rattle.ve_theory.specs.Words.{Word, generator, times}
use Rattle.ve_theory.specs.Presentations.{Presentation, letter_count, HasLetters, IsWord}
use Rattle.ve_theory.specs.Validity.{is_name_letter, is_digit, is_name, is_rooted, most_generators}
use Rattle.ve_theory.proofs.Members.{IsWord-prefix, IsWord-last, IsWord-start}
use Rattle.ve_formats.specs.Tokens.{is_number, is_name_part, most_digits}
use Rattle.ve_formats.specs.CanonicalText.{letters_text, algebra_term_text, term_text}
use Rattle.ve_formats.specs.WordText.{word_text}
use Rattle.ve_formats.proofs.Decimals.{is_number-decimal}
use Rattle.ve_formats.proofs.CanonicalTerms.{letter_token, starred_tokens, algebra_term_tokens}
use Rattle.ve_formats.proofs.CanonicalModuleTerms.{word_tokens, term_tokens}
use Rattle.ve_formats.proofs.WrittenLines.{Reads, reads_name, reads_number, reads_product, reads_coefficient, list_all-weaker}

abbrev pub IsLetterName : List ℕ → Type 0
IsLetterName x = IsTrue (is_name x) × IsFalse (is_rooted x)

or_from_right : (a b : Bool) → IsTrue b → IsTrue (a || b)
or_from_right true b h = refl
or_from_right false b h = h

-- a digit is a part of a name
part_from_digit : (b : ℕ) → IsTrue (is_digit b) → IsTrue (is_name_part b)
part_from_digit b h = or_from_right (is_name_letter b) (is_digit b) h

generator_is_name : (n : ℕ) → n < 10 ^ most_digits → IsTrue (is_name (101 ∷ decimal n))
unfolding is_name
generator_is_name n small = list_all-weaker is_digit is_name_part part_from_digit (decimal n) (all_digits (decimal n) (is_number-decimal n (omega arith)))
  where
    all_digits : (run : List ℕ) → IsTrue (is_number run) → IsTrue (list_all is_digit run)
    all_digits [] h = refl
    all_digits (b ∷ run) h = h

module _ (P : Presentation) (named : All IsLetterName P.names) (few : P.generators ≤ most_generators) where
  reads_letter : (x : ℕ) → x < letter_count P → Reads (slice_index_or P.names x []) (letter_token P.names x ∷ [])
  reads_letter x known = reads_name (slice_index_or P.names x []) (All-get_or IsLetterName P.names x [] known named).0

  reads_letters : (x : ℕ) (u : List ℕ) → HasLetters P (x ∷ u) → Reads (letters_text P.names (x ∷ u)) (letter_token P.names x ∷ starred_tokens P.names u)
  unfolding starred_tokens
  reads_letters x [] known = reads_letter x (All-head (λ x. x < letter_count P) x [] known)
  reads_letters x (y ∷ u) known =
      reads_product (slice_index_or P.names x []) (letters_text P.names (y ∷ u)) (letter_token P.names x ∷ []) (letter_token P.names y ∷ starred_tokens P.names u)
      (reads_letter x (All-head (λ x. x < letter_count P) x (y ∷ u) known)) (reads_letters y u (All-tail (λ x. x < letter_count P) x (y ∷ u) known))

  pub reads_algebra_term : (u : List ℕ) (c : ℕ) → HasLetters P u → c < 10 ^ most_digits → Reads (algebra_term_text P.names (u, c)) (algebra_term_tokens P.names u c)
  unfolding algebra_term_tokens
  reads_algebra_term [] c known small = reads_number c small
  reads_algebra_term (x ∷ u) c known small = reads_coefficient c (letters_text P.names (x ∷ u)) (letter_token P.names x ∷ starred_tokens P.names u) small (reads_letters x u known)

  reads_word : (w : Word) → IsWord P w → Reads (word_text P.names w) (word_tokens P.names w)
  unfolding word_text word_tokens
  reads_word (generator i) known = reads_name (101 ∷ decimal (i + 1)) (generator_is_name (i + 1) (omega (arith, IsWord-start P i known)))
  reads_word (times w x) known =
      subst (λ text. Reads text (word_tokens P.names w ++ times_sign ∷ letter_token P.names x ∷ [])) (sym (append_assoc (word_text P.names w) (codes "*") (slice_index_or P.names x [])))
      (reads_product (word_text P.names w) (slice_index_or P.names x []) (word_tokens P.names w) (letter_token P.names x ∷ [])
      (reads_word w (IsWord-prefix P w x known)) (reads_letter x (IsWord-last P w x known)))

  pub reads_term : (w : Word) (c : ℕ) → IsWord P w → c < 10 ^ most_digits → Reads (term_text P.names (w, c)) (term_tokens P.names (w, c))
  reads_term w c known small = reads_coefficient c (word_text P.names w) (word_tokens P.names w) small (reads_word w known)
