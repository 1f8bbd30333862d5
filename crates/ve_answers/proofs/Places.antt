-- What a line is that fills a place, and what it leaves.
use Rattle.std.proofs.Common.{◌≡◌, ℕ, ◌^◌, ◌<◌, ◌≤◌, List, ◌++◌, length, Contains, refl}
use Rattle.std.specs.Prelude.{Some, codes, slice_get}
use Rattle.ve_theory.specs.Residues.{IsFieldPrime}
use Rattle.ve_theory.specs.Words.{Word}
use Rattle.ve_theory.specs.Validity.{most_generators}
use Rattle.ve_theory.specs.Answers.{Row, IsRow}
use Rattle.ve_formats.specs.Lines.{each_after_space}
use Rattle.ve_formats.specs.WordText.{word_text}
use Rattle.ve_formats.specs.AnswerText.{numbered, image_line, row_line}
use Rattle.ve_formats.specs.AnswerReading as places
use Rattle.ve_formats.specs.AnswerReading.{AreNames, Draft, Grows, Fills, a_version, a_prime, some_names, some_generators, a_level, a_dimension, a_word, an_image, a_letter, a_row, the_end}

pub is_version : {draft next : Draft} {line : List ℕ} → Fills draft places.version line next → line ≡ codes "venum-answer 1"
is_version a_version = refl

pub is_prime : {draft next : Draft} {line : List ℕ} → Fills draft places.prime line next → (p : ℕ) × IsFieldPrime p × (line ≡ numbered (codes "prime") p)
is_prime (a_prime p is) = (p, is, refl)

pub are_names : {draft next : Draft} {line : List ℕ} → Fills draft places.names line next → (xs : List (List ℕ)) × AreNames xs × (line ≡ codes "letters" ++ each_after_space xs)
are_names (some_names xs are) = (xs, are, refl)

pub is_generators : {draft next : Draft} {line : List ℕ} → Fills draft places.generators line next → (s : ℕ) × (0 < s) × (s ≤ most_generators) × (line ≡ numbered (codes "module") s)
is_generators (some_generators s some most) = (s, some, most, refl)

pub is_level : {draft next : Draft} {line : List ℕ} → Fills draft places.closed line next → (k : ℕ) × (k < 2 ^ 32) × (line ≡ numbered (codes "closed") k)
is_level (a_level k small) = (k, small, refl)

pub is_dimension : {draft next : Draft} {line : List ℕ} → Fills draft places.dimension line next → (d : ℕ) × (d < 2 ^ 32) × (line ≡ numbered (codes "dimension") d)
is_dimension (a_dimension d small) = (d, small, refl)

pub is_word : {draft next : Draft} {line : List ℕ} → Fills draft places.word line next → (w : Word) × Grows draft w × (¬ Contains draft.basis w) × (line ≡ codes "basis " ++ word_text draft.names w)
is_word (a_word w grows fresh) = (w, grows, fresh, refl)

pub is_image : {draft next : Draft} {line : List ℕ} → Fills draft places.image line next → (v : Row) × IsRow draft.prime draft.dimension v × (line ≡ image_line draft.dimension v)
is_image (an_image v is) = (v, is, refl)

pub is_letter : {draft next : Draft} {line : List ℕ} → Fills draft places.letter line next → (x : List ℕ) × (slice_get draft.names (length draft.matrices) ≡ Some x) × (line ≡ codes "letter " ++ x)
is_letter (a_letter x found) = (x, found, refl)

pub is_row : {draft next : Draft} {line : List ℕ} → Fills draft places.row line next → (v : Row) × IsRow draft.prime draft.dimension v × (line ≡ row_line draft.dimension v)
is_row (a_row v is) = (v, is, refl)

pub is_end : {draft next : Draft} {line : List ℕ} → Fills draft places.end line next → line ≡ codes "end"
is_end the_end = refl
