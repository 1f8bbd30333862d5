-- Which texts are those of words that may stand next.
use Rattle.std.proofs.Common.{◌≡◌, ℕ, ◌+◌, ◌^◌, ◌<◌, List, [], ◌∷◌, ◌++◌, length, All, Contains, arith, refl, sym, ap, subst, ◌∙◌, append_assoc}
use Rattle.std.specs.Prelude.{nat_eq, not, codes, decimal, IsTrue, IsFalse, Some, slice_get, slice_index_or}
use Rattle.std.specs.List.{list_all}
use Rattle.std.proofs.lemmas.Bool.{and_parts, and_from}
use Rattle.std.proofs.lemmas.List.{append_cancel_left, get_or-map, length-map, map_push}
use Rattle.std.proofs.lemmas.List.Elements.{All-push, All-contains, All-get_or, Contains-get_or}
use Rattle.std.proofs.lemmas.Option.{slice_get-get_or, slice_get_within, get_or_from_slice_get}
use Rattle.std.proofs.lemmas.Fmt.{decimal_injective}
use Rattle.ve_theory.specs.Words.{Word, generator, times, start, letters}
use Rattle.ve_theory.specs.Validity.{is_name, is_rooted, most_generators}
use Rattle.ve_formats.specs.Pieces.{IsWritten, Lacks}
use Rattle.ve_formats.specs.WordText.{word_text, letter_name}
use Rattle.ve_formats.specs.AnswerReading.{AreNames, Grows, a_generator, a_child}
use Rattle.ve_table.specs.declared.origin.Origin.{Origin}
use Rattle.ve_table.specs.declared.origin.Origin.TheVariants.{Root, Child}
use Rattle.ve_table.specs.Books.{spelled}
use Rattle.ve_answers.specs.declared.head.Head.{Head}
use Rattle.ve_answers.specs.Heads.{IsHead}
use Rattle.ve_answers.specs.Basis.{with_words, texts_of, IsBasisLine, IsNextWord, IsNextOrigin}

-- what the law of texts in pieces says of stars
pub record StarsSplitOnce : Type 0 where
  pub stars : (xs ys m n : List ℕ) → Lacks 42 m → Lacks 42 n → xs ++ 42 ∷ m ≡ ys ++ 42 ∷ n → (xs ≡ ys) × (m ≡ n)
  pub names : (name : List ℕ) → IsTrue (is_name name) → Lacks 32 name × Lacks 42 name
  pub numbers : (n : ℕ) → n < 2 ^ 64 → Lacks 32 (decimal n) × Lacks 42 (decimal n)
  pub words : (names : List (List ℕ)) (v w : Word) → AreNames names → IsWritten names v → IsWritten names w → word_text names v ≡ word_text names w → v ≡ w

pub root_text : (names : List (List ℕ)) (i : ℕ) → word_text names (generator i) ≡ codes "e" ++ decimal (i + 1)
unfolding word_text
root_text names i = refl

child_text : (names : List (List ℕ)) (v : Word) (x : ℕ) → word_text names (times v x) ≡ word_text names v ++ 42 ∷ letter_name names x
unfolding word_text
child_text names v x = append_assoc (word_text names v) (codes "*") (letter_name names x)

lacks_no_star : (front behind : List ℕ) → Lacks 42 (front ++ 42 ∷ behind) → ⊥
lacks_no_star [] behind lacks = absurd cc
lacks_no_star (b ∷ front) behind lacks = lacks_no_star front behind (and_parts (not (nat_eq b 42)) (list_all (λ c. not (nat_eq c 42)) (front ++ 42 ∷ behind)) lacks).1

-- what may stand next, by cases
grown_cases : (P : Word → Type 0) (head : Head) (words : List Word) → ((i : ℕ) → i < head.roots → P (generator i)) → ((v : Word) (x : ℕ) → Contains words v → x < length head.names → P (times v x)) → (w : Word) → Grows (with_words head words) w → P w
grown_cases P head words roots children _ (a_generator i less) = roots i less
grown_cases P head words roots children _ (a_child v x found less) = children v x found less

-- each of them has letters with names, and a number that can be written
pub grown_written : (head : Head) → IsHead head → (words : List Word) → All (IsWritten head.names) words → (w : Word) → Grows (with_words head words) w → IsWritten head.names w
unfolding start letters
grown_written head is words all w grows =
    grown_cases (IsWritten head.names) head words
    (λ i less. (omega (arith, less, is.generators), λ k d inside. absurd (omega (arith, inside))))
    (λ v x found less. let before = All-contains (IsWritten head.names) words v all found in (before.0, All-push (λ y. y < length head.names) (letters v) x before.1 less))
    w grows

-- ---- texts and names at their places

pub listed : (texts : List (List ℕ)) (at : ℕ) (text : List ℕ) → slice_get texts at ≡ Some text → Contains texts text
listed texts at text found = (at, slice_get_within texts at text found, get_or_from_slice_get texts at text text found)

pub letter_has_name : (head : Head) → IsHead head → (x : ℕ) (name : List ℕ) → slice_get head.names x ≡ Some name → IsTrue (is_name name)
letter_has_name head is x name found = (All-contains (λ n. IsTrue (is_name n) × IsFalse (is_rooted n)) head.names name is.names.formed (listed head.names x name found)).0

-- ---- generators

module _ (head : Head) where
  -- the number of a generator that has this text
  pub root_number : (text : List ℕ) (n : ℕ) → text ≡ codes "e" ++ decimal n → n < 2 ^ 64 → (i : ℕ) → i < most_generators → text ≡ word_text head.names (generator i) → n ≡ i + 1
  root_number text n is small i less same =
      decimal_injective n (i + 1) small (omega (arith, less))
      (append_cancel_left (codes "e") (decimal n) (decimal (i + 1)) (sym is ∙ same ∙ root_text head.names i))

  module _ (law : StarsSplitOnce) (is : IsHead head) (words : List Word) where
    root_lacks : (i : ℕ) → i < head.roots → Lacks 42 (word_text head.names (generator i))
    root_lacks i less =
        subst (Lacks 42) (sym (root_text head.names i))
        (and_from (not (nat_eq 101 42)) (list_all (λ b. not (nat_eq b 42)) (decimal (i + 1))) refl (law.numbers (i + 1) (omega (arith, less, is.generators))).1)

    letter_named : (x : ℕ) → x < length head.names → IsTrue (is_name (letter_name head.names x))
    letter_named x less = (All-get_or (λ name. IsTrue (is_name name) × IsFalse (is_rooted name)) head.names x [] less is.names.formed).0

    -- a text with no star is no child's
    pub no_root : (text : List ℕ) → Lacks 42 text → ((i : ℕ) → i < head.roots → text ≡ word_text head.names (generator i) → ⊥) → (w : Word) → IsNextWord head words text w → ⊥
    no_root text lacks unfit w next =
        grown_cases (λ v. text ≡ word_text head.names v → ⊥) head words unfit
        (λ v x found less same. lacks_no_star (word_text head.names v) (letter_name head.names x) (subst (Lacks 42) (same ∙ child_text head.names v x) lacks))
        w next.grows next.spelling

    pub next_root : (text : List ℕ) (o : Origin) → (i : ℕ) × (i < head.roots) × (o ≡ Root i) × (text ≡ word_text head.names (generator i)) → IsNextOrigin head words text o
    unfolding spelled
    next_root text o a = subst (IsNextOrigin head words text) (sym a.2) (record { word = record { grows = a_generator a.0 a.1; spelling = a.3 }; parent = tt })

    -- ---- children

    module _ (texts : List (List ℕ)) (are : texts ≡ texts_of head words) where
      -- the place of a basis word's text
      placed : (v : Word) → Contains words v → (at : ℕ) × (slice_get texts at ≡ Some (word_text head.names v))
      placed v found = (
        found.0,
        ap (λ ts. slice_get ts found.0) are
            ∙ slice_get-get_or (texts_of head words) found.0 (word_text head.names v) (omega (arith, found.1, length-map words (word_text head.names)))
            ∙ ap Some (get_or-map (word_text head.names) words found.0 v (word_text head.names v) found.1 ∙ ap (word_text head.names) found.2),
      )

      -- the word whose text stands at a place
      word_of_text : (at : ℕ) (text : List ℕ) → slice_get texts at ≡ Some text → (at < length words) × (text ≡ word_text head.names (slice_index_or words at (generator 0)))
      word_of_text at text found =
          let here : slice_get (texts_of head words) at ≡ Some text = ap (λ ts. slice_get ts at) (sym are) ∙ found in
          let inside : at < length words = omega (arith, slice_get_within (texts_of head words) at text here, length-map words (word_text head.names)) in
          (inside, sym (get_or_from_slice_get (texts_of head words) at text text here) ∙ get_or-map (word_text head.names) words at (generator 0) text inside)

      pub no_child : (text parent name : List ℕ) → text ≡ parent ++ 42 ∷ name → Lacks 42 name
          → ((at x : ℕ) → slice_get texts at ≡ Some parent → slice_get head.names x ≡ Some name → ⊥) → (w : Word) → IsNextWord head words text w → ⊥
      no_child text parent name split lacks unfit w next =
          grown_cases (λ v. text ≡ word_text head.names v → ⊥) head words
          (λ i less same. lacks_no_star parent name (subst (Lacks 42) (sym same ∙ split) (root_lacks i less)))
          (λ v x found less same.
          let parts = law.stars (word_text head.names v) parent (letter_name head.names x) name (law.names (letter_name head.names x) (letter_named x less)).1 lacks (sym (child_text head.names v x) ∙ sym same ∙ split) in
          let at = placed v found in
          unfit at.0 x (at.1 ∙ ap Some parts.0) (slice_get-get_or head.names x [] less ∙ ap Some parts.1))
          w next.grows next.spelling

      pub next_child : (text parent name : List ℕ) → text ≡ parent ++ 42 ∷ name → (o : Origin)
          → (at : ℕ) × (x : ℕ) × (o ≡ Child at x) × (slice_get texts at ≡ Some parent) × (slice_get head.names x ≡ Some name) → IsNextOrigin head words text o
      unfolding spelled
      next_child text parent name split o a =
          let at : ℕ = a.0 in
          let word = word_of_text at parent a.3 in
          let v : Word = slice_index_or words at (generator 0) in
          let inside : a.1 < length head.names = slice_get_within head.names a.1 name a.4 in
          let named : name ≡ letter_name head.names a.1 = sym (get_or_from_slice_get head.names a.1 name [] a.4) in
          subst (IsNextOrigin head words text) (sym a.2)
          (record {
            word = record {
              grows = a_child v a.1 (Contains-get_or words at (generator 0) word.0) inside;
              spelling = split ∙ (λ i. word.1 i ++ 42 ∷ named i) ∙ sym (child_text head.names v a.1);
            };
            parent = word.0;
          })

      -- ---- a line of the basis

      text_is_listed : (w : Word) → Contains words w → Contains texts (word_text head.names w)
      text_is_listed w found = let at = placed w found in
          (at.0, slice_get_within texts at.0 (word_text head.names w) at.1, get_or_from_slice_get texts at.0 (word_text head.names w) (word_text head.names w) at.1)

      pub word_is_listed : All (IsWritten head.names) words → (w : Word) → IsWritten head.names w → Contains texts (word_text head.names w) → Contains words w
      word_is_listed all w written held =
          let found : slice_get texts held.0 ≡ Some (word_text head.names w) = slice_get-get_or texts held.0 (word_text head.names w) held.1 ∙ ap Some held.2 in
          let at = word_of_text held.0 (word_text head.names w) found in
          let v : Word = slice_index_or words held.0 (generator 0) in
          let same : w ≡ v = law.words head.names w v is.names written (All-get_or (IsWritten head.names) words held.0 (generator 0) at.0 all) at.1 in
          subst (Contains words) (sym same) (Contains-get_or words held.0 (generator 0) at.0)

      pub no_line : (line : List ℕ) → ((text : List ℕ) → line ≡ codes "basis " ++ text → ⊥) → (w : Word) → IsBasisLine head words line w → ⊥
      no_line line unfit w h = unfit (word_text head.names w) h.text

      module _ (line text : List ℕ) (line_is : line ≡ codes "basis " ++ text) where
        same_text : (w : Word) → line ≡ codes "basis " ++ word_text head.names w → text ≡ word_text head.names w
        same_text w h = append_cancel_left (codes "basis ") text (word_text head.names w) (sym line_is ∙ h)

        pub no_word : ((w : Word) → IsNextWord head words text w → ⊥) → (w : Word) → IsBasisLine head words line w → ⊥
        no_word unfit w h = unfit w (record { grows = h.grows; spelling = same_text w h.text })

        pub old_word : All (IsWritten head.names) words → (¬ Contains texts text → ⊥) → (w : Word) → IsBasisLine head words line w → ⊥
        old_word all listed w h =
            listed (λ held. h.fresh (word_is_listed all w (grown_written head is words all w h.grows) (subst (Contains texts) (same_text w h.text) held)))

        pub basis_line : (w : Word) → IsNextWord head words text w → ¬ Contains texts text → IsBasisLine head words line w
        basis_line w next fresh = record {
          grows = next.grows;
          fresh = λ found. fresh (subst (Contains texts) (sym next.spelling) (text_is_listed w found));
          text = line_is ∙ ap (λ t. codes "basis " ++ t) next.spelling;
        }

        pub texts_more : (w : Word) → IsNextWord head words text w → (more : List (List ℕ)) → more ≡ texts ++ text ∷ [] → more ≡ texts_of head (words ++ w ∷ [])
        texts_more w next more is_more = is_more ∙ (λ i. are i ++ next.spelling i ∷ []) ∙ sym (map_push (word_text head.names) words w)
