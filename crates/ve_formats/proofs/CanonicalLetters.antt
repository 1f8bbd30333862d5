-- The lines of the letters are accepted, and take a draft to the letters that they are written for.
use Rattle.std.proofs.Common.{◌≡◌, ◌≢◌, ℕ, ◌+◌, ◌<◌, ◌≤◌, ◌⊎◌, false, List, [], ◌∷◌, ◌++◌, length, take, get_or, Contains, Option, Some, None, refl, sym, subst, ap, ◌∙◌, inl, inr, arith, append_assoc, append-nil, length-append}
use Rattle.std.specs.Prelude.{codes, decimal, IsFalse, slice_get, slice_index_or}
use Rattle.std.proofs.lemmas.Bool.{cond-true, cond-false, eq-eqb, ne_eqb}
use Rattle.std.proofs.lemmas.List.{take_more, take_all, length-take, length-take-le, get_or-take, get_or_default}
use Rattle.std.proofs.lemmas.Option.{slice_get_within, slice_get_read, same_Some, none-some}
use Rattle.std.proofs.Math.Seq.{get_or-append_seam}
use Rattle.ve_theory.specs.Words.{letter_weight}
use Rattle.ve_theory.specs.Presentations.{Presentation, letter_count}
use Rattle.ve_theory.specs.Validity.{IsValid, is_name, is_rooted}
use Rattle.ve_theory.specs.Presentations.{most_weight}
use Rattle.ve_formats.specs.Tokens.{Token, name, number, number_value}
use Rattle.ve_formats.specs.PresentationLines.{Declared, SpellDeclared, plain, weighted, a_letter, a_pair, an_involution, among_letters, after_end, Draft, weight_of, Declares, free, takes_letter, takes_involution, takes_pair, word}
use Rattle.ve_formats.specs.CanonicalText.{declared_text, letter_line, letter_lines}
use Rattle.ve_formats.proofs.Decimals.{number_value-decimal}
use Rattle.ve_formats.proofs.WrittenLines.{Lexed, Reads, reads_name, reads_number, reads_spaced, lexed_word, lexed_whole}
use Rattle.ve_formats.proofs.CanonicalLines.{Completes, completes_after, draft_of}

module _ (P : Presentation) (V : IsValid P) where
  -- how a letter is declared
  record Declaration (x : ℕ) : Type 0 where
    declared : Declared
    tokens : List Token
    spelled : SpellDeclared tokens declared
    reads : Reads (declared_text P x) tokens
    called : declared.called ≡ slice_index_or P.names x []
    weighs : weight_of declared ≡ letter_weight P.weights x
    may_weigh : (P.version ≡ 2) ⊎ (declared.weight ≡ None)

  weight_range : (x : ℕ) → x < letter_count P → (0 < letter_weight P.weights x) × (letter_weight P.weights x ≤ most_weight)
  weight_range x known = V.presentation.weights x 1 (omega (arith, V.presentation.one_weight_each))

  declaration : (x : ℕ) → x < letter_count P → Declaration x
  unfolding is_name
  declaration x known = by_version V.version
    where
      called : List ℕ
      called = slice_index_or P.names x []

      reads_called : Reads called (name called ∷ [])
      reads_called = reads_name called (V.names x [] known).0

      weight_text : List ℕ
      weight_text = codes " weight " ++ decimal (letter_weight P.weights x)

      by_version : (P.version ≡ 1) ⊎ (P.version ≡ 2) → Declaration x
      by_version (inl one) = record {
        declared = record { called = called; weight = None };
        tokens = name called ∷ [];
        spelled = plain called;
        reads = rw one (subst (λ text. Reads text (name called ∷ [])) (sym (append-nil called)) reads_called);
        called = refl;
        weighs = sym ((V.plain one).1 x 1 (omega (arith, V.presentation.one_weight_each)));
        may_weigh = inr refl;
      }
      by_version (inr two) = let range = weight_range x known in record {
        declared = record { called = called; weight = Some (number_value (decimal (letter_weight P.weights x))) };
        tokens = name called ∷ word (codes "weight") ∷ number (decimal (letter_weight P.weights x)) ∷ [];
        spelled = weighted called (decimal (letter_weight P.weights x));
        reads = rw two
            (reads_spaced called (codes "weight" ++ 32 ∷ decimal (letter_weight P.weights x)) (name called ∷ []) (word (codes "weight") ∷ number (decimal (letter_weight P.weights x)) ∷ []) reads_called
            (reads_spaced (codes "weight") (decimal (letter_weight P.weights x)) (word (codes "weight") ∷ []) (number (decimal (letter_weight P.weights x)) ∷ []) (reads_name (codes "weight") refl)
            (reads_number (letter_weight P.weights x) (omega (arith, range.1)))));
        called = refl;
        weighs = number_value-decimal (letter_weight P.weights x) (omega (arith, range.1));
        may_weigh = inl two;
      }

  -- a name does not stand before itself
  new_name : (x : ℕ) → x < letter_count P → ¬ Contains (take x P.names) (slice_index_or P.names x [])
  new_name x known (k, l, e) =
      let here = slice_index_or P.names x [] in
      let before : k < x = omega (arith, length-take x P.names, l) in
      V.distinct k x here before known (sym (get_or-take x P.names k here before) ∙ e ∙ get_or_default P.names x [] here known)

  declares : (Q : Presentation) (x : ℕ) (d : Declaration x) → x < letter_count P → Q.names ≡ take x P.names → Declares Q d.declared None
  declares Q x d known e =
      let range = weight_range x known in
      let count : length Q.names ≡ x = ap length e ∙ length-take-le x P.names (omega arith) in
      free (subst (λ called. ¬ Contains Q.names called) (sym d.called) (subst (λ names. ¬ Contains names (slice_index_or P.names x [])) (sym e) (new_name x known)))
      (subst (λ called. IsFalse (is_rooted called)) (sym d.called) (V.names x [] known).1)
      (omega (arith, V.letters)) (omega (arith, d.weighs, range.0)) (omega (arith, d.weighs, range.1))

  -- a draft with some letters
  abbrev pub lettered : List (List ℕ) → List (Option ℕ) → List ℕ → Draft
  lettered names inverses weights =
      draft_of P V among_letters (record { version = P.version; is_balanced = false; prime = P.prime; names = names; inverses = inverses; weights = weights; generators = 1; relations = []; submodule = [] }) 0

  -- a draft with the first letters
  abbrev pub first_letters : ℕ → List (Option ℕ) → Draft
  first_letters x inverses = lettered (take x P.names) inverses (take x P.weights)

  one_name : (x : ℕ) (d : Declaration x) → x < letter_count P → take (x + 1) P.names ≡ take x P.names ++ d.declared.called ∷ []
  one_name x d known = take_more P.names x [] known ∙ ap (λ n. take x P.names ++ n ∷ []) (sym d.called)

  one_weight : (x : ℕ) (d : Declaration x) → x < letter_count P → take (x + 1) P.weights ≡ take x P.weights ++ weight_of d.declared ∷ []
  one_weight x d known = take_more P.weights x 1 (omega (arith, V.presentation.one_weight_each)) ∙ ap (λ n. take x P.weights ++ n ∷ []) (sym d.weighs)

  not_over : among_letters ≢ after_end
  not_over e = absurd (cc)

  module _ (x : ℕ) (known : x < letter_count P) (is : List (Option ℕ)) (lines : List (List ℕ)) where
    count : length (take x P.names) ≡ x
    count = length-take-le x P.names (omega arith)

    completes_letter : Completes P (first_letters (x + 1) (is ++ None ∷ [])) lines → Completes P (first_letters x is) ((codes "letter " ++ declared_text P x) ∷ lines)
    unfolding is_name
    completes_letter k =
        let d = declaration x known in
        completes_after not_over (lexed_word (codes "letter") refl (lexed_whole (declared_text P x) d.tokens d.reads)) (a_letter d.spelled) (refl, d.may_weigh) (takes_letter d.declared (declares _ x d known refl))
        (subst (λ draft. Completes P draft lines) (λ i. lettered (one_name x d known i) (is ++ None ∷ []) (one_weight x d known i)) k)

    completes_involution : Completes P (first_letters (x + 1) (is ++ Some x ∷ [])) lines → Completes P (first_letters x is) ((codes "involution " ++ declared_text P x) ∷ lines)
    unfolding is_name
    completes_involution k =
        let d = declaration x known in
        completes_after not_over (lexed_word (codes "involution") refl (lexed_whole (declared_text P x) d.tokens d.reads)) (an_involution d.spelled) (refl, d.may_weigh) (takes_involution d.declared (declares _ x d known refl))
        (subst (λ draft. Completes P draft lines) (λ i. lettered (one_name x d known i) (is ++ Some (sym count i) ∷ []) (one_weight x d known i)) k)

    completes_pair : x + 1 < letter_count P → Completes P (first_letters (x + 1 + 1) ((is ++ Some (x + 1) ∷ []) ++ Some x ∷ [])) lines
        → Completes P (first_letters x is) ((codes "letter " ++ declared_text P x ++ codes " inverse " ++ declared_text P (x + 1)) ∷ lines)
    unfolding is_name
    completes_pair more k =
        let d = declaration x known in
        let e = declaration (x + 1) more in
        let written : Lexed (codes "letter " ++ declared_text P x ++ codes " inverse " ++ declared_text P (x + 1)) (word (codes "letter") ∷ (d.tokens ++ word (codes "inverse") ∷ e.tokens)) =
        lexed_word (codes "letter") refl
        (subst (λ text. Lexed text (d.tokens ++ word (codes "inverse") ∷ e.tokens)) (sym (append_assoc (declared_text P x) (codes " inverse ") (declared_text P (x + 1))))
        (lexed_whole (declared_text P x ++ 32 ∷ (codes "inverse" ++ 32 ∷ declared_text P (x + 1))) (d.tokens ++ word (codes "inverse") ∷ e.tokens)
        (reads_spaced (declared_text P x) (codes "inverse" ++ 32 ∷ declared_text P (x + 1)) d.tokens (word (codes "inverse") ∷ e.tokens) d.reads
        (reads_spaced (codes "inverse") (declared_text P (x + 1)) (word (codes "inverse") ∷ []) e.tokens (reads_name (codes "inverse") refl) e.reads)))) in
        completes_after not_over written (a_pair d.spelled e.spelled refl) (refl, d.may_weigh, e.may_weigh)
        (takes_pair d.declared e.declared (declares _ x d known refl) (declares _ (x + 1) e more (sym (one_name x d known))))
        (subst (λ draft. Completes P draft lines)
        (λ i. lettered ((one_name (x + 1) e more ∙ ap (λ names. names ++ e.declared.called ∷ []) (one_name x d known)) i) ((is ++ Some (sym count i + 1) ∷ []) ++ Some (sym count i) ∷ [])
        ((one_weight (x + 1) e more ∙ ap (λ weights. weights ++ weight_of e.declared ∷ []) (one_weight x d known)) i)) k)

  -- the line of a letter

  line_involution : (x y : ℕ) → x ≡ y → letter_line P x (Some y) ≡ (codes "involution " ++ declared_text P x) ∷ []
  line_involution x y same = cond-true _ _ _ (eq-eqb x y same)

  line_pair : (x y : ℕ) → y ≡ x + 1 → letter_line P x (Some y) ≡ (codes "letter " ++ declared_text P x ++ codes " inverse " ++ declared_text P (x + 1)) ∷ []
  line_pair x y next =
      cond-false _ _ _ (ne_eqb x y (λ e. omega arith)) ∙ cond-true _ _ _ (eq-eqb y (x + 1) next)
      ∙ ap (λ n. (codes "letter " ++ declared_text P x ++ codes " inverse " ++ declared_text P n) ∷ []) next

  line_second : (x : ℕ) → letter_line P (x + 1) (Some x) ≡ []
  line_second x = cond-false _ _ _ (ne_eqb (x + 1) x (λ e. omega arith)) ∙ cond-false _ _ _ (ne_eqb x (x + 1 + 1) (λ e. omega arith))

  -- no letter that is still to come is the inverse of this one
  abbrev IsFresh : ℕ → Type 0
  IsFresh x = (y : ℕ) → slice_get P.inverses x ≡ Some (Some y) → x ≤ y

  fresh_next : (x : ℕ) (i : Option ℕ) → slice_get P.inverses x ≡ Some i → (i ≢ Some (x + 1)) → IsFresh (x + 1)
  fresh_next x i here other y next = cases (V.beside (x + 1) y next)
    where
      cases : (x + 1 ≡ y) ⊎ (y ≡ x + 1 + 1) ⊎ (x + 1 ≡ y + 1) → x + 1 ≤ y
      cases (inl e) = omega arith
      cases (inr (inl e)) = omega arith
      cases (inr (inr e)) =
          let same : y ≡ x = omega arith in
          let back : slice_get P.inverses x ≡ Some (Some (x + 1)) = subst (λ n. slice_get P.inverses n ≡ Some (Some (x + 1))) same (V.presentation.inverses (x + 1) y next) in
          absurd (other (same_Some i (Some (x + 1)) (sym here ∙ back)))

  inverse_at : (x : ℕ) (is : List (Option ℕ)) (i : Option ℕ) (more : List (Option ℕ)) → P.inverses ≡ is ++ i ∷ more → length is ≡ x → slice_get P.inverses x ≡ Some i
  inverse_at x is i more e l =
      let count : length P.inverses ≡ length is + length (i ∷ more) = ap length e ∙ length-append is (i ∷ more) in
      slice_get_read P.inverses (length P.inverses) x i refl (omega arith) (sym (ap (λ n. get_or P.inverses n i) (sym l) ∙ ap (λ all. get_or all (length is) i) e ∙ get_or-append_seam is i more i))

  known_at : (x : ℕ) (i : Option ℕ) → slice_get P.inverses x ≡ Some i → x < letter_count P
  known_at x i here = omega (arith, slice_get_within P.inverses x i here, V.presentation.one_inverse_each)

  one_longer : (x : ℕ) (is : List (Option ℕ)) (i : Option ℕ) → length is ≡ x → length (is ++ i ∷ []) ≡ x + 1
  one_longer x is i l = length-append is (i ∷ []) ∙ ap (λ n. n + 1) l

  -- a letter that is its own inverse

  own_inverse : (x y : ℕ) (is more : List (Option ℕ)) → x ≡ y → P.inverses ≡ is ++ Some y ∷ more → P.inverses ≡ (is ++ Some x ∷ []) ++ more
  own_inverse x y is more same e = e ∙ ap (λ n. is ++ Some n ∷ more) (sym same) ∙ sym (append_assoc is (Some x ∷ []) more)

  fresh_own : (x y : ℕ) → slice_get P.inverses x ≡ Some (Some y) → x ≡ y → IsFresh (x + 1)
  fresh_own x y here same = fresh_next x (Some y) here (λ e. omega (arith, same_Some y (x + 1) e))

  completes_own : (x y : ℕ) (is more : List (Option ℕ)) (lines : List (List ℕ)) → x < letter_count P → x ≡ y → Completes P (first_letters (x + 1) (is ++ Some x ∷ [])) (letter_lines P (x + 1) more ++ lines)
      → Completes P (first_letters x is) ((letter_line P x (Some y) ++ letter_lines P (x + 1) more) ++ lines)
  completes_own x y is more lines known same k =
      subst (λ line. Completes P (first_letters x is) ((line ++ letter_lines P (x + 1) more) ++ lines)) (sym (line_involution x y same)) (completes_involution x known is (letter_lines P (x + 1) more ++ lines) k)

  -- two letters that are each other's inverses

  second_at : (x y : ℕ) → slice_get P.inverses x ≡ Some (Some y) → y ≡ x + 1 → slice_get P.inverses (x + 1) ≡ Some (Some x)
  second_at x y here next = subst (λ n. slice_get P.inverses n ≡ Some (Some x)) next (V.presentation.inverses x y here)

  two_inverses : (x y : ℕ) (j : Option ℕ) (is more : List (Option ℕ)) → y ≡ x + 1 → j ≡ Some x → P.inverses ≡ is ++ Some y ∷ j ∷ more → P.inverses ≡ ((is ++ Some (x + 1) ∷ []) ++ Some x ∷ []) ++ more
  two_inverses x y j is more next mate e =
      e ∙ (λ i. is ++ Some (next i) ∷ mate i ∷ more) ∙ sym (append_assoc is (Some (x + 1) ∷ []) (Some x ∷ more)) ∙ sym (append_assoc (is ++ Some (x + 1) ∷ []) (Some x ∷ []) more)

  completes_two : (x y : ℕ) (j : Option ℕ) (is more : List (Option ℕ)) (lines : List (List ℕ)) → x < letter_count P → x + 1 < letter_count P → y ≡ x + 1 → j ≡ Some x
      → Completes P (first_letters (x + 1 + 1) ((is ++ Some (x + 1) ∷ []) ++ Some x ∷ [])) (letter_lines P (x + 1 + 1) more ++ lines)
      → Completes P (first_letters x is) ((letter_line P x (Some y) ++ (letter_line P (x + 1) j ++ letter_lines P (x + 1 + 1) more)) ++ lines)
  completes_two x y j is more lines known next_known next mate k =
      subst (λ i. Completes P (first_letters x is) ((letter_line P x (Some y) ++ (letter_line P (x + 1) i ++ letter_lines P (x + 1 + 1) more)) ++ lines)) (sym mate)
      (subst (λ line. Completes P (first_letters x is) ((letter_line P x (Some y) ++ (line ++ letter_lines P (x + 1 + 1) more)) ++ lines)) (sym (line_second x))
      (subst (λ line. Completes P (first_letters x is) ((line ++ letter_lines P (x + 1 + 1) more) ++ lines)) (sym (line_pair x y next))
      (completes_pair x known is (letter_lines P (x + 1 + 1) more ++ lines) next_known k)))

  -- the letters from x on, one line after another
  completes_letters : (x : ℕ) (is more : List (Option ℕ)) → P.inverses ≡ is ++ more → length is ≡ x → IsFresh x → {lines : List (List ℕ)}
      → Completes P (lettered P.names P.inverses P.weights) lines → Completes P (first_letters x is) (letter_lines P x more ++ lines)
  unfolding letter_lines
  completes_letters x is [] e l fresh {lines} k =
      let all : is ≡ P.inverses = sym (e ∙ append-nil is) in
      let count : length P.inverses ≡ x = ap length (sym all) ∙ l in
      let names : take x P.names ≡ P.names = take_all x P.names (omega (arith, V.presentation.one_inverse_each)) in
      let weights : take x P.weights ≡ P.weights = take_all x P.weights (omega (arith, V.presentation.one_inverse_each, V.presentation.one_weight_each)) in
      subst (λ draft. Completes P draft lines) (λ i. lettered (sym names i) (sym all i) (sym weights i)) k
  completes_letters x is (None ∷ more) e l fresh {lines} k =
      let here = inverse_at x is None more e l in
      completes_letter x (known_at x None here) is (letter_lines P (x + 1) more ++ lines)
      (completes_letters (x + 1) (is ++ None ∷ []) more (e ∙ sym (append_assoc is (None ∷ []) more)) (one_longer x is None l) (fresh_next x None here (none-some (x + 1))) k)
  completes_letters x is (Some y ∷ []) e l fresh {lines} k =
      let here = inverse_at x is (Some y) [] e l in
      elim (V.beside x y here) [
        | inl same ↦
            completes_own x y is [] lines (known_at x (Some y) here) same
            (completes_letters (x + 1) (is ++ Some x ∷ []) [] (own_inverse x y is [] same e) (one_longer x is (Some x) l) (fresh_own x y here same) k)
        | inr (inl next) ↦
            absurd (omega (arith, slice_get_within P.inverses (x + 1) (Some x) (second_at x y here next), ap length e, length-append is (Some y ∷ [])))
        | inr (inr before) ↦ absurd (omega (arith, fresh y here))
      ]
  completes_letters x is (Some y ∷ j ∷ more) e l fresh {lines} k =
      let here = inverse_at x is (Some y) (j ∷ more) e l in
      elim (V.beside x y here) [
        | inl same ↦
            completes_own x y is (j ∷ more) lines (known_at x (Some y) here) same
            (completes_letters (x + 1) (is ++ Some x ∷ []) (j ∷ more) (own_inverse x y is (j ∷ more) same e) (one_longer x is (Some x) l) (fresh_own x y here same) k)
        | inr (inl next) ↦
            let second = second_at x y here next in
            let mate : j ≡ Some x = same_Some j (Some x) (sym (inverse_at (x + 1) (is ++ Some y ∷ []) j more (e ∙ sym (append_assoc is (Some y ∷ []) (j ∷ more))) (one_longer x is (Some y) l)) ∙ second) in
            completes_two x y j is more lines (known_at x (Some y) here) (known_at (x + 1) (Some x) second) next mate
            (completes_letters (x + 1 + 1) ((is ++ Some (x + 1) ∷ []) ++ Some x ∷ []) more (two_inverses x y j is more next mate e) (one_longer (x + 1) (is ++ Some (x + 1) ∷ []) (Some x) (one_longer x is (Some (x + 1)) l))
            (fresh_next (x + 1) (Some x) second (λ e. omega (arith, same_Some x (x + 1 + 1) e))) k)
        | inr (inr before) ↦ absurd (omega (arith, fresh y here))
      ]

  pub completes_all_letters : {lines : List (List ℕ)} → Completes P (lettered P.names P.inverses P.weights) lines → Completes P (lettered [] [] []) (letter_lines P 0 P.inverses ++ lines)
  completes_all_letters k = completes_letters 0 [] P.inverses refl refl (λ y e. omega arith) k
