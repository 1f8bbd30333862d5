-- A line fills a place, or it doesn't.
use Rattle.std.proofs.Common.{◌≡◌, ℕ, zero, suc, ◌+◌, ◌^◌, ◌<◌, ◌⊎◌, Bool, true, false, cond, inl, inr, List, [], ◌∷◌, ◌++◌, length, get_or, All, arith, refl, sym, ap, subst, ◌∙◌}
use Rattle.std.specs.Prelude.{◌-◌, not, Some, None, codes, decimal, nat_eq, map, IsTrue, IsFalse}
use Rattle.std.proofs.lemmas.Bool.{cases_lt, cases_Bool, and_from, cond-true, cond-false, eq-eqb, ne_eqb, eqb-true}
use Rattle.std.proofs.lemmas.List.{append_cancel_left, ext_get_or, get_or-map, get_or_default, length-map}
use Rattle.std.proofs.lemmas.List.Elements.{All-get_or, All-nil, All-cons}
use Rattle.std.proofs.lemmas.Option.{slice_get_cases, get_or_from_slice_get}
use Rattle.ve_theory.specs.Residues.{IsFieldPrime, primes}
use Rattle.ve_theory.specs.Combinations.{coefficient, IsReduced, AllBefore}
use Rattle.ve_theory.specs.Words.{Word, generator, times, same_letters}
use Rattle.ve_theory.specs.Validity.{is_name, is_rooted, most_letters, most_generators}
use Rattle.ve_theory.specs.Answers.{Row, IsRow}
use Rattle.ve_formats.specs.Lines.{each_after_space, numbers_below}
use Rattle.ve_formats.specs.WordText.{word_text}
use Rattle.ve_formats.specs.AnswerText.{numbered, row_entries}
use Rattle.ve_formats.specs.AnswerReading as places
use Rattle.ve_formats.specs.AnswerReading.{AreNames, Draft, Place, Grows, a_generator, a_child, Fills, a_version, a_prime, some_names, some_generators, a_level, a_dimension, a_word, an_image, a_letter, a_row, the_end, FillAll, FailAt, misfit, too_few, too_many, later, opened}
use Rattle.ve_theory.proofs.Reduced.{All_from_AllBefore}
use Rattle.ve_lemmas.proofs.Words.{same_letters-true}
use Rattle.ve_formats.proofs.SameNames.{same_letters-false}
use Rattle.ve_formats.proofs.SpacedPieces.{Lacks, fronts_once, pieces_once, after_space-cut, decimal_lacks, words_once, IsWritten}
use Rattle.ve_formats.proofs.AnswerRows.{absent, small}
use Rattle.ve_formats.proofs.AnswerSteps.{version_filled, prime_filled, names_filled, generators_filled, level_filled, dimension_filled, word_filled, image_filled, letter_filled, row_filled, end_filled, IsKept, IsOnTheWay, grown_written, names_lack}
use Rattle.ve_formats.proofs.AnswerOutcomes.{on_the_way}
use Rattle.ve_formats.proofs.NumbersBelow.{length-numbers_below, number_at}

abbrev pub Choice : Type 0 → Type 0
Choice P = P ⊎ (P → ⊥)

-- some number below n, or none
some_below : (P : ℕ → Type 0) → ((k : ℕ) → Choice (P k)) → (n : ℕ) → ((k : ℕ) × (k < n) × P k) ⊎ ((k : ℕ) → k < n → P k → ⊥)
some_below P choose zero = inr (λ k less h. absurd (omega (arith, less)))
some_below P choose (suc n) = elim (choose n) [
  | inl h ↦ inl (n, omega arith, h)
  | inr other ↦ elim (some_below P choose n) [
    | inl h ↦ inl (h.0, omega (arith, h.1), h.2)
    | inr none ↦ inr (λ k less h. elim (cases_lt k n) [ inl below ↦ none k below h | inr above ↦ other (subst P (omega (arith, less, above)) h) ])
  ]
]

same_text : (u v : List ℕ) → Choice (u ≡ v)
same_text u v = elim (cases_Bool (same_letters u v)) [ inl yes_same ↦ inl (same_letters-true u v yes_same) | inr other ↦ inr (same_letters-false u v other) ]

number_line : (f : ℕ → List ℕ) (n : ℕ) (line : List ℕ) → ((k : ℕ) × (k < n) × (line ≡ f k)) ⊎ ((k : ℕ) → k < n → line ≡ f k → ⊥)
number_line f n line = some_below (λ k. line ≡ f k) (λ k. same_text line (f k)) n

-- what stands behind a word
behind_word : (word line : List ℕ) → ((rest : List ℕ) × (line ≡ word ++ rest)) ⊎ ((rest : List ℕ) → line ≡ word ++ rest → ⊥)
behind_word [] line = inl (line, refl)
behind_word (c ∷ word) [] = inr (λ rest is. absurd (cc))
behind_word (c ∷ word) (d ∷ line) = elim (cases_Bool (nat_eq d c)) [
  | inl same ↦ elim (behind_word word line) [
    | inl h ↦ let first : d ≡ c = eqb-true d c same in inl (h.0, λ i. first i ∷ h.1 i)
    | inr none ↦ inr (λ rest is. let tail : line ≡ word ++ rest = cc in none rest tail)
  ]
  | inr other ↦ inr (λ rest is. let first : d ≡ c = cc in let same = eq-eqb d c first in absurd (clash (nat_eq d c) same other))
]
  where
    clash : (t : Bool) → t ≡ true → t ≡ false → ⊥
    clash t is not_is = let bad : true ≡ false = sym is ∙ not_is in absurd (cc)

-- ---- pieces after spaces

record Cut (text : List ℕ) : Type 0 where
  first : List ℕ
  pieces : List (List ℕ)
  are : text ≡ first ++ each_after_space pieces
  lacks : Lacks 32 first
  all_lack : All (Lacks 32) pieces

cut : (text : List ℕ) → Cut text
unfolding each_after_space
cut [] = record { first = []; pieces = []; are = refl; lacks = refl; all_lack = All-nil (Lacks 32) }
cut (c ∷ text) =
    let more = cut text in
    elim (cases_Bool (nat_eq c 32)) [
      | inl space ↦ record {
        first = [];
        pieces = more.first ∷ more.pieces;
        are = λ i. eqb-true c 32 space i ∷ more.are i;
        lacks = refl;
        all_lack = All-cons (Lacks 32) more.first more.pieces more.lacks more.all_lack;
      }
      | inr other ↦ record {
        first = c ∷ more.first;
        pieces = more.pieces;
        are = λ i. c ∷ more.are i;
        lacks = and_from _ _ (ap not other) more.lacks;
        all_lack = more.all_lack;
      }
    ]

AreSpaced : List ℕ → List (List ℕ) → Type 0
AreSpaced text pieces = All (Lacks 32) pieces × (text ≡ each_after_space pieces)

spaced : (text : List ℕ) → ((pieces : List (List ℕ)) × AreSpaced text pieces) ⊎ ((pieces : List (List ℕ)) → AreSpaced text pieces → ⊥)
unfolding AreSpaced
spaced text = by_first (cut text)
  where
    by_first : Cut text → ((pieces : List (List ℕ)) × (All (Lacks 32) pieces × (text ≡ each_after_space pieces))) ⊎ ((pieces : List (List ℕ)) → (All (Lacks 32) pieces × (text ≡ each_after_space pieces)) → ⊥)
    by_first c = elim (same_text c.first []) [
      | inl empty ↦ inl (c.pieces, (c.all_lack, c.are ∙ ap (λ f. f ++ each_after_space c.pieces) empty))
      | inr some ↦ inr (λ pieces h. some (fronts_once 32 c.first [] (each_after_space c.pieces) (each_after_space pieces) c.lacks refl (after_space-cut c.pieces) (after_space-cut pieces) (sym c.are ∙ h.1)).0)
    ]

-- ---- names

formed : (name : List ℕ) → Choice (IsTrue (is_name name) × IsFalse (is_rooted name))
formed name = elim (cases_Bool (is_name name)) [
  | inl a_name ↦ elim (cases_Bool (is_rooted name)) [ inl rooted ↦ inr (λ h. absurd (clash (is_rooted name) rooted h.1)) | inr free ↦ inl (a_name, free) ]
  | inr none ↦ inr (λ h. absurd (clash (is_name name) h.0 none))
]
  where
    clash : (t : Bool) → t ≡ true → t ≡ false → ⊥
    clash t is not_is = let bad : true ≡ false = sym is ∙ not_is in absurd (cc)

are_names : (names : List (List ℕ)) → Choice (AreNames names)
are_names names = elim (cases_lt most_letters (length names)) [
  | inl many ↦ inr (λ h. absurd (omega (arith, many, h.few)))
  | inr few ↦ elim (some_below (λ k. (IsTrue (is_name (get_or names k [])) × IsFalse (is_rooted (get_or names k []))) → ⊥) (λ k. opposite (formed (get_or names k []))) (length names)) [
    | inl bad ↦ inr (λ h. bad.2 (h.formed bad.0 [] bad.1))
    | inr none ↦ elim (some_below (λ j. (i : ℕ) × (i < j) × (get_or names i [] ≡ get_or names j [])) (λ j. twin j) (length names)) [
      | inl same ↦ inr (λ h. h.distinct same.2.0 same.0 [] same.2.1 same.1 same.2.2)
      | inr apart ↦ inl (record {
        few = few;
        formed = λ k d inside. subst (λ n. IsTrue (is_name n) × IsFalse (is_rooted n)) (get_or_default names k [] d inside) (surely (formed (get_or names k [])) (none k inside));
        distinct = λ i j d less inside same. apart j inside (i, less, get_or_default names i [] d (omega (arith, less, inside)) ∙ same ∙ sym (get_or_default names j [] d inside));
      })
    ]
  ]
]
  where
    opposite : {P : Type 0} → Choice P → Choice (P → ⊥)
    opposite (inl h) = inr (λ none. none h)
    opposite (inr none) = inl none

    surely : {P : Type 0} → Choice P → ((P → ⊥) → ⊥) → P
    surely (inl h) not_none = h
    surely (inr none) not_none = absurd (not_none none)

    twin : (j : ℕ) → Choice ((i : ℕ) × (i < j) × (get_or names i [] ≡ get_or names j []))
    twin j = elim (some_below (λ i. get_or names i [] ≡ get_or names j []) (λ i. same_text (get_or names i []) (get_or names j [])) j) [
      | inl h ↦ inl h
      | inr none ↦ inr (λ h. none h.0 h.1 h.2)
    ]

-- ---- the lines of one word or one number

abbrev pub Fitting : Draft → Place → List ℕ → Type 0
Fitting draft place line = ((next : Draft) × Fills draft place line next) ⊎ ((next : Draft) → ¬ Fills draft place line next)

fits_version : (draft : Draft) (line : List ℕ) → Fitting draft places.version line
fits_version draft line = elim (same_text line (codes "venum-answer 1")) [
  | inl is ↦ inl (draft, subst (λ l. Fills draft places.version l draft) (sym is) a_version)
  | inr other ↦ inr (λ next f. other (version_filled f).0)
]

fits_end : (draft : Draft) (line : List ℕ) → Fitting draft places.end line
fits_end draft line = elim (same_text line (codes "end")) [
  | inl is ↦ inl (draft, subst (λ l. Fills draft places.end l draft) (sym is) the_end)
  | inr other ↦ inr (λ next f. other (end_filled f).0)
]

fits_prime : (draft : Draft) (line : List ℕ) → Fitting draft places.prime line
fits_prime draft line = elim (number_line (λ k. numbered (codes "prime") (get_or primes k 0)) (length primes) line) [
  | inl h ↦
      let p : ℕ = get_or primes h.0 0 in
      let field : IsFieldPrime p = (h.0, h.1, get_or_default primes h.0 p 0 h.1) in
      inl (record draft { prime = p }, subst (λ l. Fills draft places.prime l (record draft { prime = p })) (sym h.2) (a_prime p field))
  | inr none ↦ inr (λ next f. let a = prime_filled f in
      none a.1.0 a.1.1 (a.2 ∙ ap (numbered (codes "prime")) (sym a.1.2 ∙ get_or_default primes a.1.0 a.0 0 a.1.1)))
]

fits_generators : (draft : Draft) (line : List ℕ) → Fitting draft places.generators line
fits_generators draft line = elim (number_line (λ k. numbered (codes "module") (k + 1)) most_generators line) [
  | inl h ↦ inl (record draft { generators = h.0 + 1 }, subst (λ l. Fills draft places.generators l (record draft { generators = h.0 + 1 })) (sym h.2) (some_generators (h.0 + 1) (omega arith) (omega (arith, h.1))))
  | inr none ↦ inr (λ next f. let a = generators_filled f in let same : a.0 ≡ (a.0 - 1) + 1 = omega (arith, a.1) in
      none (a.0 - 1) (omega (arith, a.1, a.2)) (a.3 ∙ ap (numbered (codes "module")) same))
]

fits_level : (draft : Draft) (line : List ℕ) → Fitting draft places.closed line
fits_level draft line = elim (number_line (numbered (codes "closed")) (2 ^ 32) line) [
  | inl h ↦ inl (record draft { closed = h.0 }, subst (λ l. Fills draft places.closed l (record draft { closed = h.0 })) (sym h.2) (a_level h.0 h.1))
  | inr none ↦ inr (λ next f. let a = level_filled f in none a.0 a.1 a.2)
]

fits_dimension : (draft : Draft) (line : List ℕ) → Fitting draft places.dimension line
fits_dimension draft line = elim (number_line (numbered (codes "dimension")) (2 ^ 32) line) [
  | inl h ↦ inl (record draft { dimension = h.0 }, subst (λ l. Fills draft places.dimension l (record draft { dimension = h.0 })) (sym h.2) (a_dimension h.0 h.1))
  | inr none ↦ inr (λ next f. let a = dimension_filled f in none a.0 a.1 a.2)
]

fits_names : (draft : Draft) (line : List ℕ) → Fitting draft places.names line
unfolding AreSpaced
fits_names draft line = elim (behind_word (codes "letters") line) [
  | inr none ↦ inr (λ next f. let a = names_filled f in none (each_after_space a.0) a.2)
  | inl h ↦ elim (spaced h.0) [
    | inr none ↦ inr (λ next f. let a = names_filled f in none a.0 (names_lack a.0 a.1, append_cancel_left (codes "letters") _ _ (sym h.1 ∙ a.2)))
    | inl cut_up ↦ elim (are_names cut_up.0) [
      | inl are ↦ inl (
        record draft { names = cut_up.0 },
        subst (λ l. Fills draft places.names l (record draft { names = cut_up.0 })) (sym (h.1 ∙ ap (λ t. codes "letters" ++ t) cut_up.1.1)) (some_names cut_up.0 are),
      )
      | inr bad ↦ inr (λ next f. let a = names_filled f in
          let same : a.0 ≡ cut_up.0 = pieces_once a.0 cut_up.0 (names_lack a.0 a.1) cut_up.1.0 (sym (append_cancel_left (codes "letters") _ _ (sym h.1 ∙ a.2)) ∙ cut_up.1.1) in
          bad (subst AreNames same a.1))
    ]
  ]
]

fits_letter : (draft : Draft) (line : List ℕ) → Fitting draft places.letter line
fits_letter draft line = elim (slice_get_cases draft.names (length draft.matrices)).1 [
  | inl found ↦ elim (same_text line (codes "letter " ++ found.0)) [
    | inl is ↦ inl (record draft { matrices = draft.matrices ++ [] ∷ [] }, subst (λ l. Fills draft places.letter l (record draft { matrices = draft.matrices ++ [] ∷ [] })) (sym is) (a_letter found.0 found.2))
    | inr other ↦ inr (λ next f. let a = letter_filled f in
        let same : a.0 ≡ found.0 = sym (get_or_from_slice_get draft.names (length draft.matrices) a.0 [] a.1) ∙ get_or_from_slice_get draft.names (length draft.matrices) found.0 [] found.2 in
        other (a.2 ∙ ap (λ x. codes "letter " ++ x) same))
  ]
  | inr past ↦ inr (λ next f. let a = letter_filled f in let bad : Some a.0 ≡ None = sym a.1 ∙ past.1 in absurd (cc))
]

-- ---- words

Candidate : Draft → List ℕ → Word → Type 0
Candidate draft line w = Grows draft w × (line ≡ codes "basis " ++ word_text draft.names w)

child_line : (draft : Draft) (line : List ℕ) (j : ℕ) → Choice ((x : ℕ) × (x < length draft.names) × (line ≡ codes "basis " ++ word_text draft.names (times (get_or draft.basis j (generator 0)) x)))
child_line draft line j = elim (number_line (λ x. codes "basis " ++ word_text draft.names (times (get_or draft.basis j (generator 0)) x)) (length draft.names) line) [
  | inl h ↦ inl h
  | inr none ↦ inr (λ h. none h.0 h.1 h.2)
]

candidate : (draft : Draft) (line : List ℕ) → ((w : Word) × Candidate draft line w) ⊎ ((w : Word) → Candidate draft line w → ⊥)
unfolding Candidate
candidate draft line = elim (number_line (λ i. codes "basis " ++ word_text draft.names (generator i)) draft.generators line) [
  | inl h ↦ inl (generator h.0, (a_generator h.0 h.1, h.2))
  | inr no_generator ↦ elim (some_below (λ j. (x : ℕ) × (x < length draft.names) × (line ≡ codes "basis " ++ word_text draft.names (times (get_or draft.basis j (generator 0)) x))) (child_line draft line) (length draft.basis)) [
    | inl h ↦ let v : Word = get_or draft.basis h.0 (generator 0) in inl (times v h.2.0, (a_child v h.2.0 (h.0, h.1, get_or_default draft.basis h.0 v (generator 0) h.1) h.2.1, h.2.2))
    | inr no_child ↦ inr (λ w h. neither no_generator no_child w h.0 h.1)
  ]
]
  where
    neither : ((i : ℕ) → i < draft.generators → line ≡ codes "basis " ++ word_text draft.names (generator i) → ⊥)
        → ((j : ℕ) → j < length draft.basis → ((x : ℕ) × (x < length draft.names) × (line ≡ codes "basis " ++ word_text draft.names (times (get_or draft.basis j (generator 0)) x))) → ⊥)
        → (w : Word) → Grows draft w → line ≡ codes "basis " ++ word_text draft.names w → ⊥
    neither no_generator no_child _ (a_generator i less) is = no_generator i less is
    neither no_generator no_child _ (a_child v x found less) is =
        let same : v ≡ get_or draft.basis found.0 (generator 0) = sym (get_or_default draft.basis found.0 (generator 0) v found.1 ∙ found.2) in
        no_child found.0 found.1 (x, less, is ∙ ap (λ u. codes "basis " ++ word_text draft.names (times u x)) same)

fits_word : (draft : Draft) → IsKept draft → (line : List ℕ) → Fitting draft places.word line
unfolding Candidate
fits_word draft kept line = elim (candidate draft line) [
  | inr none ↦ inr (λ next f. let a = word_filled f in none a.0 (a.1, a.3))
  | inl c ↦ elim (some_below (λ k. word_text draft.names (get_or draft.basis k (generator 0)) ≡ word_text draft.names c.0) (λ k. same_text (word_text draft.names (get_or draft.basis k (generator 0))) (word_text draft.names c.0)) (length draft.basis)) [
    | inr fresh ↦ inl (
      record draft { basis = draft.basis ++ c.0 ∷ [] },
      subst (λ l. Fills draft places.word l (record draft { basis = draft.basis ++ c.0 ∷ [] })) (sym c.1.1)
          (a_word c.0 c.1.0 (λ found. fresh found.0 found.1 (ap (word_text draft.names) (get_or_default draft.basis found.0 (generator 0) c.0 found.1 ∙ found.2)))),
    )
    | inl old ↦ inr (λ next f. let a = word_filled f in
        let written : IsWritten draft.names (get_or draft.basis old.0 (generator 0)) = All-get_or (IsWritten draft.names) draft.basis old.0 (generator 0) old.1 kept.words in
        let texts : word_text draft.names a.0 ≡ word_text draft.names c.0 = append_cancel_left (codes "basis ") _ _ (sym a.3 ∙ c.1.1) in
        let same : get_or draft.basis old.0 (generator 0) ≡ a.0 = words_once draft.names kept.names (get_or draft.basis old.0 (generator 0)) a.0 written (grown_written kept a.0 a.1) (old.2 ∙ sym texts) in
        a.2 (old.0, old.1, get_or_default draft.basis old.0 a.0 (generator 0) old.1 ∙ same))
  ]
]

-- ---- rows

add_entry : ℕ → ℕ → Row → Row
add_entry n c row = cond (nat_eq c 0) row ((n, c) ∷ row)

add_entry-zero : (n c : ℕ) (row : Row) → c ≡ 0 → add_entry n c row ≡ row
unfolding add_entry
add_entry-zero n c row is = cond-true (nat_eq c 0) row ((n, c) ∷ row) (eq-eqb c 0 is)

add_entry-some : (n c : ℕ) (row : Row) → 0 < c → add_entry n c row ≡ (n, c) ∷ row
unfolding add_entry
add_entry-some n c row some = cond-false (nat_eq c 0) row ((n, c) ∷ row) (ne_eqb c 0 (λ is. omega (arith, is, some)))

row_upto : (ℕ → ℕ) → ℕ → Row
row_upto f zero = []
row_upto f (suc n) = add_entry n (f n) (row_upto f n)

AllBefore-more : (k : ℕ) (v : Row) → AllBefore ◌<◌ k v → AllBefore ◌<◌ (suc k) v
unfolding AllBefore
AllBefore-more k [] before = tt
AllBefore-more k (t ∷ v) before = (omega (arith, before.0), AllBefore-more k v before.1)

module _ (p : ℕ) (f : ℕ → ℕ) where
  record IsUpto (n : ℕ) (v : Row) : Type 0 where
    before : AllBefore ◌<◌ n v
    reduced : IsReduced ◌<◌ p v
    entries : (k : ℕ) → k < n → coefficient nat_eq v k ≡ f k

  next_upto : (n : ℕ) (v : Row) → (f n ≡ 0) ⊎ ((0 < f n) × (f n < p)) → IsUpto n v → IsUpto (suc n) (add_entry n (f n) v)
  unfolding AllBefore IsReduced coefficient
  next_upto n v (inl none) upto =
      subst (IsUpto (suc n)) (sym (add_entry-zero n (f n) v none))
      (record {
        before = AllBefore-more n v upto.before;
        reduced = upto.reduced;
        entries = λ k less. elim (cases_lt k n) [
          | inl below ↦ upto.entries k below
          | inr above ↦ let here : k ≡ n = omega (arith, less, above) in absent n v upto.before k above ∙ sym none ∙ ap f (sym here)
        ];
      })
  next_upto n v (inr some) upto =
      subst (IsUpto (suc n)) (sym (add_entry-some n (f n) v some.0))
      (record {
        before = (omega arith, AllBefore-more n v upto.before);
        reduced = (some.0, some.1, upto.before, upto.reduced);
        entries = λ k less. elim (cases_lt k n) [
          | inl below ↦ omega (arith, cond-false (nat_eq n k) (f n) 0 (ne_eqb n k (λ is. omega (arith, is, below))), upto.entries k below)
          | inr above ↦
              let here : n ≡ k = omega (arith, less, above) in
              let own : cond (nat_eq n k) (f n) 0 ≡ f n = cond-true (nat_eq n k) (f n) 0 (eq-eqb n k here) in
              omega (arith, own, absent n v upto.before k above, ap f here)
        ];
      })

  row_upto-is : (n : ℕ) → ((k : ℕ) → k < n → (f k ≡ 0) ⊎ ((0 < f k) × (f k < p))) → IsUpto n (row_upto f n)
  unfolding row_upto AllBefore IsReduced
  row_upto-is zero small_ones = record { before = tt; reduced = tt; entries = λ k less. absurd (omega (arith, less)) }
  row_upto-is (suc n) small_ones = next_upto n (row_upto f n) (small_ones n (omega arith)) (row_upto-is n (λ k less. small_ones k (omega (arith, less))))

coefficient_range : (p : ℕ) (v : Row) → IsReduced ◌<◌ p v → (k : ℕ) → (coefficient nat_eq v k ≡ 0) ⊎ ((0 < coefficient nat_eq v k) × (coefficient nat_eq v k < p))
unfolding coefficient IsReduced
coefficient_range p [] reduced k = inl refl
coefficient_range p (t ∷ v) reduced k = elim (cases_Bool (nat_eq t.0 k)) [
  | inl here ↦
      let own : cond (nat_eq t.0 k) t.1 0 ≡ t.1 = cond-true (nat_eq t.0 k) t.1 0 here in
      let none : coefficient nat_eq v k ≡ 0 = absent t.0 v reduced.2 k (omega (arith, eqb-true t.0 k here)) in
      inr (omega (arith, own, none, reduced.0), omega (arith, own, none, reduced.1))
  | inr other ↦
      let own : cond (nat_eq t.0 k) t.1 0 ≡ 0 = cond-false (nat_eq t.0 k) t.1 0 other in
      let same : cond (nat_eq t.0 k) t.1 0 + coefficient nat_eq v k ≡ coefficient nat_eq v k = omega (arith, own) in
      subst (λ c. (c ≡ 0) ⊎ ((0 < c) × (c < p))) (sym same) (coefficient_range p v reduced.3 k)
]

row_pieces : ℕ → Row → List (List ℕ)
row_pieces n v = map (λ place. decimal (coefficient nat_eq v place)) (numbers_below n)

length-row_pieces : (n : ℕ) (v : Row) → length (row_pieces n v) ≡ n
unfolding row_pieces
length-row_pieces n v = length-map (numbers_below n) (λ place. decimal (coefficient nat_eq v place)) ∙ length-numbers_below n

row_piece : (n : ℕ) (v : Row) (k : ℕ) → k < n → get_or (row_pieces n v) k [] ≡ decimal (coefficient nat_eq v k)
unfolding row_pieces
row_piece n v k less =
    let entry : ℕ → List ℕ = λ place. decimal (coefficient nat_eq v place) in
    get_or-map entry (numbers_below n) k 0 [] (omega (arith, length-numbers_below n, less)) ∙ ap entry (number_at n k less)

row_pieces-lack : (p n : ℕ) (v : Row) → p < 2 ^ 32 → IsReduced ◌<◌ p v → All (Lacks 32) (row_pieces n v)
row_pieces-lack p n v most reduced k d inside =
    let less : k < n = omega (arith, inside, length-row_pieces n v) in
    subst (Lacks 32) (sym (row_piece n v k less) ∙ get_or_default (row_pieces n v) k [] d inside) (decimal_lacks 32 (coefficient nat_eq v k) (omega arith) (omega (arith, small p v reduced k, most)))

-- the line is a word and the entries of a row
IsRowLine : (p n : ℕ) → List ℕ → List ℕ → Row → Type 0
IsRowLine p n word line v = IsRow p n v × (line ≡ word ++ row_entries n v)

-- a piece is an entry's
IsEntry : ℕ → List ℕ → ℕ → Type 0
IsEntry p piece c = (piece ≡ decimal c) × ((c ≡ 0) ⊎ ((0 < c) × (c < p)))

entry_choice : (p : ℕ) (piece : List ℕ) (c : ℕ) → Choice (IsEntry p piece c)
unfolding IsEntry
entry_choice p piece c = elim (same_text piece (decimal c)) [
  | inr other ↦ inr (λ h. other h.0)
  | inl is ↦ elim (cases_lt c p) [
    | inl less ↦ elim (cases_lt 0 c) [ inl some ↦ inl (is, inr (some, less)) | inr none ↦ inl (is, inl (omega (arith, none))) ]
    | inr large ↦ elim (cases_lt 0 c) [ inl some ↦ inr (λ h. elim h.1 [ inl zero_is ↦ omega (arith, zero_is, some) | inr both ↦ omega (arith, both.1, large) ]) | inr none ↦ inl (is, inl (omega (arith, none))) ]
  ]
]

an_entry : (p : ℕ) (piece : List ℕ) → ((c : ℕ) × (c < suc p) × IsEntry p piece c) ⊎ ((c : ℕ) → c < suc p → IsEntry p piece c → ⊥)
an_entry p piece = some_below (IsEntry p piece) (entry_choice p piece) (suc p)

no_entry : (p : ℕ) (piece : List ℕ) → Choice ((c : ℕ) → c < suc p → IsEntry p piece c → ⊥)
no_entry p piece = elim (an_entry p piece) [ inl h ↦ inr (λ none. none h.0 h.1 h.2) | inr none ↦ inl none ]

-- rows of pieces that are all entries
module _ (p n : ℕ) (pieces : List (List ℕ)) (count : length pieces ≡ n) (entries : (k : ℕ) → k < n → ((c : ℕ) → c < suc p → IsEntry p (get_or pieces k []) c → ⊥) → ⊥) where
  picked : (k : ℕ) → (c : ℕ) × (k < n → IsEntry p (get_or pieces k []) c)
  picked k = elim (an_entry p (get_or pieces k [])) [ inl h ↦ (h.0, λ _. h.2) | inr none ↦ (0, λ less. absurd (entries k less none)) ]

  read_row : Row
  read_row = row_upto (λ k. (picked k).0) n

  read_is : IsUpto p (λ k. (picked k).0) n read_row
  unfolding read_row IsEntry
  read_is = row_upto-is p (λ k. (picked k).0) n (λ k less. ((picked k).1 less).1)

  read_is_row : IsRow p n read_row
  read_is_row = (read_is.reduced, All_from_AllBefore ◌<◌ n read_row read_is.before)

  read_pieces : pieces ≡ row_pieces n read_row
  unfolding IsEntry
  read_pieces = ext_get_or [] pieces (row_pieces n read_row) (omega (arith, count, length-row_pieces n read_row))
      (λ k inside. let less : k < n = omega (arith, inside, count) in
      ((picked k).1 less).0 ∙ sym (ap decimal (read_is.entries k less)) ∙ sym (row_piece n read_row k less))

row_line_choice : (p n : ℕ) → p < 2 ^ 32 → (word line : List ℕ) → ((v : Row) × IsRowLine p n word line v) ⊎ ((v : Row) → IsRowLine p n word line v → ⊥)
unfolding IsRowLine AreSpaced row_pieces IsEntry
row_line_choice p n most word line = elim (behind_word word line) [
  | inr none ↦ inr (λ v h. none (row_entries n v) h.1)
  | inl w ↦ elim (spaced w.0) [
    | inr none ↦ inr (λ v h. none (row_pieces n v) (row_pieces-lack p n v most h.0.0, append_cancel_left word _ _ (sym w.1 ∙ h.1)))
    | inl s ↦ elim (cases_Bool (nat_eq (length s.0) n)) [
      | inr other ↦ inr (λ v h.
          let same : row_pieces n v ≡ s.0 = pieces_once (row_pieces n v) s.0 (row_pieces-lack p n v most h.0.0) s.1.0 (sym (append_cancel_left word _ _ (sym w.1 ∙ h.1)) ∙ s.1.1) in
          let size : length s.0 ≡ n = ap length (sym same) ∙ length-row_pieces n v in
          let test : nat_eq (length s.0) n ≡ true = eq-eqb (length s.0) n size in
          let bad : true ≡ false = sym test ∙ other in
          absurd (cc))
      | inl full ↦ elim (some_below (λ k. (c : ℕ) → c < suc p → IsEntry p (get_or s.0 k []) c → ⊥) (λ k. no_entry p (get_or s.0 k [])) n) [
        | inl bad ↦ inr (λ v h.
            let same : row_pieces n v ≡ s.0 = pieces_once (row_pieces n v) s.0 (row_pieces-lack p n v most h.0.0) s.1.0 (sym (append_cancel_left word _ _ (sym w.1 ∙ h.1)) ∙ s.1.1) in
            bad.2 (coefficient nat_eq v bad.0) (omega (arith, small p v h.0.0 bad.0)) (ap (λ ps. get_or ps bad.0 []) (sym same) ∙ row_piece n v bad.0 bad.1, coefficient_range p v h.0.0 bad.0))
        | inr good ↦
            let count : length s.0 ≡ n = eqb-true (length s.0) n full in
            inl (read_row p n s.0 count good, (read_is_row p n s.0 count good, w.1 ∙ ap (λ t. word ++ t) (s.1.1 ∙ ap each_after_space (read_pieces p n s.0 count good))))
      ]
    ]
  ]
]

fits_image : (draft : Draft) → IsKept draft → (line : List ℕ) → Fitting draft places.image line
unfolding IsRowLine
fits_image draft kept line = elim (row_line_choice draft.prime draft.dimension kept.prime (codes "image") line) [
  | inl h ↦ inl (record draft { images = draft.images ++ h.0 ∷ [] }, subst (λ l. Fills draft places.image l (record draft { images = draft.images ++ h.0 ∷ [] })) (sym h.1.1) (an_image h.0 h.1.0))
  | inr none ↦ inr (λ next f. let a = image_filled f in none a.0 (a.1, a.2))
]

fits_row : (draft : Draft) → IsKept draft → (line : List ℕ) → Fitting draft places.row line
unfolding IsRowLine
fits_row draft kept line = elim (row_line_choice draft.prime draft.dimension kept.prime (codes "row") line) [
  | inl h ↦ inl (record draft { matrices = places.with_row h.0 draft.matrices }, subst (λ l. Fills draft places.row l (record draft { matrices = places.with_row h.0 draft.matrices })) (sym h.1.1) (a_row h.0 h.1.0))
  | inr none ↦ inr (λ next f. let a = row_filled f in none a.0 (a.1, a.2))
]

-- ---- any line

pub fits : (draft : Draft) → IsKept draft → (place : Place) (line : List ℕ) → Fitting draft place line
fits draft kept places.version line = fits_version draft line
fits draft kept places.prime line = fits_prime draft line
fits draft kept places.names line = fits_names draft line
fits draft kept places.generators line = fits_generators draft line
fits draft kept places.closed line = fits_level draft line
fits draft kept places.dimension line = fits_dimension draft line
fits draft kept places.word line = fits_word draft kept line
fits draft kept places.image line = fits_image draft kept line
fits draft kept places.letter line = fits_letter draft line
fits draft kept places.row line = fits_row draft kept line
fits draft kept places.end line = fits_end draft line

-- all lines
pub filled_or_not : (lines : List (List ℕ)) (draft : Draft) (left : List Place) → IsOnTheWay draft left → ((last : Draft) × FillAll draft left lines last) ⊎ ((n : ℕ) × FailAt draft left lines n)
filled_or_not [] draft [] way = inl (draft, places.none)
filled_or_not [] draft (place ∷ left) way = inr (1, too_few)
filled_or_not (line ∷ lines) draft [] way = inr (1, too_many)
filled_or_not (line ∷ lines) draft (place ∷ left) way = elim (fits draft way.kept place line) [
  | inr unfit ↦ inr (1, misfit unfit)
  | inl h ↦ elim (filled_or_not lines h.0 (opened place h.0 ++ left) (on_the_way way h.1)) [
    | inl all ↦ inl (all.0, places.one h.1 all.1)
    | inr failed ↦ inr (suc failed.0, later h.1 failed.1)
  ]
]
