-- Basis words, one after another.
use Rattle.std.proofs.Common.{◌≡◌, ℕ, zero, suc, ◌+◌, ◌<◌, ◌≤◌, ◌⊎◌, inl, inr, List, [], ◌∷◌, ◌++◌, length, All, arith, refl, sym, ap, subst, ◌∙◌}
use Rattle.std.specs.Prelude.{Some, replicate, slice_get}
use Rattle.std.proofs.lemmas.List.{length_push}
use Rattle.std.proofs.lemmas.List.Elements.{All-nil, All-push}
use Rattle.ve_theory.specs.Words.{Word}
use Rattle.ve_formats.specs.Pieces.{IsWritten}
use Rattle.ve_formats.specs.AnswerReading as places
use Rattle.ve_formats.specs.AnswerReading.{Place, Fills, a_word, opened}
use Rattle.ve_matrix.specs.Answers.{NameEarlierPlaces}
use Rattle.ve_table.specs.declared.origin.Origin.{Origin}
use Rattle.ve_table.specs.Books.{spelled, words_after, words_of}
use Rattle.ve_table.specs.Numbers.{HasParentBelow}
use Rattle.ve_matrix.proofs.BasisWords.{length-words_after}
use Rattle.ve_answers.specs.declared.head.Head.{Head}
use Rattle.ve_answers.specs.declared.lines.Lines.{Lines}
use Rattle.ve_answers.specs.declared.refusal.AnswerRefusal.{AnswerRefusal}
use Rattle.ve_answers.specs.Basis.{with_words, texts_of, IsBasisLine, IsBasisOrigin}
use Rattle.ve_answers.specs.Heads.{IsHead, draft_of}
use Rattle.ve_answers.specs.Steps.{IsCounted, TakesLine, RefusesNext, Leads, Refuses}
use Rattle.ve_answers.proofs.NextWords.{grown_written}
use Rattle.ve_answers.proofs.Places.{is_word}
use Rattle.ve_answers.proofs.RepeatedPlaces.{LeadsOver, first_line, all_lines, line_more, line_refused}

-- ---- one origin more

words_after-push : (known : List Word) (origins : List Origin) (o : Origin) → words_after known (origins ++ o ∷ []) ≡ words_after known origins ++ spelled (words_after known origins) o ∷ []
unfolding words_after
words_after-push known [] o = refl
words_after-push known (p ∷ origins) o = words_after-push (known ++ spelled known p ∷ []) origins o

push_cases : (origins : List Origin) (o p : Origin) (b : ℕ) → slice_get (origins ++ o ∷ []) b ≡ Some p → (slice_get origins b ≡ Some p) ⊎ ((b ≡ length origins) × (o ≡ p))
push_cases [] o p zero found = let same : o ≡ p = cc in inr (refl, same)
push_cases [] o p (suc b) found = absurd cc
push_cases (q ∷ origins) o p zero found = inl found
push_cases (q ∷ origins) o p (suc b) found = elim (push_cases origins o p b found) [ inl before ↦ inl before | inr last ↦ inr (ap suc last.0, last.1) ]

earlier_push : (origins : List Origin) (o : Origin) → NameEarlierPlaces origins → HasParentBelow (length origins) o → NameEarlierPlaces (origins ++ o ∷ [])
earlier_push origins o before last b p found = elim (push_cases origins o p b found) [
  | inl inside ↦ before b p inside
  | inr here ↦ subst (λ n. HasParentBelow n p) (sym here.0) (subst (HasParentBelow (length origins)) here.1 last)
]

-- ---- what the lines so far have led to

module _ (head : Head) (old : Lines) where
  pub record BasisSoFar (at : ℕ) (origins : List Origin) (texts : List (List ℕ)) (now : Lines) : Type 0 where
    pub leads : (left : List Place) → LeadsOver places.word head.dimension left (draft_of head) old at (with_words head (words_of origins)) now
    pub counted : IsCounted now
    pub earlier : NameEarlierPlaces origins
    pub written : All (IsWritten head.names) (words_of origins)
    pub listed : texts ≡ texts_of head (words_of origins)
    pub size : length origins ≡ at

  pub no_words : (origins : List Origin) (texts : List (List ℕ)) → origins ≡ [] → texts ≡ [] → IsCounted old → BasisSoFar 0 origins texts old
  unfolding words_after
  no_words origins texts none empty counted =
      subst (λ os. BasisSoFar 0 os texts old) (sym none)
      (record {
        leads = λ left. first_line places.word head.dimension left (draft_of head) old;
        counted = counted;
        earlier = λ b o found. absurd cc;
        written = All-nil (IsWritten head.names);
        listed = empty;
        size = refl;
      })

  pub few_texts : (at : ℕ) (origins : List Origin) (texts : List (List ℕ)) (now : Lines) → BasisSoFar at origins texts now → length texts ≡ at
  few_texts at origins texts now before = ap length before.listed ∙ length-map-of (words_of origins) ∙ length-words_after [] origins ∙ omega (arith, before.size)
    where
      length-map-of : (words : List Word) → length (texts_of head words) ≡ length words
      length-map-of [] = refl
      length-map-of (w ∷ words) = ap suc (length-map-of words)

  module _ (at : ℕ) (origins : List Origin) (texts : List (List ℕ)) (mid : Lines) (less : at < head.dimension) (before : BasisSoFar at origins texts mid) where
    fills : (line : List ℕ) (w : Word) → IsBasisLine head (words_of origins) line w → Fills (with_words head (words_of origins)) places.word line (with_words head (words_of origins ++ w ∷ []))
    fills line w is =
        subst (λ l. Fills (with_words head (words_of origins)) places.word l (with_words head (words_of origins ++ w ∷ []))) (sym is.text) (a_word w is.grows is.fresh)

    pub one_word : IsHead head → (line : List ℕ) (o : Origin) (more : List (List ℕ)) (next : Lines) → TakesLine mid line next → IsBasisOrigin head (words_of origins) line more o
        → (pushed : List Origin) → pushed ≡ origins ++ o ∷ [] → BasisSoFar (at + 1) pushed more next
    unfolding opened
    one_word is line o more next takes adds pushed pushed_is =
        let w : Word = spelled (words_of origins) o in
        let words : words_of origins ++ w ∷ [] ≡ words_of (origins ++ o ∷ []) = sym (words_after-push [] origins o) in
        subst (λ os. BasisSoFar (at + 1) os more next) (sym pushed_is)
        (record {
          leads = λ left.
              subst (λ ws. LeadsOver places.word head.dimension left (draft_of head) old (at + 1) (with_words head ws) next) words
              (line_more places.word head.dimension left (draft_of head) old at (with_words head (words_of origins)) mid less (before.leads left)
              (with_words head (words_of origins ++ w ∷ [])) next line refl takes (fills line w adds.word));
          counted = takes.counted;
          earlier = earlier_push origins o before.earlier (subst (λ n. HasParentBelow n o) (length-words_after [] origins ∙ omega arith) adds.parent);
          written = subst (All (IsWritten head.names)) words (All-push (IsWritten head.names) (words_of origins) w before.written (grown_written head is (words_of origins) before.written w adds.word.grows));
          listed = adds.listed ∙ ap (texts_of head) words;
          size = length_push origins o ∙ omega (arith, before.size);
        })

    pub word_refused : (refusal : AnswerRefusal) → RefusesNext mid (λ line. (w : Word) × IsBasisLine head (words_of origins) line w) refusal
        → (left : List Place) → Refuses (draft_of head) (replicate head.dimension places.word ++ left) old refusal
    word_refused refusal refuses left =
        line_refused places.word head.dimension left (draft_of head) old at (with_words head (words_of origins)) mid less (before.leads left) refusal refuses
        (λ next line f. let a = is_word f in (a.0, record { grows = a.1; fresh = a.2; text = a.3 }))

  pub all_words : (at : ℕ) (origins : List Origin) (texts : List (List ℕ)) (new : Lines) → head.dimension ≤ at → BasisSoFar at origins texts new
      → (left : List Place) → Leads (draft_of head) (replicate head.dimension places.word ++ left) old (with_words head (words_of origins)) left new
  all_words at origins texts new over so_far left = all_lines places.word head.dimension left (draft_of head) old at (with_words head (words_of origins)) new over (so_far.leads left)
