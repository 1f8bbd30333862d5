-- Halves of relations.
use Rattle.std.proofs.Common.{◌≡◌, ◌≢◌, ℕ, zero, suc, ◌+◌, ◌-◌, ◌/◌, ◌<◌, ◌≤◌, ◌⊎◌, inl, inr, List, [], ◌∷◌, ◌++◌, length, get_or, take, drop, All, Some, None, Option, slice_get, IfSome, refl, sym, subst, ap, ap₂, ◌∙◌, length-append, add-one, arith}
use Rattle.std.proofs.Math.Seq.{drop-cons}
use Rattle.std.proofs.lemmas.List.{length-take, length-drop}
use Rattle.std.proofs.lemmas.Option.{slice_get_within}
use Rattle.std.proofs.lemmas.List.Elements.{All-nil, All-append, All-weaker, All-push, All-take}
use Rattle.ve_theory.specs.Combinations.{IsReduced, AllBefore}
use Rattle.ve_theory.specs.Words.{Word, generator, times, times_all, letters, start, word_length, ShortlexLetters}
use Rattle.ve_theory.specs.Elements.{AlgebraElement, IsAlgebraElementOf, halved, inverse_of_letters}
use Rattle.ve_theory.specs.Presentations.{Presentation, IsPresentation, HasLetters, letter_count}
use Rattle.ve_theory.specs.Validity.{most_length}
use Rattle.ve_lemmas.proofs.Words.{start-times_all, letters-times_all, times_all-empty, times_all-push}
use Rattle.ve_lemmas.proofs.Halves.{own_half}
use Rattle.ve_pres.specs.Terms.{IsSummand}
use Rattle.ve_pres.specs.Halves.{AreHalfWords, IsHalf, IsInverseProduct, kept_of}

-- inverses of letters, one after another

inverse_cons_some :
    (inverses : List (Option ℕ)) (x y : ℕ) (u v : List ℕ) → slice_get inverses x ≡ Some (Some y) → inverse_of_letters inverses u ≡ Some v
    → inverse_of_letters inverses (x ∷ u) ≡ Some (v ++ y ∷ [])
unfolding inverse_of_letters
inverse_cons_some inverses x y u v here rest = rw (here, rest) refl

inverse_cons_none : (inverses : List (Option ℕ)) (x : ℕ) (u : List ℕ) → slice_get inverses x ≡ Some None → inverse_of_letters inverses (x ∷ u) ≡ None
unfolding inverse_of_letters
inverse_cons_none inverses x u here = rw here refl

inverse_cons_stays : (inverses : List (Option ℕ)) (x : ℕ) (u : List ℕ) → inverse_of_letters inverses u ≡ None → inverse_of_letters inverses (x ∷ u) ≡ None
unfolding inverse_of_letters
inverse_cons_stays inverses x u rest = cases (slice_get inverses x) refl
  where
    cases : (o : Option (Option ℕ)) → slice_get inverses x ≡ o → inverse_of_letters inverses (x ∷ u) ≡ None
    cases None e = rw e refl
    cases (Some None) e = rw e refl
    cases (Some (Some y)) e = rw (e, rest) refl

-- the letters from a place on have no inverse, so the whole has none
none_from_rest : (inverses : List (Option ℕ)) (i : ℕ) (u : List ℕ) → inverse_of_letters inverses (drop i u) ≡ None → inverse_of_letters inverses u ≡ None
none_from_rest inverses zero u e = e
none_from_rest inverses (suc i) [] e = e
none_from_rest inverses (suc i) (x ∷ u) e = inverse_cons_stays inverses x u (none_from_rest inverses i u e)

-- what holds while inverses are pushed, from the last letter on
pub record IsPartOfInverse (P : Presentation) (word : Word) (u : List ℕ) (left : ℕ) (product : Word) : Type 0 where
  pub done : IsInverseProduct P word (drop left u) product
  pub within : left ≤ length u

pub inverse_begins : (P : Presentation) (word : Word) (u : List ℕ) → IsPartOfInverse P word u (length u) word
unfolding inverse_of_letters
inverse_begins P w u = record {
  done = record {
    inverse = [];
    is_inverse = ap (inverse_of_letters P.inverses) (drop_all u);
    exist = All-nil (λ (x : ℕ). x < length P.names);
    count = ap length (sym (drop_all u));
    is_product = sym (times_all-empty w);
  };
  within = omega arith;
}
  where
    drop_all : (v : List ℕ) → drop (length v) v ≡ []
    drop_all [] = refl
    drop_all (x ∷ v) = drop_all v

pub inverse_goes_on :
    (P : Presentation) (word : Word) (u : List ℕ) (left y : ℕ) (product next : Word) → left < length u → IsPartOfInverse P word u (left + 1) product
    → slice_get P.inverses (get_or u left 0) ≡ Some (Some y) → y < length P.names → next ≡ times product y → IsPartOfInverse P word u left next
inverse_goes_on P w u left y product next below part here exists is = record {
  done =
      let rest : drop left u ≡ get_or u left 0 ∷ drop (left + 1) u = drop-cons u left 0 below ∙ ap (λ n. get_or u left 0 ∷ drop n u) (sym (add-one left)) in
      record {
        inverse = part.done.inverse ++ y ∷ [];
        is_inverse = ap (inverse_of_letters P.inverses) rest ∙ inverse_cons_some P.inverses (get_or u left 0) y (drop (left + 1) u) part.done.inverse here part.done.is_inverse;
        exist = All-push (λ (x : ℕ). x < length P.names) part.done.inverse y part.done.exist exists;
        count = omega (arith, length-append part.done.inverse (y ∷ []), part.done.count, ap length rest);
        is_product = is ∙ (ap (λ v. times v y) part.done.is_product ∙ sym (times_all-push w part.done.inverse y));
      };
  within = omega arith;
}

pub inverse_is_missing : (P : Presentation) (u : List ℕ) (left : ℕ) → left < length u → slice_get P.inverses (get_or u left 0) ≡ Some None → inverse_of_letters P.inverses u ≡ None
inverse_is_missing P u left below here =
    let rest : drop left u ≡ get_or u left 0 ∷ drop (left + 1) u = drop-cons u left 0 below ∙ ap (λ n. get_or u left 0 ∷ drop n u) (sym (add-one left)) in
    none_from_rest P.inverses left u (ap (inverse_of_letters P.inverses) rest ∙ inverse_cons_none P.inverses (get_or u left 0) (drop (left + 1) u) here)

-- the half of an element

pub half_of_other : (inverses : List (Option ℕ)) (r : AlgebraElement) → length r ≢ 2 → halved inverses r ≡ r
unfolding halved
half_of_other inverses [] other = refl
half_of_other inverses (s ∷ []) other = refl
half_of_other inverses (s ∷ t ∷ []) other = absurd (other refl)
half_of_other inverses (s ∷ t ∷ r ∷ v) other = refl

half_without_inverse :
    (inverses : List (Option ℕ)) (s t : List ℕ × ℕ) → inverse_of_letters inverses (drop (length s.0 - (length s.0 - length t.0) / 2) s.0) ≡ None → halved inverses (s ∷ t ∷ []) ≡ s ∷ t ∷ []
unfolding halved
half_without_inverse inverses s t none = rw none refl

half_with_inverse :
    (inverses : List (Option ℕ)) (s t : List ℕ × ℕ) (v : List ℕ) → inverse_of_letters inverses (drop (length s.0 - (length s.0 - length t.0) / 2) s.0) ≡ Some v
    → halved inverses (s ∷ t ∷ []) ≡ (take (length s.0 - (length s.0 - length t.0) / 2) s.0, s.1) ∷ (t.0 ++ v, t.1) ∷ []
unfolding halved
half_with_inverse inverses s t v some = rw some refl

-- an element of two terms

two_terms : (r : AlgebraElement) → length r ≡ 2 → r ≡ get_or r 0 ([], 0) ∷ get_or r 1 ([], 0) ∷ []
two_terms [] two = absurd cc
two_terms (s ∷ []) two = absurd (omega arith)
two_terms (s ∷ t ∷ []) two = refl
two_terms (s ∷ t ∷ u ∷ r) two = absurd (omega arith)

-- its first word is the longer one
pub first_longer : (p : ℕ) (r : AlgebraElement) → length r ≡ 2 → IsReduced ShortlexLetters p r → length (get_or r 1 ([], 0)).0 ≤ length (get_or r 0 ([], 0)).0
unfolding IsReduced AllBefore ShortlexLetters
first_longer p [] two reduced = absurd cc
first_longer p (s ∷ []) two reduced = absurd (omega arith)
first_longer p (s ∷ t ∷ []) two reduced = elim reduced.2.0 [ inl h ↦ omega arith | inr h ↦ omega (arith, h.0) ]
first_longer p (s ∷ t ∷ u ∷ r) two reduced = absurd (omega arith)

pub without_half :
    (inverses : List (Option ℕ)) (r : AlgebraElement) (u v : List ℕ) → length r ≡ 2 → u ≡ (get_or r 0 ([], 0)).0 → v ≡ (get_or r 1 ([], 0)).0
    → inverse_of_letters inverses (drop (kept_of u v) u) ≡ None → halved inverses r ≡ r
without_half inverses r u v two u_is v_is none =
    let whole : r ≡ get_or r 0 ([], 0) ∷ get_or r 1 ([], 0) ∷ [] = two_terms r two in
    let here : inverse_of_letters inverses (drop (kept_of (get_or r 0 ([], 0)).0 (get_or r 1 ([], 0)).0) (get_or r 0 ([], 0)).0) ≡ None =
    ap₂ (λ x y. inverse_of_letters inverses (drop (kept_of x y) x)) (sym u_is) (sym v_is) ∙ none in
    ap (halved inverses) whole ∙ (half_without_inverse inverses (get_or r 0 ([], 0)) (get_or r 1 ([], 0)) here ∙ sym whole)

-- the words that are made

pub half_words :
    (P : Presentation) (u v front back : List ℕ) (root mid left right : Word) → root ≡ generator 0 → mid ≡ times_all root v → front ≡ take (kept_of u v) u → back ≡ drop (kept_of u v) u
    → left ≡ times_all root front → IsInverseProduct P mid back right → AreHalfWords P u v left right
unfolding letters start
half_words P u v front back root mid left right root_is mid_is front_is back_is left_is right_is =
    let none : letters root ≡ [] = ap letters root_is in
    record {
      inverse = right_is.inverse;
      is_inverse = ap (inverse_of_letters P.inverses) (sym back_is) ∙ right_is.is_inverse;
      exist = right_is.exist;
      count = right_is.count ∙ ap length back_is;
      left_letters = ap letters left_is ∙ (letters-times_all root front ∙ ap₂ (λ x y. x ++ y) none front_is);
      right_letters =
          ap letters right_is.is_product
          ∙ (letters-times_all mid right_is.inverse ∙ ap (λ x. x ++ right_is.inverse) (ap letters mid_is ∙ (letters-times_all root v ∙ ap (λ x. x ++ v) none)));
      left_start = ap start left_is ∙ (start-times_all root front ∙ ap start root_is);
      right_start = ap start right_is.is_product ∙ (start-times_all mid right_is.inverse ∙ (ap start mid_is ∙ (start-times_all root v ∙ ap start root_is)));
    }

module _ (P : Presentation) (u v : List ℕ) (left right : Word) (words : AreHalfWords P u v left right) where
  pub left_length : word_length left ≡ kept_of u v
  left_length = omega (arith, ap length words.left_letters, length-take (kept_of u v) u)

  pub right_length : word_length right ≡ length v + (length u - kept_of u v)
  right_length = omega (arith, ap length words.right_letters, length-append v words.inverse, words.count, length-drop (kept_of u v) u)

  pub left_summand : (p coef : ℕ) → coef < p → length u ≤ most_length → IsSummand p (record { word = left; coef = coef })
  left_summand p coef residue short = record { first = words.left_start; residue = residue; short = omega (arith, left_length) }

  pub right_summand : (p coef : ℕ) → coef < p → length v ≤ length u → length u ≤ most_length → IsSummand p (record { word = right; coef = coef })
  right_summand p coef residue shorter short = record { first = words.right_start; residue = residue; short = omega (arith, right_length) }

  near : (w : List ℕ) → length v ≤ length u → (w ≡ letters left) ⊎ (w ≡ letters right) → (word_length right ≤ length w) × (length w ≤ word_length right + 1)
  near w shorter (inl e) = let n : length w ≡ word_length left = ap length e in (omega (arith, left_length, right_length), omega (arith, left_length, right_length))
  near w shorter (inr e) = let n : length w ≡ word_length right = ap length e in (omega arith, omega arith)

  exist_in : (w : List ℕ) → HasLetters P u → HasLetters P v → (w ≡ letters left) ⊎ (w ≡ letters right) → HasLetters P w
  exist_in w in_u in_v (inl e) = let Q : List ℕ → Type 0 = λ x. HasLetters P x in subst Q (sym (e ∙ words.left_letters)) (All-take (λ (x : ℕ). x < length P.names) (kept_of u v) u in_u)
  exist_in w in_u in_v (inr e) = let Q : List ℕ → Type 0 = λ x. HasLetters P x in
      subst Q (sym (e ∙ words.right_letters)) (All-append (λ (x : ℕ). x < length P.names) v words.inverse in_v words.exist)

  pub is_half :
      (r h : AlgebraElement) (a b : ℕ) → length r ≡ 2 → u ≡ (get_or r 0 ([], 0)).0 → v ≡ (get_or r 1 ([], 0)).0 → a ≡ (get_or r 0 ([], 0)).1 → b ≡ (get_or r 1 ([], 0)).1
      → length v ≤ length u → All (λ t. HasLetters P t.0) r
      → IsAlgebraElementOf P.prime h ((letters left, a) ∷ (letters right, b) ∷ []) → length h ≤ 2 → All (λ t. (t.0 ≡ letters left) ⊎ (t.0 ≡ letters right)) h → IsHalf P r h
  is_half r h a b two u_is v_is a_is b_is shorter exist sum few of_two = record {
    is_half = let Q : AlgebraElement → Type 0 = λ e. IsAlgebraElementOf P.prime h e in subst Q (sym half_is) sum;
    letters = All-weaker (λ (t : List ℕ × ℕ). (t.0 ≡ letters left) ⊎ (t.0 ≡ letters right)) (λ (t : List ℕ × ℕ). HasLetters P t.0) (λ t w. exist_in t.0 in_u in_v w) h of_two;
    own_half =
        let same : halved P.inverses h ≡ h = own_half P.inverses (word_length right) h few
        (All-weaker (λ (t : List ℕ × ℕ). (t.0 ≡ letters left) ⊎ (t.0 ≡ letters right)) (λ (t : List ℕ × ℕ). (word_length right ≤ length t.0) × (length t.0 ≤ word_length right + 1)) (λ t w. near t.0 shorter w) h of_two) in
        let Q : AlgebraElement → Type 0 = λ e. IsAlgebraElementOf P.prime h e in
        subst Q (sym same) (record { reduced = sum.reduced; alike = λ k. refl });
  }
    where
      in_u : HasLetters P u
      in_u = let Q : List ℕ → Type 0 = λ x. HasLetters P x in subst Q (sym u_is) (exist 0 ([], 0) (omega (arith, two)))

      in_v : HasLetters P v
      in_v = let Q : List ℕ → Type 0 = λ x. HasLetters P x in subst Q (sym v_is) (exist 1 ([], 0) (omega (arith, two)))

      half_is : halved P.inverses r ≡ (letters left, a) ∷ (letters right, b) ∷ []
      half_is =
          let whole : r ≡ get_or r 0 ([], 0) ∷ get_or r 1 ([], 0) ∷ [] = two_terms r two in
          let here : inverse_of_letters P.inverses (drop (kept_of (get_or r 0 ([], 0)).0 (get_or r 1 ([], 0)).0) (get_or r 0 ([], 0)).0) ≡ Some words.inverse =
          ap₂ (λ x y. inverse_of_letters P.inverses (drop (kept_of x y) x)) (sym u_is) (sym v_is) ∙ words.is_inverse in
          let front : take (kept_of (get_or r 0 ([], 0)).0 (get_or r 1 ([], 0)).0) (get_or r 0 ([], 0)).0 ≡ letters left =
          ap₂ (λ x y. take (kept_of x y) x) (sym u_is) (sym v_is) ∙ sym words.left_letters in
          let back : (get_or r 1 ([], 0)).0 ++ words.inverse ≡ letters right = ap (λ x. x ++ words.inverse) (sym v_is) ∙ sym words.right_letters in
          ap (halved P.inverses) whole
          ∙ (half_with_inverse P.inverses (get_or r 0 ([], 0)) (get_or r 1 ([], 0)) words.inverse here
          ∙ (ap₂ (λ x y. (x, (get_or r 0 ([], 0)).1) ∷ (y, (get_or r 1 ([], 0)).1) ∷ []) front back
          ∙ ap₂ (λ x y. (letters left, x) ∷ (letters right, y) ∷ []) (sym a_is) (sym b_is)))

pub existing_inverse : (P : Presentation) (x : ℕ) (o : Option ℕ) → IsPresentation P → slice_get P.inverses x ≡ Some o → IfSome o (λ y. y < letter_count P)
existing_inverse P x None valid here = tt
existing_inverse P x (Some y) valid here = let back : slice_get P.inverses y ≡ Some (Some x) = valid.inverses x y here in omega (arith, slice_get_within P.inverses y (Some x) back, valid.one_inverse_each)
