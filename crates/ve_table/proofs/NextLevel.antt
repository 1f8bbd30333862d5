-- A table with the births of the next level.
use Rattle.std.proofs.Common.{◌≡◌, ◌≢◌, ℕ, suc, ◌+◌, ◌-◌, ◌<◌, ◌≤◌, ◌⊎◌, inl, inr, Some, None, List, [], ◌∷◌, ◌++◌, length, map, get_or, refl, sym, ap, ap₂, subst, ◌∙◌, arith}
use Rattle.std.specs.Prelude.{Option, All, AllPairs, Contains, IsSome, slice_get, ◌↔◌}
use Rattle.std.proofs.lemmas.Bool.{cases_eq, cases_lt}
use Rattle.std.proofs.lemmas.Option.{slice_get_within, slice_get-get_or, get_or_from_slice_get}
use Rattle.std.proofs.lemmas.List.{length-map, length-append, get_or_append_left, get_or-append_right, get_or_default, get_or-map}
use Rattle.std.proofs.lemmas.List.Elements.{All-append, All-map, All-weaker, All-contains, Contains-append_cases, Contains-append_left}
use Rattle.ve_theory.specs.Combinations.{unit, scaled, extended, difference}
use Rattle.ve_theory.specs.Words.{Word, generator, times, word_weight, Weighted, IsSmaller}
use Rattle.ve_theory.specs.Presentations.{Presentation, reach, step, before, letter_count, IsWord}
use Rattle.ve_theory.specs.Derivations.{DerivedWithin}
use Rattle.ve_theory.specs.Laws.{LevelsGrow, HasBounds}
use Rattle.ve_theory.specs.Answers.{Row, IsNotAfter}
use Rattle.ve_lemmas.proofs.Residues.{prime-large}
use Rattle.ve_lemmas.proofs.Orders.{smaller_irreflexive}
use Rattle.ve_lemmas.proofs.Weights.{reach-times}
use Rattle.ve_lemmas.proofs.Words.{IsWord-times}
use Rattle.ve_lemmas.proofs.Lists.{Contains-map}
use Rattle.ve_table.specs.declared.birth.Birth.{Birth}
use Rattle.ve_table.specs.Tables.{ActionTable, presented, word_at, row_at, element_of, IsLive, IsDue}
use Rattle.ve_table.specs.Sound.{IsSound, IsVectorOf, IsRowOf}
use Rattle.ve_table.specs.Changes.{IsBorn, Grows}
use Rattle.ve_table.proofs.Entries.{same_some}
use Rattle.ve_table.proofs.Units.{unit_vector}
use Rattle.ve_table.proofs.Birthing.{pairs_append, last_letter}
use Rattle.ve_table.proofs.Growing.{rows_with, HasWideRows, all_wide, row_stays, row_is_born, length_rows}

abbrev pub born_word : ActionTable → Birth → Word
born_word T b = times (word_at T b.parent) b.letter

-- a product that reaches the next level
pub record IsNext (T : ActionTable) (b : Birth) : Type 0 where
  pub parent : b.parent < length T.words
  pub letter : b.letter < letter_count (presented T)
  pub reaches : reach (presented T) (born_word T b) ≡ T.level + 1

-- all of them, in the order of words
pub record AreNext (T : ActionTable) (bs : List Birth) : Type 0 where
  pub rising : AllPairs (λ a b. IsSmaller (born_word T a) (born_word T b)) bs
  pub only : All (IsNext T) bs
  pub every : (b : Birth) → IsNext T b → Contains bs b

abbrev pub with_births : ActionTable → List Birth → ActionTable
with_births T bs = record T {
  level = T.level + 1;
  words = T.words ++ map (born_word T) bs;
  forwards = T.forwards ++ map (λ _. None) bs;
  rows = rows_with T.draft.presentation.names (length T.words) T.rows bs;
}

pub births_differ : (T : ActionTable) (bs : List Birth) → AreNext T bs → AllPairs ◌≢◌ bs
births_differ T bs are i j d lt within same = smaller_irreflexive (born_word T (get_or bs j d)) (subst (λ (a : Birth). IsSmaller (born_word T a) (born_word T (get_or bs j d))) same (are.rising i j d lt within))

word_old : (T : ActionTable) (bs : List Birth) (b : ℕ) (d : Word) → b < length T.words → get_or (T.words ++ map (born_word T) bs) b d ≡ get_or T.words b d
word_old T bs b d lt = get_or_append_left T.words (map (born_word T) bs) d b lt

pub word_new : (T : ActionTable) (bs : List Birth) (k : ℕ) (d : Word) (c : Birth) → k < length bs → get_or (T.words ++ map (born_word T) bs) (length T.words + k) d ≡ born_word T (get_or bs k c)
word_new T bs k d c lt =
    get_or-append_right T.words (map (born_word T) bs) (length T.words) (length T.words + k) d refl (omega arith)
    ∙ ap (λ n. get_or (map (born_word T) bs) n d) (let e : length T.words + k - length T.words ≡ k = omega arith in e)
    ∙ get_or-map (born_word T) bs k c d lt

pub count_new : (T : ActionTable) (bs : List Birth) → length (T.words ++ map (born_word T) bs) ≡ length T.words + length bs
count_new T bs = length-append T.words (map (born_word T) bs) ∙ ap (λ n. length T.words + n) (length-map bs (born_word T))

-- an id of the new table is an old one, or a birth's
id_cases : (T : ActionTable) (bs : List Birth) (b : ℕ) → b < length (T.words ++ map (born_word T) bs) → (b < length T.words) ⊎ ((k : ℕ) × (k < length bs) × (b ≡ length T.words + k))
id_cases T bs b lt =
    elim (cases_lt b (length T.words)) [
      | inl less ↦ inl less
      | inr le ↦ inr (b - length T.words, omega (arith, lt, le, count_new T bs), omega (arith, le))
    ]

pub element : (bs : List Birth) (k : ℕ) → k < length bs → Birth
element [] k lt = absurd (omega (arith, lt))
element (b ∷ bs) k lt = b

-- rows

pub row_kept : (T : ActionTable) (bs : List Birth) (b x : ℕ) → (Contains bs (record { parent = b; letter = x }) → ⊥) → row_at (with_births T bs) b x ≡ row_at T b x
row_kept T bs b x not_born = row_stays T.draft.presentation.names (length T.words) T.rows bs b x not_born

pub row_born : (T : ActionTable) (bs : List Birth) (b x : ℕ) → HasWideRows T.draft.presentation.names (length T.words) T.rows bs → AreNext T bs → (found : Contains bs (record { parent = b; letter = x }))
    → row_at (with_births T bs) b x ≡ Some (unit (length T.words + found.0))
row_born T bs b x wide are found =
    ap₂ (λ p y. row_at (with_births T bs) p y) (sym (ap (λ (c : Birth). c.parent) found.2)) (sym (ap (λ (c : Birth). c.letter) found.2))
    ∙ row_is_born T.draft.presentation.names (length T.words) T.rows bs found.0 (record { parent = b; letter = x }) wide (births_differ T bs are) found.1

-- what is due at the old level was no birth
not_next : (T : ActionTable) (bs : List Birth) (b x : ℕ) → AreNext T bs → IsDue T b x → Contains bs (record { parent = b; letter = x }) → ⊥
not_next T bs b x are due found =
    let next = All-contains (IsNext T) bs (record { parent = b; letter = x }) are.only found in
    omega (arith, next.reaches, reach-times (presented T) (word_at T b) x, due.2)

born_cases : (T : ActionTable) (bs : List Birth) (b x : ℕ) → AreNext T bs → (Contains bs (record { parent = b; letter = x })) ⊎ (Contains bs (record { parent = b; letter = x }) → ⊥)
born_cases T bs b x are = by (cases_lt b (length T.words)) (cases_lt x (letter_count (presented T))) (cases_eq (reach (presented T) (times (word_at T b) x)) (T.level + 1))
  where
    by : (b < length T.words) ⊎ (length T.words ≤ b) → (x < letter_count (presented T)) ⊎ (letter_count (presented T) ≤ x)
        → (reach (presented T) (times (word_at T b) x) ≡ T.level + 1) ⊎ (reach (presented T) (times (word_at T b) x) ≡ T.level + 1 → ⊥)
        → (Contains bs (record { parent = b; letter = x })) ⊎ (Contains bs (record { parent = b; letter = x }) → ⊥)
    by (inl parent) (inl letter) (inl reaches) = inl (are.every (record { parent = b; letter = x }) (record { parent = parent; letter = letter; reaches = reaches }))
    by (inl parent) (inl letter) (inr other) = inr (λ found. other (All-contains (IsNext T) bs (record { parent = b; letter = x }) are.only found).reaches)
    by (inl parent) (inr past) reaches = inr (λ found. omega (arith, past, (All-contains (IsNext T) bs (record { parent = b; letter = x }) are.only found).letter))
    by (inr past) letter reaches = inr (λ found. omega (arith, past, (All-contains (IsNext T) bs (record { parent = b; letter = x }) are.only found).parent))

-- vectors

element_same : (T : ActionTable) (bs : List Birth) (v : Row) → All (λ t. t.0 < length T.words) v → element_of (with_births T bs) v ≡ element_of T v
unfolding extended
element_same T bs [] within = refl
element_same T bs (t ∷ v) within =
    ap₂ (λ w l. scaled t.1 (unit w) ++ l) (word_old T bs t.0 (generator 0) (within 0 t (omega arith))) (element_same T bs v (λ k d lt. within (suc k) d (omega (arith, lt))))

vector_stays : (T : ActionTable) (bs : List Birth) (w : Word) (v : Row) → LevelsGrow → IsVectorOf T w v → IsVectorOf (with_births T bs) w v
vector_stays T bs w v grow is = record {
  stands = record {
    row = (is.stands.row.0, λ k d lt. omega (arith, is.stands.row.1 k d lt, count_new T bs));
    derived = subst (λ e. DerivedWithin (presented T) (T.level + 1) (difference (presented T).prime (unit w) e)) (sym (element_same T bs v is.stands.row.1))
        (grow.higher (presented T) T.level (T.level + 1) (difference (presented T).prime (unit w) (element_of T v)) (omega arith) is.stands.derived);
  };
  not_after = λ k d lt. (
    omega (arith, is.stands.row.1 k d lt, count_new T bs),
    subst (λ u. IsNotAfter (presented T) u w) (sym (word_old T bs (get_or v k d).0 (generator 0) (is.stands.row.1 k d lt))) (is.not_after k d lt).1,
  );
}

weighted_from_reach : (weights : List ℕ) (v w : Word) → word_weight weights v < word_weight weights w → Weighted weights v w
unfolding Weighted
weighted_from_reach weights v w less = inl less

weighted_from_order : (weights : List ℕ) (v w : Word) → word_weight weights v ≡ word_weight weights w → IsSmaller v w → Weighted weights v w
unfolding Weighted
weighted_from_order weights v w same smaller = inr (same, smaller)

pub born_rises : (T : ActionTable) (bs : List Birth) → AreNext T bs → AllPairs (before (presented T)) (map (born_word T) bs)
born_rises T bs are i j d lt within =
    let within' : j < length bs = omega (arith, within, length-map bs (born_word T)) in
    let before' : i < length bs = omega (arith, within', lt) in
    let c : Birth = element bs j within' in
    subst (λ w. before (presented T) w (get_or (map (born_word T) bs) j d)) (sym (get_or-map (born_word T) bs i c d before'))
    (subst (λ w. before (presented T) (born_word T (get_or bs i c)) w) (sym (get_or-map (born_word T) bs j c d within'))
    (weighted_from_order (presented T).weights (born_word T (get_or bs i c)) (born_word T (get_or bs j c)) ((are.only i c before').reaches ∙ sym (are.only j c within').reaches) (are.rising i j c lt within')))

times_parts : (v w : Word) (x y : ℕ) → times v x ≡ times w y → v ≡ w
times_parts v w x y equal = cc

-- words of a sound table are different
words_differ : (T : ActionTable) (a b : ℕ) → IsSound T → a < length T.words → b < length T.words → word_at T a ≡ word_at T b → (before (presented T) (word_at T b) (word_at T b) → ⊥) → a ≡ b
words_differ T a b sound first second equal irreflexive = by (cases_lt a b) (cases_lt b a)
  where
    by : (a < b) ⊎ (b ≤ a) → (b < a) ⊎ (a ≤ b) → a ≡ b
    by (inl less) other = absurd (irreflexive (subst (λ w. before (presented T) w (word_at T b)) equal (sound.rising a b (generator 0) less second)))
    by (inr le) (inl less) = absurd (irreflexive (subst (λ w. before (presented T) (word_at T b) w) equal (sound.rising b a (generator 0) less first)))
    by (inr le) (inr other) = omega (arith, le, other)

pub not_before_itself : (weights : List ℕ) (w : Word) → Weighted weights w w → ⊥
unfolding Weighted
not_before_itself weights w (inl less) = omega (arith, less)
not_before_itself weights w (inr rest) = smaller_irreflexive w rest.1

-- soundness

pub sound_grown : (T : ActionTable) (bs : List Birth) → IsSound T → LevelsGrow → HasBounds (presented T) → HasWideRows T.draft.presentation.names (length T.words) T.rows bs → All (λ f. f ≡ None) T.forwards → AreNext T bs → IsSound (with_births T bs)
sound_grown T bs sound grow bounds wide live are = record {
  valid = sound.valid;
  words = All-append (λ w. IsWord P w × (reach P w ≤ T.level + 1)) T.words (map (born_word T) bs)
      (All-weaker (λ w. IsWord P w × (reach P w ≤ T.level)) (λ w. IsWord P w × (reach P w ≤ T.level + 1)) (λ w is. (is.0, omega (arith, is.1))) T.words sound.words)
      (All-map (λ w. IsWord P w × (reach P w ≤ T.level + 1)) (born_word T) bs
      (λ k d lt. let next = are.only k d lt in
      (IsWord-times P (word_at T (get_or bs k d).parent) (get_or bs k d).letter (sound.words (get_or bs k d).parent (generator 0) next.parent).0 next.letter, omega (arith, next.reaches))));
  rising = pairs_append (before P) T.words (map (born_word T) bs) sound.rising (born_rises T bs are)
      (λ i d lt. All-map (before P (get_or T.words i d)) (born_word T) bs
      (λ k c inside. weighted_from_reach P.weights (get_or T.words i d) (born_word T (get_or bs k c)) (omega (arith, (sound.words i d lt).1, (are.only k c inside).reaches))));
  prefixes = λ w x found.
      elim (Contains-append_cases T.words (map (born_word T) bs) (times w x) found) [
        | inl there ↦ Contains-append_left T.words (map (born_word T) bs) w (sound.prefixes w x there)
        | inr born ↦
            let lt : born.0 < length bs = omega (arith, born.1, length-map bs (born_word T)) in
            let c : Birth = element bs born.0 lt in
            let b : Birth = get_or bs born.0 c in
            let equal : word_at T b.parent ≡ w = times_parts (word_at T b.parent) w b.letter x (sym (get_or-map (born_word T) bs born.0 c (times w x) lt) ∙ born.2) in
            Contains-append_left T.words (map (born_word T) bs) w
            (b.parent, (are.only born.0 c lt).parent, get_or_default T.words b.parent w (generator 0) (are.only born.0 c lt).parent ∙ equal)
      ];
  one_forward_each = length-append T.forwards (map none bs) ∙ ap₂ (λ m n. m + n) sound.one_forward_each (length-map bs none) ∙ sym (count_new T bs);
  one_row_list_each = length_rows names (length T.words) T.rows bs ∙ ap (λ n. n + length bs) sound.one_row_list_each ∙ sym (count_new T bs);
  one_place_each = all_wide names (length T.words) T.rows bs wide;
  one_image_each = sound.one_image_each;
  forwards = λ b v found. absurd (not_dead b v found);
  due = λ b x. due b x (born_cases T bs b x are);
  rows = λ b x v found. row b x v found (born_cases T bs b x are);
  images = λ i v found. vector_stays T bs (generator i) v grow (sound.images i v found);
}
  where
    P : Presentation
    P = presented T

    names : List (List ℕ)
    names = T.draft.presentation.names

    none : Birth → Option Row
    none b = None

    not_dead : (b : ℕ) (v : Row) → slice_get (T.forwards ++ map (λ _. None) bs) b ≡ Some (Some v) → ⊥
    not_dead b v found =
        let all : All (λ f. f ≡ None) (T.forwards ++ map (λ _. None) bs) = All-append (λ f. f ≡ None) T.forwards (map none bs) live (All-map (λ f. f ≡ None) none bs (λ k d lt. refl)) in
        no_some v (sym (all b None (slice_get_within (T.forwards ++ map none bs) b (Some v) found)) ∙ get_or_from_slice_get (T.forwards ++ map none bs) b (Some v) None found)
      where
        no_some : (v : Row) → None ≡ Some v → ⊥
        no_some v bad = cc

    word_here : (b : ℕ) → b < length T.words → word_at (with_births T bs) b ≡ word_at T b
    word_here b lt = word_old T bs b (generator 0) lt

    due : (b x : ℕ) → (Contains bs (record { parent = b; letter = x })) ⊎ (Contains bs (record { parent = b; letter = x }) → ⊥) → IsSome (row_at (with_births T bs) b x) ↔ IsDue (with_births T bs) b x
    due b x (inl born) =
        let next = All-contains (IsNext T) bs (record { parent = b; letter = x }) are.only born in (
          λ _. (
            omega (arith, next.parent, count_new T bs),
            next.letter,
            subst (λ w. reach P w + step P x ≤ T.level + 1) (sym (word_here b next.parent)) (omega (arith, next.reaches, reach-times P (word_at T b) x)),
          ),
          λ _. subst IsSome (sym (row_born T bs b x wide are born)) refl,
        )
    due b x (inr not_born) = (
      λ some. let old = (sound.due b x).0 (subst IsSome (row_kept T bs b x not_born) some) in
          (omega (arith, old.0, count_new T bs), old.1, subst (λ w. reach P w + step P x ≤ T.level + 1) (sym (word_here b old.0)) (omega (arith, old.2))),
      λ due. subst IsSome (sym (row_kept T bs b x not_born)) ((sound.due b x).1 (old_due due (id_cases T bs b due.0))),
    )
      where
        old_due : IsDue (with_births T bs) b x → (b < length T.words) ⊎ ((k : ℕ) × (k < length bs) × (b ≡ length T.words + k)) → IsDue T b x
        old_due due (inl lt) =
            let le : reach P (word_at T b) + step P x ≤ T.level + 1 = subst (λ w. reach P w + step P x ≤ T.level + 1) (word_here b lt) due.2 in
            (lt, due.1, not_reaching (cases_eq (reach P (times (word_at T b) x)) (T.level + 1)) le)
          where
            not_reaching : (reach P (times (word_at T b) x) ≡ T.level + 1) ⊎ (reach P (times (word_at T b) x) ≡ T.level + 1 → ⊥) → reach P (word_at T b) + step P x ≤ T.level + 1 → reach P (word_at T b) + step P x ≤ T.level
            not_reaching (inl reaches) le = absurd (not_born (are.every (record { parent = b; letter = x }) (record { parent = lt; letter = due.1; reaches = reaches })))
            not_reaching (inr other) le = let differ : reach P (word_at T b) + step P x ≢ T.level + 1 = λ same. other (reach-times P (word_at T b) x ∙ same) in omega (arith, le, differ)
        old_due due (inr new) =
            let c : Birth = element bs new.0 new.1 in
            let word : word_at (with_births T bs) b ≡ born_word T (get_or bs new.0 c) = ap (λ n. word_at (with_births T bs) n) new.2 ∙ word_new T bs new.0 (generator 0) c new.1 in
            let reach_is : reach P (word_at (with_births T bs) b) ≡ T.level + 1 = ap (reach P) word ∙ (are.only new.0 c new.1).reaches in
            absurd (omega (arith, due.2, reach_is, bounds.positive x))

    row : (b x : ℕ) (v : Row) → row_at (with_births T bs) b x ≡ Some v → (Contains bs (record { parent = b; letter = x })) ⊎ (Contains bs (record { parent = b; letter = x }) → ⊥) → IsRowOf (with_births T bs) b x v
    row b x v found (inl born) =
        let next = All-contains (IsNext T) bs (record { parent = b; letter = x }) are.only born in
        let v_is : unit (length T.words + born.0) ≡ v = let e : Some (unit (length T.words + born.0)) ≡ Some v = sym (row_born T bs b x wide are born) ∙ found in same_some (unit (length T.words + born.0)) v e in
        let word : word_at (with_births T bs) (length T.words + born.0) ≡ times (word_at (with_births T bs) b) x =
        word_new T bs born.0 (generator 0) (record { parent = b; letter = x }) born.1 ∙ ap (born_word T) born.2 ∙ ap (λ w. times w x) (sym (word_here b next.parent)) in
        subst (λ u. IsRowOf (with_births T bs) b x u) v_is
        (unit_vector (with_births T bs) (length T.words + born.0) (times (word_at (with_births T bs) b) x) (prime-large P.prime sound.valid.presentation.field) (omega (arith, born.1, count_new T bs)) word)
    row b x v found (inr not_born) =
        let old : row_at T b x ≡ Some v = sym (row_kept T bs b x not_born) ∙ found in
        let lt : b < length T.words = ((sound.due b x).0 (subst IsSome (sym old) refl)).0 in
        subst (λ w. IsVectorOf (with_births T bs) (times w x) v) (sym (word_here b lt)) (vector_stays T bs (times (word_at T b) x) v grow (sound.rows b x v old))

-- the step as contracts say it

pub grows : (T : ActionTable) (bs : List Birth) → IsSound T → HasWideRows T.draft.presentation.names (length T.words) T.rows bs → All (λ f. f ≡ None) T.forwards → AreNext T bs → Grows T (with_births T bs)
grows T bs sound wide live are = record {
  born = map (born_word T) bs;
  are_born = record {
    rising = born_rises T bs are;
    only = All-map (IsBorn T) (born_word T) bs (λ k d lt. let next = are.only k d lt in record { parent = (get_or bs k d).parent; letter = (get_or bs k d).letter; live = live_at (get_or bs k d).parent next.parent; is_letter = next.letter; product = refl; next = next.reaches });
    every = λ w is.
        let b : Birth = record { parent = is.parent; letter = is.letter } in
        let lt : is.parent < length T.words = omega (arith, sound.one_forward_each, slice_get_within T.forwards is.parent None is.live) in
        subst (Contains (map (born_word T) bs)) (sym is.product) (Contains-map (born_word T) bs b (are.every b (record { parent = lt; letter = is.is_letter; reaches = ap (reach (presented T)) (sym is.product) ∙ is.next })));
  };
  draft = refl;
  level = refl;
  words = refl;
  forwards = ap (λ l. T.forwards ++ l) (none_each bs);
  images = refl;
  kept = λ b x v found. row_kept T bs b x (not_next T bs b x are ((sound.due b x).0 (subst IsSome (sym found) refl))) ∙ found;
  rows = λ b x c lt le found. new_row b x c lt le found;
}
  where
    live_at : (b : ℕ) → b < length T.words → IsLive T b
    live_at b lt = let in' : b < length T.forwards = omega (arith, lt, sound.one_forward_each) in slice_get-get_or T.forwards b None in' ∙ ap Some (live b None in')

    absent : {X : Type 0} → X → Option Row
    absent x = None

    none_each : (bs : List Birth) → map absent bs ≡ map absent (map (born_word T) bs)
    none_each [] = refl
    none_each (b ∷ bs) = ap (λ l. None ∷ l) (none_each bs)

    new_row : (b x c : ℕ) → b < length T.words → length T.words ≤ c → slice_get (T.words ++ map (born_word T) bs) c ≡ Some (times (word_at T b) x) → row_at (with_births T bs) b x ≡ Some (unit c)
    new_row b x c lt le found =
        let k : ℕ = c - length T.words in
        let inside : k < length bs = omega (arith, slice_get_within (T.words ++ map (born_word T) bs) c (times (word_at T b) x) found, count_new T bs, le) in
        let d : Birth = element bs k inside in
        let a : Birth = get_or bs k d in
        let c_is : length T.words + k ≡ c = omega (arith, le) in
        let equal : born_word T a ≡ times (word_at T b) x =
        sym (word_new T bs k (generator 0) d inside) ∙ ap (λ n. get_or (T.words ++ map (born_word T) bs) n (generator 0)) c_is ∙ get_or_from_slice_get (T.words ++ map (born_word T) bs) c (times (word_at T b) x) (generator 0) found in
        let parent : a.parent ≡ b = words_differ T a.parent b sound (are.only k d inside).parent lt (times_parts (word_at T a.parent) (word_at T b) a.letter x equal) (not_before_itself (presented T).weights (word_at T b)) in
        let letter : a.letter ≡ x = last_letter (word_at T a.parent) (word_at T b) a.letter x equal in
        ap₂ (λ p y. row_at (with_births T bs) p y) (sym parent) (sym letter)
        ∙ row_is_born T.draft.presentation.names (length T.words) T.rows bs k d wide (births_differ T bs are) inside ∙ ap (λ n. Some (unit n)) c_is
