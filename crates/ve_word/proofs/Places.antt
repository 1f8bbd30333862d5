-- Names at their places in a list.
use Rattle.std.proofs.Common.{◌≡◌, ◌≢◌, ◌<◌, ◌↔◌, ℕ, ◌+◌, Bool, true, false, not, ◌||◌, cond, nat_lt, List, [], ◌∷◌, ◌++◌, length, map, get_or, drop, nat_eq, ◌&&◌, slice_get, Option, Some, None, IsNone, AllPairs, Contains, IsTrue, IsFalse, suc, length-append, refl, sym, ◌∙◌, ap, subst, arith}
use Rattle.std.proofs.lemmas.Bool.{false_from_ne_true}
use Rattle.std.proofs.lemmas.List.{length-map, map-append}
use Rattle.std.proofs.lemmas.List.Elements.{All-push, Contains-append_right}
use Rattle.std.proofs.lemmas.List.Quantifiers.{all_pairs_push, position-Some}
use Rattle.std.proofs.lemmas.List.Sums.{position_or_len_is}
use Rattle.std.proofs.lemmas.Option.{slice_get-get_or, slice_get_within, get_or_from_slice_get}
use Rattle.std.proofs.lemmas.Slice.Eq.{bytes_eq-Decides}
use Rattle.std.specs.List.{prefix_len, position, position_or_len, list_all, list_any, AllZip}
use Rattle.std.specs.Str.{bytes_eq}
use Rattle.ve_theory.specs.Validity.{is_digit, is_name, is_rooted, most_letters}
use Rattle.indexmap.specs.IndexSet.{insert_key}
use Rattle.ve_word.specs.NameList.{AreLetterNames}

-- a name in a list of different names is found exactly at its place
position-distinct :
    (names : List (List ℕ)) (name : List ℕ) →
    AllPairs ◌≢◌ names →
    (letter : ℕ) → (position (bytes_eq name) names ≡ Some letter) ↔ (slice_get names letter ≡ Some name)
position-distinct names name distinct letter = (
  λ e.
      let h = position-Some (bytes_eq name) names letter [] e in
      let same : name ≡ get_or names letter [] = (bytes_eq-Decides name (get_or names letter [])).0 h.1 in
      slice_get-get_or names letter [] h.0 ∙ ap (λ (n : List ℕ). Some n) (sym same),
  λ e.
      let within : letter < length names = slice_get_within names letter name e in
      let here : get_or names letter [] ≡ name = get_or_from_slice_get names letter name [] e in
      let first : position_or_len (bytes_eq name) names ≡ letter =
      position_or_len_is
      (bytes_eq name)
      names
      letter
      []
      (omega arith)
      (λ k before.
      false_from_ne_true
      (bytes_eq name (get_or names k []))
      (λ h. distinct k letter [] before within (sym ((bytes_eq-Decides name (get_or names k [])).0 h) ∙ sym here)))
      (λ _. (bytes_eq-Decides name (get_or names letter [])).1 (sym here)) in
      grind arith,
)

module _ {K : Type 0} (f : K → List ℕ) where
  prefix_len-map : (q : List ℕ → Bool) (ks : List K) → prefix_len (λ k. q (f k)) ks ≡ prefix_len q (map f ks)
  prefix_len-map q [] = refl
  prefix_len-map q (k ∷ ks) = ap (λ n. cond (q (f k)) (1 + n) 0) (prefix_len-map q ks)

  position-map : (q : List ℕ → Bool) (ks : List K) → position (λ k. q (f k)) ks ≡ position q (map f ks)
  position-map q ks = rw (prefix_len-map (λ n. not (q n)) ks, length-map ks f)

  -- the same among keys that are seen as names
  pub found-in :
      (ks : List K) (names : List (List ℕ)) (name : List ℕ) (r : Option ℕ) →
      map f ks ≡ names → AllPairs ◌≢◌ (map f ks) → r ≡ position (λ k. bytes_eq name (f k)) ks →
      (letter : ℕ) → (r ≡ Some letter) ↔ (slice_get names letter ≡ Some name)
  found-in ks names name r seen distinct at letter =
      subst
      (λ (o : Option ℕ). (o ≡ Some letter) ↔ (slice_get names letter ≡ Some name))
      (sym (at ∙ position-map (bytes_eq name) ks))
      (subst
      (λ (l : List (List ℕ)). (position (bytes_eq name) (map f ks) ≡ Some letter) ↔ (slice_get l letter ≡ Some name))
      seen
      (position-distinct (map f ks) name distinct letter))

  -- a key that is among the keys has its name among the names
  any-listed : (name : List ℕ) (ks : List K) → list_any (λ k. bytes_eq name (f k)) ks ≡ true → Contains (map f ks) name
  any-listed name [] e = absurd cc
  any-listed name (k ∷ ks) e =
      by
      (bytes_eq name (f k))
      refl
      (λ other. any-listed name ks (sym (ap (λ b. b || list_any (λ k. bytes_eq name (f k)) ks) other) ∙ e))
    where
      by :
          (b : Bool) →
          bytes_eq name (f k) ≡ b →
          (bytes_eq name (f k) ≡ false → Contains (map f ks) name) →
          Contains (f k ∷ map f ks) name
      by true same later = (0, omega arith, sym ((bytes_eq-Decides name (f k)).0 same))
      by false other later = Contains-append_right (f k ∷ []) (map f ks) name (later other)

  pub map-clones : (ks ls : List K) → AllZip (λ k l. f l ≡ f k) ks ls → map f ls ≡ map f ks
  map-clones [] [] h = refl
  map-clones [] (l ∷ ls) h = absurd h
  map-clones (k ∷ ks) [] h = absurd h
  map-clones (k ∷ ks) (l ∷ ls) h =
      let first : f l ≡ f k = h.0 in
      let rest : map f ls ≡ map f ks = map-clones ks ls h.1 in
      cc

pub absent-from_found :
    (names : List (List ℕ)) (name : List ℕ) (r : Option ℕ) →
    ((letter : ℕ) → (r ≡ Some letter) ↔ (slice_get names letter ≡ Some name)) → IsNone r ↔ (¬ Contains names name)
absent-from_found names name None found = (
  λ _ held.
      let at : None ≡ Some held.0 = (found held.0).1 (slice_get-get_or names held.0 name held.1 ∙ ap (λ (n : List ℕ). Some n) held.2) in
      absurd cc,
  λ _. refl,
)
absent-from_found names name (Some letter) found =
    let at : slice_get names letter ≡ Some name = (found letter).0 refl in (
      λ e. absurd cc,
      λ none. absurd (none (letter, slice_get_within names letter name at, get_or_from_slice_get names letter name name at)),
    )

-- a key whose name is new goes last
pub map-insert_key :
    {K : Type 0} (f : K → List ℕ) (ks : List K) (k : K) (names : List (List ℕ)) (name : List ℕ) →
    map f ks ≡ names →
    f k ≡ name →
    (¬ Contains names name) →
    map f (insert_key (λ x y. bytes_eq (f x) (f y)) ks k) ≡ names ++ name ∷ []
map-insert_key f ks k names name seen named new =
    let absent : list_any (λ y. bytes_eq (f k) (f y)) ks ≡ false =
    false_from_ne_true
    (list_any (λ y. bytes_eq (f k) (f y)) ks)
    (λ e. new (subst (λ (l : List (List ℕ)). Contains l name) seen (any-listed f name ks (rw named at e)))) in
    rw absent (map-append f ks (k ∷ []) ∙ ap (λ l. l ++ f k ∷ []) seen ∙ ap (λ n. names ++ n ∷ []) named)

-- one name more
pub AreLetterNames-push :
    (names : List (List ℕ)) (name : List ℕ) →
    AreLetterNames names → IsTrue (is_name name) → is_rooted name ≡ false → (¬ Contains names name) →
    length names < most_letters → AreLetterNames (names ++ name ∷ [])
AreLetterNames-push names name before formed plain new room =
    record {
      few = omega (arith, length-append names (name ∷ []));
      formed =
          All-push
          (λ (n : List ℕ). IsTrue (is_name n) × IsFalse (is_rooted n))
          names
          name
          before.formed
          (formed, plain);
      distinct =
          all_pairs_push
          (λ (m n : List ℕ). m ≢ n)
          names
          name
          before.distinct
          (λ k d within same. new (k, within, get_or_any names k name d within ∙ same));
    }
  where
    get_or_any : (names : List (List ℕ)) (k : ℕ) (d e : List ℕ) → k < length names → get_or names k d ≡ get_or names k e
    get_or_any names k d e within = get_or_from_slice_get names k (get_or names k e) d (slice_get-get_or names k e within)

-- the test for a generator's name
pub is_rooted-tests :
    (bs : List ℕ) →
    is_rooted bs ≡ (nat_lt 1 (length bs) && (nat_eq (get_or bs 0 0) 101 && list_all is_digit (drop 1 bs)))
unfolding is_rooted
is_rooted-tests [] = refl
is_rooted-tests (b ∷ []) = refl
is_rooted-tests (b ∷ c ∷ bs) = let more : nat_lt 1 (suc (suc (length bs))) ≡ true = grind arith in rw more
