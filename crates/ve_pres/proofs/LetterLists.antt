-- Lists of letters that grow.
use Rattle.std.proofs.Common.{◌≡◌, ℕ, zero, suc, ◌+◌, ◌-◌, ◌*◌, ◌<◌, ◌≤◌, ◌⊎◌, inl, inr, List, [], ◌∷◌, ◌++◌, length, get_or, set, All, Some, None, Option, slice_get, IsTrue, IsFalse, refl, sym, subst, ap, ap₂, ◌∙◌, length-append, arith, sum_by}
use Rattle.std.proofs.Math.Seq.{get_or-append_seam}
use Rattle.std.proofs.Math.ListN.{length-set}
use Rattle.std.proofs.lemmas.Bool.{cases_lt}
use Rattle.std.proofs.lemmas.Option.{slice_get_within}
use Rattle.std.proofs.lemmas.List.{get_or_append_left}
use Rattle.std.proofs.lemmas.List.Sums.{sum_by-cons}
use Rattle.std.proofs.lemmas.List.Elements.{All-nil, All-cons, All-append, All-set, All-weaker}
use Rattle.ve_theory.specs.Elements.{AlgebraElement}
use Rattle.ve_theory.specs.Presentations.{inverse_relators}
use Rattle.ve_theory.specs.Validity.{AreBeside, algebra_cells, is_name, is_rooted}
use Rattle.ve_lemmas.proofs.Lists.{All-last}
use Rattle.ve_lemmas.proofs.Relators.{inverse_relators_letters}
use Rattle.ve_word.specs.NameList.{AreLetterNames}
use Rattle.ve_pres.specs.Drafts.{IsNewName}
use Rattle.ve_pres.specs.declared.presentation.letters.Letters.{Letters}
use Rattle.ve_pres.specs.Letters.{AreLetters, AreSame, IsPairPushed}

pub new_name : (names all : List (List ℕ)) (name : List ℕ) → AreLetterNames all → all ≡ names ++ name ∷ [] → IsNewName names name
new_name names all name whole is = go (let P : List (List ℕ) → Type 0 = λ u. AreLetterNames u in subst P is whole)
  where
    go : AreLetterNames (names ++ name ∷ []) → IsNewName names name
    go letters = record {
      plain = (All-last (λ (n : List ℕ). IsTrue (is_name n) × IsFalse (is_rooted n)) names name letters.formed).1;
      absent = λ found.
          let before : found.0 < length names = found.1 in
          let here : get_or (names ++ name ∷ []) found.0 name ≡ get_or names found.0 name = get_or_append_left names (name ∷ []) name found.0 before in
          let last : get_or (names ++ name ∷ []) (length names) name ≡ name = get_or-append_seam names name [] name in
          let inside : length names < length (names ++ name ∷ []) = omega (arith, length-append names (name ∷ [])) in
          letters.distinct found.0 (length names) name before inside (here ∙ (found.2 ∙ sym last));
      room = let e : length (names ++ name ∷ []) ≡ length names + 1 = length-append names (name ∷ []) in omega (arith, letters.few);
    }

-- relators of inverses

pub inverse_relators-append :
    (p first : ℕ) (xs ys : List (Option ℕ)) → inverse_relators p first (xs ++ ys) ≡ inverse_relators p first xs ++ inverse_relators p (first + length xs) ys
unfolding inverse_relators
inverse_relators-append p first [] ys = ap (λ n. inverse_relators p n ys) (let e : first ≡ first + 0 = omega arith in e)
inverse_relators-append p first (None ∷ xs) ys =
    inverse_relators-append p (first + 1) xs ys ∙ ap (λ n. inverse_relators p (first + 1) xs ++ inverse_relators p n ys) (next first (length xs))
  where
    next : (m n : ℕ) → m + 1 + n ≡ m + suc n
    next m n = omega arith
inverse_relators-append p first (Some y ∷ xs) ys =
    ap (λ u. ((first ∷ y ∷ [], 1) ∷ ([], p - 1) ∷ []) ∷ u)
    (inverse_relators-append p (first + 1) xs ys ∙ ap (λ n. inverse_relators p (first + 1) xs ++ inverse_relators p n ys) (next first (length xs)))
  where
    next : (m n : ℕ) → m + 1 + n ≡ m + suc n
    next m n = omega arith

pub inverse_relators-letters : (p : ℕ) (xs ts : List (Option ℕ)) → inverse_relators p 0 (xs ++ ts) ≡ inverse_relators p 0 xs ++ inverse_relators p (length xs) ts
inverse_relators-letters p xs ts =
    inverse_relators-append p 0 xs ts ∙ ap (λ n. inverse_relators p 0 xs ++ inverse_relators p n ts) (let e : 0 + length xs ≡ length xs = omega arith in e)

-- places in a list that grew

slice_get_left : {X : Type 0} (xs ys : List X) (i : ℕ) → i < length xs → slice_get (xs ++ ys) i ≡ slice_get xs i
slice_get_left [] ys i below = absurd (omega arith)
slice_get_left (x ∷ xs) ys zero below = refl
slice_get_left (x ∷ xs) ys (suc i) below = slice_get_left xs ys i (omega arith)

slice_get_right : {X : Type 0} (xs ys : List X) (i j : ℕ) → i ≡ length xs + j → slice_get (xs ++ ys) i ≡ slice_get ys j
slice_get_right [] ys i j is = ap (slice_get ys) (let e : i ≡ j = omega arith in e)
slice_get_right (x ∷ xs) ys zero j is = absurd (omega arith)
slice_get_right (x ∷ xs) ys (suc i) j is = slice_get_right xs ys i j (omega arith)

-- inverses that are mutual, each beside the other
pub record AreInverses (xs : List (Option ℕ)) : Type 0 where
  pub back : (x y : ℕ) → slice_get xs x ≡ Some (Some y) → slice_get xs y ≡ Some (Some x)
  pub beside : (x y : ℕ) → slice_get xs x ≡ Some (Some y) → AreBeside x y

-- further letters, whose inverses are as they should be
grown_inverses :
    (xs ts : List (Option ℕ)) → AreInverses xs
    → ((j y : ℕ) → slice_get ts j ≡ Some (Some y) → (slice_get (xs ++ ts) y ≡ Some (Some (length xs + j))) × AreBeside (length xs + j) y)
    → AreInverses (xs ++ ts)
grown_inverses xs ts old new = record { back = λ x y e. (both x y e).0; beside = λ x y e. (both x y e).1 }
  where
    both : (x y : ℕ) → slice_get (xs ++ ts) x ≡ Some (Some y) → (slice_get (xs ++ ts) y ≡ Some (Some x)) × AreBeside x y
    both x y e = cases (cases_lt x (length xs))
      where
        cases : (x < length xs) ⊎ (length xs ≤ x) → (slice_get (xs ++ ts) y ≡ Some (Some x)) × AreBeside x y
        cases (inl below) =
            let there : slice_get xs x ≡ Some (Some y) = sym (slice_get_left xs ts x below) ∙ e in
            let there_back : slice_get xs y ≡ Some (Some x) = old.back x y there in
            (slice_get_left xs ts y (slice_get_within xs y (Some x) there_back) ∙ there_back, old.beside x y there)
        cases (inr above) =
            let place : x ≡ length xs + (x - length xs) = omega arith in
            let there : slice_get ts (x - length xs) ≡ Some (Some y) = sym (slice_get_right xs ts x (x - length xs) place) ∙ e in
            let P : ℕ → Type 0 = λ z. (slice_get (xs ++ ts) y ≡ Some (Some z)) × AreBeside z y in
            subst P (sym place) (new (x - length xs) y there)

pub inverses_none : (xs : List (Option ℕ)) → AreInverses xs → AreInverses (xs ++ None ∷ [])
inverses_none xs old = grown_inverses xs (None ∷ []) old new
  where
    new : (j y : ℕ) → slice_get (None ∷ []) j ≡ Some (Some y) → (slice_get (xs ++ None ∷ []) y ≡ Some (Some (length xs + j))) × AreBeside (length xs + j) y
    new zero y e = absurd cc
    new (suc j) y e = absurd cc

pub inverses_self : (xs : List (Option ℕ)) (n : ℕ) → AreInverses xs → n ≡ length xs → AreInverses (xs ++ Some n ∷ [])
inverses_self xs n old is = grown_inverses xs (Some n ∷ []) old new
  where
    new : (j y : ℕ) → slice_get (Some n ∷ []) j ≡ Some (Some y) → (slice_get (xs ++ Some n ∷ []) y ≡ Some (Some (length xs + j))) × AreBeside (length xs + j) y
    new zero y e =
        let same : n ≡ y = cc in
        (slice_get_right xs (Some n ∷ []) y 0 (omega arith) ∙ ap (λ z. Some (Some z)) (let f : n ≡ length xs + 0 = omega arith in f), inl (omega arith))
    new (suc j) y e = absurd cc

pub inverses_pair : (xs : List (Option ℕ)) (n m : ℕ) → AreInverses xs → n ≡ length xs → m ≡ n + 1 → AreInverses (xs ++ Some m ∷ Some n ∷ [])
inverses_pair xs n m old is next = grown_inverses xs (Some m ∷ Some n ∷ []) old new
  where
    new : (j y : ℕ) → slice_get (Some m ∷ Some n ∷ []) j ≡ Some (Some y) → (slice_get (xs ++ Some m ∷ Some n ∷ []) y ≡ Some (Some (length xs + j))) × AreBeside (length xs + j) y
    new zero y e =
        let same : m ≡ y = cc in
        (slice_get_right xs (Some m ∷ Some n ∷ []) y 1 (omega arith) ∙ ap (λ z. Some (Some z)) (let f : n ≡ length xs + 0 = omega arith in f), inr (inl (omega arith)))
    new (suc zero) y e =
        let same : n ≡ y = cc in
        (slice_get_right xs (Some m ∷ Some n ∷ []) y 0 (omega arith) ∙ ap (λ z. Some (Some z)) (let f : m ≡ length xs + 1 = omega arith in f), inr (inr (omega arith)))
    new (suc (suc j)) y e = absurd cc

-- letters of relators exist

pub relators_letters : (version p : ℕ) (letters : Letters) → AreLetters version p letters
    → All (λ r. All (λ t. All (λ x. x < length letters.weights.items) t.0) r) letters.relators.items
relators_letters version p letters are =
    let P : List AlgebraElement → Type 0 = λ rs. All (λ (r : AlgebraElement). All (λ (t : List ℕ × ℕ). All (λ (x : ℕ). x < length letters.weights.items) t.0) r) rs in
    subst P (sym are.relators)
    (inverse_relators_letters p (length letters.weights.items) 0 letters.inverses.items (omega (arith, are.one_inverse_each, are.one_weight_each))
    (λ j y e. omega (arith, slice_get_within letters.inverses.items y (Some j) (are.inverses j y e), are.one_inverse_each, are.one_weight_each)))

-- the cells of relators of inverses

pub cells_of_inverses : (p first : ℕ) (xs : List (Option ℕ)) → sum_by algebra_cells (inverse_relators p first xs) ≡ 4 * length (inverse_relators p first xs)
unfolding inverse_relators
cells_of_inverses p first [] = refl
cells_of_inverses p first (None ∷ xs) = cells_of_inverses p (first + 1) xs
cells_of_inverses p first (Some y ∷ xs) =
    let e : sum_by algebra_cells (((first ∷ y ∷ [], 1) ∷ ([], p - 1) ∷ []) ∷ inverse_relators p (first + 1) xs) ≡ 4 + sum_by algebra_cells (inverse_relators p (first + 1) xs) =
    sum_by-cons algebra_cells ((first ∷ y ∷ [], 1) ∷ ([], p - 1) ∷ []) (inverse_relators p (first + 1) xs) in
    omega (arith, e, cells_of_inverses p (first + 1) xs)

-- letters

pub same_letters : (version p : ℕ) (copy letters : Letters) → AreSame copy letters → AreLetters version p letters → AreLetters version p copy
same_letters version p copy letters same are = record {
  names = let P : List (List ℕ) → Type 0 = λ n. AreLetterNames n in subst P (sym same.names) are.names;
  one_inverse_each = omega (arith, ap length same.inverses, ap length same.names, are.one_inverse_each);
  one_weight_each = omega (arith, ap length same.weights, ap length same.names, are.one_weight_each);
  weights = let P : List ℕ → Type 0 = λ ws. All (λ (w : ℕ). (0 < w) × (w ≤ 16)) ws in subst P (sym same.weights) are.weights;
  plain = λ e. let P : List ℕ → Type 0 = λ ws. All (λ (w : ℕ). w ≡ 1) ws in subst P (sym same.weights) (are.plain e);
  inverses = let P : List (Option ℕ) → Type 0 = λ xs. (x y : ℕ) → slice_get xs x ≡ Some (Some y) → slice_get xs y ≡ Some (Some x) in subst P (sym same.inverses) are.inverses;
  beside = let P : List (Option ℕ) → Type 0 = λ xs. (x y : ℕ) → slice_get xs x ≡ Some (Some y) → AreBeside x y in subst P (sym same.inverses) are.beside;
  relators = same.relators ∙ (are.relators ∙ ap (inverse_relators p 0) (sym same.inverses));
}

pub grown_letters :
    (version p : ℕ) (old new : Letters) (ts : List (Option ℕ)) (ones : List ℕ) → AreLetters version p old → AreLetterNames new.names
    → new.inverses.items ≡ old.inverses.items ++ ts → new.weights.items ≡ old.weights.items ++ ones → All (λ w. w ≡ 1) ones → length ts ≡ length ones
    → length new.names ≡ length old.names + length ts → AreInverses (old.inverses.items ++ ts)
    → new.relators.items ≡ old.relators.items ++ inverse_relators p (length old.inverses.items) ts → AreLetters version p new
grown_letters version p old new ts ones are names inverses weights plain one_each count inverse relators = record {
  names = names;
  one_inverse_each = omega (arith, ap length inverses, length-append old.inverses.items ts, count, are.one_inverse_each);
  one_weight_each = omega (arith, ap length weights, length-append old.weights.items ones, count, are.one_weight_each, one_each);
  weights =
      let P : List ℕ → Type 0 = λ ws. All (λ (w : ℕ). (0 < w) × (w ≤ 16)) ws in
      subst P (sym weights) (All-append (λ (w : ℕ). (0 < w) × (w ≤ 16)) old.weights.items ones are.weights
      (All-weaker (λ (w : ℕ). w ≡ 1) (λ (w : ℕ). (0 < w) × (w ≤ 16)) (λ w e. (omega arith, omega arith)) ones plain));
  plain = λ e. let P : List ℕ → Type 0 = λ ws. All (λ (w : ℕ). w ≡ 1) ws in subst P (sym weights) (All-append (λ (w : ℕ). w ≡ 1) old.weights.items ones (are.plain e) plain);
  inverses = let P : List (Option ℕ) → Type 0 = λ xs. (x y : ℕ) → slice_get xs x ≡ Some (Some y) → slice_get xs y ≡ Some (Some x) in subst P (sym inverses) inverse.back;
  beside = let P : List (Option ℕ) → Type 0 = λ xs. (x y : ℕ) → slice_get xs x ≡ Some (Some y) → AreBeside x y in subst P (sym inverses) inverse.beside;
  relators =
      relators
      ∙ (ap (λ rs. rs ++ inverse_relators p (length old.inverses.items) ts) are.relators
      ∙ (sym (inverse_relators-letters p old.inverses.items ts) ∙ ap (inverse_relators p 0) (sym inverses)));
}

pub inverses_of : (version p : ℕ) (letters : Letters) → AreLetters version p letters → AreInverses letters.inverses.items
inverses_of version p letters are = record { back = are.inverses; beside = are.beside }

-- a letter with its name, inverse and weight was added
pub record IsPushed (old new : Letters) (name : List ℕ) (inverse : Option ℕ) : Type 0 where
  pub names : new.names ≡ old.names ++ name ∷ []
  pub inverses : new.inverses.items ≡ old.inverses.items ++ inverse ∷ []
  pub weights : new.weights.items ≡ old.weights.items ++ 1 ∷ []
  pub relators : new.relators ≡ old.relators
  pub letters : AreLetterNames new.names

-- a relator of an inverse was added
pub record IsRelated (p : ℕ) (old new : Letters) (x y : ℕ) : Type 0 where
  pub relators : new.relators.items ≡ old.relators.items ++ ((x ∷ y ∷ [], 1) ∷ ([], p - 1) ∷ []) ∷ []
  pub names : new.names ≡ old.names
  pub inverses : new.inverses ≡ old.inverses
  pub weights : new.weights ≡ old.weights

one : All (λ (w : ℕ). w ≡ 1) (1 ∷ [])
one = All-cons (λ (w : ℕ). w ≡ 1) 1 [] refl (All-nil (λ (w : ℕ). w ≡ 1))

pub involution_letters :
    (version p n : ℕ) (old mid new : Letters) (name : List ℕ) → AreLetters version p old → n ≡ length old.names → IsPushed old mid name (Some n) → IsRelated p mid new n n
    → AreLetters version p new
unfolding inverse_relators
involution_letters version p n old mid new name are is pushed related =
    let place : n ≡ length old.inverses.items = omega (arith, are.one_inverse_each) in
    grown_letters version p old new (Some n ∷ []) (1 ∷ []) are
    (let P : List (List ℕ) → Type 0 = λ ns. AreLetterNames ns in subst P (sym related.names) pushed.letters)
    (ap (λ xs. xs.items) related.inverses ∙ pushed.inverses)
    (ap (λ ws. ws.items) related.weights ∙ pushed.weights)
    one refl
    (ap length related.names ∙ (ap length pushed.names ∙ length-append old.names (name ∷ [])))
    (inverses_self old.inverses.items n (inverses_of version p old are) place)
    (related.relators ∙ ap₂ (λ (rs : List AlgebraElement) (x : ℕ). rs ++ ((x ∷ n ∷ [], 1) ∷ ([], p - 1) ∷ []) ∷ []) (ap (λ rs. rs.items) pushed.relators) place)

pub pair_letters :
    (version p n : ℕ) (old new : Letters) (name inverse : List ℕ) → AreLetters version p old → IsPairPushed p old new name inverse n → AreLetters version p new
unfolding inverse_relators
pair_letters version p n old new name inverse are pushed =
    let place : n ≡ length old.inverses.items = omega (arith, pushed.letter, are.one_inverse_each) in
    let after : n + 1 ≡ length old.inverses.items + 1 = omega arith in
    grown_letters version p old new (Some (n + 1) ∷ Some n ∷ []) (1 ∷ 1 ∷ []) are pushed.letters pushed.inverses pushed.weights
    (All-cons (λ (w : ℕ). w ≡ 1) 1 (1 ∷ []) refl one) refl
    (ap length pushed.names ∙ length-append old.names (name ∷ inverse ∷ []))
    (inverses_pair old.inverses.items n (n + 1) (inverses_of version p old are) place refl)
    (pushed.relators
    ∙ ap₂ (λ (x : ℕ) (y : ℕ). old.relators.items ++ ((x ∷ (n + 1) ∷ [], 1) ∷ ([], p - 1) ∷ []) ∷ ((y ∷ n ∷ [], 1) ∷ ([], p - 1) ∷ []) ∷ []) place after)

-- a letter has another weight
pub weighed_letters :
    (version p letter weight : ℕ) (old new : Letters) → version ≡ 2 → AreLetters version p old → 0 < weight → weight ≤ 16 → new.names ≡ old.names → new.inverses.items ≡ old.inverses.items
    → new.weights.items ≡ set old.weights.items letter weight → new.relators.items ≡ old.relators.items → AreLetters version p new
weighed_letters version p letter weight old new two are positive small names inverses weights relators = record {
  names = let P : List (List ℕ) → Type 0 = λ n. AreLetterNames n in subst P (sym names) are.names;
  one_inverse_each = omega (arith, ap length inverses, ap length names, are.one_inverse_each);
  one_weight_each = omega (arith, ap length weights, length-set old.weights.items letter weight, ap length names, are.one_weight_each);
  weights =
      let P : List ℕ → Type 0 = λ ws. All (λ (w : ℕ). (0 < w) × (w ≤ 16)) ws in
      subst P (sym weights) (All-set (λ (w : ℕ). (0 < w) × (w ≤ 16)) old.weights.items letter weight (positive, small) are.weights);
  plain = λ e. absurd (omega arith);
  inverses = let P : List (Option ℕ) → Type 0 = λ xs. (x y : ℕ) → slice_get xs x ≡ Some (Some y) → slice_get xs y ≡ Some (Some x) in subst P (sym inverses) are.inverses;
  beside = let P : List (Option ℕ) → Type 0 = λ xs. (x y : ℕ) → slice_get xs x ≡ Some (Some y) → AreBeside x y in subst P (sym inverses) are.beside;
  relators = relators ∙ (are.relators ∙ ap (inverse_relators p 0) (sym inverses));
}
