-- A draft's presentation is valid after each line.
use Rattle.std.proofs.Common.{◌≡◌, ◌≢◌, ℕ, ◌+◌, ◌<◌, ◌≤◌, ◌⊎◌, inl, inr, Bool, true, false, List, [], ◌∷◌, ◌++◌, length, length-append, All, Option, Some, None, Result, refl, sym, subst, ap, ◌∙◌, append-nil, arith}
use Rattle.std.specs.Prelude.{IsTrue, IsFalse, sum_by, IfOk}
use Rattle.std.proofs.lemmas.List.Elements.{All-nil, All-push, All-weaker}
use Rattle.std.proofs.lemmas.List.Sums.{sum_by-append, sum_by_push}
use Rattle.ve_theory.specs.Combinations.{IsReduced}
use Rattle.ve_theory.specs.Words.{start, letters, Shortlex, ShortlexLetters}
use Rattle.ve_theory.specs.Elements.{AlgebraElement, Element, IsAlgebraElementOf, algebra_length, element_length, halved}
use Rattle.ve_theory.specs.Presentations.{Presentation, HasLetters, IsWord, inverse_relators, most_weight}
use Rattle.ve_theory.specs.Validity.{IsValid, most_letters, most_relations, most_terms, most_length, most_cells, is_name, is_rooted, algebra_cells, element_cells, cells}
use Rattle.ve_theory.specs.Laws.{ReducedListsAreUnique}
use Rattle.ve_lemmas.proofs.Relators.{inverse_cells}
use Rattle.ve_formats.specs.Causes.{Cause}
use Rattle.ve_formats.specs.Values.{IsReadable, IsAlgebraValue}
use Rattle.ve_formats.specs.ModuleValues.{IsModuleValue}
use Rattle.ve_formats.specs.PresentationLines.{Declared, Line, Stage, at_start, after_version, among_letters, after_generators, among_relations, after_end, Draft, blank_draft, MayStand, weight_of, with_letter, with_first, Declares, IsRelatorOf, with_item, with_relation, with_submodule, moved, Works, takes_version, takes_prime, refuses_prime, takes_letter, refuses_letter, takes_involution, refuses_involution, takes_pair, refuses_first, refuses_second, takes_generators, refuses_generators, takes_balance, takes_end, takes_relation, refuses_count, refuses_value, refuses_room, takes_submodule, refuses_submodule_count, refuses_submodule_value, refuses_submodule_room}
use Rattle.ve_formats.specs.PresentationText as texts
use Rattle.ve_formats.specs.PresentationText.{Accepts, AcceptsAll, Spells}
use Rattle.ve_formats.proofs.DraftInvariant.{blank_readable, accepts_readable}
use Rattle.ve_formats.proofs.DeclaredLetters.{AreMatched, matched_none, matched_own, matched_pair, AreNamed, named_more}
use Rattle.ve_formats.proofs.NamedTokens.{lexed_names, DeclaresNames, line_names}
use Rattle.ve_formats.proofs.ValueElements.{is_value}
use Rattle.ve_formats.proofs.ModuleValueElements.{is_module_value}
use Rattle.ve_formats.proofs.Halving.{half_value}

-- a relation that is kept, and a submodule relation

record IsKept (p count : ℕ) (is_balanced : Bool) (inverses : List (Option ℕ)) (r : AlgebraElement) : Type 0 where
  reduced : IsReduced ShortlexLetters p r
  own : All (λ t. All (λ x. x < count) t.0) r
  some : r ≢ []
  terms : length r ≤ most_terms
  short : algebra_length r ≤ most_length
  half : IsTrue is_balanced → IsAlgebraElementOf p r (halved inverses r)

record IsKeptBelow (p generators count : ℕ) (q : Element) : Type 0 where
  reduced : IsReduced Shortlex p q
  own : All (λ t. (start t.0 < generators) × All (λ x. x < count) (letters t.0)) q
  some : q ≢ []
  terms : length q ≤ most_terms
  short : element_length q ≤ most_length

-- what isn't there yet

abbrev NoRelations : Presentation → Type 0
NoRelations P = (P.relations ≡ []) × (P.submodule ≡ [])

record NoLetters (P : Presentation) : Type 0 where
  names : P.names ≡ []
  inverses : P.inverses ≡ []
  weights : P.weights ≡ []
  plain : IsFalse P.is_balanced
  relations : NoRelations P

abbrev EmptyAt : Stage → Presentation → Type 0
EmptyAt at_start P = NoLetters P
EmptyAt after_version P = NoLetters P
EmptyAt among_letters P = NoRelations P
EmptyAt after_generators P = NoRelations P
EmptyAt among_relations P = Unit {0}
EmptyAt after_end P = Unit {0}

-- what holds of a draft, beside what makes its presentation readable
record IsSound (draft : Draft) : Type 0 where
  version : (draft.presentation.version ≡ 1) ⊎ (draft.presentation.version ≡ 2)
  unbalanced : draft.presentation.version ≡ 1 → IsFalse draft.presentation.is_balanced
  one_inverse_each : length draft.presentation.inverses ≡ length draft.presentation.names
  named : AreNamed draft.presentation.version draft.presentation.names draft.presentation.weights
  matched : AreMatched draft.presentation.inverses
  positive : 0 < draft.presentation.generators
  relations : All (IsKept draft.presentation.prime (length draft.presentation.names) draft.presentation.is_balanced draft.presentation.inverses) draft.presentation.relations
  submodule : All (IsKeptBelow draft.presentation.prime draft.presentation.generators (length draft.presentation.names)) draft.presentation.submodule
  cell_count : cells draft.presentation ≤ most_cells
  counts : length draft.presentation.relations + length draft.presentation.submodule ≤ draft.counted
  limit : draft.counted ≤ most_relations
  empty : EmptyAt draft.stage draft.presentation

valid_of : (draft : Draft) → IsReadable draft.presentation → IsSound draft → IsValid draft.presentation
valid_of draft readable s =
    let P = draft.presentation in
    let Kept : AlgebraElement → Type 0 = IsKept P.prime (length P.names) P.is_balanced P.inverses in
    let Below : Element → Type 0 = IsKeptBelow P.prime P.generators (length P.names) in
    record {
      presentation = record {
        field = readable.field;
        one_inverse_each = s.one_inverse_each;
        one_weight_each = s.named.one_weight_each;
        weights = s.named.weighed;
        inverses = s.matched.back;
        relations = All-weaker Kept (λ r. IsReduced ShortlexLetters P.prime r × All (λ t. HasLetters P t.0) r × (r ≢ [])) (λ r k. (k.reduced, k.own, k.some)) P.relations s.relations;
        submodule = All-weaker Below (λ q. IsReduced Shortlex P.prime q × All (λ t. IsWord P t.0) q × (q ≢ [])) (λ q k. (k.reduced, k.own, k.some)) P.submodule s.submodule;
      };
      version = s.version;
      plain = λ e. (s.unbalanced e, s.named.plain e);
      names = s.named.named;
      distinct = readable.distinct;
      beside = s.matched.beside;
      balanced = λ b. All-weaker Kept (λ r. IsAlgebraElementOf P.prime r (halved P.inverses r)) (λ r k. k.half b) P.relations s.relations;
      letters = s.named.few;
      generators = (s.positive, readable.generators);
      relation_count = let counts = s.counts in let limit = s.limit in omega (arith, counts, limit);
      relations = All-weaker Kept (λ r. (length r ≤ most_terms) × (algebra_length r ≤ most_length)) (λ r k. (k.terms, k.short)) P.relations s.relations;
      submodule = All-weaker Below (λ q. (length q ≤ most_terms) × (element_length q ≤ most_length)) (λ q k. (k.terms, k.short)) P.submodule s.submodule;
      cell_count = s.cell_count;
    }

-- room, while there are letters alone

open_cells : (P : Presentation) → NoRelations P → length P.inverses ≤ most_letters → cells P ≤ most_cells
open_cells P empty few =
    let none : sum_by element_cells P.submodule ≡ 0 = ap (sum_by element_cells) empty.1 in
    let own : sum_by algebra_cells (inverse_relators P.prime 0 P.inverses ++ P.relations) ≡ sum_by algebra_cells (inverse_relators P.prime 0 P.inverses) =
    ap (λ rs. sum_by algebra_cells (inverse_relators P.prime 0 P.inverses ++ rs)) empty.0 ∙ ap (sum_by algebra_cells) (append-nil (inverse_relators P.prime 0 P.inverses)) in
    let small = inverse_cells P.prime 0 P.inverses in
    omega (arith, none, own, small)

nothing_kept : {X : Type 0} (Q : X → Type 0) {xs : List X} → xs ≡ [] → All Q xs
nothing_kept Q empty = subst (λ xs. All Q xs) (sym empty) (All-nil Q)

blank_sound : IsSound blank_draft
unfolding inverse_relators
blank_sound = record {
  version = inl refl;
  unbalanced = λ e. refl;
  one_inverse_each = refl;
  named = record {
    one_weight_each = refl;
    weighed = All-nil (λ w. (0 < w) × (w ≤ most_weight));
    plain = λ e. All-nil (λ w. w ≡ 1);
    named = All-nil (λ name. IsTrue (is_name name) × IsFalse (is_rooted name));
    few = omega arith;
  };
  matched = record { back = λ x y is. absurd (cc); beside = λ x y is. absurd (cc) };
  positive = omega arith;
  relations = All-nil (IsKept 2 0 false []);
  submodule = All-nil (IsKeptBelow 2 1 0);
  cell_count = omega arith;
  counts = omega arith;
  limit = omega arith;
  empty = record { names = refl; inverses = refl; weights = refl; plain = refl; relations = (refl, refl) };
}

-- line by line

module _ (draft : Draft) (s : IsSound draft) where
  abbrev P : Presentation
  P = draft.presentation

  few_inverses : length P.inverses ≤ most_letters
  few_inverses = let few = s.named.few in omega (arith, s.one_inverse_each, few)

  version_sound : (n : ℕ) → (n ≡ 1) ⊎ (n ≡ 2) → NoLetters P → IsSound (moved draft after_version (record P { version = n }))
  version_sound n two empty = record {
    version = two;
    unbalanced = λ e. empty.plain;
    one_inverse_each = s.one_inverse_each;
    named = record { one_weight_each = s.named.one_weight_each; weighed = s.named.weighed; plain = λ e. nothing_kept (λ w. w ≡ 1) empty.weights; named = s.named.named; few = s.named.few };
    matched = s.matched;
    positive = s.positive;
    relations = s.relations;
    submodule = s.submodule;
    cell_count = s.cell_count;
    counts = s.counts;
    limit = s.limit;
    empty = record { names = empty.names; inverses = empty.inverses; weights = empty.weights; plain = empty.plain; relations = empty.relations };
  }

  prime_sound : (n : ℕ) → NoRelations P → IsSound (moved draft among_letters (record P { prime = n }))
  prime_sound n empty = record {
    version = s.version;
    unbalanced = s.unbalanced;
    one_inverse_each = s.one_inverse_each;
    named = s.named;
    matched = s.matched;
    positive = s.positive;
    relations = nothing_kept (IsKept n (length P.names) P.is_balanced P.inverses) empty.0;
    submodule = nothing_kept (IsKeptBelow n P.generators (length P.names)) empty.1;
    cell_count = open_cells (record P { prime = n }) empty few_inverses;
    counts = s.counts;
    limit = s.limit;
    empty = empty;
  }

  letters_sound : (names : List (List ℕ)) (inverses : List (Option ℕ)) (weights : List ℕ) → NoRelations P → length inverses ≡ length names → AreNamed P.version names weights → AreMatched inverses
      → IsSound (moved draft among_letters (record P { names = names; inverses = inverses; weights = weights }))
  letters_sound names inverses weights empty each named matched = record {
    version = s.version;
    unbalanced = s.unbalanced;
    one_inverse_each = each;
    named = named;
    matched = matched;
    positive = s.positive;
    relations = nothing_kept (IsKept P.prime (length names) P.is_balanced inverses) empty.0;
    submodule = nothing_kept (IsKeptBelow P.prime P.generators (length names)) empty.1;
    cell_count = let few = named.few in open_cells (record P { names = names; inverses = inverses; weights = weights }) empty (omega (arith, each, few));
    counts = s.counts;
    limit = s.limit;
    empty = empty;
  }

  one_more : (x : Declared) (inverse : Option ℕ) → length (P.inverses ++ inverse ∷ []) ≡ length (P.names ++ x.called ∷ [])
  one_more x inverse =
      let inverses : length (P.inverses ++ inverse ∷ []) ≡ length P.inverses + 1 = length-append P.inverses (inverse ∷ []) in
      let names : length (P.names ++ x.called ∷ []) ≡ length P.names + 1 = length-append P.names (x.called ∷ []) in
      omega (arith, inverses, names, s.one_inverse_each)

  letter_sound : (x : Declared) (inverse : Option ℕ) → NoRelations P → IsTrue (is_name x.called) → (P.version ≡ 2) ⊎ (x.weight ≡ None) → Declares P x None → AreMatched (P.inverses ++ inverse ∷ [])
      → IsSound (moved draft among_letters (with_letter P x inverse))
  letter_sound x inverse empty name weight declared matched =
      letters_sound (P.names ++ x.called ∷ []) (P.inverses ++ inverse ∷ []) (P.weights ++ weight_of x ∷ []) empty (one_more x inverse) (named_more P x s.named name weight declared) matched

  pair_sound : (x y : Declared) → NoRelations P → IsTrue (is_name x.called) → IsTrue (is_name y.called) → (P.version ≡ 2) ⊎ (x.weight ≡ None) → (P.version ≡ 2) ⊎ (y.weight ≡ None)
      → Declares P x None → Declares (with_first P x) y None → IsSound (moved draft among_letters (with_letter (with_first P x) y (Some (length P.names))))
  pair_sound x y empty name other weight other_weight declared next =
      let inverses : length ((P.inverses ++ Some (length P.names + 1) ∷ []) ++ Some (length P.names) ∷ []) ≡ length (P.inverses ++ Some (length P.names + 1) ∷ []) + 1 =
      length-append (P.inverses ++ Some (length P.names + 1) ∷ []) (Some (length P.names) ∷ []) in
      let names : length ((P.names ++ x.called ∷ []) ++ y.called ∷ []) ≡ length (P.names ++ x.called ∷ []) + 1 = length-append (P.names ++ x.called ∷ []) (y.called ∷ []) in
      letters_sound ((P.names ++ x.called ∷ []) ++ y.called ∷ []) ((P.inverses ++ Some (length P.names + 1) ∷ []) ++ Some (length P.names) ∷ []) ((P.weights ++ weight_of x ∷ []) ++ weight_of y ∷ []) empty
      (omega (arith, inverses, names, one_more x (Some (length P.names + 1))))
      (named_more (with_first P x) y (named_more P x s.named name weight declared) other other_weight next)
      (matched_pair (length P.names) P.inverses s.one_inverse_each s.matched)

  generators_sound : (n : ℕ) → 0 < n → NoRelations P → IsSound (moved draft after_generators (record P { generators = n }))
  generators_sound n positive empty = record {
    version = s.version;
    unbalanced = s.unbalanced;
    one_inverse_each = s.one_inverse_each;
    named = s.named;
    matched = s.matched;
    positive = positive;
    relations = s.relations;
    submodule = nothing_kept (IsKeptBelow P.prime n (length P.names)) empty.1;
    cell_count = s.cell_count;
    counts = s.counts;
    limit = s.limit;
    empty = empty;
  }

  balance_sound : P.version ≡ 2 → NoRelations P → IsSound (moved draft among_relations (record P { is_balanced = true }))
  balance_sound two empty = record {
    version = s.version;
    unbalanced = λ one. absurd (omega (arith, one, two));
    one_inverse_each = s.one_inverse_each;
    named = s.named;
    matched = s.matched;
    positive = s.positive;
    relations = nothing_kept (IsKept P.prime (length P.names) true P.inverses) empty.0;
    submodule = s.submodule;
    cell_count = s.cell_count;
    counts = s.counts;
    limit = s.limit;
    empty = tt;
  }

  end_sound : IsSound (moved draft after_end P)
  end_sound = record {
    version = s.version;
    unbalanced = s.unbalanced;
    one_inverse_each = s.one_inverse_each;
    named = s.named;
    matched = s.matched;
    positive = s.positive;
    relations = s.relations;
    submodule = s.submodule;
    cell_count = s.cell_count;
    counts = s.counts;
    limit = s.limit;
    empty = tt;
  }

-- one item more, unless it is empty

module _ {X : Type 0} where
  kept_item : (Q : List X → Type 0) (xs : List (List X)) (r : List X) → All Q xs → (r ≢ [] → Q r) → All Q (with_item xs r)
  unfolding with_item
  kept_item Q xs [] all new = all
  kept_item Q xs (x ∷ more) all new = All-push Q xs (x ∷ more) all (new (λ e. absurd (cc)))

  item_size : (size : List X → ℕ) (xs : List (List X)) (r : List X) → size [] ≡ 0 → sum_by size (with_item xs r) ≡ sum_by size xs + size r
  unfolding with_item
  item_size size xs [] empty = omega (arith, empty)
  item_size size xs (x ∷ more) empty = sum_by_push size xs (x ∷ more)

  item_count : (xs : List (List X)) (r : List X) → length (with_item xs r) ≤ length xs + 1
  unfolding with_item
  item_count xs [] = omega arith
  item_count xs (x ∷ more) = let count : length (xs ++ (x ∷ more) ∷ []) ≡ length xs + 1 = length-append xs ((x ∷ more) ∷ []) in omega (arith, count)

module _ (draft : Draft) (s : IsSound draft) where
  abbrev Q : Presentation
  Q = draft.presentation

  relation_sound : (r : AlgebraElement) → draft.counted < most_relations → IsAlgebraValue Q r → (IsTrue Q.is_balanced → IsAlgebraElementOf Q.prime r (halved Q.inverses r))
      → cells Q + algebra_cells r ≤ most_cells → IsSound (with_relation draft r)
  relation_sound r free value half room =
      let count : length (with_item Q.relations r) ≤ length Q.relations + 1 = item_count Q.relations r in
      let old = sum_by-append algebra_cells (inverse_relators Q.prime 0 Q.inverses) Q.relations in
      let all = sum_by-append algebra_cells (inverse_relators Q.prime 0 Q.inverses) (with_item Q.relations r) in
      let item : sum_by algebra_cells (with_item Q.relations r) ≡ sum_by algebra_cells Q.relations + algebra_cells r = item_size algebra_cells Q.relations r refl in
      record {
        version = s.version;
        unbalanced = s.unbalanced;
        one_inverse_each = s.one_inverse_each;
        named = s.named;
        matched = s.matched;
        positive = s.positive;
        relations = kept_item (IsKept Q.prime (length Q.names) Q.is_balanced Q.inverses) Q.relations r s.relations
            (λ some. record { reduced = value.reduced; own = value.letters; some = some; terms = value.terms; short = value.short; half = half });
        submodule = s.submodule;
        cell_count = omega (arith, old, all, item, room);
        counts = let counts = s.counts in omega (arith, counts, count);
        limit = omega arith;
        empty = tt;
      }

  submodule_sound : (q : Element) → draft.counted < most_relations → IsModuleValue Q q → cells Q + element_cells q ≤ most_cells → IsSound (with_submodule draft q)
  submodule_sound q free value room =
      let count : length (with_item Q.submodule q) ≤ length Q.submodule + 1 = item_count Q.submodule q in
      let item : sum_by element_cells (with_item Q.submodule q) ≡ sum_by element_cells Q.submodule + element_cells q = item_size element_cells Q.submodule q refl in
      record {
        version = s.version;
        unbalanced = s.unbalanced;
        one_inverse_each = s.one_inverse_each;
        named = s.named;
        matched = s.matched;
        positive = s.positive;
        relations = s.relations;
        submodule = kept_item (IsKeptBelow Q.prime Q.generators (length Q.names)) Q.submodule q s.submodule
            (λ some. record { reduced = value.reduced; own = value.words; some = some; terms = value.terms; short = value.short });
        cell_count = omega (arith, item, room);
        counts = let counts = s.counts in omega (arith, counts, count);
        limit = omega arith;
        empty = tt;
      }

module _ (unique : ReducedListsAreUnique) where
  relator_value : (P : Presentation) → IsReadable P → (v r : AlgebraElement) → IsAlgebraValue P v → IsRelatorOf P v r
      → IsAlgebraValue P r × (IsTrue P.is_balanced → IsAlgebraElementOf P.prime r (halved P.inverses r))
  relator_value P readable v r value (inl h) = let half = half_value unique P readable value h.1 in (half.0, λ balanced. half.1)
  relator_value P readable v r value (inr h) = (subst (λ (u : AlgebraElement). IsAlgebraValue P u) (sym h.1) value, λ balanced. let plain = h.0 in absurd (cc))

  works_sound : (draft : Draft) → IsReadable draft.presentation → IsSound draft → {line : Line} {r : Result Draft Cause} → DeclaresNames line → MayStand draft line → Works draft line r → IfOk r IsSound
  works_sound draft readable s names stands (takes_version n) = version_sound draft s n stands.1 (subst (λ stage. EmptyAt stage draft.presentation) stands.0 s.empty)
  works_sound draft readable s names stands (takes_prime n h) =
      let empty : NoLetters draft.presentation = subst (λ stage. EmptyAt stage draft.presentation) stands s.empty in prime_sound draft s n empty.relations
  works_sound draft readable s names stands (refuses_prime n h) = tt
  works_sound draft readable s names stands (takes_letter x h) =
      letter_sound draft s x None (subst (λ stage. EmptyAt stage draft.presentation) stands.0 s.empty) names stands.1 h (matched_none draft.presentation.inverses s.matched)
  works_sound draft readable s names stands (refuses_letter x cause h) = tt
  works_sound draft readable s names stands (takes_involution x h) =
      letter_sound draft s x (Some (length draft.presentation.names)) (subst (λ stage. EmptyAt stage draft.presentation) stands.0 s.empty) names stands.1 h
      (matched_own (length draft.presentation.names) draft.presentation.inverses s.one_inverse_each s.matched)
  works_sound draft readable s names stands (refuses_involution x cause h) = tt
  works_sound draft readable s names stands (takes_pair x y h k) =
      pair_sound draft s x y (subst (λ stage. EmptyAt stage draft.presentation) stands.0 s.empty) names.0 names.1 stands.1 stands.2 h k
  works_sound draft readable s names stands (refuses_first x y cause h) = tt
  works_sound draft readable s names stands (refuses_second x y cause h k) = tt
  works_sound draft readable s names stands (takes_generators n h) = generators_sound draft s n stands.1 (subst (λ stage. EmptyAt stage draft.presentation) stands.0 s.empty)
  works_sound draft readable s names stands (refuses_generators n h) = tt
  works_sound draft readable s names stands takes_balance = balance_sound draft s stands.1 (subst (λ stage. EmptyAt stage draft.presentation) stands.0 s.empty)
  works_sound draft readable s names stands takes_end = end_sound draft s
  works_sound draft readable s names stands (takes_relation d e v r free h k room) =
      let relator = relator_value draft.presentation readable v r (is_value unique draft.presentation readable h) k in relation_sound draft s r free relator.0 relator.1 room
  works_sound draft readable s names stands (refuses_count d e many) = tt
  works_sound draft readable s names stands (refuses_value d e cause free h) = tt
  works_sound draft readable s names stands (refuses_room d e v r free h k much) = tt
  works_sound draft readable s names stands (takes_submodule d e q free h room) = submodule_sound draft s q free (is_module_value unique draft.presentation readable h) room
  works_sound draft readable s names stands (refuses_submodule_count d e many) = tt
  works_sound draft readable s names stands (refuses_submodule_value d e cause free h) = tt
  works_sound draft readable s names stands (refuses_submodule_room d e q free h much) = tt

  accepts_sound : {draft next : Draft} {line : List ℕ} → IsReadable draft.presentation → IsSound draft → Accepts draft line next → IsSound next
  accepts_sound readable s (texts.blank lexes) = s
  accepts_sound {draft} readable s (texts.taken going lexes shallow spelled stands works) = works_sound draft readable s (line_names spelled (lexed_names lexes)) stands works

  accepts_valid : {draft last : Draft} {lines : List (List ℕ)} → IsReadable draft.presentation → IsSound draft → AcceptsAll draft lines last → IsValid last.presentation
  accepts_valid {draft} readable s texts.none = valid_of draft readable s
  accepts_valid readable s (texts.one h k) = accepts_valid (accepts_readable readable h) (accepts_sound readable s h) k

  pub spelled_valid : (text : List ℕ) (P : Presentation) → Spells text P → IsValid P
  spelled_valid text P h = subst IsValid h.presentation (accepts_valid blank_readable blank_sound h.lines)
