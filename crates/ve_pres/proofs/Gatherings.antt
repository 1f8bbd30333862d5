-- What holds while a sorted list of terms is gathered from its end.
use Rattle.std.proofs.Common.{◌≡◌, ℕ, ◌+◌, ◌%◌, ◌<◌, ◌≤◌, false, List, [], ◌∷◌, ◌++◌, length, get_or, All, refl, sym, ap, ap₂, ◌∙◌, subst, slice_index_or, length-append, arith}
use Rattle.std.proofs.lemmas.List.{map-append, get_or_append_left}
use Rattle.std.proofs.Math.Seq.{get_or-append_seam}
use Rattle.std.proofs.lemmas.List.Elements.{All-nil, All-cons, All-head, All-tail, All-weaker}
use Rattle.std.proofs.lemmas.List.Sorted.{sorted_far, length_permutation, All-permutation}
use Rattle.std.specs.List.Sorted.{IsPermutation, IsSortedBy}
use Rattle.ve_theory.specs.Combinations.{coefficient, Alike, IsReduced}
use Rattle.ve_theory.specs.Words.{Word, same_word, Shortlex}
use Rattle.ve_lemmas.proofs.Lists.{All-front}
use Rattle.ve_pres.specs.declared.term.Term.{Term}
use Rattle.ve_pres.specs.Terms.{pairs}
use Rattle.ve_pres.specs.Gathering.{IsAtMost, AtLeast, Gathers}
use Rattle.ve_pres.proofs.Orders.{is_before, sorts_by_words, at_most_from_test, at_most_trans}
use Rattle.ve_pres.proofs.Sums.{Alike-append, Alike-permutation, Alike-swap}

-- `kept` holds the greater terms, and `left` the others, of which the last is the greatest
pub record IsGathering (p : ℕ) (terms kept left : List Term) : Type 0 where
  pub reduced : IsReduced Shortlex p (pairs kept)
  pub alike : Alike same_word p (pairs kept ++ pairs left) (pairs terms)
  pub rising : IsSortedBy (λ (x : Term) (y : Term). is_before x.word y.word) left
  pub above : All (λ (term : Term). AtLeast term.word (pairs kept)) left
  pub residues : All (λ (term : Term). term.coef < p) left
  pub count : length kept + length left ≤ length terms

pub coefs_of_pairs : (p : ℕ) (terms : List Term) → All (λ t. t.1 < p) (pairs terms) → All (λ (term : Term). term.coef < p) terms
coefs_of_pairs p [] all = All-nil (λ (term : Term). term.coef < p)
coefs_of_pairs p (t ∷ terms) all =
    All-cons (λ (term : Term). term.coef < p) t terms (All-head (λ (s : Word × ℕ). s.1 < p) (t.word, t.coef) (pairs terms) all)
    (coefs_of_pairs p terms (All-tail (λ (s : Word × ℕ). s.1 < p) (t.word, t.coef) (pairs terms) all))

pub gathering_begins :
    (p : ℕ) (terms kept left : List Term) → All (λ t. t.1 < p) (pairs terms) → IsPermutation terms left
    → IsSortedBy (λ (x : Term) (y : Term). is_before x.word y.word) left → kept ≡ [] → IsGathering p terms kept left
unfolding IsReduced
gathering_begins p terms kept left residues moved rising none =
    let P : List Term → Type 0 = λ k. IsGathering p terms k left in
    subst P (sym none) (record {
      reduced = tt;
      alike = Alike-permutation p terms left moved;
      rising = rising;
      above = λ k d l. All-nil (λ (t : Word × ℕ). IsAtMost (slice_index_or left k d).word t.0);
      residues = All-permutation (λ (term : Term). term.coef < p) terms left moved (coefs_of_pairs p terms residues);
      count = let e : length left ≡ length terms = length_permutation terms left moved in omega arith;
    })

-- the last of a list, and what is before it

rising_front : (rest : List Term) (term : Term) → IsSortedBy (λ (x : Term) (y : Term). is_before x.word y.word) (rest ++ term ∷ [])
    → IsSortedBy (λ (x : Term) (y : Term). is_before x.word y.word) rest
rising_front rest term rising k d low high =
    let here : k < length rest = omega arith in
    let more : k + 1 < length (rest ++ term ∷ []) = omega (arith, length-append rest (term ∷ [])) in
    let a : get_or (rest ++ term ∷ []) k d ≡ get_or rest k d = get_or_append_left rest (term ∷ []) d k here in
    let b : get_or (rest ++ term ∷ []) (k + 1) d ≡ get_or rest (k + 1) d = get_or_append_left rest (term ∷ []) d (k + 1) high in
    ap₂ (λ (x : Term) (y : Term). is_before x.word y.word) (sym b) (sym a) ∙ rising k d low more

-- the last term has the greatest word
below_last : (rest : List Term) (term : Term) → IsSortedBy (λ (x : Term) (y : Term). is_before x.word y.word) (rest ++ term ∷ [])
    → All (λ (s : Term). IsAtMost s.word term.word) rest
below_last rest term rising k d high =
    let more : length rest < length (rest ++ term ∷ []) = omega (arith, length-append rest (term ∷ [])) in
    let least : k ≤ length rest = omega arith in
    let far : is_before (get_or (rest ++ term ∷ []) (length rest) d).word (get_or (rest ++ term ∷ []) k d).word ≡ false =
    sorted_far (λ (x : Term) (y : Term). is_before x.word y.word) (sorts_by_words (λ (t : Term). t.word)) (rest ++ term ∷ []) rising k (length rest) d least more in
    let a : get_or (rest ++ term ∷ []) k d ≡ get_or rest k d = get_or_append_left rest (term ∷ []) d k high in
    let b : get_or (rest ++ term ∷ []) (length rest) d ≡ term = get_or-append_seam rest term [] d in
    at_most_from_test term.word (get_or rest k d).word (ap₂ (λ (x : Term) (y : Term). is_before x.word y.word) (sym b) (sym a) ∙ far)

pub gathering_goes_on :
    (p : ℕ) (terms kept new left rest : List Term) (term : Term) → IsGathering p terms kept left → left ≡ rest ++ term ∷ []
    → Gathers p (pairs kept) (term.word, term.coef) (pairs new) → length new ≤ length kept + 1 → IsGathering p terms new rest
gathering_goes_on p terms kept new left rest term old is gathers count = go (let P : List Term → Type 0 = λ u. IsGathering p terms kept u in subst P is old)
  where
    go : IsGathering p terms kept (rest ++ term ∷ []) → IsGathering p terms new rest
    go old = record {
      reduced = gathers.reduced;
      alike = λ k. Alike-append same_word p (pairs new) (pairs kept ++ (term.word, term.coef) ∷ []) (pairs rest) (pairs rest) gathers.alike (λ k. refl) k
          ∙ (sym (Alike-swap same_word p (pairs kept) (pairs rest) ((term.word, term.coef) ∷ []) k)
          ∙ (ap (λ v. coefficient same_word (pairs kept ++ v) k % p) (sym (map-append (λ (t : Term). (t.word, t.coef)) rest (term ∷ []))) ∙ old.alike k));
      rising = rising_front rest term old.rising;
      above = λ k d l. above (slice_index_or rest k d) (below_last rest term old.rising k d l);
      residues = All-front (λ (t : Term). t.coef < p) rest term old.residues;
      count = let e : length (rest ++ term ∷ []) ≡ length rest + 1 = length-append rest (term ∷ []) in omega (arith, old.count);
    }
      where
        above : (s : Term) → IsAtMost s.word term.word → AtLeast s.word (pairs new)
        above s least = All-weaker (λ (t : Word × ℕ). IsAtMost term.word t.0) (λ (t : Word × ℕ). IsAtMost s.word t.0) (λ t h. at_most_trans s.word term.word t.0 least h) (pairs new) gathers.at_least
