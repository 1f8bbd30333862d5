-- Names that can't be added.
use Rattle.std.proofs.Common.{◌≡◌, ℕ, ◌+◌, ◌<◌, ◌↔◌, true≢false, List, [], ◌∷◌, ◌++◌, length, get_or, Some, Result, Err, Contains, length-append, arith, refl, sym, ◌∙◌, suc, Bor, take, drop, map, ap, subst}
use Rattle.std.specs.Prelude.{IsTrue, IsFalse, IsErrOf, slice_get}
use Rattle.std.proofs.lemmas.List.{get_or_append_left, get_or-append-add, map-append, take-append-drop}
use Rattle.std.proofs.lemmas.List.Elements.{All-contains, Contains-append_right}
use Rattle.std.proofs.lemmas.Option.{slice_get_within, get_or_from_slice_get}
use Rattle.ve_theory.specs.Validity.{is_name, is_rooted, most_letters}
use Rattle.ve_formats.specs.AnswerReading.{AreNames}
use Rattle.ve_word.specs.declared.names.NameFault.{NameFault}
use Rattle.ve_word.specs.declared.names.NameFault.TheVariants.{Rooted, Taken, Full, Memory}
use Rattle.std.proofs.Math.Seq.{drop-cons}

-- a name among names that letters have has their form
pub formed_among : (names : List (List ℕ)) (name : List ℕ) (behind : List (List ℕ)) → AreNames (names ++ name ∷ behind) → IsTrue (is_name name) × IsFalse (is_rooted name)
formed_among names name behind are =
    All-contains (λ (n : List ℕ). IsTrue (is_name n) × IsFalse (is_rooted n)) (names ++ name ∷ behind) name are.formed
    (Contains-append_right names (name ∷ behind) name (0, omega arith, refl))

-- bytes that aren't a name are none of them
pub formless : (names : List (List ℕ)) (bytes : List ℕ) (behind : List (List ℕ)) → IsFalse (is_name bytes) → AreNames (names ++ bytes ∷ behind) → ⊥
formless names bytes behind none are = true≢false (sym (formed_among names bytes behind are).0 ∙ none)

module _ (names : List (List ℕ)) (name : List ℕ) (result : Result ℕ NameFault)
    (rooted : IsErrOf result Rooted ↔ IsTrue (is_rooted name))
    (taken : (letter : ℕ) → IsErrOf result (Taken letter) ↔ (slice_get names letter ≡ Some name))
    (full : IsErrOf result Full ↔ (IsFalse (is_rooted name) × (¬ Contains names name) × (length names ≡ most_letters))) where
  -- a name that was refused can't follow these, whatever comes behind it
  pub unfit : (fault : NameFault) → result ≡ Err fault → (fault ≡ Memory → ⊥) → (behind : List (List ℕ)) → AreNames (names ++ name ∷ behind) → ⊥
  unfit Rooted is other behind are = true≢false (sym (rooted.0 is) ∙ (formed_among names name behind are).1)
  unfit (Taken letter) is other behind are =
      let at : slice_get names letter ≡ Some name = (taken letter).0 is in
      let within : letter < length names = slice_get_within names letter name at in
      let first : get_or (names ++ name ∷ behind) letter [] ≡ name = get_or_append_left names (name ∷ behind) [] letter within ∙ get_or_from_slice_get names letter name [] at in
      let second : get_or (names ++ name ∷ behind) (length names + 0) [] ≡ name = get_or-append-add names (name ∷ behind) 0 [] in
      are.distinct letter (length names + 0) [] (omega arith) (omega (arith, length-append names (name ∷ behind))) (first ∙ sym second)
  unfit Full is other behind are = let many = (full.0 is).2 in let few = are.few in absurd (omega (arith, many, few, length-append names (name ∷ behind)))
  unfit Memory is other behind are = other refl

-- ---- in a line of names

abbrev pub texts_of : List (Bor (List ℕ)) → List (List ℕ)
texts_of pieces = map (λ piece. piece.now) pieces

names_around : (pieces : List (Bor (List ℕ))) (at : ℕ) (d : Bor (List ℕ)) → at < length pieces
    → texts_of pieces ≡ texts_of (take at pieces) ++ (get_or pieces at d).now ∷ texts_of (drop (suc at) pieces)
names_around pieces at d within =
    sym (ap texts_of (take-append-drop at pieces))
    ∙ map-append (λ piece. piece.now) (take at pieces) (drop at pieces)
    ∙ ap (λ ps. texts_of (take at pieces) ++ texts_of ps) (drop-cons pieces at d within)

-- names that the next piece can't follow, whatever comes behind it
pub no_names_with : (pieces : List (Bor (List ℕ))) (at : ℕ) (d : Bor (List ℕ)) (names : List (List ℕ)) → at < length pieces → names ≡ texts_of (take at pieces)
    → ((behind : List (List ℕ)) → AreNames (names ++ (get_or pieces at d).now ∷ behind) → ⊥) → AreNames (texts_of pieces) → ⊥
no_names_with pieces at d names within so_far refused are =
    refused (texts_of (drop (suc at) pieces))
    (subst AreNames (names_around pieces at d within ∙ ap (λ front. front ++ (get_or pieces at d).now ∷ texts_of (drop (suc at) pieces)) (sym so_far)) are)
