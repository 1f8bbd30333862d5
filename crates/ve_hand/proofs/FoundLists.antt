-- What was found for ids, as the program keeps it and as contracts see it.
use Rattle.std.proofs.Common.{◌≡◌, ℕ, ◌+◌, ◌<◌, None, Some, List, [], ◌∷◌, ◌++◌, All, Bool, Contains, IsTrue, length, map, take, sym, ap, ap₂, subst, ◌∙◌, arith}
use Rattle.std.specs.Prelude.{◌↔◌, Any, Option, Vec, slice_get, slice_index_or}
use Rattle.std.specs.Global.{Global}
use Rattle.std.proofs.lemmas.List.{get_or-map, get_or_default, length-map, map_push}
use Rattle.std.proofs.lemmas.List.Elements.{All-map}
use Rattle.ve_lemmas.proofs.Lists.{Contains-map}
use Rattle.ve_theory.specs.Answers.{Row}
use Rattle.ve_machine.specs.Seats.{State}
use Rattle.ve_machine.specs.Hands.{Found as SeatFound, forward_found}
use Rattle.ve_machine.specs.HandSteps.{HasForwards, IsRowFound, found_at, found_for}
use Rattle.ve_machine.specs.Allowed.{HasReadForwards, HasReadRows}
use Rattle.ve_hand.specs.declared.found.Found.{Found}
use Rattle.ve_hand.specs.declared.found.Found.TheVariants.{Forward, Nothing, Row as RowRead}
use Rattle.ve_hand.specs.Views.{IsForwardFound, found_of, founds_of}
use Rattle.ve_hand.proofs.Summing.{taken_more}

pub any_forward : (founds : List Found) → Any (λ found. IsForwardFound (found_of found)) founds → HasForwards (map found_of founds)
any_forward founds any = named any.1 any.4 (Contains-map found_of founds any.1 (any.0, any.2, any.3))
  where
    named : (found : Found) → IsForwardFound (found_of found) → Contains (map found_of founds) (found_of found) → HasForwards (map found_of founds)
    named (RowRead row) is contains = absurd is
    named (Forward forward) is contains = (forward, contains)
    named Nothing is contains = absurd is

pub forward_any : (founds : List Found) → HasForwards (map found_of founds) → Any (λ found. IsForwardFound (found_of found)) founds
forward_any founds has =
    let at : ℕ = has.1.0 in
    let within : at < length founds = omega (arith, has.1.1, length-map founds found_of) in
    let here : Found = slice_index_or founds at (Forward has.0) in (
      at,
      here,
      within,
      get_or_default founds at here (Forward has.0) within,
      subst IsForwardFound (sym has.1.2 ∙ get_or-map found_of founds at (Forward has.0) (forward_found has.0) within) tt,
    )

pub all_rows : (founds : List Found) → All (λ found. IsRowFound (found_of found)) founds → All IsRowFound (map found_of founds)
all_rows founds all = All-map IsRowFound found_of founds all

pub rows_all : (founds : List Found) → All IsRowFound (map found_of founds) → All (λ found. IsRowFound (found_of found)) founds
rows_all founds all at d within =
    subst IsRowFound (get_or-map found_of founds at d (found_of d) within) (all at (found_of d) (omega (arith, within, length-map founds found_of)))

-- the same of the list that a test looked at

pub forwards_told : (told : Bool) (o : Option (Vec Found Global)) (founds : Vec Found Global) (items : List Found) → o ≡ Some founds → items ≡ founds.items
    → (IsTrue told ↔ Any (λ found. IsForwardFound (found_of found)) items) → (IsTrue told ↔ HasReadForwards (founds_of o))
forwards_told told o founds items is same answer =
    rw is (λ yes. any_forward founds.items (rw same at (answer.0 yes)), λ has. answer.1 (rw same (forward_any founds.items has)))

pub rows_told : (told : Bool) (o : Option (Vec Found Global)) (founds : Vec Found Global) (items : List Found) → o ≡ Some founds → items ≡ founds.items
    → (IsTrue told ↔ All (λ found. IsRowFound (found_of found)) items) → (IsTrue told ↔ HasReadRows (founds_of o))
rows_told told o founds items is same answer =
    rw is (λ yes. all_rows founds.items (rw same at (answer.0 yes)), λ all. answer.1 (rw same (rows_all founds.items all)))

-- one more is read

pub founds_more : (S : State) (left : List ℕ) (v : Row) (at : ℕ) (t : ℕ × ℕ) → slice_get v at ≡ Some t
    → found_for S left (take (at + 1) v) ≡ found_for S left (take at v) ++ found_at S left t.0 (slice_index_or S.forwards t.0 None) ∷ []
founds_more S left v at t found =
    ap (found_for S left) (taken_more v at t found) ∙ map_push (λ (s : ℕ × ℕ). found_at S left s.0 (slice_index_or S.forwards s.0 None)) (take at v) t

pub look_up_more : (S : State) (left : List ℕ) (v : Row) (at : ℕ) (t : ℕ × ℕ) (founds : List Found) (found : Found) → slice_get v at ≡ Some t
    → map found_of founds ≡ found_for S left (take at v) → found_of found ≡ found_at S left t.0 (slice_index_or S.forwards t.0 None)
    → map found_of (founds ++ found ∷ []) ≡ found_for S left (take (at + 1) v)
look_up_more S left v at t founds found is so_far same =
    map_push found_of founds found ∙ ap₂ (λ (front : List SeatFound) (last : SeatFound). front ++ last ∷ []) so_far same ∙ sym (founds_more S left v at t is)
