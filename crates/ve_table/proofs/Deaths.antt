-- Deaths of entries, and the list of the vectors that stand for dead ids.
use Rattle.std.proofs.Common.{◌≡◌, ℕ, zero, suc, ◌+◌, ◌-◌, ◌<◌, ◌≤◌, not, false, Some, None, List, [], ◌∷◌, ◌++◌, length, get_or, refl, sym, ap, ap₂, ◌∙◌, arith, ne_eqb, Vec, Global}
use Rattle.std.specs.Prelude.{All, nat_eq}
use Rattle.std.specs.Option.{is_none, is_some}
use Rattle.std.specs.Vec.{vec_capacity}
use Rattle.std.proofs.Math.ListN.{set}
use Rattle.std.proofs.lemmas.List.{length-set, length_push, map-set, get_or_append_left, get_or_push}
use Rattle.std.proofs.lemmas.List.Elements.{All-head, All-tail, All-set}
use Rattle.std.proofs.lemmas.Option.{none-some}
use Rattle.ve_theory.specs.Answers.{Row}
use Rattle.ve_table.specs.declared.origin.Origin.TheVariants.{Root}
use Rattle.ve_table.specs.declared.entry.Entry.{Entry}
use Rattle.ve_table.specs.Deaths.{forward_of, forwards_of, KeepsForwards}

-- what a read past the entries gives
abbrev pub no_entry : Entry
no_entry = record { origin = Root 0; reach = 0; length = 0; death = 0 }

-- an id is live exactly where nothing stands for it

pub not_zero : (n : ℕ) → nat_eq (suc n) 0 ≡ false
not_zero n = ne_eqb (suc n) 0 (λ same. omega (arith, same))

pub live_death : (fs : List Row) (death : ℕ) → forward_of fs death ≡ None → death ≡ 0
live_death fs zero is = refl
live_death fs (suc place) is = absurd (none-some (get_or fs place []) (sym is))

pub is_none-forward : (fs : List Row) (death : ℕ) → is_none (forward_of fs death) ≡ nat_eq death 0
is_none-forward fs zero = refl
is_none-forward fs (suc place) = sym (not_zero place)

pub is_some-forward : (fs : List Row) (death : ℕ) → is_some (forward_of fs death) ≡ not (nat_eq death 0)
is_some-forward fs zero = refl
is_some-forward fs (suc place) = sym (ap not (not_zero place))

-- a further vector changes what stands for no other id

forward_stays : (fs : List Row) (v : Row) (death : ℕ) → death ≤ length fs → forward_of (fs ++ v ∷ []) death ≡ forward_of fs death
forward_stays fs v zero le = refl
forward_stays fs v (suc place) le = ap Some (get_or_append_left fs (v ∷ []) [] place (omega (arith, le)))

new_forward : (fs : List Row) (v : Row) (death : ℕ) → death ≡ suc (length fs) → forward_of (fs ++ v ∷ []) death ≡ Some v
new_forward fs v death is = ap (forward_of (fs ++ v ∷ [])) is ∙ ap Some (get_or_push fs v [] (length fs) refl)

forwards_stay : (fs : List Row) (v : Row) (es : List Entry) → All (λ (e : Entry). e.death ≤ length fs) es → forwards_of (fs ++ v ∷ []) es ≡ forwards_of fs es
forwards_stay fs v [] within = refl
forwards_stay fs v (e ∷ es) within =
    ap₂ (λ f l. f ∷ l) (forward_stays fs v e.death (All-head (λ (e : Entry). e.death ≤ length fs) e es within)) (forwards_stay fs v es (All-tail (λ (e : Entry). e.death ≤ length fs) e es within))

-- the death of one id
pub forwards_killed : (fs : List Row) (v : Row) (es : List Entry) (b : ℕ) (new : Entry) → All (λ (e : Entry). e.death ≤ length fs) es → new.death ≡ suc (length fs)
    → forwards_of (fs ++ v ∷ []) (set es b new) ≡ set (forwards_of fs es) b (Some v)
forwards_killed fs v es b new within death =
    map-set (λ (e : Entry). forward_of (fs ++ v ∷ []) e.death) es b new ∙ ap₂ (λ l f. set l b f) (forwards_stay fs v es within) (new_forward fs v new.death death)

pub keeps_killed : (es : List Entry) (live : ℕ) (old new : Vec Row Global) (b : ℕ) (v : Row) (e : Entry) → KeepsForwards es live old → 0 < live → new.items ≡ old.items ++ v ∷ [] → vec_capacity new ≡ vec_capacity old → e.death ≡ suc (length old.items)
    → KeepsForwards (set es b e) (live - 1) new
keeps_killed es live old new b v e keeps some items capacity death =
    let count : length new.items ≡ length old.items + 1 = ap length items ∙ length_push old.items v in
    record {
      deaths = All-set (λ (e : Entry). e.death ≤ length new.items) es b e (omega (arith, death, count)) (λ k d lt. let le = keeps.deaths k d lt in omega (arith, le, count));
      count = omega (arith, keeps.count, count, some, length-set es b e);
      room = omega (arith, keeps.room, capacity, length-set es b e);
    }

-- other lists of the same

pub keeps_as : (es us : List Entry) (live count : ℕ) (old new : Vec Row Global) → KeepsForwards es live old → us ≡ es → count ≡ live → new.items ≡ old.items → length es ≤ vec_capacity new → KeepsForwards us count new
keeps_as es us live count old new keeps entries same items room = record {
  deaths = λ k d lt.
      let le = keeps.deaths k d (omega (arith, lt, ap length entries)) in
      omega (arith, le, ap (λ (l : List Entry). (get_or l k d).death) entries, ap length items);
  count = omega (arith, keeps.count, same, ap length items, ap length entries);
  room = omega (arith, room, ap length entries);
}

-- no dead ids

pub keeps_live : (es : List Entry) (live : ℕ) (forwards : Vec Row Global) → All (λ (e : Entry). e.death ≡ 0) es → forwards.items ≡ [] → live ≡ length es → length es ≤ vec_capacity forwards → KeepsForwards es live forwards
keeps_live es live forwards all items count room = record {
  deaths = λ k d lt. let is = all k d lt in omega (arith, is);
  count = omega (arith, count, ap length items);
  room = room;
}

empty : {X : Type 0} (xs : List X) → length xs ≡ 0 → xs ≡ []
empty [] none = refl
empty (x ∷ xs) none = absurd (omega (arith, none))

pub no_forwards : (es : List Entry) (live : ℕ) (forwards : Vec Row Global) → KeepsForwards es live forwards → live ≡ length es → forwards.items ≡ []
no_forwards es live forwards keeps all = empty forwards.items (omega (arith, keeps.count, all))

pub no_deaths : (es : List Entry) (live : ℕ) (forwards : Vec Row Global) → KeepsForwards es live forwards → live ≡ length es → All (λ (e : Entry). e.death ≡ 0) es
no_deaths es live forwards keeps all k d lt = let le = keeps.deaths k d lt in omega (arith, le, keeps.count, all)
