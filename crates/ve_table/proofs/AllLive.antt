-- Tables without dead ids.
use Rattle.std.proofs.Common.{◌≡◌, ℕ, ◌<◌, ◌+◌, not, inl, inr, true, false, cond, ltb, ap₂, Some, None, List, [], ◌∷◌, length, get_or, refl, sym, ap, ◌∙◌, arith}
use Rattle.std.specs.Prelude.{Option, All, nat_lt, position, slice_get}
use Rattle.std.specs.Option.{is_none, is_some}
use Rattle.std.specs.List.{position_or_len}
use Rattle.std.proofs.lemmas.Bool.{cases_Bool, cond-true, ltb-false}
use Rattle.std.proofs.lemmas.List.Quantifiers.{position-Some}
use Rattle.std.proofs.lemmas.Option.{slice_get-get_or}
use Rattle.std.proofs.lemmas.List.{length-map}
use Rattle.std.proofs.lemmas.List.Elements.{All-nil, All-cons}
use Rattle.std.proofs.lemmas.List.Sums.{count_by-le-length, fails_before_first}
use Rattle.ve_theory.specs.Answers.{Row}
use Rattle.ve_table.specs.Tables.{ActionTable, live_words}
use Rattle.ve_table.specs.declared.entry.Entry.{Entry}
use Rattle.ve_table.specs.Deaths.{is_dead_entry, forward_of, forwards_of}
use Rattle.ve_table.proofs.Deaths.{is_some-forward}
use Rattle.ve_table.specs.Sound.{IsSound}
use Rattle.ve_table.proofs.Dropping.{live_count}
use Rattle.ve_table.proofs.LiveIds.{alive, alive-none, alive-some}

not_some : (f : Option Row) → is_some f ≡ false → f ≡ None
not_some None is = refl
not_some (Some v) is = absurd (let bad : true ≡ false = is in cc)

some_of : (f : Option Row) → is_some f ≡ true → (v : Row) × (f ≡ Some v)
some_of None is = absurd (let bad : false ≡ true = is in cc)
some_of (Some v) is = (v, refl)

all_none : (fs : List (Option Row)) → alive fs ≡ length fs → All (λ f. f ≡ None) fs
all_none [] is = All-nil (λ (f : Option Row). f ≡ None)
all_none (None ∷ fs) is = All-cons (λ (f : Option Row). f ≡ None) None fs refl (all_none fs (omega (arith, is, alive-none fs)))
all_none (Some v ∷ fs) is = absurd (omega (arith, is, alive-some v fs, count_by-le-length is_none fs))

pub none_dead : (T : ActionTable) → IsSound T → length (live_words T) ≡ length T.words → All (λ f. f ≡ None) T.forwards
none_dead T sound is = all_none T.forwards (sym (live_count T sound.one_forward_each) ∙ is ∙ sym sound.one_forward_each)

-- the first dead id

pub none_first : (fs : List (Option Row)) → position is_some fs ≡ None → All (λ f. f ≡ None) fs
none_first fs is k d lt =
    elim (cases_Bool (nat_lt (position_or_len is_some fs) (length fs))) [
      | inl before ↦ absurd (let there : position is_some fs ≡ Some (position_or_len is_some fs) = cond-true _ _ _ before in cc)
      | inr past ↦ not_some (get_or fs k d) (fails_before_first is_some fs k d (omega (arith, lt, ltb-false _ _ past)))
    ]

pub dead_first : (fs : List (Option Row)) (i : ℕ) → position is_some fs ≡ Some i → (v : Row) × (slice_get fs i ≡ Some (Some v))
dead_first fs i found =
    let at = position-Some is_some fs i None found in
    let there = some_of (get_or fs i None) at.1 in
    (there.0, slice_get-get_or fs i None at.0 ∙ ap Some there.1)

pub live_before : (fs : List (Option Row)) (i b : ℕ) → position is_some fs ≡ Some i → b < i → slice_get fs b ≡ Some None
live_before fs i b found lt =
    let at = position-Some is_some fs i None found in
    slice_get-get_or fs b None (omega (arith, lt, at.0)) ∙ ap Some (not_some (get_or fs b None) (at.2 b lt))

first_from : (fs : List Row) (es : List Entry) → position_or_len is_dead_entry es ≡ position_or_len is_some (forwards_of fs es)
first_from fs [] = refl
first_from fs (e ∷ es) = ap₂ (λ b n. cond (not b) (1 + n) 0) (sym (is_some-forward fs e.death)) (first_from fs es)

pub first_is : (fs : List Row) (entries es : List Entry) (first : Option ℕ) → entries ≡ es → first ≡ position is_dead_entry entries → first ≡ position is_some (forwards_of fs es)
first_is fs entries es first same is =
    is ∙ ap (position is_dead_entry) same
    ∙ ap₂ (λ n m. cond (ltb n m) (Some n) None) (first_from fs es) (sym (length-map es (λ (e : Entry). forward_of fs e.death)))
