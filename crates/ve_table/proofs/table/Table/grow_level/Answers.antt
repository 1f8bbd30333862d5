use Rattle.std.proofs.Common.{◌≡◌, ◌+◌, ◌*◌, ◌<◌, ◌^◌, ℕ, List, None, length, refl, sym, ap, ap₂, subst, ◌∙◌, arith}
use Rattle.std.specs.Prelude.{All, OnErr, Result, Ok, Err}
use Rattle.std.specs.Vec.{with_items}
use Rattle.std.proofs.lemmas.List.{with_items_is}
use Rattle.ve_theory.specs.Presentations.{letter_count}
use Rattle.ve_theory.specs.Laws.{HasBounds}
use Rattle.ve_table.specs.declared.birth.Birth.{Birth}
use Rattle.ve_table.specs.Sound.{IsSound}
use Rattle.ve_table.specs.Changes.{Grows, next_count}
use Rattle.ve_table.specs.Kept.{table_of}
use Rattle.ve_table.specs.Births.{IsWeightedBook}
use Rattle.ve_table.specs.Rows.{AreBounds, with_births_from}
use Rattle.ve_table.specs.declared.entry.Entry.{Entry}
use Rattle.ve_table.specs.Growth.{CanDefine}
use Rattle.ve_table.specs.Steps.{HasRisingReaches}
use Rattle.ve_table.proofs.Entries.{tabled, one_entry_each}
use Rattle.ve_table.proofs.NextLevel.{with_births}
use Rattle.ve_table.proofs.Growing.{after_births, count_born, count_with_births, units_as}
use Rattle.ve_table.proofs.Grown.{weighted_book, same_view, kept_with_room, HasPlaces, few_taken, places_taken, IsStep, step_is, places_fit, can_define, ids_fit, step_view, step_sound, step_rises, step_grows, step_kept, all_words_live}
use Rattle.ve_table.proofs.table.Table.grow_level.Goals as goal

pub births-requires-clause-book : goal.births-requires-clause-book
births-requires-clause-book c =
    subst (λ w. IsWeightedBook w c.deref.result.now) (sym (c.deref-2.ensures.value ∙ c.weights.ensures))
    (subst (λ l. IsWeightedBook c.self.inside.presentation.presentation.weights l) (sym c.deref.ensures.value) (weighted_book c.self.inside c.self.invariant))

-- where room is missing

room_view : (c : goal.After-drop-births-in_err-take_places) → tabled c.self.inside.presentation c.self.inside.level c.self.inside.images.items c.self.inside.bounds.items c.take_places.new.rows.items c.self.inside.forwards.items c.reserve.new.self.items ≡ table_of c.self.inside
room_view c =
    ap (λ l. tabled c.self.inside.presentation c.self.inside.level c.self.inside.images.items c.self.inside.bounds.items c.take_places.new.rows.items c.self.inside.forwards.items l) c.reserve.ensures.items
    ∙ same_view c.self.inside c.self.invariant c.take_places.new.rows.items c.take_places.ensures.same

pub invariant_of-self : goal.invariant_of-self
invariant_of-self c =
    kept_with_room c.self.inside _ c.self.invariant c.self.invariant.few_places (omega arith) (λ k. refl) refl c.reserve.ensures.items refl
    (ap (λ l. tabled c.self.inside.presentation c.self.inside.level c.self.inside.images.items c.self.inside.bounds.items c.self.inside.rows.items c.self.inside.forwards.items l) c.reserve.ensures.items) refl refl
    c.self.invariant.own_forwards.room c.self.invariant.own_reaches

pub invariant_of-self-in_err-take_places : goal.invariant_of-self-in_err-take_places
invariant_of-self-in_err-take_places c =
    kept_with_room c.self.inside _ c.self.invariant
    (few_taken c.self.inside c.self.invariant c.len-ids.result c.len-letters.result (c.len-ids.ensures ∙ c.self.inside.entries.ok.0) (c.len-letters.ensures ∙ c.weights-2.result.now.ok.0 ∙ ap length c.weights-2.ensures) c.take_places.new.rows.items c.take_places.ensures.within c.take_places.ensures.same)
    c.take_places.ensures.kept c.take_places.ensures.same refl c.reserve.ensures.items refl (room_view c) refl refl c.self.invariant.own_forwards.room c.self.invariant.own_reaches

on_err : {T E P : Type 0} (r : Result T E) → P → OnErr r P
on_err (Ok x) p = tt
on_err (Err e) p = p

pub returns-in_err-take_places-clause-err : goal.returns-in_err-take_places-clause-err
returns-in_err-take_places-clause-err c = on_err c.from_residual-in_err-take_places.result (room_view c ∙ c.self.view_is)

pub returns-in_err-take_places-clause-sound : goal.returns-in_err-take_places-clause-sound
returns-in_err-take_places-clause-sound c = subst IsSound (sym (room_view c)) c.self.invariant.sound

-- where there is room

step_units : (c : goal.After-deref-3) → IsStep c.self.inside c.in_ok-births.births.items
step_units c =
    step_is c.self.inside c.deref-2.result.now c.deref.result.now c.in_ok-births.births.items c.self.invariant
    (subst (λ T. All (λ f. f ≡ None) T.forwards) (sym c.self.view_is) c.requires.live) (c.deref-2.ensures.value ∙ c.weights.ensures) c.deref.ensures.value c.in_ok-births.ensures

places_units : (c : goal.After-deref-3) → HasPlaces c.self.inside c.take_places.new.rows.items
places_units c =
    places_taken c.self.inside c.self.invariant c.len-ids.result c.len-letters.result (c.len-ids.ensures ∙ c.self.inside.entries.ok.0) (c.len-letters.ensures ∙ c.weights-2.result.now.ok.0 ∙ ap length c.weights-2.ensures) c.take_places.new.rows.items c.take_places.ensures.within c.take_places.ensures.same
    c.in_ok-take_places.ensures.ok

pub set_units-requires-clause-places : goal.set_units-requires-clause-places
set_units-requires-clause-places c =
    let n : ℕ = letter_count c.self.inside.presentation.presentation in
    let letters : n ≡ c.len-letters.result = sym (c.len-letters.ensures ∙ c.weights-2.result.now.ok.0 ∙ ap length c.weights-2.ensures ∙ c.self.invariant.sound.valid.presentation.one_weight_each) in
    subst (λ l. All (λ (b : Birth). b.parent * c.len-letters.result + b.letter < length c.as_mut_slice.result.now) l) (sym c.deref-3.ensures.value)
    (subst (λ l. All (λ (b : Birth). b.parent * c.len-letters.result + b.letter < length l) c.in_ok-births.births.items) (sym c.as_mut_slice.ensures.value)
    (subst (λ m. All (λ (b : Birth). b.parent * m + b.letter < length c.take_places.new.rows.items) c.in_ok-births.births.items) letters
    (places_fit c.self.inside c.in_ok-births.births.items (step_units c) c.take_places.new.rows.items (places_units c))))

pub set_units-requires-clause-ids : goal.set_units-requires-clause-ids
set_units-requires-clause-ids c =
    let fewer : next_count (table_of c.self.inside) < 2 ^ 32 = subst (λ T. next_count T < 2 ^ 32) (sym c.self.view_is) c.requires.ids in
    omega (arith, ids_fit c.self.inside c.in_ok-births.births.items (step_units c), fewer, ap length c.deref-3.ensures.value, c.len-ids.ensures, c.self.inside.entries.ok.0)

step_entries : (c : goal.After-deref-4) → IsStep c.self.inside c.in_ok-births.births.items
step_entries c =
    step_is c.self.inside c.deref-2.result.now c.deref.result.now c.in_ok-births.births.items c.self.invariant
    (subst (λ T. All (λ f. f ≡ None) T.forwards) (sym c.self.view_is) c.requires.live) (c.deref-2.ensures.value ∙ c.weights.ensures) c.deref.ensures.value c.in_ok-births.ensures

pub add_entries-requires-clause-births : goal.add_entries-requires-clause-births
add_entries-requires-clause-births c =
    let short : c.self.inside.level + 1 < 2 ^ 32 = subst (λ T. T.level + 1 < 2 ^ 32) (sym c.self.view_is) c.requires.level in
    subst (λ l. All (CanDefine c.reserve.new.self.items) l) (sym c.deref-4.ensures.value)
    (subst (λ es. All (CanDefine es) c.in_ok-births.births.items) (sym c.reserve.ensures.items) (can_define c.self.inside c.in_ok-births.births.items (step_entries c) short))

-- what bounds ask for

step_bounded : (c : goal.After-deref-6) → IsStep c.self.inside c.in_ok-births.births.items
step_bounded c =
    step_is c.self.inside c.deref-2.result.now c.deref.result.now c.in_ok-births.births.items c.self.invariant
    (subst (λ T. All (λ f. f ≡ None) T.forwards) (sym c.self.view_is) c.requires.live) (c.deref-2.ensures.value ∙ c.weights.ensures) c.deref.ensures.value c.in_ok-births.ensures

entries_bounded : (c : goal.After-deref-6) → c.deref-5.result.now ≡ after_births (c.self.inside.level + 1) c.in_ok-births.births.items c.self.inside.entries.items
entries_bounded c = c.deref-5.ensures.value ∙ c.add_entries.ensures ∙ ap₂ (λ es l. after_births (c.self.inside.level + 1) l es) c.reserve.ensures.items c.deref-4.ensures.value

pub set_bounds-requires-clause-rising : goal.set_bounds-requires-clause-rising
set_bounds-requires-clause-rising c =
    subst HasRisingReaches (sym (entries_bounded c))
    (step_rises c.self.inside c.in_ok-births.births.items (step_bounded c) c.levels_grow.ensures (c.reaches_are_bounded.ensures c.self.inside.presentation.presentation c.self.invariant.sound.valid.presentation))

pub set_bounds-requires-clause-count : goal.set_bounds-requires-clause-count
set_bounds-requires-clause-count c =
    let fewer : next_count (table_of c.self.inside) < 2 ^ 32 = subst (λ T. next_count T < 2 ^ 32) (sym c.self.view_is) c.requires.ids in
    omega (arith, ap length (entries_bounded c), count_born (c.self.inside.level + 1) c.in_ok-births.births.items c.self.inside.entries.items, ids_fit c.self.inside c.in_ok-births.births.items (step_bounded c), fewer)

step_counted : (c : goal.After-len-3) → IsStep c.self.inside c.in_ok-births.births.items
step_counted c =
    step_is c.self.inside c.deref-2.result.now c.deref.result.now c.in_ok-births.births.items c.self.invariant
    (subst (λ T. All (λ f. f ≡ None) T.forwards) (sym c.self.view_is) c.requires.live) (c.deref-2.ensures.value ∙ c.weights.ensures) c.deref.ensures.value c.in_ok-births.ensures

pub overflow_cast-self : goal.overflow_cast-self
overflow_cast-self c =
    let fewer : next_count (table_of c.self.inside) < 2 ^ 32 = subst (λ T. next_count T < 2 ^ 32) (sym c.self.view_is) c.requires.ids in
    omega (arith, ids_fit c.self.inside c.in_ok-births.births.items (step_counted c), fewer, c.len-3.ensures, c.in_ok-births.births.ok.0)

pub overflow_add-self : goal.overflow_add-self
overflow_add-self c =
    let fewer : next_count (table_of c.self.inside) < 2 ^ 32 = subst (λ T. next_count T < 2 ^ 32) (sym c.self.view_is) c.requires.ids in
    let all : c.self.inside.live ≡ length (table_of c.self.inside).words = c.self.invariant.live_count ∙ ap length (all_words_live c.self.inside c.self.invariant (step_counted c).live) in
    omega (arith, ids_fit c.self.inside c.in_ok-births.births.items (step_counted c), fewer, c.len-3.ensures, c.in_ok-births.births.ok.0, all, one_entry_each c.self.inside c.self.invariant)

-- after the step

step : (c : goal.After-drop-births-2) → IsStep c.self.inside c.in_ok-births.births.items
step c =
    step_is c.self.inside c.deref-2.result.now c.deref.result.now c.in_ok-births.births.items c.self.invariant
    (subst (λ T. All (λ f. f ≡ None) T.forwards) (sym c.self.view_is) c.requires.live) (c.deref-2.ensures.value ∙ c.weights.ensures) c.deref.ensures.value c.in_ok-births.ensures

places : (c : goal.After-drop-births-2) → HasPlaces c.self.inside c.take_places.new.rows.items
places c =
    places_taken c.self.inside c.self.invariant c.len-ids.result c.len-letters.result (c.len-ids.ensures ∙ c.self.inside.entries.ok.0) (c.len-letters.ensures ∙ c.weights-2.result.now.ok.0 ∙ ap length c.weights-2.ensures) c.take_places.new.rows.items c.take_places.ensures.within c.take_places.ensures.same
    c.in_ok-take_places.ensures.ok

units_are : (c : goal.After-drop-births-2) →
    (with_items c.take_places.new.rows c.set_units.new.rows).items
    ≡ with_births_from (letter_count c.self.inside.presentation.presentation) (length c.self.inside.entries.items) c.take_places.new.rows.items c.in_ok-births.births.items
units_are c =
    let is = c.set_units.ensures in
    let count = ap length is ∙ count_with_births c.len-letters.result c.len-ids.result c.as_mut_slice.result.now c.deref-3.result.now ∙ c.as_mut_slice.ensures.len in
    with_items_is c.take_places.new.rows c.set_units.new.rows count
    ∙ units_as (letter_count c.self.inside.presentation.presentation) c.len-letters.result c.len-ids.result (length c.self.inside.entries.items) c.as_mut_slice.result.now c.take_places.new.rows.items c.set_units.new.rows
    c.deref-3.result.now c.in_ok-births.births.items (c.len-letters.ensures ∙ c.weights-2.result.now.ok.0 ∙ ap length c.weights-2.ensures ∙ c.self.invariant.sound.valid.presentation.one_weight_each) (c.len-ids.ensures ∙ c.self.inside.entries.ok.0) c.as_mut_slice.ensures.value c.deref-3.ensures.value is

entries_are : (c : goal.After-drop-births-2) → c.add_entries.new.entries.items ≡ after_births (c.self.inside.level + 1) c.in_ok-births.births.items c.self.inside.entries.items
entries_are c = c.add_entries.ensures ∙ ap₂ (λ es l. after_births (c.self.inside.level + 1) l es) c.reserve.ensures.items c.deref-4.ensures.value

bounds : (c : goal.After-drop-births-2) → HasBounds c.self.inside.presentation.presentation
bounds c = c.reaches_are_bounded.ensures c.self.inside.presentation.presentation c.self.invariant.sound.valid.presentation

news_are : (c : goal.After-drop-births-2) →
    AreBounds c.self.inside.presentation.presentation.weights (c.self.inside.level + 1) (after_births (c.self.inside.level + 1) c.in_ok-births.births.items c.self.inside.entries.items) (with_items c.self.inside.bounds c.set_bounds.new.bounds).items
news_are c =
    let W : List ℕ = c.self.inside.presentation.presentation.weights in
    let es : List Entry = after_births (c.self.inside.level + 1) c.in_ok-births.births.items c.self.inside.entries.items in
    let is : AreBounds W (c.self.inside.level + 1) es c.set_bounds.new.bounds =
    subst (λ w. AreBounds w (c.self.inside.level + 1) es c.set_bounds.new.bounds) (c.deref-6.ensures.value ∙ c.weights-3.ensures)
    (subst (λ l. AreBounds c.deref-6.result.now (c.self.inside.level + 1) l c.set_bounds.new.bounds) (c.deref-5.ensures.value ∙ entries_are c) c.set_bounds.ensures) in
    subst (AreBounds W (c.self.inside.level + 1) es)
    (sym (with_items_is c.self.inside.bounds c.set_bounds.new.bounds (is.count ∙ c.self.invariant.sound.valid.presentation.one_weight_each ∙ sym c.self.invariant.one_bound_each ∙ sym c.self.inside.bounds.ok.0))) is

view : (c : goal.After-drop-births-2) →
    tabled c.self.inside.presentation (c.self.inside.level + 1) c.self.inside.images.items (with_items c.self.inside.bounds c.set_bounds.new.bounds).items (with_items c.take_places.new.rows c.set_units.new.rows).items c.in_ok-forwards.forwards.items c.add_entries.new.entries.items
    ≡ with_births (table_of c.self.inside) c.in_ok-births.births.items
view c =
    step_view c.self.inside c.in_ok-births.births.items (step c) c.levels_grow.ensures (bounds c) (with_items c.self.inside.bounds c.set_bounds.new.bounds).items (news_are c) c.take_places.new.rows.items (places c)
    (with_items c.take_places.new.rows c.set_units.new.rows).items c.in_ok-forwards.forwards.items c.add_entries.new.entries.items (units_are c) c.in_ok-forwards.ensures.items (entries_are c)

pub returns-clause-ok : goal.returns-clause-ok
returns-clause-ok c =
    subst (λ U. Grows c.args.self.now U) (sym (view c))
    (subst (λ T. Grows T (with_births (table_of c.self.inside) c.in_ok-births.births.items)) c.self.view_is (step_grows c.self.inside c.in_ok-births.births.items (step c)))

pub returns-clause-sound : goal.returns-clause-sound
returns-clause-sound c = subst IsSound (sym (view c)) (step_sound c.self.inside c.in_ok-births.births.items (step c) c.levels_grow.ensures (bounds c))

pub invariant_of-self-2 : goal.invariant_of-self-2
invariant_of-self-2 c =
    step_kept c.self.inside c.in_ok-births.births.items (step c) c.levels_grow.ensures (bounds c) (with_items c.self.inside.bounds c.set_bounds.new.bounds).items (news_are c) c.take_places.new.rows.items (places c) _
    (subst (λ T. next_count T < 2 ^ 32) (sym c.self.view_is) c.requires.ids) (units_are c) refl (entries_are c) (view c) refl (ap (λ n. c.self.inside.live + n) (c.len-3.ensures ∙ c.in_ok-births.births.ok.0)) c.in_ok-forwards.ensures.items
    (c.in_ok-forwards.ensures.exact ∙ ap₂ (λ m n. m + n) (c.len-ids.ensures ∙ c.self.inside.entries.ok.0) (c.len.ensures ∙ c.in_ok-births.births.ok.0)) refl
