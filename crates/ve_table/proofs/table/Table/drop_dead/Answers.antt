use Rattle.std.proofs.Common.{◌≡◌, ℕ, ◌<◌, ◌≤◌, ◌*◌, Some, None, get_or, [], List, length, map, refl, sym, ap, ap₂, subst, ◌∙◌, arith}
use Rattle.std.specs.Prelude.{All, filter, min}
use Rattle.std.specs.Vec.{vec_capacity, with_items}
use Rattle.std.specs.List.{AllWithin}
use Rattle.std.proofs.lemmas.List.{with_items_is, length-map}
use Rattle.ve_theory.specs.Presentations.{letter_count}
use Rattle.ve_theory.specs.Answers.{Row}
use Rattle.ve_vec.specs.Vectors.{numbered}
use Rattle.ve_table.specs.declared.entry.Entry.{Entry}
use Rattle.ve_table.specs.Sound.{IsSound, NamesLiveIds}
use Rattle.ve_table.specs.Changes.{without_dead}
use Rattle.ve_table.specs.Tables.{ActionTable, row_at}
use Rattle.ve_table.specs.Kept.{table_of}
use Rattle.ve_table.specs.Rows.{AreBounds, AreLiveRows}
use Rattle.ve_table.specs.Steps.{HasRisingReaches}
use Rattle.ve_table.specs.Numbers.{new_numbers, CanNumber, CanNumberEntry, IsNumbered}
use Rattle.ve_table.specs.Deaths.{is_live_entry}
use Rattle.ve_table.proofs.Entries.{tabled}
use Rattle.ve_table.proofs.Dropping.{sound_dropped}
use Rattle.ve_table.proofs.NothingDead.{nothing_dropped}
use Rattle.ve_table.proofs.Opening.{all_live}
use Rattle.ve_table.proofs.Unmoved.{ids_live, number_stays, places_below, entries_live, dead_within, entries_stay}
use Rattle.ve_table.proofs.Renumbering.{can_number_entries, can_number_rows, can_number_images, renumbered_rows, live_rows, AreDropped, dropped_entries, entries_within, dropped_view, dropped_rises, kept_dropped}
use Rattle.ve_table.proofs.table.Table.drop_dead.Goals as goal

pub returns-in_default-clause-ok : goal.returns-in_default-clause-ok
returns-in_default-clause-ok c =
    let none : All (λ f. f ≡ None) (table_of c.self.inside).forwards = subst (λ (T : ActionTable). All (λ f. f ≡ None) T.forwards) (sym c.self.view_is) c.in_default.ensures.none in
    rw (← c.self.view_is) (sym (nothing_dropped (table_of c.self.inside) c.self.invariant.sound (ap length (all_live (table_of c.self.inside).forwards (table_of c.self.inside).words none c.self.invariant.sound.one_forward_each))))

pub new_numbers-requires-clause-live : goal.new_numbers-requires-clause-live
new_numbers-requires-clause-live c = entries_live c.self.inside c.self.invariant c.in-Some.least (ids_live c.self.inside c.args.self.now c.in-Some.least c.self.view_is c.in-Some.ensures.least)

pub keep_live_rows-requires-clause-bound : goal.keep_live_rows-requires-clause-bound
keep_live_rows-requires-clause-bound c = omega (arith, ap length c.deref.ensures.value, dead_within c.self.inside c.self.invariant c.args.self.now c.in-Some.least c.self.view_is c.in-Some.ensures.dead)

pub keep_live_rows-requires-clause-live : goal.keep_live_rows-requires-clause-live
keep_live_rows-requires-clause-live c =
    subst (λ l. AllWithin (λ (e : Entry). e.death ≡ 0) l 0 c.in-Some.least) (sym c.deref.ensures.value)
    (entries_live c.self.inside c.self.invariant c.in-Some.least (ids_live c.self.inside c.args.self.now c.in-Some.least c.self.view_is c.in-Some.ensures.least))

pub drop_dead_entries-requires-clause-bound : goal.drop_dead_entries-requires-clause-bound
drop_dead_entries-requires-clause-bound c = dead_within c.self.inside c.self.invariant c.args.self.now c.in-Some.least c.self.view_is c.in-Some.ensures.dead

pub drop_dead_entries-requires-clause-live : goal.drop_dead_entries-requires-clause-live
drop_dead_entries-requires-clause-live c = entries_live c.self.inside c.self.invariant c.in-Some.least (ids_live c.self.inside c.args.self.now c.in-Some.least c.self.view_is c.in-Some.ensures.least)

pub renumber_entries-requires-clause-parents : goal.renumber_entries-requires-clause-parents
renumber_entries-requires-clause-parents c =
    subst (λ l. All (CanNumberEntry c.deref-2.result.now) l) (sym (c.as_mut_slice.ensures.value ∙ c.drop_dead_entries.ensures))
    (subst (λ n. All (CanNumberEntry n) (filter is_live_entry c.self.inside.entries.items)) (sym (c.deref-2.ensures.value ∙ c.in_ok-numbers.ensures))
    (can_number_entries c.self.inside c.self.invariant))

pub renumber_entries-requires-clause-least : goal.renumber_entries-requires-clause-least
renumber_entries-requires-clause-least c =
    subst (λ l. (b : ℕ) (d : Entry) → b < c.in-Some.least → IsNumbered c.deref-2.result.now (get_or l b d) (get_or l b d)) (sym (c.as_mut_slice.ensures.value ∙ c.drop_dead_entries.ensures))
    (subst (λ n. (b : ℕ) (d : Entry) → b < c.in-Some.least → IsNumbered n (get_or (filter is_live_entry c.self.inside.entries.items) b d) (get_or (filter is_live_entry c.self.inside.entries.items) b d))
    (sym (c.deref-2.ensures.value ∙ c.in_ok-numbers.ensures))
    (entries_stay c.self.inside c.self.invariant c.in-Some.least (ids_live c.self.inside c.args.self.now c.in-Some.least c.self.view_is c.in-Some.ensures.least)))

pub renumber_rows-requires-clause-rows : goal.renumber_rows-requires-clause-rows
renumber_rows-requires-clause-rows c =
    let live : NamesLiveIds (table_of c.self.inside) = subst NamesLiveIds (sym c.self.view_is) c.requires in
    let kept = live_rows c.self.inside c.self.invariant c.len-letters.result c.deref.result.now c.keep_live_rows.new.rows.items (c.len-letters.ensures ∙ c.weights.result.now.ok.0 ∙ ap length c.weights.ensures) c.deref.ensures.value c.keep_live_rows.ensures in
    subst (λ l. All (CanNumber c.deref-3.result.now) l) (sym c.as_mut_slice-2.ensures.value)
    (subst (λ n. All (CanNumber n) c.keep_live_rows.new.rows.items) (sym (c.deref-3.ensures.value ∙ c.in_ok-numbers.ensures))
    (can_number_rows c.self.inside c.self.invariant live c.keep_live_rows.new.rows.items kept))

pub renumber_rows-requires-clause-start : goal.renumber_rows-requires-clause-start
renumber_rows-requires-clause-start c =
    let letters = c.len-letters.ensures ∙ c.weights.result.now.ok.0 ∙ ap length c.weights.ensures in
    let kept = live_rows c.self.inside c.self.invariant c.len-letters.result c.deref.result.now c.keep_live_rows.new.rows.items letters c.deref.ensures.value c.keep_live_rows.ensures in
    λ k lt.
    subst (λ (l : List Row). All (λ t. t.0 < c.in-Some.least) (get_or l k [])) (sym c.as_mut_slice-2.ensures.value)
    (places_below c.self.inside c.self.invariant c.in-Some.least c.first_naming.result c.len-letters.result (c.first_naming.result * c.len-letters.result) c.keep_live_rows.new.rows.items
    (ids_live c.self.inside c.args.self.now c.in-Some.least c.self.view_is c.in-Some.ensures.least) c.first_naming.ensures.bound
    (λ b x v less found. c.first_naming.ensures.below b x v less (subst (λ T. row_at T b x ≡ Some v) c.self.view_is found)) kept refl (letters ∙ c.self.invariant.sound.valid.presentation.one_weight_each) k lt)

pub renumber_rows-requires-clause-least : goal.renumber_rows-requires-clause-least
renumber_rows-requires-clause-least c =
    λ b lt. ap (λ l. get_or l b 0) (c.deref-3.ensures.value ∙ c.in_ok-numbers.ensures) ∙ number_stays c.self.inside c.self.invariant c.in-Some.least (ids_live c.self.inside c.args.self.now c.in-Some.least c.self.view_is c.in-Some.ensures.least) b lt

pub renumber_vectors-requires-clause-vectors : goal.renumber_vectors-requires-clause-vectors
renumber_vectors-requires-clause-vectors c =
    let live : NamesLiveIds (table_of c.self.inside) = subst NamesLiveIds (sym c.self.view_is) c.requires in
    subst (λ l. All (CanNumber c.deref-4.result.now) l) (sym c.as_mut_slice-3.ensures.value)
    (subst (λ n. All (CanNumber n) c.self.inside.images.items) (sym (c.deref-4.ensures.value ∙ c.in_ok-numbers.ensures))
    (can_number_images c.self.inside c.self.invariant live))

pub renumber_vectors-requires-clause-least : goal.renumber_vectors-requires-clause-least
renumber_vectors-requires-clause-least c =
    λ b lt. ap (λ l. get_or l b 0) (c.deref-4.ensures.value ∙ c.in_ok-numbers.ensures) ∙ number_stays c.self.inside c.self.invariant c.in-Some.least (ids_live c.self.inside c.args.self.now c.in-Some.least c.self.view_is c.in-Some.ensures.least) b lt

entries_set : (c : goal.After-deref-6) → AreDropped c.self.inside (with_items c.drop_dead_entries.new.entries c.renumber_entries.new.entries).items
entries_set c =
    subst (AreDropped c.self.inside) (sym (with_items_is c.drop_dead_entries.new.entries c.renumber_entries.new.entries (c.renumber_entries.ensures.count ∙ c.as_mut_slice.ensures.len)))
    (dropped_entries c.self.inside c.deref-2.result.now c.as_mut_slice.result.now c.renumber_entries.new.entries (c.deref-2.ensures.value ∙ c.in_ok-numbers.ensures) (c.as_mut_slice.ensures.value ∙ c.drop_dead_entries.ensures)
    c.renumber_entries.ensures)

live : (c : goal.After-drop-numbers) → NamesLiveIds (table_of c.self.inside)
live c = subst NamesLiveIds (sym c.self.view_is) c.requires

kept_rows : (c : goal.After-drop-numbers) → AreLiveRows (letter_count c.self.inside.presentation.presentation) c.self.inside.entries.items c.self.inside.rows.items c.keep_live_rows.new.rows.items
kept_rows c = live_rows c.self.inside c.self.invariant c.len-letters.result c.deref.result.now c.keep_live_rows.new.rows.items (c.len-letters.ensures ∙ c.weights.result.now.ok.0 ∙ ap length c.weights.ensures) c.deref.ensures.value c.keep_live_rows.ensures

entries_are : (c : goal.After-drop-numbers) → AreDropped c.self.inside (with_items c.drop_dead_entries.new.entries c.renumber_entries.new.entries).items
entries_are c =
    subst (AreDropped c.self.inside) (sym (with_items_is c.drop_dead_entries.new.entries c.renumber_entries.new.entries (c.renumber_entries.ensures.count ∙ c.as_mut_slice.ensures.len)))
    (dropped_entries c.self.inside c.deref-2.result.now c.as_mut_slice.result.now c.renumber_entries.new.entries (c.deref-2.ensures.value ∙ c.in_ok-numbers.ensures) (c.as_mut_slice.ensures.value ∙ c.drop_dead_entries.ensures)
    c.renumber_entries.ensures)

rows_are : (c : goal.After-drop-numbers) → (with_items c.keep_live_rows.new.rows c.renumber_rows.new.rows).items ≡ renumbered_rows c.self.inside.entries.items c.keep_live_rows.new.rows.items
rows_are c =
    with_items_is c.keep_live_rows.new.rows c.renumber_rows.new.rows
    (ap length c.renumber_rows.ensures ∙ length-map c.as_mut_slice-2.result.now (numbered c.deref-3.result.now) ∙ c.as_mut_slice-2.ensures.len)
    ∙ c.renumber_rows.ensures ∙ ap₂ (λ n l. map (numbered n) l) (c.deref-3.ensures.value ∙ c.in_ok-numbers.ensures) c.as_mut_slice-2.ensures.value

images_are : (c : goal.After-drop-numbers) → (with_items c.self.inside.images c.renumber_vectors.new.vectors).items ≡ map (numbered (new_numbers c.self.inside.entries.items)) c.self.inside.images.items
images_are c =
    with_items_is c.self.inside.images c.renumber_vectors.new.vectors
    (ap length c.renumber_vectors.ensures ∙ length-map c.as_mut_slice-3.result.now (numbered c.deref-4.result.now) ∙ c.as_mut_slice-3.ensures.len)
    ∙ c.renumber_vectors.ensures ∙ ap₂ (λ n l. map (numbered n) l) (c.deref-4.ensures.value ∙ c.in_ok-numbers.ensures) c.as_mut_slice-3.ensures.value

bounds_are : (c : goal.After-drop-numbers) →
    AreBounds c.self.inside.presentation.presentation.weights c.self.inside.level (with_items c.drop_dead_entries.new.entries c.renumber_entries.new.entries).items (with_items c.self.inside.bounds c.set_bounds.new.bounds).items
bounds_are c =
    let W : List ℕ = c.self.inside.presentation.presentation.weights in
    let es : List Entry = (with_items c.drop_dead_entries.new.entries c.renumber_entries.new.entries).items in
    let is : AreBounds W c.self.inside.level es c.set_bounds.new.bounds =
    subst (λ w. AreBounds w c.self.inside.level es c.set_bounds.new.bounds) (c.deref-6.ensures.value ∙ c.weights-2.ensures)
    (subst (λ l. AreBounds c.deref-6.result.now c.self.inside.level l c.set_bounds.new.bounds) c.deref-5.ensures.value c.set_bounds.ensures) in
    subst (AreBounds W c.self.inside.level es)
    (sym (with_items_is c.self.inside.bounds c.set_bounds.new.bounds (is.count ∙ c.self.invariant.sound.valid.presentation.one_weight_each ∙ sym c.self.invariant.one_bound_each ∙ sym c.self.inside.bounds.ok.0))) is

same : (c : goal.After-drop-numbers) →
    tabled c.self.inside.presentation c.self.inside.level (with_items c.self.inside.images c.renumber_vectors.new.vectors).items (with_items c.self.inside.bounds c.set_bounds.new.bounds).items
    (with_items c.keep_live_rows.new.rows c.renumber_rows.new.rows).items c.shrink_to.new.self.items (with_items c.drop_dead_entries.new.entries c.renumber_entries.new.entries).items
    ≡ without_dead (table_of c.self.inside)
same c =
    dropped_view c.self.inside c.self.invariant (live c) (with_items c.drop_dead_entries.new.entries c.renumber_entries.new.entries).items c.keep_live_rows.new.rows.items
    (with_items c.keep_live_rows.new.rows c.renumber_rows.new.rows).items c.shrink_to.new.self.items (with_items c.self.inside.images c.renumber_vectors.new.vectors).items (with_items c.self.inside.bounds c.set_bounds.new.bounds).items
    (entries_are c) (kept_rows c) (bounds_are c) (rows_are c) (images_are c)

pub returns-clause-ok : goal.returns-clause-ok
returns-clause-ok c = same c ∙ ap without_dead c.self.view_is

pub returns-clause-sound : goal.returns-clause-sound
returns-clause-sound c = subst IsSound (sym (same c)) (sound_dropped (table_of c.self.inside) c.self.invariant.sound (live c))

pub invariant_of-self : goal.invariant_of-self
invariant_of-self c =
    kept_dropped c.self.inside c.self.invariant (live c) (with_items c.drop_dead_entries.new.entries c.renumber_entries.new.entries).items c.keep_live_rows.new.rows.items
    (with_items c.self.inside.bounds c.set_bounds.new.bounds).items (entries_are c) (kept_rows c) (bounds_are c) _ refl (rows_are c) refl (same c) refl (c.shrink_to.ensures.items ∙ c.clear.ensures.items)
    (subst (λ k. min c.self.inside.live k ≤ vec_capacity c.shrink_to.new.self) c.clear.ensures.capacity c.shrink_to.ensures.lower_bound)
    refl refl

pub set_bounds-requires-clause-rising : goal.set_bounds-requires-clause-rising
set_bounds-requires-clause-rising c =
    subst HasRisingReaches (sym c.deref-5.ensures.value) (dropped_rises c.self.inside c.self.invariant (subst NamesLiveIds (sym c.self.view_is) c.requires) _ (entries_set c))

pub set_bounds-requires-clause-count : goal.set_bounds-requires-clause-count
set_bounds-requires-clause-count c = omega (arith, ap length c.deref-5.ensures.value, c.self.invariant.count, entries_within c.self.inside _ (entries_set c))
