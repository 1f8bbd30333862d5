-- One relation more, and the presentation with it.
use Rattle.std.specs.Prelude.{◌≡◌, ℕ, ◌+◌, ◌-◌, ◌<◌, ◌≤◌, false, true, not, nat_eq, cond, List, [], ◌∷◌, ◌++◌, length, map, Some, sum_by}
use Rattle.std.specs.List.{filter, flat_map}
use Rattle.std.proofs.Common.{refl, ap, sym, ◌∙◌, arith, length-append, append-nil, append_assoc}
use Rattle.std.proofs.lemmas.List.{length-map, map-append, flat_map_more}
use Rattle.std.proofs.lemmas.List.Elements.{filter-append}
use Rattle.std.proofs.lemmas.List.Sums.{sum_by_push}
use Rattle.ve_theory.specs.Elements.{AlgebraElement, Element}
use Rattle.ve_theory.specs.Presentations.{inverse_relators}
use Rattle.ve_theory.specs.Validity.{algebra_cells, element_cells}
use Rattle.ve_lemmas.proofs.Relators.{inverse_cells}
use Rattle.ve_formats.specs.Lines.{numbers_below, numbers_below-next}
use Rattle.ve_formats.proofs.NumbersBelow.{length-numbers_below}
use Rattle.ve_pres.specs.Drafts.{Draft, bare_draft, with_relator, with_submodule_relation}
use Rattle.ve_make.specs.Symmetric.{swap_name, order_relation, relations_of_swap, fixing_relation, fixing_relations, is_fixing}
use Rattle.ve_make.specs.Parts.{swaps_draft, HasRoom}
use Rattle.ve_make.proofs.Rooms.{order_cells, fixing_cells}
use Rattle.ve_make.proofs.Swaps.{listed-next}

-- ---- room

sum_more : {X : Type 0} (f : X → ℕ) (xs ys : List X) (y : X) → sum_by f (xs ++ (ys ++ y ∷ [])) ≡ sum_by f (xs ++ ys) + f y
sum_more f xs ys y = ap (sum_by f) (sym (append_assoc xs ys (y ∷ []))) ∙ sum_by_push f (xs ++ ys) y

pub room_order : (draft : Draft) (p x y count : ℕ) → HasRoom count draft → HasRoom (count + 1) (with_relator draft (order_relation p x y))
room_order draft p x y count room =
    let sum = sum_more algebra_cells (inverse_relators draft.presentation.prime 0 draft.presentation.inverses) draft.presentation.relations (order_relation p x y) in
    let few = order_cells p x y in
    let taken = room.cells_taken in
    let counted = room.counted in
    record { counted = omega arith; cells_taken = omega arith }

pub room_fix : (draft : Draft) (p x count : ℕ) → HasRoom count draft → HasRoom (count + 1) (with_submodule_relation draft (fixing_relation p x))
room_fix draft p x count room =
    let sum = sum_by_push element_cells draft.presentation.submodule (fixing_relation p x) in
    let few = fixing_cells p x in
    let taken = room.cells_taken in
    let counted = room.counted in
    record { counted = omega arith; cells_taken = omega arith }

pub more_room : (draft : Draft) (count more : ℕ) → count ≤ more → HasRoom count draft → HasRoom more draft
more_room draft count more h room =
    let taken = room.cells_taken in
    let counted = room.counted in
    record { counted = omega arith; cells_taken = omega arith }

pub first_room : (p n : ℕ) → n ≤ 24 → HasRoom 0 (swaps_draft p n [] [])
first_room p n small =
    let few = inverse_cells p 0 (map Some (numbers_below n)) in
    let count : length (map Some (numbers_below n)) ≡ n = length-map (numbers_below n) Some ∙ length-numbers_below n in
    let none = append-nil (inverse_relators p 0 (map Some (numbers_below n))) in
    record { counted = omega arith; cells_taken = rw none (omega arith) }

-- ---- relations

made : (p n : ℕ) → List AlgebraElement → List Element → ℕ → Draft
made p n relations submodule counted = record (swaps_draft p n relations submodule) { counted = counted }

with_order : (p n x y : ℕ) (before : List AlgebraElement) → with_relator (swaps_draft p n before []) (order_relation p x y) ≡ swaps_draft p n (before ++ order_relation p x y ∷ []) []
unfolding made
with_order p n x y before =
    let counted : (length before + 0) + 1 ≡ length (before ++ order_relation p x y ∷ []) + 0 = omega (arith, length-append before (order_relation p x y ∷ [])) in
    ap (made p n (before ++ order_relation p x y ∷ []) []) counted

with_fix : (p n x : ℕ) (relations : List AlgebraElement) (before : List Element)
    → with_submodule_relation (swaps_draft p n relations before) (fixing_relation p x) ≡ swaps_draft p n relations (before ++ fixing_relation p x ∷ [])
unfolding made
with_fix p n x relations before =
    let counted : (length relations + length before) + 1 ≡ length relations + length (before ++ fixing_relation p x ∷ []) =
    omega (arith, length-append before (fixing_relation p x ∷ [])) in
    ap (made p n relations (before ++ fixing_relation p x ∷ [])) counted

-- the orders of the products with the next swaps, up to before a swap
abbrev pub orders_before : (p x y : ℕ) → List AlgebraElement
orders_before p x y = map (λ k. order_relation p x (x + 1 + k)) (numbers_below (y - (x + 1)))

orders-next : (p x y : ℕ) → x < y → orders_before p x y ++ order_relation p x y ∷ [] ≡ orders_before p x (y + 1)
orders-next p x y h =
    let place : x + 1 + (y - (x + 1)) ≡ y = omega arith in
    let count : (y - (x + 1)) + 1 ≡ (y + 1) - (x + 1) = omega arith in
    ap (λ z. orders_before p x y ++ order_relation p x z ∷ []) (sym place)
    ∙ listed-next (λ k. order_relation p x (x + 1 + k)) (y - (x + 1))
    ∙ ap (λ k. map (λ j. order_relation p x (x + 1 + j)) (numbers_below k)) count

pub orders-first : (p x : ℕ) (before : List AlgebraElement) → before ≡ before ++ orders_before p x (x + 1)
unfolding numbers_below
orders-first p x before =
    let none : (x + 1) - (x + 1) ≡ 0 = omega arith in
    sym (ap (λ k. before ++ map (λ j. order_relation p x (x + 1 + j)) (numbers_below k)) none ∙ append-nil before)

pub next_order : (p n x y : ℕ) (before : List AlgebraElement) (draft new : Draft) → x < y → draft ≡ swaps_draft p n (before ++ orders_before p x y) []
    → new ≡ with_relator draft (order_relation p x y) → new ≡ swaps_draft p n (before ++ orders_before p x (y + 1)) []
next_order p n x y before draft new h stands is =
    is ∙ ap (λ d. with_relator d (order_relation p x y)) stands ∙ with_order p n x y (before ++ orders_before p x y)
    ∙ ap (λ rs. swaps_draft p n rs []) (append_assoc before (orders_before p x y) (order_relation p x y ∷ []) ∙ ap (λ rs. before ++ rs) (orders-next p x y h))

pub next_orders : (p n x : ℕ) → flat_map (relations_of_swap p n) (numbers_below x) ++ relations_of_swap p n x ≡ flat_map (relations_of_swap p n) (numbers_below (x + 1))
next_orders p n x = flat_map_more (relations_of_swap p n) [] (numbers_below x) x ∙ ap (flat_map (relations_of_swap p n)) (sym (numbers_below-next x))

fixing-next : (p node x : ℕ) → fixing_relations p node x ++ map (fixing_relation p) (filter (is_fixing node) (x ∷ [])) ≡ fixing_relations p node (x + 1)
fixing-next p node x =
    sym (ap (λ xs. map (fixing_relation p) (filter (is_fixing node) xs)) (numbers_below-next x)
    ∙ ap (map (fixing_relation p)) (filter-append (is_fixing node) (numbers_below x) (x ∷ []))
    ∙ map-append (fixing_relation p) (filter (is_fixing node) (numbers_below x)) (filter (is_fixing node) (x ∷ [])))

pub passed_fix : (p node x : ℕ) → nat_eq (x + 1) node ≡ true → fixing_relations p node x ≡ fixing_relations p node (x + 1)
passed_fix p node x same =
    sym (append-nil (fixing_relations p node x)) ∙ ap (λ b. fixing_relations p node x ++ map (fixing_relation p) (cond (not b) (x ∷ []) [])) (sym same) ∙ fixing-next p node x

pub next_fix : (p n node x : ℕ) (relations : List AlgebraElement) (draft new : Draft) → nat_eq (x + 1) node ≡ false → draft ≡ swaps_draft p n relations (fixing_relations p node x)
    → new ≡ with_submodule_relation draft (fixing_relation p x) → new ≡ swaps_draft p n relations (fixing_relations p node (x + 1))
next_fix p n node x relations draft new other stands is =
    is ∙ ap (λ d. with_submodule_relation d (fixing_relation p x)) stands ∙ with_fix p n x relations (fixing_relations p node x)
    ∙ ap (swaps_draft p n relations)
    (ap (λ b. fixing_relations p node x ++ map (fixing_relation p) (cond (not b) (x ∷ []) [])) (sym other) ∙ fixing-next p node x)

-- ---- what stands

pub swaps_count : (p n : ℕ) (relations : List AlgebraElement) (submodule : List Element) (draft : Draft) → draft ≡ swaps_draft p n relations submodule
    → length draft.presentation.names ≡ n
swaps_count p n relations submodule draft stands = ap (λ d. length d.presentation.names) stands ∙ length-map (numbers_below n) swap_name ∙ length-numbers_below n

pub no_fix : (p node : ℕ) → fixing_relations p node 0 ≡ []
unfolding numbers_below
no_fix p node = refl

pub no_orders : (p n : ℕ) → flat_map (relations_of_swap p n) (numbers_below 0) ≡ []
unfolding numbers_below
no_orders p n = refl

pub no_swaps : (p : ℕ) → bare_draft 1 p ≡ swaps_draft p 0 [] []
unfolding numbers_below
no_swaps p = refl
