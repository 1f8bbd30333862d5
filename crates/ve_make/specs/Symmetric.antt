-- The symmetric group on a number of points, presented by the swaps of neighbouring points, and its permutation module on the sets of
-- `node` points. Points and swaps are numbered from 1 in names, and swaps from 0 as letters: letter x swaps the points x + 1 and x + 2.
use Rattle.std.specs.Prelude.{ℕ, ◌+◌, ◌-◌, ◌<◌, ◌≤◌, Bool, false, not, nat_eq, cond, List, [], ◌∷◌, ◌++◌, Some, map, codes, decimal, replicate}
use Rattle.std.specs.List.{concat, filter, flat_map}
use Rattle.ve_theory.specs.Residues.{IsFieldPrime}
use Rattle.ve_theory.specs.Words.{generator, times}
use Rattle.ve_theory.specs.Elements.{AlgebraElement, Element}
use Rattle.ve_theory.specs.Presentations.{Presentation}
use Rattle.ve_formats.specs.Lines.{numbers_below}

-- the presentations that are made
pub record IsMade (points node prime : ℕ) : Type 0 where
  pub two_points : 2 ≤ points
  pub few_points : points ≤ 25
  pub some_node : 1 ≤ node
  pub inner_node : node < points
  pub field : IsFieldPrime prime

-- the name of a swap
abbrev pub swap_name : ℕ → List ℕ
swap_name x = codes "s" ++ decimal (x + 1)

-- the order of the product of two swaps, of which x is the first: 3 for neighbours, else 2
abbrev pub product_order : (x y : ℕ) → ℕ
product_order x y = cond (nat_eq y (x + 1)) 3 2

-- x*y, so many times
abbrev pub product_power : (x y order : ℕ) → List ℕ
product_power x y order = concat (replicate order (x ∷ y ∷ []))

-- (x*y)^order - 1
abbrev pub order_relation : (prime x y : ℕ) → AlgebraElement
order_relation prime x y = (product_power x y (product_order x y), 1) ∷ ([], prime - 1) ∷ []

-- for one of `swaps` swaps, these relations with the later ones, in order
abbrev pub relations_of_swap : (prime swaps x : ℕ) → List AlgebraElement
relations_of_swap prime swaps x = map (λ k. order_relation prime x (x + 1 + k)) (numbers_below (swaps - (x + 1)))

-- e1*x - e1
abbrev pub fixing_relation : (prime x : ℕ) → Element
fixing_relation prime x = (times (generator 0) x, 1) ∷ (generator 0, prime - 1) ∷ []

-- the swap doesn't take a point out of the first `node` points
abbrev pub is_fixing : (node x : ℕ) → Bool
is_fixing node x = not (nat_eq (x + 1) node)

-- all these relations, in the order of the first swap, then of the second
abbrev pub order_relations : (prime swaps : ℕ) → List AlgebraElement
order_relations prime swaps = flat_map (relations_of_swap prime swaps) (numbers_below swaps)

-- those for each swap but the one at `node`
abbrev pub fixing_relations : (prime node swaps : ℕ) → List Element
fixing_relations prime node swaps = map (fixing_relation prime) (filter (is_fixing node) (numbers_below swaps))

-- The presentation: each swap is its own inverse, the products of two have their orders, and each swap but the one at `node` fixes
-- the generator.
abbrev pub symmetric_presentation : (points node prime : ℕ) → Presentation
symmetric_presentation points node prime =
    let swaps = numbers_below (points - 1) in
    record {
      version = 1;
      is_balanced = false;
      prime = prime;
      names = map swap_name swaps;
      inverses = map Some swaps;
      weights = map (λ _. 1) swaps;
      generators = 1;
      relations = order_relations prime (points - 1);
      submodule = fixing_relations prime node (points - 1);
    }
