-- The presentation while it is built.
use Rattle.std.specs.Prelude.{ℕ, ◌+◌, ◌*◌, ◌≤◌, false, List, Some, map, length}
use Rattle.ve_theory.specs.Elements.{AlgebraElement, Element}
use Rattle.ve_theory.specs.Validity.{cells}
use Rattle.ve_pres.specs.Drafts.{Draft}
use Rattle.ve_formats.specs.Lines.{numbers_below}
use Rattle.ve_make.specs.Symmetric.{swap_name}

-- the first swaps, with these relations and submodule relations
abbrev pub swaps_draft : (prime swaps : ℕ) → List AlgebraElement → List Element → Draft
swaps_draft prime swaps relations submodule = record {
  presentation = record {
    version = 1;
    is_balanced = false;
    prime = prime;
    names = map swap_name (numbers_below swaps);
    inverses = map Some (numbers_below swaps);
    weights = map (λ _. 1) (numbers_below swaps);
    generators = 1;
    relations = relations;
    submodule = submodule;
  };
  counted = length relations + length submodule;
}

-- at most so many relations stand, of at most eight cells each, beside those of the swaps
pub record HasRoom (count : ℕ) (draft : Draft) : Type 0 where
  pub counted : draft.counted ≤ count
  pub cells_taken : cells draft.presentation ≤ 96 + 8 * count
