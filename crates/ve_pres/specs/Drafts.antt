-- Presentations that are built line by line, and how each call changes them.
use Rattle.std.specs.Prelude.{◌≡◌, ℕ, ◌+◌, ◌<◌, ◌≤◌, ◌⊎◌, Bool, true, false, List, [], ◌∷◌, ◌++◌, length, map, set, slice_get}
use Rattle.std.specs.Prelude.{Option, Some, Contains, IsTrue, IsFalse, MatchBool, refl}
use Rattle.std.specs.Coded.{Coded, code_by, coded×, coded_ℕ, coded_bool, coded_list, coded_option}
use Rattle.ve_theory.specs.Words.{word_code}
use Rattle.ve_theory.specs.Elements.{AlgebraElement, Element, halved, IsAlgebraElementOf}
use Rattle.ve_theory.specs.Presentations.{Presentation}
use Rattle.ve_theory.specs.Validity.{is_rooted, most_letters, most_relations, most_cells, cells, algebra_cells, element_cells}
use Rattle.ve_pres.specs.declared.limit.Limit.TheVariants.{Relations, Cells}
use Rattle.ve_pres.specs.declared.limit.PresFault.{PresFault}
use Rattle.ve_pres.specs.declared.limit.PresFault.TheVariants.{Limit as Exceeds, Memory}
use Rattle.ve_word.specs.declared.names.NameFault.{NameFault}
use Rattle.ve_word.specs.declared.names.NameFault.TheVariants.{Rooted, Taken, Full, Memory as NoMemory}

-- A presentation, and how many relations and submodule relations were counted so far, zero ones among them.
pub record Draft : Type 0 where
  pub presentation : Presentation
  pub counted : ℕ

-- no letters, one generator, no relations
abbrev pub bare_draft : (version prime : ℕ) → Draft
bare_draft version prime = record {
  presentation = record {
    version = version;
    is_balanced = false;
    prime = prime;
    names = [];
    inverses = [];
    weights = [];
    generators = 1;
    relations = [];
    submodule = [];
  };
  counted = 0;
}

-- no relation stands
pub record IsOpen (draft : Draft) : Type 0 where
  pub relations : draft.presentation.relations ≡ []
  pub submodule : draft.presentation.submodule ≡ []

-- letters

-- further letters of weight 1, with their inverses
abbrev pub with_letters : Draft → List (List ℕ) → List (Option ℕ) → Draft
with_letters draft names inverses = record draft {
  presentation = record draft.presentation {
    names = draft.presentation.names ++ names;
    inverses = draft.presentation.inverses ++ inverses;
    weights = draft.presentation.weights ++ map (λ _. 1) names;
  };
}

-- why a name can't be added to names
abbrev pub IsNameFault : List (List ℕ) → List ℕ → NameFault → Type 0
IsNameFault names name Rooted = IsTrue (is_rooted name)
IsNameFault names name (Taken letter) = slice_get names letter ≡ Some name
IsNameFault names name Full = IsFalse (is_rooted name) × (¬ Contains names name) × (length names ≡ most_letters)
IsNameFault names name NoMemory = Unit {0}

-- a name that can be added to names
pub record IsNewName (names : List (List ℕ)) (name : List ℕ) : Type 0 where
  pub plain : IsFalse (is_rooted name)
  pub absent : ¬ Contains names name
  pub room : length names < most_letters

-- why the names of a pair can't be added: the second is judged as if the first stood
abbrev pub IsPairFault : List (List ℕ) → (name inverse : List ℕ) → NameFault → Type 0
IsPairFault names name inverse fault = IsNameFault names name fault ⊎ (IsNewName names name × IsNameFault (names ++ name ∷ []) inverse fault)

-- the weight of a letter
abbrev pub with_weight : Draft → (letter weight : ℕ) → Draft
with_weight draft letter weight = record draft { presentation = record draft.presentation { weights = set draft.presentation.weights letter weight } }

-- balance and generators

abbrev pub with_balance : Draft → Draft
with_balance draft = record draft { presentation = record draft.presentation { is_balanced = true } }

abbrev pub with_generators : Draft → ℕ → Draft
with_generators draft generators = record draft { presentation = record draft.presentation { generators = generators } }

-- relations

-- the relator that a relation gives: in a balanced presentation its half
abbrev pub IsRelatorOf : Presentation → AlgebraElement → AlgebraElement → Type 0
IsRelatorOf P r relator = MatchBool P.is_balanced (IsAlgebraElementOf P.prime relator (halved P.inverses r)) (relator ≡ r)

-- one more relation, with its relator, which is kept where it isn't zero
abbrev pub with_relator : Draft → AlgebraElement → Draft
with_relator draft [] = record draft { counted = draft.counted + 1 }
with_relator draft (t ∷ r) = record {
  presentation = record draft.presentation { relations = draft.presentation.relations ++ (t ∷ r) ∷ [] };
  counted = draft.counted + 1;
}

-- the relation is taken, within the limits
pub record TakesRelation (old : Draft) (r : AlgebraElement) (new : Draft) : Type 0 where
  pub relator : AlgebraElement
  pub is_relator : IsRelatorOf old.presentation r relator
  pub room : old.counted < most_relations
  pub cells : cells old.presentation + algebra_cells relator ≤ most_cells
  pub taken : new ≡ with_relator old relator

-- the cells of its relator are too many
pub record HasManyCells (draft : Draft) (r : AlgebraElement) (count : ℕ) : Type 0 where
  pub relator : AlgebraElement
  pub is_relator : IsRelatorOf draft.presentation r relator
  pub room : draft.counted < most_relations
  pub counted : count ≡ cells draft.presentation + algebra_cells relator
  pub many : most_cells < count

-- why the relation is refused
abbrev pub IsRelationFault : Draft → AlgebraElement → PresFault → Type 0
IsRelationFault draft r (Exceeds Relations) = most_relations ≤ draft.counted
IsRelationFault draft r (Exceeds (Cells count)) = HasManyCells draft r count
IsRelationFault draft r (Exceeds _) = ⊥
IsRelationFault draft r Memory = Unit {0}

-- submodule relations

abbrev pub with_submodule_relation : Draft → Element → Draft
with_submodule_relation draft [] = record draft { counted = draft.counted + 1 }
with_submodule_relation draft (t ∷ v) = record {
  presentation = record draft.presentation { submodule = draft.presentation.submodule ++ (t ∷ v) ∷ [] };
  counted = draft.counted + 1;
}

pub record TakesSubmoduleRelation (old : Draft) (v : Element) (new : Draft) : Type 0 where
  pub room : old.counted < most_relations
  pub cells : cells old.presentation + element_cells v ≤ most_cells
  pub taken : new ≡ with_submodule_relation old v

abbrev pub IsSubmoduleRelationFault : Draft → Element → PresFault → Type 0
IsSubmoduleRelationFault draft v (Exceeds Relations) = most_relations ≤ draft.counted
IsSubmoduleRelationFault draft v (Exceeds (Cells count)) =
    (draft.counted < most_relations) × (count ≡ cells draft.presentation + element_cells v) × (most_cells < count)
IsSubmoduleRelationFault draft v (Exceeds _) = ⊥
IsSubmoduleRelationFault draft v Memory = Unit {0}

-- a draft is stored as the fields of its presentation and the count

abbrev pub draft_code : Coded Draft
draft_code =
    code_by
    (ℕ × (Bool × (ℕ × (List (List ℕ) × (List (Option ℕ) × (List ℕ × (ℕ × (List AlgebraElement × (List Element × ℕ)))))))))
    (coded× coded_ℕ (coded× coded_bool (coded× coded_ℕ (coded× (coded_list (coded_list coded_ℕ))
    (coded× (coded_list (coded_option coded_ℕ)) (coded× (coded_list coded_ℕ) (coded× coded_ℕ
    (coded× (coded_list (coded_list (coded× (coded_list coded_ℕ) coded_ℕ))) (coded× (coded_list (coded_list (coded× word_code coded_ℕ))) coded_ℕ)))))))))
    (λ d. (
      d.presentation.version,
      (
        d.presentation.is_balanced,
        (
          d.presentation.prime,
          (
            d.presentation.names,
            (
              d.presentation.inverses,
              (
                d.presentation.weights,
                (
                  d.presentation.generators,
                  (d.presentation.relations, (d.presentation.submodule, d.counted)),
                ),
              ),
            ),
          ),
        ),
      ),
    ))
    (λ s. record {
      presentation = record {
        version = s.0;
        is_balanced = s.1.0;
        prime = s.1.1.0;
        names = s.1.1.1.0;
        inverses = s.1.1.1.1.0;
        weights = s.1.1.1.1.1.0;
        generators = s.1.1.1.1.1.1.0;
        relations = s.1.1.1.1.1.1.1.0;
        submodule = s.1.1.1.1.1.1.1.1.0;
      };
      counted = s.1.1.1.1.1.1.1.1.1;
    })
    (λ d. refl)
