-- The lines of a presentation, and what each does to what was read before it.
use Rattle.std.specs.Prelude.{◌≡◌, ℕ, ◌+◌, ◌<◌, ◌≤◌, ◌⊎◌, true, false, List, [], ◌∷◌, ◌++◌, length, Option, Some, None, Result, Ok, Err, Contains, IsTrue, IsFalse, codes, unwrap_or}
use Rattle.ve_theory.specs.Residues.{IsFieldPrime}
use Rattle.ve_theory.specs.Elements.{AlgebraElement, Element, IsAlgebraElementOf, halved}
use Rattle.ve_theory.specs.Presentations.{Presentation}
use Rattle.ve_theory.specs.Validity.{most_letters, most_generators, most_relations, most_cells, is_rooted, algebra_cells, element_cells, cells}
use Rattle.ve_theory.specs.Presentations.{most_weight}
use Rattle.ve_formats.specs.Tokens.{Token, name, number, number_value}
use Rattle.ve_formats.specs.Causes as why
use Rattle.ve_formats.specs.Causes.{Cause, beyond}
use Rattle.ve_formats.specs.Expressions as algebra
use Rattle.ve_formats.specs.Expressions.{Expression, Spell, equals_sign}
use Rattle.ve_formats.specs.ModuleExpressions as modules
use Rattle.ve_formats.specs.ModuleExpressions.{ModuleExpression, ModuleSpell}
use Rattle.ve_formats.specs.Values.{HasValue}
use Rattle.ve_formats.specs.ModuleValues.{HasModuleValue}

-- a letter that is declared: its name, and its weight where one is written
pub record Declared : Type 0 where
  pub called : List ℕ
  pub weight : Option ℕ

pub data Line : Type 0 where
  version : ℕ → Line
  prime : ℕ → Line
  letter : Declared → Line
  pair : Declared → Declared → Line
  involution : Declared → Line
  generators : ℕ → Line
  balance : Line
  relation : Expression → Expression → Line
  submodule : ModuleExpression → ModuleExpression → Line
  end : Line

abbrev pub word : List ℕ → Token
word bytes = name bytes

-- the tokens of a declared letter
pub data SpellDeclared : List Token → Declared → Type 0 where
  plain : (x : List ℕ) → SpellDeclared (name x ∷ []) (record { called = x; weight = None })
  weighted : (x digits : List ℕ) → SpellDeclared (name x ∷ word (codes "weight") ∷ number digits ∷ []) (record { called = x; weight = Some (number_value digits) })

-- the tokens of a line
pub data SpellLine : List Token → Line → Type 0 where
  a_version : (digits : List ℕ) → SpellLine (word (codes "venum") ∷ number digits ∷ []) (version (number_value digits))
  a_prime : (digits : List ℕ) → SpellLine (word (codes "prime") ∷ number digits ∷ []) (prime (number_value digits))
  a_letter : {tokens : List Token} {x : Declared} → SpellDeclared tokens x → SpellLine (word (codes "letter") ∷ tokens) (letter x)
  a_pair : {front back all : List Token} {x y : Declared} → SpellDeclared front x → SpellDeclared back y
      → all ≡ (word (codes "letter") ∷ front) ++ word (codes "inverse") ∷ back → SpellLine all (pair x y)
  an_involution : {tokens : List Token} {x : Declared} → SpellDeclared tokens x → SpellLine (word (codes "involution") ∷ tokens) (involution x)
  some_generators : (digits : List ℕ) → SpellLine (word (codes "module") ∷ number digits ∷ []) (generators (number_value digits))
  a_balance : SpellLine (word (codes "balance") ∷ []) balance
  a_relation : {front back all : List Token} {d e : Expression} → Spell algebra.whole front d → Spell algebra.whole back e
      → all ≡ (word (codes "relation") ∷ front) ++ equals_sign ∷ back → SpellLine all (relation d e)
  a_submodule_relation : {front back all : List Token} {d e : ModuleExpression} → ModuleSpell modules.whole front d → ModuleSpell modules.whole back e
      → all ≡ (word (codes "sub") ∷ front) ++ equals_sign ∷ back → SpellLine all (submodule d e)
  the_end : SpellLine (word (codes "end") ∷ []) end

-- how far a text was read
pub data Stage : Type 0 where
  at_start : Stage
  after_version : Stage
  among_letters : Stage
  after_generators : Stage
  among_relations : Stage
  after_end : Stage

-- what was read so far; zero relations are counted too
pub record Draft : Type 0 where
  pub stage : Stage
  pub presentation : Presentation
  pub counted : ℕ

-- before the first line; the prime is not known yet
abbrev pub blank_draft : Draft
blank_draft = record {
  stage = at_start;
  presentation = record {
    version = 1;
    is_balanced = false;
    prime = 2;
    names = [];
    inverses = [];
    weights = [];
    generators = 1;
    relations = [];
    submodule = [];
  };
  counted = 0;
}

-- weights may be written in version 2 alone
abbrev pub MayWeigh : Draft → Declared → Type 0
MayWeigh draft x = (draft.presentation.version ≡ 2) ⊎ (x.weight ≡ None)

abbrev pub IsAmongRelations : Stage → Type 0
IsAmongRelations stage = (stage ≡ after_generators) ⊎ (stage ≡ among_relations)

-- the line is one of those that may stand here
abbrev pub MayStand : Draft → Line → Type 0
MayStand draft (version n) = (draft.stage ≡ at_start) × ((n ≡ 1) ⊎ (n ≡ 2))
MayStand draft (prime n) = draft.stage ≡ after_version
MayStand draft (letter x) = (draft.stage ≡ among_letters) × MayWeigh draft x
MayStand draft (pair x y) = (draft.stage ≡ among_letters) × MayWeigh draft x × MayWeigh draft y
MayStand draft (involution x) = (draft.stage ≡ among_letters) × MayWeigh draft x
MayStand draft (generators n) = (draft.stage ≡ among_letters) × (0 < n)
MayStand draft balance = (draft.stage ≡ after_generators) × (draft.presentation.version ≡ 2)
MayStand draft (relation d e) = IsAmongRelations draft.stage
MayStand draft (submodule d e) = IsAmongRelations draft.stage
MayStand draft end = IsAmongRelations draft.stage

-- the weight of a declared letter
abbrev pub weight_of : Declared → ℕ
weight_of x = unwrap_or x.weight 1

-- a letter more, with an inverse or without
abbrev pub with_letter : Presentation → Declared → Option ℕ → Presentation
with_letter P x inverse = record P { names = P.names ++ x.called ∷ []; inverses = P.inverses ++ inverse ∷ []; weights = P.weights ++ weight_of x ∷ [] }

-- the first letter of a pair more, whose inverse is the next letter
abbrev pub with_first : Presentation → Declared → Presentation
with_first P x = with_letter P x (Some (length P.names + 1))

-- declaring a letter: its name is free, there is room, its weight is in range
pub data Declares (P : Presentation) (x : Declared) : Option Cause → Type 0 where
  free : ¬ Contains P.names x.called → IsFalse (is_rooted x.called) → length P.names < most_letters → 0 < weight_of x → weight_of x ≤ most_weight → Declares P x None
  rooted : IsTrue (is_rooted x.called) → Declares P x (Some why.name_taken)
  taken : Contains P.names x.called → Declares P x (Some why.name_taken)
  full : ¬ Contains P.names x.called → IsFalse (is_rooted x.called) → most_letters ≤ length P.names → Declares P x (Some (beyond why.letters))
  misweighed : ¬ Contains P.names x.called → IsFalse (is_rooted x.called) → length P.names < most_letters → (weight_of x ≡ 0) ⊎ (most_weight < weight_of x)
      → Declares P x (Some why.bad_weight)

-- the relator of a relation's value: its half in a balanced presentation
abbrev pub IsRelatorOf : Presentation → AlgebraElement → AlgebraElement → Type 0
IsRelatorOf P value r = (IsTrue P.is_balanced × IsAlgebraElementOf P.prime r (halved P.inverses value)) ⊎ (IsFalse P.is_balanced × (r ≡ value))

-- an item more, unless it is empty
unfoldable pub with_item : {X : Type 0} → List (List X) → List X → List (List X)
with_item xs [] = xs
with_item xs (x ∷ more) = xs ++ (x ∷ more) ∷ []

-- the draft after a line that changes the presentation
abbrev pub moved : Draft → Stage → Presentation → Draft
moved draft stage P = record draft { stage = stage; presentation = P }

abbrev pub with_relation : Draft → AlgebraElement → Draft
with_relation draft r = let P = draft.presentation in
    record { stage = among_relations; presentation = record P { relations = with_item P.relations r }; counted = draft.counted + 1 }

abbrev pub with_submodule : Draft → Element → Draft
with_submodule draft q = let P = draft.presentation in
    record { stage = among_relations; presentation = record P { submodule = with_item P.submodule q }; counted = draft.counted + 1 }

-- what a line does: the draft behind it, or the first fault of its meaning
pub data Works (draft : Draft) : Line → Result Draft Cause → Type 0 where
  takes_version : (n : ℕ) → Works draft (version n) (Ok (moved draft after_version (record draft.presentation { version = n })))
  takes_prime : (n : ℕ) → IsFieldPrime n → Works draft (prime n) (Ok (moved draft among_letters (record draft.presentation { prime = n })))
  refuses_prime : (n : ℕ) → ¬ IsFieldPrime n → Works draft (prime n) (Err why.bad_prime)
  takes_letter : (x : Declared) → Declares draft.presentation x None → Works draft (letter x) (Ok (moved draft among_letters (with_letter draft.presentation x None)))
  refuses_letter : (x : Declared) (cause : Cause) → Declares draft.presentation x (Some cause) → Works draft (letter x) (Err cause)
  takes_involution : (x : Declared) → Declares draft.presentation x None
      → Works draft (involution x) (Ok (moved draft among_letters (with_letter draft.presentation x (Some (length draft.presentation.names)))))
  refuses_involution : (x : Declared) (cause : Cause) → Declares draft.presentation x (Some cause) → Works draft (involution x) (Err cause)
  -- the second letter of a pair is judged as if the first stood
  takes_pair : (x y : Declared) → Declares draft.presentation x None → Declares (with_first draft.presentation x) y None
      → Works draft (pair x y) (Ok (moved draft among_letters (with_letter (with_first draft.presentation x) y (Some (length draft.presentation.names)))))
  refuses_first : (x y : Declared) (cause : Cause) → Declares draft.presentation x (Some cause) → Works draft (pair x y) (Err cause)
  refuses_second : (x y : Declared) (cause : Cause) → Declares draft.presentation x None
      → Declares (with_first draft.presentation x) y (Some cause) → Works draft (pair x y) (Err cause)
  takes_generators : (n : ℕ) → n ≤ most_generators → Works draft (generators n) (Ok (moved draft after_generators (record draft.presentation { generators = n })))
  refuses_generators : (n : ℕ) → most_generators < n → Works draft (generators n) (Err (beyond why.generators))
  takes_balance : Works draft balance (Ok (moved draft among_relations (record draft.presentation { is_balanced = true })))
  takes_end : Works draft end (Ok (moved draft after_end draft.presentation))
  -- relations: how many there are, then the value, then the room
  takes_relation : (d e : Expression) (v r : AlgebraElement) → draft.counted < most_relations → HasValue draft.presentation (algebra.difference d e) (Ok v)
      → IsRelatorOf draft.presentation v r → cells draft.presentation + algebra_cells r ≤ most_cells → Works draft (relation d e) (Ok (with_relation draft r))
  refuses_count : (d e : Expression) → most_relations ≤ draft.counted → Works draft (relation d e) (Err (beyond why.relations))
  refuses_value : (d e : Expression) (cause : Cause) → draft.counted < most_relations → HasValue draft.presentation (algebra.difference d e) (Err cause)
      → Works draft (relation d e) (Err cause)
  refuses_room : (d e : Expression) (v r : AlgebraElement) → draft.counted < most_relations → HasValue draft.presentation (algebra.difference d e) (Ok v)
      → IsRelatorOf draft.presentation v r → most_cells < cells draft.presentation + algebra_cells r
      → Works draft (relation d e) (Err (beyond (why.cells (cells draft.presentation + algebra_cells r))))
  takes_submodule : (d e : ModuleExpression) (q : Element) → draft.counted < most_relations → HasModuleValue draft.presentation (modules.difference d e) (Ok q)
      → cells draft.presentation + element_cells q ≤ most_cells → Works draft (submodule d e) (Ok (with_submodule draft q))
  refuses_submodule_count : (d e : ModuleExpression) → most_relations ≤ draft.counted → Works draft (submodule d e) (Err (beyond why.relations))
  refuses_submodule_value : (d e : ModuleExpression) (cause : Cause) → draft.counted < most_relations → HasModuleValue draft.presentation (modules.difference d e) (Err cause)
      → Works draft (submodule d e) (Err cause)
  refuses_submodule_room : (d e : ModuleExpression) (q : Element) → draft.counted < most_relations → HasModuleValue draft.presentation (modules.difference d e) (Ok q)
      → most_cells < cells draft.presentation + element_cells q
      → Works draft (submodule d e) (Err (beyond (why.cells (cells draft.presentation + element_cells q))))
