-- Presentations stay valid line by line.
use Rattle.std.proofs.Common.{◌≡◌, ◌≢◌, ℕ, ◌+◌, ◌*◌, ◌<◌, ◌≤◌, ◌⊎◌, max, Bool, false, List, [], ◌∷◌, ◌++◌, length, All, Option, IsTrue, IsFalse, refl, sym, subst, ap, ◌∙◌, append_assoc, length-append, arith, sum_by, Vec, Global}
use Rattle.std.proofs.lemmas.List.{append-nil}
use Rattle.std.proofs.lemmas.List.Sums.{sum_by-cons}
use Rattle.std.proofs.lemmas.List.Elements.{All-nil, All-push}
use Rattle.ve_theory.specs.Residues.{IsFieldPrime}
use Rattle.ve_theory.specs.Combinations.{IsReduced}
use Rattle.ve_theory.specs.Words.{Word, Shortlex, ShortlexLetters}
use Rattle.ve_theory.specs.Elements.{AlgebraElement, Element, halved, IsAlgebraElementOf, algebra_length, element_length, algebra_weight, element_weight}
use Rattle.ve_theory.specs.Presentations.{Presentation, relators, inverse_relators, relator_bound, submodule_bound, greatest_of, HasLetters, IsWord}
use Rattle.ve_theory.specs.Validity.{IsValid, cells, algebra_cells, element_cells, is_name, is_rooted, most_relations, most_terms, most_length, most_cells}
use Rattle.ve_pres.specs.Drafts.{Draft, bare_draft, IsOpen}
use Rattle.ve_pres.specs.declared.presentation.Presentation.TheInside.{Inside}
use Rattle.ve_pres.specs.declared.presentation.letters.Letters.{Letters}
use Rattle.ve_pres.specs.Built.{draft_of, IsBuilt}
use Rattle.ve_pres.specs.Relations.{IsKeepable, IsKeepableSubmodule}
use Rattle.ve_pres.specs.Letters.{AreLetters, AreSame}
use Rattle.ve_pres.proofs.Bounds.{greatest_of-append, greatest_of-one, greatest_of-none, sum_by-append}
use Rattle.ve_lemmas.proofs.Relators.{length-inverse_relators}
use Rattle.ve_pres.proofs.LetterLists.{cells_of_inverses, same_letters}

-- presentations by their parts
parts : (version : ℕ) (balanced : Bool) (prime : ℕ) (names : List (List ℕ)) (inverses : List (Option ℕ)) (weights : List ℕ) (generators : ℕ) (relations : List AlgebraElement) (submodule : List Element) → Presentation
parts version balanced prime names inverses weights generators relations submodule = record {
  version = version;
  is_balanced = balanced;
  prime = prime;
  names = names;
  inverses = inverses;
  weights = weights;
  generators = generators;
  relations = relations;
  submodule = submodule;
}

-- nothing yet

pub valid_bare : (version p : ℕ) → (version ≡ 1) ⊎ (version ≡ 2) → IsFieldPrime p → IsValid (bare_draft version p).presentation
unfolding inverse_relators
valid_bare version p two prime = record {
  presentation = record {
    field = prime;
    one_inverse_each = refl;
    one_weight_each = refl;
    weights = All-nil (λ (w : ℕ). (0 < w) × (w ≤ 16));
    inverses = λ x y e. absurd cc;
    relations = All-nil (λ (r : AlgebraElement). IsReduced ShortlexLetters p r × All (λ t. HasLetters (bare_draft version p).presentation t.0) r × (r ≢ []));
    submodule = All-nil (λ (v : Element). IsReduced Shortlex p v × All (λ t. IsWord (bare_draft version p).presentation t.0) v × (v ≢ []));
  };
  version = two;
  plain = λ e. (refl, All-nil (λ (w : ℕ). w ≡ 1));
  names = All-nil (λ (n : List ℕ). IsTrue (is_name n) × IsFalse (is_rooted n));
  distinct = λ i j d a b. absurd (omega arith);
  beside = λ x y e. absurd cc;
  balanced = λ e. absurd cc;
  letters = omega arith;
  generators = (omega arith, omega arith);
  relation_count = omega arith;
  relations = All-nil (λ (r : AlgebraElement). (length r ≤ most_terms) × (algebra_length r ≤ most_length));
  submodule = All-nil (λ (v : Element). (length v ≤ most_terms) × (element_length v ≤ most_length));
  cell_count = omega arith;
}

pub bare_built :
    (p : Inside) → (p.version ≡ 1) ⊎ (p.version ≡ 2) → IsFieldPrime p.field → p.balanced ≡ false → p.roots ≡ 1 → p.letters.names ≡ [] → p.letters.inverses.items ≡ []
    → p.letters.weights.items ≡ [] → p.letters.relators.items ≡ [] → p.relations.items ≡ [] → p.submodule.items ≡ [] → p.counted ≡ 0 → p.cells ≡ 0 → p.d ≡ 1 → p.m ≡ 0
    → (draft_of p ≡ bare_draft p.version p.field) × IsBuilt p
unfolding inverse_relators
bare_built p two prime balanced roots names inverses weights relators relations submodule counted room d m =
    let shown : (draft_of p).presentation ≡ (bare_draft p.version p.field).presentation = λ i. record {
      version = p.version;
      is_balanced = balanced i;
      prime = p.field;
      names = names i;
      inverses = inverses i;
      weights = weights i;
      generators = roots i;
      relations = relations i;
      submodule = submodule i;
    } in (
      λ i. record { presentation = shown i; counted = counted i },
      record {
        valid = let P : Presentation → Type 0 = λ Q. IsValid Q in subst P (sym shown) (valid_bare p.version p.field two prime);
        relators = relators ∙ ap (inverse_relators p.field 0) (sym inverses);
        cells = room ∙ ap cells (sym shown);
        d = d ∙ (bound ∙ ap relator_bound (sym shown));
        m = m ∙ (bound_of_none ∙ ap submodule_bound (sym shown));
        counted = omega (arith, ap length relations, ap length submodule);
        limit = omega arith;
      },
    )
  where
    bound : 1 ≡ relator_bound (bare_draft p.version p.field).presentation
    bound = omega (arith, greatest_of-none (λ (w : ℕ). w), greatest_of-none (algebra_weight []))

    bound_of_none : 0 ≡ submodule_bound (bare_draft p.version p.field).presentation
    bound_of_none = sym (greatest_of-none (element_weight []))

-- numbers that fit

pub few_relators : (p : Inside) → IsBuilt p → length p.letters.relators.items ≤ 32
few_relators p built =
    let short : length (inverse_relators p.field 0 p.letters.inverses.items) ≤ length p.letters.inverses.items = length-inverse_relators p.field 0 p.letters.inverses.items in
    omega (arith, short, ap length built.relators, built.valid.presentation.one_inverse_each, built.valid.letters)

pub few_relations : (p : Inside) → IsBuilt p → length p.relations.items ≤ 4096
few_relations p built = omega (arith, built.counted, built.limit)

-- the letters that a presentation has

pub letters_of_inside : (p : Inside) → IsBuilt p → AreLetters p.version p.field p.letters
letters_of_inside p built = record {
  names = record { few = built.valid.letters; formed = built.valid.names; distinct = built.valid.distinct };
  one_inverse_each = built.valid.presentation.one_inverse_each;
  one_weight_each = built.valid.presentation.one_weight_each;
  weights = built.valid.presentation.weights;
  plain = λ e. (built.valid.plain e).1;
  inverses = built.valid.presentation.inverses;
  beside = built.valid.beside;
  relators = built.relators;
}

pub letters_of_built :
    (p : Inside) (d : Draft) (copy : Letters) → IsBuilt p → draft_of p ≡ d → AreSame copy p.letters → AreLetters d.presentation.version d.presentation.prime copy
letters_of_built p d copy built view same =
    let P : Draft → Type 0 = λ e. AreLetters e.presentation.version e.presentation.prime copy in
    subst P view (same_letters p.version p.field copy p.letters same (letters_of_inside p built))

-- other letters in the place of the letters, where there are no relations

pub open_cells :
    (p : ℕ) (inverses : List (Option ℕ)) (letter_relators relations : List AlgebraElement) (submodule : List Element) → letter_relators ≡ inverse_relators p 0 inverses → relations ≡ [] → submodule ≡ []
    → sum_by algebra_cells (inverse_relators p 0 inverses ++ relations) + sum_by element_cells submodule ≡ 4 * length letter_relators
open_cells p inverses letter_relators relations submodule is no_relations no_submodule =
    let a : sum_by algebra_cells (inverse_relators p 0 inverses ++ relations) ≡ sum_by algebra_cells (inverse_relators p 0 inverses) =
    ap (λ rs. sum_by algebra_cells (inverse_relators p 0 inverses ++ rs)) no_relations ∙ ap (sum_by algebra_cells) (append-nil (inverse_relators p 0 inverses)) in
    let b : sum_by element_cells submodule ≡ 0 = ap (sum_by element_cells) no_submodule in
    omega (arith, a, b, cells_of_inverses p 0 inverses, ap length is)

pub other_letters :
    (p : Inside) (letters : Letters) (room d : ℕ) → IsBuilt p → p.relations.items ≡ [] → p.submodule.items ≡ [] → AreLetters p.version p.field letters
    → room ≡ 4 * length letters.relators.items
    → d ≡ max (max 1 (greatest_of (λ w. w) letters.weights.items)) (greatest_of (algebra_weight letters.weights.items) letters.relators.items)
    → IsBuilt (record p { letters = letters; cells = room; d = d })
other_letters p letters room d built no_relations no_submodule are room_is d_is = record {
  valid = record {
    presentation = record {
      field = built.valid.presentation.field;
      one_inverse_each = are.one_inverse_each;
      one_weight_each = are.one_weight_each;
      weights = are.weights;
      inverses = are.inverses;
      relations = let P : List AlgebraElement → Type 0 = λ rs. All (λ (r : AlgebraElement). IsReduced ShortlexLetters p.field r × All (λ (t : List ℕ × ℕ). HasLetters Q t.0) r × (r ≢ [])) rs in
          subst P (sym no_relations) (All-nil (λ (r : AlgebraElement). IsReduced ShortlexLetters p.field r × All (λ (t : List ℕ × ℕ). HasLetters Q t.0) r × (r ≢ [])));
      submodule = let P : List Element → Type 0 = λ vs. All (λ (v : Element). IsReduced Shortlex p.field v × All (λ (t : Word × ℕ). IsWord Q t.0) v × (v ≢ [])) vs in
          subst P (sym no_submodule) (All-nil (λ (v : Element). IsReduced Shortlex p.field v × All (λ (t : Word × ℕ). IsWord Q t.0) v × (v ≢ [])));
    };
    version = built.valid.version;
    plain = λ e. ((built.valid.plain e).0, are.plain e);
    names = are.names.formed;
    distinct = are.names.distinct;
    beside = are.beside;
    balanced = λ b. let P : List AlgebraElement → Type 0 = λ rs. All (λ (r : AlgebraElement). IsAlgebraElementOf p.field r (halved letters.inverses.items r)) rs in
        subst P (sym no_relations) (All-nil (λ (r : AlgebraElement). IsAlgebraElementOf p.field r (halved letters.inverses.items r)));
    letters = are.names.few;
    generators = built.valid.generators;
    relation_count = built.valid.relation_count;
    relations = built.valid.relations;
    submodule = built.valid.submodule;
    cell_count = omega (arith, all_cells, few);
  };
  relators = are.relators;
  cells = room_is ∙ sym all_cells;
  d = d_is ∙ ap (λ rs. max (max 1 (greatest_of (λ (w : ℕ). w) letters.weights.items)) (greatest_of (algebra_weight letters.weights.items) rs)) (sym all_relators);
  m = built.m ∙ (ap (greatest_of (element_weight p.letters.weights.items)) no_submodule
      ∙ (greatest_of-none (element_weight p.letters.weights.items) ∙ (sym (greatest_of-none (element_weight letters.weights.items)) ∙ ap (greatest_of (element_weight letters.weights.items)) (sym no_submodule))));
  counted = built.counted;
  limit = built.limit;
}
  where
    Q : Presentation
    Q = (draft_of (record p { letters = letters; cells = room; d = d })).presentation

    all_relators : inverse_relators p.field 0 letters.inverses.items ++ p.relations.items ≡ letters.relators.items
    all_relators = ap (λ rs. inverse_relators p.field 0 letters.inverses.items ++ rs) no_relations ∙ (append-nil (inverse_relators p.field 0 letters.inverses.items) ∙ sym are.relators)

    all_cells : sum_by algebra_cells (inverse_relators p.field 0 letters.inverses.items ++ p.relations.items) + sum_by element_cells p.submodule.items ≡ 4 * length letters.relators.items
    all_cells = open_cells p.field letters.inverses.items letters.relators.items p.relations.items p.submodule.items are.relators no_relations no_submodule

    few : length letters.relators.items ≤ 32
    few =
        let short : length (inverse_relators p.field 0 letters.inverses.items) ≤ length letters.inverses.items = length-inverse_relators p.field 0 letters.inverses.items in
        omega (arith, short, ap length are.relators, are.one_inverse_each, are.names.few)

pub open_relations : (p : Inside) (d : Draft) → draft_of p ≡ d → IsOpen d → (p.relations.items ≡ []) × (p.submodule.items ≡ [])
open_relations p d view open_d =
    (ap (λ (e : Draft). e.presentation.relations) view ∙ open_d.relations, ap (λ (e : Draft). e.presentation.submodule) view ∙ open_d.submodule)

-- one more relation

pub relation_built :
    (p : Inside) (rs : Vec AlgebraElement Global) (r : AlgebraElement) (room d : ℕ) → IsBuilt p → rs.items ≡ p.relations.items ++ r ∷ [] → r ≢ [] → IsKeepable (draft_of p).presentation r
    → p.counted < most_relations → room ≡ cells (draft_of p).presentation + algebra_cells r → room ≤ most_cells → d ≡ max p.d (algebra_weight p.letters.weights.items r)
    → IsBuilt (record p { relations = rs; cells = room; d = d; counted = p.counted + 1 })
relation_built p rs r room d built is some keepable counted room_is within d_is = record {
  valid = record {
    presentation = record {
      field = built.valid.presentation.field;
      one_inverse_each = built.valid.presentation.one_inverse_each;
      one_weight_each = built.valid.presentation.one_weight_each;
      weights = built.valid.presentation.weights;
      inverses = built.valid.presentation.inverses;
      relations =
          let P : List AlgebraElement → Type 0 = λ us. All (λ (u : AlgebraElement). IsReduced ShortlexLetters p.field u × All (λ (t : List ℕ × ℕ). HasLetters (draft_of p).presentation t.0) u × (u ≢ [])) us in
          subst P (sym is) (All-push (λ (u : AlgebraElement). IsReduced ShortlexLetters p.field u × All (λ (t : List ℕ × ℕ). HasLetters (draft_of p).presentation t.0) u × (u ≢ [])) p.relations.items r
          built.valid.presentation.relations (keepable.reduced, keepable.letters, some));
      submodule = built.valid.presentation.submodule;
    };
    version = built.valid.version;
    plain = built.valid.plain;
    names = built.valid.names;
    distinct = built.valid.distinct;
    beside = built.valid.beside;
    balanced = λ b. let P : List AlgebraElement → Type 0 = λ us. All (λ (u : AlgebraElement). IsAlgebraElementOf p.field u (halved p.letters.inverses.items u)) us in
        subst P (sym is) (All-push (λ (u : AlgebraElement). IsAlgebraElementOf p.field u (halved p.letters.inverses.items u)) p.relations.items r (built.valid.balanced b) (keepable.own_half b));
    letters = built.valid.letters;
    generators = built.valid.generators;
    relation_count = omega (arith, count, built.counted);
    relations = let P : List AlgebraElement → Type 0 = λ us. All (λ (u : AlgebraElement). (length u ≤ most_terms) × (algebra_length u ≤ most_length)) us in
        subst P (sym is) (All-push (λ (u : AlgebraElement). (length u ≤ most_terms) × (algebra_length u ≤ most_length)) p.relations.items r built.valid.relations (keepable.terms, keepable.short));
    submodule = built.valid.submodule;
    cell_count = omega (arith, all_cells);
  };
  relators = built.relators;
  cells = sym all_cells;
  d = d_is ∙ (ap (λ n. max n (algebra_weight p.letters.weights.items r)) built.d ∙ bound);
  m = built.m;
  counted = omega (arith, count, built.counted);
  limit = omega arith;
}
  where
    count : length rs.items ≡ length p.relations.items + 1
    count = ap length is ∙ length-append p.relations.items (r ∷ [])

    whole : inverse_relators p.field 0 p.letters.inverses.items ++ rs.items ≡ (inverse_relators p.field 0 p.letters.inverses.items ++ p.relations.items) ++ r ∷ []
    whole = ap (λ us. inverse_relators p.field 0 p.letters.inverses.items ++ us) is ∙ sym (append_assoc (inverse_relators p.field 0 p.letters.inverses.items) p.relations.items (r ∷ []))

    all_cells : sum_by algebra_cells (inverse_relators p.field 0 p.letters.inverses.items ++ rs.items) + sum_by element_cells p.submodule.items ≡ room
    all_cells =
        let a : sum_by algebra_cells (inverse_relators p.field 0 p.letters.inverses.items ++ rs.items) ≡ sum_by algebra_cells ((inverse_relators p.field 0 p.letters.inverses.items ++ p.relations.items) ++ r ∷ []) = ap (sum_by algebra_cells) whole in
        omega (arith, a, sum_by-append algebra_cells (inverse_relators p.field 0 p.letters.inverses.items ++ p.relations.items) (r ∷ []), sum_by-cons algebra_cells r [], room_is)

    bound : max (relator_bound (draft_of p).presentation) (algebra_weight p.letters.weights.items r)
        ≡ max (max 1 (greatest_of (λ w. w) p.letters.weights.items)) (greatest_of (algebra_weight p.letters.weights.items) (inverse_relators p.field 0 p.letters.inverses.items ++ rs.items))
    bound =
        let a : greatest_of (algebra_weight p.letters.weights.items) (inverse_relators p.field 0 p.letters.inverses.items ++ rs.items)
        ≡ greatest_of (algebra_weight p.letters.weights.items) ((inverse_relators p.field 0 p.letters.inverses.items ++ p.relations.items) ++ r ∷ []) = ap (greatest_of (algebra_weight p.letters.weights.items)) whole in
        omega (arith, a, greatest_of-append (algebra_weight p.letters.weights.items) (inverse_relators p.field 0 p.letters.inverses.items ++ p.relations.items) (r ∷ []), greatest_of-one (algebra_weight p.letters.weights.items) r)

pub submodule_built :
    (p : Inside) (vs : Vec Element Global) (v : Element) (room m : ℕ) → IsBuilt p → vs.items ≡ p.submodule.items ++ v ∷ [] → v ≢ [] → IsKeepableSubmodule (draft_of p).presentation v
    → p.counted < most_relations → room ≡ cells (draft_of p).presentation + element_cells v → room ≤ most_cells → m ≡ max p.m (element_weight p.letters.weights.items v)
    → IsBuilt (record p { submodule = vs; cells = room; m = m; counted = p.counted + 1 })
submodule_built p vs v room m built is some keepable counted room_is within m_is = record {
  valid = record {
    presentation = record {
      field = built.valid.presentation.field;
      one_inverse_each = built.valid.presentation.one_inverse_each;
      one_weight_each = built.valid.presentation.one_weight_each;
      weights = built.valid.presentation.weights;
      inverses = built.valid.presentation.inverses;
      relations = built.valid.presentation.relations;
      submodule =
          let P : List Element → Type 0 = λ us. All (λ (u : Element). IsReduced Shortlex p.field u × All (λ (t : Word × ℕ). IsWord (draft_of p).presentation t.0) u × (u ≢ [])) us in
          subst P (sym is) (All-push (λ (u : Element). IsReduced Shortlex p.field u × All (λ (t : Word × ℕ). IsWord (draft_of p).presentation t.0) u × (u ≢ [])) p.submodule.items v
          built.valid.presentation.submodule (keepable.reduced, keepable.words, some));
    };
    version = built.valid.version;
    plain = built.valid.plain;
    names = built.valid.names;
    distinct = built.valid.distinct;
    beside = built.valid.beside;
    balanced = built.valid.balanced;
    letters = built.valid.letters;
    generators = built.valid.generators;
    relation_count = omega (arith, count, built.counted);
    relations = built.valid.relations;
    submodule = let P : List Element → Type 0 = λ us. All (λ (u : Element). (length u ≤ most_terms) × (element_length u ≤ most_length)) us in
        subst P (sym is) (All-push (λ (u : Element). (length u ≤ most_terms) × (element_length u ≤ most_length)) p.submodule.items v built.valid.submodule (keepable.terms, keepable.short));
    cell_count = omega (arith, all_cells);
  };
  relators = built.relators;
  cells = sym all_cells;
  d = built.d;
  m = m_is ∙ (ap (λ n. max n (element_weight p.letters.weights.items v)) built.m ∙ bound);
  counted = omega (arith, count, built.counted);
  limit = omega arith;
}
  where
    count : length vs.items ≡ length p.submodule.items + 1
    count = ap length is ∙ length-append p.submodule.items (v ∷ [])

    all_cells : sum_by algebra_cells (inverse_relators p.field 0 p.letters.inverses.items ++ p.relations.items) + sum_by element_cells vs.items ≡ room
    all_cells = omega (arith, ap (sum_by element_cells) is, sum_by-append element_cells p.submodule.items (v ∷ []), sum_by-cons element_cells v [], room_is)

    bound : max (submodule_bound (draft_of p).presentation) (element_weight p.letters.weights.items v) ≡ greatest_of (element_weight p.letters.weights.items) vs.items
    bound = omega (arith, ap (greatest_of (element_weight p.letters.weights.items)) is, greatest_of-append (element_weight p.letters.weights.items) p.submodule.items (v ∷ []), greatest_of-one (element_weight p.letters.weights.items) v)
