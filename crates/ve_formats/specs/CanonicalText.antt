-- The canonical text of a presentation.
use Rattle.std.specs.Prelude.{ℕ, ◌+◌, cond, nat_eq, List, [], ◌∷◌, ◌++◌, map, codes, decimal, Option, Some, None, slice_index_or}
use Rattle.std.specs.List.{join_with_byte}
use Rattle.ve_theory.specs.Words.{Word, letter_weight}
use Rattle.ve_theory.specs.Elements.{AlgebraElement, Element}
use Rattle.ve_theory.specs.Presentations.{Presentation}
use Rattle.ve_formats.specs.Lines.{text_of_lines}
use Rattle.ve_formats.specs.WordText.{word_text}

-- the letters' names, joined by `*`
abbrev pub letters_text : List (List ℕ) → List ℕ → List ℕ
letters_text names u = join_with_byte 42 (map (λ x. slice_index_or names x []) u)

-- a coefficient and a `*`, where it isn't 1
abbrev pub coefficient_text : ℕ → List ℕ
coefficient_text c = cond (nat_eq c 1) [] (decimal c ++ codes "*")

-- a term of the algebra: the constant's is its coefficient
abbrev pub algebra_term_text : List (List ℕ) → List ℕ × ℕ → List ℕ
algebra_term_text names t = constant_or t.0
  where
    constant_or : List ℕ → List ℕ
    constant_or [] = decimal t.1
    constant_or (x ∷ u) = coefficient_text t.1 ++ letters_text names (x ∷ u)

-- a term of the module
abbrev pub term_text : List (List ℕ) → Word × ℕ → List ℕ
term_text names t = coefficient_text t.1 ++ word_text names t.0

-- the terms in their order, joined by ` + `
unfoldable pub joined_terms : List (List ℕ) → List ℕ
joined_terms [] = []
joined_terms (term ∷ []) = term
joined_terms (term ∷ next ∷ terms) = term ++ codes " + " ++ joined_terms (next ∷ terms)

abbrev pub relation_line : Presentation → AlgebraElement → List ℕ
relation_line P r = codes "relation " ++ joined_terms (map (algebra_term_text P.names) r) ++ codes " = 0"

abbrev pub submodule_line : Presentation → Element → List ℕ
submodule_line P q = codes "sub " ++ joined_terms (map (term_text P.names) q) ++ codes " = 0"

-- a letter's name, in version 2 with its weight
abbrev pub declared_text : Presentation → ℕ → List ℕ
declared_text P x = slice_index_or P.names x [] ++ cond (nat_eq P.version 2) (codes " weight " ++ decimal (letter_weight P.weights x)) []

-- the line of the letter x, if it has one: the second letter of a pair stands on the line of the first
abbrev pub letter_line : Presentation → ℕ → Option ℕ → List (List ℕ)
letter_line P x None = (codes "letter " ++ declared_text P x) ∷ []
letter_line P x (Some y) =
    cond (nat_eq x y) ((codes "involution " ++ declared_text P x) ∷ [])
    (cond (nat_eq y (x + 1)) ((codes "letter " ++ declared_text P x ++ codes " inverse " ++ declared_text P y) ∷ []) [])

-- the lines of the letters from x on, which have these inverses
unfoldable pub letter_lines : Presentation → ℕ → List (Option ℕ) → List (List ℕ)
letter_lines P x [] = []
letter_lines P x (inverse ∷ inverses) = letter_line P x inverse ++ letter_lines P (x + 1) inverses

abbrev pub balance_line : Presentation → List (List ℕ)
balance_line P = cond P.is_balanced (codes "balance" ∷ []) []

-- the lines, without their line feeds
unfoldable pub canonical_lines : Presentation → List (List ℕ)
canonical_lines P =
    (codes "venum " ++ decimal P.version)
    ∷ (codes "prime " ++ decimal P.prime)
    ∷ (letter_lines P 0 P.inverses
    ++ (codes "module " ++ decimal P.generators)
    ∷ (balance_line P
    ++ (map (relation_line P) P.relations ++ (map (submodule_line P) P.submodule ++ codes "end" ∷ []))))

unfoldable pub canonical : Presentation → List ℕ
canonical P = text_of_lines (canonical_lines P)
