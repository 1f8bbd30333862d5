-- How the tokens of a line are read as its form, by its first word.
use Rattle.std.specs.Prelude.{ℕ, Bool, false, cond, nat_eq, codes, List, [], ◌∷◌, Option, Some, None}
use Rattle.ve_theory.specs.Words.{same_letters}
use Rattle.ve_formats.specs.Tokens.{Token, name, number, symbol, number_value}
use Rattle.ve_formats.specs.PresentationLines.{Declared, Line, version, prime, letter, pair, involution, generators, balance, relation, submodule, end}
use Rattle.ve_formats.specs.Reading.{parsed}
use Rattle.ve_formats.specs.ModuleReading.{module_parsed}

-- the sides of an equation: no equals sign stands in an expression

pub record Sides : Type 0 where
  pub left : List Token
  pub right : List Token

abbrev pub is_equals : Token → Bool
is_equals (name x) = false
is_equals (number digits) = false
is_equals (symbol b) = nat_eq b 61

abbrev pub before_sides : Token → Option Sides → Option Sides
before_sides t (Some s) = Some (record { left = t ∷ s.left; right = s.right })
before_sides t None = None

unfoldable pub sides : List Token → Option Sides
sides [] = None
sides (t ∷ ts) = cond (is_equals t) (Some (record { left = []; right = ts })) (before_sides t (sides ts))

-- the words that lines begin with

pub data Keyword : Type 0 where
  of_version : Keyword
  of_prime : Keyword
  of_letter : Keyword
  of_involution : Keyword
  of_generators : Keyword
  of_balance : Keyword
  of_relation : Keyword
  of_submodule : Keyword
  of_end : Keyword
  of_nothing : Keyword

abbrev pub keyword_bytes : Keyword → List ℕ
keyword_bytes of_version = codes "venum"
keyword_bytes of_prime = codes "prime"
keyword_bytes of_letter = codes "letter"
keyword_bytes of_involution = codes "involution"
keyword_bytes of_generators = codes "module"
keyword_bytes of_balance = codes "balance"
keyword_bytes of_relation = codes "relation"
keyword_bytes of_submodule = codes "sub"
keyword_bytes of_end = codes "end"
keyword_bytes of_nothing = []

abbrev pub first_of : List ℕ → List Keyword → Keyword
first_of x [] = of_nothing
first_of x (k ∷ ks) = cond (same_letters x (keyword_bytes k)) k (first_of x ks)

abbrev pub keywords : List Keyword
keywords = of_version ∷ of_prime ∷ of_letter ∷ of_involution ∷ of_generators ∷ of_balance ∷ of_relation ∷ of_submodule ∷ of_end ∷ []

abbrev pub keyword : List ℕ → Keyword
keyword x = first_of x keywords

-- a declared letter, and the tokens behind it

pub record Taken : Type 0 where
  pub declared : Declared
  pub behind : List Token

abbrev pub unweighted : List ℕ → List Token → Taken
unweighted x behind = record { declared = record { called = x; weight = None }; behind = behind }

abbrev pub with_weight : List ℕ → List ℕ → List Token → Taken
with_weight x digits behind = record { declared = record { called = x; weight = Some (number_value digits) }; behind = behind }

unfoldable pub take_weight : List ℕ → List Token → Taken
take_weight x [] = unweighted x []
take_weight x (name k ∷ []) = unweighted x (name k ∷ [])
take_weight x (name k ∷ number digits ∷ ts) = cond (same_letters k (codes "weight")) (with_weight x digits ts) (unweighted x (name k ∷ number digits ∷ ts))
take_weight x (name k ∷ name y ∷ ts) = unweighted x (name k ∷ name y ∷ ts)
take_weight x (name k ∷ symbol b ∷ ts) = unweighted x (name k ∷ symbol b ∷ ts)
take_weight x (number digits ∷ ts) = unweighted x (number digits ∷ ts)
take_weight x (symbol b ∷ ts) = unweighted x (symbol b ∷ ts)

unfoldable pub take_declared : List Token → Option Taken
take_declared [] = None
take_declared (name x ∷ ts) = Some (take_weight x ts)
take_declared (number digits ∷ ts) = None
take_declared (symbol b ∷ ts) = None

-- the form of a line, by its first word

abbrev pub one_number : (ℕ → Line) → List Token → Option Line
one_number form [] = None
one_number form (name x ∷ ts) = None
one_number form (symbol b ∷ ts) = None
one_number form (number digits ∷ []) = Some (form (number_value digits))
one_number form (number digits ∷ t ∷ ts) = None

abbrev pub alone : Line → List Token → Option Line
alone form [] = Some form
alone form (t ∷ ts) = None

abbrev pub declared_alone : (Declared → Line) → Option Taken → Option Line
declared_alone form None = None
declared_alone form (Some t) = alone (form t.declared) t.behind

abbrev pub letter_or_pair : Declared → List Token → Option Line
letter_or_pair x [] = Some (letter x)
letter_or_pair x (name k ∷ ts) = cond (same_letters k (codes "inverse")) (declared_alone (pair x) (take_declared ts)) None
letter_or_pair x (number digits ∷ ts) = None
letter_or_pair x (symbol b ∷ ts) = None

abbrev pub letters_form : Option Taken → Option Line
letters_form None = None
letters_form (Some t) = letter_or_pair t.declared t.behind

abbrev pub two : {X : Type 0} → (X → X → Line) → Option X → Option X → Option Line
two form (Some d) (Some e) = Some (form d e)
two form (Some d) None = None
two form None e = None

abbrev pub equation : {X : Type 0} → (X → X → Line) → (List Token → Option X) → Option Sides → Option Line
equation form parse None = None
equation form parse (Some s) = two form (parse s.left) (parse s.right)

abbrev pub form_behind : Keyword → List Token → Option Line
form_behind of_version ts = one_number version ts
form_behind of_prime ts = one_number prime ts
form_behind of_letter ts = letters_form (take_declared ts)
form_behind of_involution ts = declared_alone involution (take_declared ts)
form_behind of_generators ts = one_number generators ts
form_behind of_balance ts = alone balance ts
form_behind of_relation ts = equation relation parsed (sides ts)
form_behind of_submodule ts = equation submodule module_parsed (sides ts)
form_behind of_end ts = alone end ts
form_behind of_nothing ts = None

unfoldable pub form_of : List Token → Option Line
form_of [] = None
form_of (name x ∷ ts) = form_behind (keyword x) ts
form_of (number digits ∷ ts) = None
form_of (symbol b ∷ ts) = None
