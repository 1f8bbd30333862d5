-- The forms of lines, as the program keeps them.
use Rattle.std.specs.Prelude.{◌≡◌, List, Option, Some, None, MatchOption, IsTrue}
use Rattle.ve_theory.specs.Validity.{is_name}
use Rattle.ve_formats.specs.Expressions.{Expression}
use Rattle.ve_formats.specs.ModuleExpressions.{ModuleExpression}
use Rattle.ve_formats.specs.Reading.{parsed}
use Rattle.ve_formats.specs.ModuleReading.{module_parsed}
use Rattle.ve_formats.specs.LineReading as grammar
use Rattle.ve_formats.specs.LineReading.{Sides, Taken}
use Rattle.ve_formats.specs.PresentationLines as lines
use Rattle.ve_formats.specs.PresentationLines.{Line}
use Rattle.ve_lex.specs.declared.token.Placed.{Placed}
use Rattle.ve_value.specs.Shapes.{AreWritten, tokens_in}
use Rattle.ve_read.specs.declared.keyword.Keyword.{Keyword}
use Rattle.ve_read.specs.declared.keyword.Keyword.TheVariants as words
use Rattle.ve_read.specs.declared.form.Declared.{Declared}
use Rattle.ve_read.specs.declared.form.Form.{Form}
use Rattle.ve_read.specs.declared.form.Form.TheVariants.{Version, Prime, Letter, Pair, Involution, Generators, Balance, Relation, Submodule, End}

abbrev pub read_as : Keyword → grammar.Keyword
read_as words.Version = grammar.of_version
read_as words.Prime = grammar.of_prime
read_as words.Letter = grammar.of_letter
read_as words.Involution = grammar.of_involution
read_as words.Generators = grammar.of_generators
read_as words.Balance = grammar.of_balance
read_as words.Relation = grammar.of_relation
read_as words.Submodule = grammar.of_submodule
read_as words.End = grammar.of_end
read_as words.Nothing = grammar.of_nothing

abbrev pub declared_of : Declared → lines.Declared
declared_of letter = record { called = letter.name.now; weight = letter.weight }

-- the letter that is declared is one that tokens declare
abbrev pub IsNamed : Declared → Type 0
IsNamed letter = IsTrue (is_name letter.name.now)

-- tokens of a line that are this expression
pub record AreTokensOf (tokens : List Placed) (e : Expression) : Type 0 where
  pub written : AreWritten tokens
  pub spell : parsed (tokens_in tokens) ≡ Some e

pub record AreModuleTokensOf (tokens : List Placed) (e : ModuleExpression) : Type 0 where
  pub written : AreWritten tokens
  pub spell : module_parsed (tokens_in tokens) ≡ Some e

-- the form is that of the line
abbrev pub IsFormOf : Form → Line → Type 0
IsFormOf (Version n) line = line ≡ lines.version n
IsFormOf (Prime n) line = line ≡ lines.prime n
IsFormOf (Letter x) line = (line ≡ lines.letter (declared_of x)) × IsNamed x
IsFormOf (Pair x y) line = (line ≡ lines.pair (declared_of x) (declared_of y)) × IsNamed x × IsNamed y
IsFormOf (Involution x) line = (line ≡ lines.involution (declared_of x)) × IsNamed x
IsFormOf (Generators n) line = line ≡ lines.generators n
IsFormOf Balance line = line ≡ lines.balance
IsFormOf (Relation left right) line = (d e : Expression) × (line ≡ lines.relation d e) × AreTokensOf left.now d × AreTokensOf right.now e
IsFormOf (Submodule left right) line = (d e : ModuleExpression) × (line ≡ lines.submodule d e) × AreModuleTokensOf left.now d × AreModuleTokensOf right.now e
IsFormOf End line = line ≡ lines.end

-- the form of the line that there is, if there is one
pub record IsFormIn (there : Option Line) (form : Form) : Type 0 where
  pub line : Line
  pub is : there ≡ Some line
  pub form_of_line : IsFormOf form line

abbrev pub ReadsForm : Option Line → Option Form → Type 0
ReadsForm there result = MatchOption result (there ≡ None) (IsFormIn there)

-- a declared letter at the front of tokens, and the tokens behind it
pub record IsDeclaredIn (there : Option Taken) (x : Declared) (behind : List Placed) : Type 0 where
  pub is : there ≡ Some (record { declared = declared_of x; behind = tokens_in behind })
  pub named : IsNamed x
  pub written : AreWritten behind

-- the sides of an equation
pub record AreSidesIn (there : Option Sides) (left right : List Placed) : Type 0 where
  pub are : there ≡ Some (record { left = tokens_in left; right = tokens_in right })
  pub left_written : AreWritten left
  pub right_written : AreWritten right
