-- What the words of a command line mean: the second one names the command, and the words from there on are taken as `clap` defines it
-- for a simple command with these options.
use Rattle.std.specs.Prelude.{◌≡◌, ◌↔◌, ℕ, Bool, true, List, [], ◌∷◌, Option, Some, Result, Ok, Err, codes, IsTrue}
use Rattle.std.specs.Str.Parse.{digits_value, without_leading_plus}
use Rattle.clap.specs.Words.{App, Rule, Row, Text, IsUnsignedIn, new_app, new_rule, with_rule, first_of, one_of, matches_of, fault_of}
use Rattle.clap.specs.declared.builder.ArgAction.TheVariants.{SetTrue}
use Rattle.clap.specs.declared.builder.value_parser.ValueParser.TheVariants as parser
use Rattle.ve_words.specs.declared.fault.WordsFault.{WordsFault}
use Rattle.ve_words.specs.declared.fault.WordsFault.TheVariants.{Refused, Memory}
use Rattle.ve_words.specs.declared.command.Command.{Command}
use Rattle.ve_words.specs.declared.command.Command.TheVariants.{Alone, Shared, Show, Check, Make}

-- ---- the options

-- an option `--name` whose value is a number from `low` to `high`
abbrev pub ranged_rule : (name : Text) (low high : ℕ) → Rule
ranged_rule name low high = record (new_rule name) { long = Some name; parser = Some (parser.Unsigned low high) }

abbrev pub limit_rule : Rule
limit_rule = record (ranged_rule (codes "limit") 1 1000000) { defaults = codes "10000" ∷ [] }

abbrev pub workers_rule : Rule
workers_rule = record (ranged_rule (codes "workers") 1 64) { defaults = codes "4" ∷ [] }

-- a flag
abbrev pub summary_rule : Rule
summary_rule = record (new_rule (codes "summary")) { long = Some (codes "summary"); action = Some SetTrue }

-- a number that has to be given
abbrev pub number_rule : Text → Rule
number_rule name = record (ranged_rule name 0 1000) { required = true }

-- ---- the commands

abbrev pub alone_app : App
alone_app = with_rule (with_rule (new_app (codes "alone")) limit_rule) summary_rule

abbrev pub shared_app : App
shared_app = with_rule (with_rule (with_rule (new_app (codes "shared")) workers_rule) limit_rule) summary_rule

abbrev pub show_app : App
show_app = new_app (codes "show")

abbrev pub check_app : App
check_app = new_app (codes "check")

abbrev pub make_app : App
make_app = with_rule (with_rule (with_rule (new_app (codes "make")) (number_rule (codes "points"))) (number_rule (codes "node"))) (number_rule (codes "prime"))

abbrev pub name_of : Command → Text
name_of (Alone limit summary) = codes "alone"
name_of (Shared workers limit summary) = codes "shared"
name_of Show = codes "show"
name_of Check = codes "check"
name_of (Make points node prime) = codes "make"

abbrev pub app_of_command : Command → App
app_of_command (Alone limit summary) = alone_app
app_of_command (Shared workers limit summary) = shared_app
app_of_command Show = show_app
app_of_command Check = check_app
app_of_command (Make points node prime) = make_app

-- ---- the values

-- the value of an option is a number from `low` to `high`, and this one
pub record IsNumber (rows : List Row) (name : Text) (low high number : ℕ) : Type 0 where
  pub text : Text
  pub given : one_of name rows ≡ Some text
  pub accepted : IsUnsignedIn low high text
  pub value : number ≡ digits_value 10 (without_leading_plus text)

-- the flag is set exactly where this is true
abbrev pub IsFlag : List Row → Text → Bool → Type 0
IsFlag rows name set = IsTrue set ↔ (first_of name rows ≡ Some (codes "true"))

abbrev pub HasValues : Command → List Row → Type 0
HasValues (Alone limit summary) rows = IsNumber rows (codes "limit") 1 1000000 limit × IsFlag rows (codes "summary") summary
HasValues (Shared workers limit summary) rows =
    IsNumber rows (codes "workers") 1 64 workers × IsNumber rows (codes "limit") 1 1000000 limit × IsFlag rows (codes "summary") summary
HasValues Show rows = Unit {0}
HasValues Check rows = Unit {0}
HasValues (Make points node prime) rows =
    IsNumber rows (codes "points") 0 1000 points × IsNumber rows (codes "node") 0 1000 node × IsNumber rows (codes "prime") 0 1000 prime

-- ---- the words

-- the words from the command's name on are taken, with its values
pub record Takes (words : List Text) (command : Command) : Type 0 where
  pub taken : fault_of (app_of_command command) words ≡ []
  pub values : HasValues command (matches_of (app_of_command command) words)

-- the first word is the program's name, and isn't looked at
pub record Means (words : List Text) (command : Command) : Type 0 where
  pub program : Text
  pub options : List Text
  pub are : words ≡ program ∷ name_of command ∷ options
  pub takes : Takes (name_of command ∷ options) command

-- What is read where the command's name is this one: a command of this name that takes the words; or there is none.
abbrev pub Reads : Text → List Text → Result Command WordsFault → Type 0
Reads name words (Ok command) = (name_of command ≡ name) × Takes words command
Reads name words (Err Refused) = (command : Command) → name_of command ≡ name → ¬ Takes words command
Reads name words (Err Memory) = Unit {0}

-- the first word, where there is one
abbrev pub head_of : List Text → Text
head_of [] = []
head_of (word ∷ words) = word

-- words mean one command at most
abbrev pub WordsMeanOnce : Type 0
WordsMeanOnce = (words : List Text) (command other : Command) → Means words command → Means words other → command ≡ other
