-- Words mean one command at most.
use Rattle.std.specs.Prelude.{◌≡◌, ℕ, Bool, List, [], ◌∷◌, Option, Some, codes, slice_index, drop}
use Rattle.std.specs.Str.Parse.{digits_value, without_leading_plus}
use Rattle.std.proofs.Common.{refl, ap, sym, subst, ◌∙◌, arith}
use Rattle.std.proofs.lemmas.Bool.Decides.{same_from_decides}
use Rattle.clap.specs.Words.{Row, Text, matches_of}
use Rattle.ve_words.specs.declared.command.Command.{Command}
use Rattle.ve_words.specs.declared.command.Command.TheVariants.{Alone, Shared, Show, Check, Make}
use Rattle.ve_words.specs.Meaning.{Means, Takes, IsNumber, IsFlag, head_of, name_of, alone_app, shared_app}
use Rattle.ve_words.proofs.Commands.{apart}

same_number : (rows : List Row) (name : Text) (low high m n : ℕ) → IsNumber rows name low high m → IsNumber rows name low high n → m ≡ n
same_number rows name low high m n one other =
    let texts : Some one.text ≡ Some other.text = sym one.given ∙ other.given in
    let same : one.text ≡ other.text = cc in
    one.value ∙ ap (λ t. digits_value 10 (without_leading_plus t)) same ∙ sym other.value

same_flag : (rows : List Row) (name : Text) (set also : Bool) → IsFlag rows name set → IsFlag rows name also → set ≡ also
same_flag rows name set also one other = same_from_decides set also one other

is_alone : (command : Command) → name_of command ≡ codes "alone" → (l : ℕ) × (s : Bool) × (command ≡ Alone l s)
is_alone (Alone limit set) _ = (limit, set, refl)
is_alone (Shared workers limit set) e = absurd (apart 0 _ _ e (λ h. omega arith))
is_alone Show e = absurd (apart 0 _ _ e (λ h. omega arith))
is_alone Check e = absurd (apart 0 _ _ e (λ h. omega arith))
is_alone (Make points node prime) e = absurd (apart 0 _ _ e (λ h. omega arith))

is_shared : (command : Command) → name_of command ≡ codes "shared" → (w : ℕ) × (l : ℕ) × (s : Bool) × (command ≡ Shared w l s)
is_shared (Alone limit set) e = absurd (apart 0 _ _ e (λ h. omega arith))
is_shared (Shared workers limit set) _ = (workers, limit, set, refl)
is_shared Show e = absurd (apart 2 _ _ e (λ h. omega arith))
is_shared Check e = absurd (apart 0 _ _ e (λ h. omega arith))
is_shared (Make points node prime) e = absurd (apart 0 _ _ e (λ h. omega arith))

is_show : (command : Command) → name_of command ≡ codes "show" → command ≡ Show
is_show (Alone limit set) e = absurd (apart 0 _ _ e (λ h. omega arith))
is_show (Shared workers limit set) e = absurd (apart 2 _ _ e (λ h. omega arith))
is_show Show _ = refl
is_show Check e = absurd (apart 0 _ _ e (λ h. omega arith))
is_show (Make points node prime) e = absurd (apart 0 _ _ e (λ h. omega arith))

is_check : (command : Command) → name_of command ≡ codes "check" → command ≡ Check
is_check (Alone limit set) e = absurd (apart 0 _ _ e (λ h. omega arith))
is_check (Shared workers limit set) e = absurd (apart 0 _ _ e (λ h. omega arith))
is_check Show e = absurd (apart 0 _ _ e (λ h. omega arith))
is_check Check _ = refl
is_check (Make points node prime) e = absurd (apart 0 _ _ e (λ h. omega arith))

is_make : (command : Command) → name_of command ≡ codes "make" → (a : ℕ) × (b : ℕ) × (c : ℕ) × (command ≡ Make a b c)
is_make (Alone limit set) e = absurd (apart 0 _ _ e (λ h. omega arith))
is_make (Shared workers limit set) e = absurd (apart 0 _ _ e (λ h. omega arith))
is_make Show e = absurd (apart 0 _ _ e (λ h. omega arith))
is_make Check e = absurd (apart 0 _ _ e (λ h. omega arith))
is_make (Make points node prime) _ = (points, node, prime, refl)

pub same_command : (words : List Text) (command other : Command) → name_of command ≡ name_of other → Takes words command → Takes words other → command ≡ other
same_command words (Alone limit set) other name one two =
    let is = is_alone other (sym name) in
    let also : Takes words (Alone is.0 is.1) = subst (Takes words) is.2 two in
    let limits = same_number _ (codes "limit") 1 1000000 limit is.0 one.values.0 also.values.0 in
    let flags = same_flag (matches_of alone_app words) (codes "summary") set is.1 one.values.1 also.values.1 in
    ap (λ l. Alone l set) limits ∙ ap (Alone is.0) flags ∙ sym is.2
same_command words (Shared workers limit set) other name one two =
    let is = is_shared other (sym name) in
    let also : Takes words (Shared is.0 is.1 is.2) = subst (Takes words) is.3 two in
    let counts = same_number _ (codes "workers") 1 64 workers is.0 one.values.0 also.values.0 in
    let limits = same_number _ (codes "limit") 1 1000000 limit is.1 one.values.1 also.values.1 in
    let flags = same_flag (matches_of shared_app words) (codes "summary") set is.2 one.values.2 also.values.2 in
    ap (λ w. Shared w limit set) counts ∙ ap (λ l. Shared is.0 l set) limits ∙ ap (Shared is.0 is.1) flags ∙ sym is.3
same_command words Show other name one two = sym (is_show other (sym name))
same_command words Check other name one two = sym (is_check other (sym name))
same_command words (Make points node prime) other name one two =
    let is = is_make other (sym name) in
    let also : Takes words (Make is.0 is.1 is.2) = subst (Takes words) is.3 two in
    let first = same_number _ (codes "points") 0 1000 points is.0 one.values.0 also.values.0 in
    let second = same_number _ (codes "node") 0 1000 node is.1 one.values.1 also.values.1 in
    let third = same_number _ (codes "prime") 0 1000 prime is.2 one.values.2 also.values.2 in
    ap (λ a. Make a node prime) first ∙ ap (λ b. Make is.0 b prime) second ∙ ap (Make is.0 is.1) third ∙ sym is.3

pub words_mean_once : (words : List Text) (command other : Command) → Means words command → Means words other → command ≡ other
words_mean_once words command other one two =
    let same : one.program ∷ name_of command ∷ one.options ≡ two.program ∷ name_of other ∷ two.options = sym one.are ∙ two.are in
    let rests : name_of command ∷ one.options ≡ name_of other ∷ two.options = ap (drop 1) same in
    same_command (name_of command ∷ one.options) command other (ap head_of rests) one.takes (subst (λ ws. Takes ws other) (sym rests) two.takes)
