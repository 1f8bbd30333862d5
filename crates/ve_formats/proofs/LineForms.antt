-- The form of a line is a function of its tokens.
use Rattle.std.proofs.Common.{◌≡◌, ◌≢◌, ℕ, Bool, true, false, not, cond, subst, ◌&&◌, ◌⊎◌, inl, inr, List, [], ◌∷◌, ◌++◌, Option, Some, None, refl, sym, ap, ◌∙◌, append_assoc, append-nil}
use Rattle.std.specs.Prelude.{codes}
use Rattle.std.proofs.lemmas.Bool.{eqb-true, and_parts, and_from, not-true}
use Rattle.ve_theory.specs.Words.{same_letters}
use Rattle.ve_lemmas.proofs.Words.{same_letters-true}
use Rattle.ve_formats.specs.Tokens.{Token, name, number, symbol, number_value}
use Rattle.ve_formats.specs.Expressions as algebra
use Rattle.ve_formats.specs.Expressions.{Expression, Rank, Spell, equals_sign, open_sign, close_sign, plus_sign, minus_sign, times_sign, power_sign}
use Rattle.ve_formats.specs.ModuleExpressions as modules
use Rattle.ve_formats.specs.ModuleExpressions.{ModuleExpression, ModuleRank, ModuleSpell}
use Rattle.ve_formats.specs.PresentationLines.{Declared, Line, version, prime, pair, involution, generators, balance, relation, submodule, end, word, SpellDeclared, plain, weighted, SpellLine, a_version, a_prime, a_letter, a_pair, an_involution, some_generators, a_balance, a_relation, a_submodule_relation, the_end}
use Rattle.ve_formats.specs.Reading.{parsed}
use Rattle.ve_formats.specs.ModuleReading.{module_parsed}
use Rattle.ve_formats.specs.LineReading.{Sides, is_equals, before_sides, sides, Keyword, of_version, of_prime, of_letter, of_involution, of_generators, of_balance, of_relation, of_submodule, of_end, of_nothing, keyword_bytes, first_of, keywords, keyword, Taken, unweighted, with_weight, take_weight, take_declared, one_number, alone, declared_alone, letter_or_pair, letters_form, two, equation, form_behind, form_of}
use Rattle.ve_formats.proofs.Parsing.{parsed-spelled}
use Rattle.ve_formats.proofs.ParsedSpelling.{spelled-parsed}
use Rattle.ve_formats.proofs.ModuleParsing.{module_parsed-spelled}
use Rattle.ve_formats.proofs.ModuleParsedSpelling.{spelled-module_parsed}

unfoldable has_no_equals : List Token → Bool
has_no_equals [] = true
has_no_equals (t ∷ ts) = not (is_equals t) && has_no_equals ts

has_no_equals-append : (front back : List Token) → has_no_equals front ≡ true → has_no_equals back ≡ true → has_no_equals (front ++ back) ≡ true
unfolding has_no_equals
has_no_equals-append [] back h k = k
has_no_equals-append (t ∷ front) back h k =
    let parts = and_parts (not (is_equals t)) (has_no_equals front) h in
    and_from (not (is_equals t)) (has_no_equals (front ++ back)) parts.0 (has_no_equals-append front back parts.1 k)

spelled_has_no_equals : {rank : Rank} {tokens : List Token} {e : Expression} → Spell rank tokens e → has_no_equals tokens ≡ true
unfolding has_no_equals
spelled_has_no_equals (algebra.a_number digits) = refl
spelled_has_no_equals (algebra.a_name x) = refl
spelled_has_no_equals (algebra.in_parentheses {tokens} h are) = ap has_no_equals are ∙ has_no_equals-append tokens (close_sign ∷ []) (spelled_has_no_equals h) refl
spelled_has_no_equals (algebra.a_factor h) = spelled_has_no_equals h
spelled_has_no_equals (algebra.raised {tokens} digits h are) = ap has_no_equals are ∙ has_no_equals-append tokens (power_sign ∷ number digits ∷ []) (spelled_has_no_equals h) refl
spelled_has_no_equals (algebra.raised_inverse {tokens} digits h are) =
    ap has_no_equals are ∙ has_no_equals-append tokens (power_sign ∷ minus_sign ∷ number digits ∷ []) (spelled_has_no_equals h) refl
spelled_has_no_equals (algebra.a_term h) = spelled_has_no_equals h
spelled_has_no_equals (algebra.multiplied {front} {back} h k are) = ap has_no_equals are ∙ has_no_equals-append front (times_sign ∷ back) (spelled_has_no_equals h) (spelled_has_no_equals k)
spelled_has_no_equals (algebra.first_term h) = spelled_has_no_equals h
spelled_has_no_equals (algebra.with_plus h) = spelled_has_no_equals h
spelled_has_no_equals (algebra.with_minus h) = spelled_has_no_equals h
spelled_has_no_equals (algebra.added {front} {back} h k are) = ap has_no_equals are ∙ has_no_equals-append front (plus_sign ∷ back) (spelled_has_no_equals h) (spelled_has_no_equals k)
spelled_has_no_equals (algebra.subtracted {front} {back} h k are) = ap has_no_equals are ∙ has_no_equals-append front (minus_sign ∷ back) (spelled_has_no_equals h) (spelled_has_no_equals k)

module_spelled_has_no_equals : {rank : ModuleRank} {tokens : List Token} {m : ModuleExpression} → ModuleSpell rank tokens m → has_no_equals tokens ≡ true
unfolding has_no_equals
module_spelled_has_no_equals (modules.a_generator x) = refl
module_spelled_has_no_equals (modules.scaled digits x) = refl
module_spelled_has_no_equals (modules.multiplied {front} {back} h k are) =
    ap has_no_equals are ∙ has_no_equals-append front (times_sign ∷ back) (module_spelled_has_no_equals h) (spelled_has_no_equals k)
module_spelled_has_no_equals (modules.a_zero digits zero) = refl
module_spelled_has_no_equals (modules.a_term h) = module_spelled_has_no_equals h
module_spelled_has_no_equals (modules.first_term h) = module_spelled_has_no_equals h
module_spelled_has_no_equals (modules.with_plus h) = module_spelled_has_no_equals h
module_spelled_has_no_equals (modules.with_minus h) = module_spelled_has_no_equals h
module_spelled_has_no_equals (modules.added {front} {back} h k are) =
    ap has_no_equals are ∙ has_no_equals-append front (plus_sign ∷ back) (module_spelled_has_no_equals h) (module_spelled_has_no_equals k)
module_spelled_has_no_equals (modules.subtracted {front} {back} h k are) =
    ap has_no_equals are ∙ has_no_equals-append front (minus_sign ∷ back) (module_spelled_has_no_equals h) (module_spelled_has_no_equals k)

sides-append : (front back : List Token) → has_no_equals front ≡ true → sides (front ++ equals_sign ∷ back) ≡ Some (record { left = front; right = back })
unfolding sides has_no_equals
sides-append [] back h = refl
sides-append (t ∷ front) back h =
    let parts = and_parts (not (is_equals t)) (has_no_equals front) h in
    ap (λ test. cond test (Some (record { left = []; right = front ++ equals_sign ∷ back })) (before_sides t (sides (front ++ equals_sign ∷ back)))) (not-true _ parts.0)
    ∙ ap (before_sides t) (sides-append front back parts.1)

is_equals-sign : (t : Token) → is_equals t ≡ true → t ≡ equals_sign
is_equals-sign (name x) h = absurd (cc)
is_equals-sign (number digits) h = absurd (cc)
is_equals-sign (symbol b) h = ap symbol (eqb-true b 61 h)

sides-sound : (tokens : List Token) (s : Sides) → sides tokens ≡ Some s → tokens ≡ s.left ++ equals_sign ∷ s.right
unfolding sides
sides-sound [] s h = absurd (cc)
sides-sound (t ∷ tokens) s h = by_test (is_equals t) refl (λ more is. sides-sound tokens more is) h
  where
    later : (o : Option Sides) → sides tokens ≡ o → ((more : Sides) → sides tokens ≡ Some more → tokens ≡ more.left ++ equals_sign ∷ more.right) → before_sides t o ≡ Some s
        → t ∷ tokens ≡ s.left ++ equals_sign ∷ s.right
    later None is rest h = absurd (cc)
    later (Some more) is rest h =
        let same : record { left = t ∷ more.left; right = more.right } ≡ s = (cc) in
        subst (λ (s : Sides). t ∷ tokens ≡ s.left ++ equals_sign ∷ s.right) same (ap (λ ts. t ∷ ts) (rest more is))

    by_test : (test : Bool) → is_equals t ≡ test → ((more : Sides) → sides tokens ≡ Some more → tokens ≡ more.left ++ equals_sign ∷ more.right)
        → cond test (Some (record { left = []; right = tokens })) (before_sides t (sides tokens)) ≡ Some s → t ∷ tokens ≡ s.left ++ equals_sign ∷ s.right
    by_test true is rest h =
        let same : record { left = []; right = tokens } ≡ s = (cc) in
        subst (λ (s : Sides). t ∷ tokens ≡ s.left ++ equals_sign ∷ s.right) same (ap (λ u. u ∷ tokens) (is_equals-sign t is))
    by_test false is rest h = later (sides tokens) refl rest h

first_of-sound : (x : List ℕ) (ks : List Keyword) → first_of x ks ≢ of_nothing → x ≡ keyword_bytes (first_of x ks)
first_of-sound x [] some = absurd (some refl)
first_of-sound x (k ∷ ks) some = by_test (same_letters x (keyword_bytes k)) refl (λ later. first_of-sound x ks later) some
  where
    by_test : (test : Bool) → same_letters x (keyword_bytes k) ≡ test → (first_of x ks ≢ of_nothing → x ≡ keyword_bytes (first_of x ks))
        → cond test k (first_of x ks) ≢ of_nothing → x ≡ keyword_bytes (cond test k (first_of x ks))
    by_test true is later some = same_letters-true x (keyword_bytes k) is
    by_test false is later some = later some

keyword-sound : (x : List ℕ) (k : Keyword) → keyword x ≡ k → k ≢ of_nothing → x ≡ keyword_bytes k
keyword-sound x k h some = first_of-sound x keywords (λ e. some (sym h ∙ e)) ∙ ap keyword_bytes h

abbrev inverse_word : Token
inverse_word = word (codes "inverse")

taken_whole : {tokens : List Token} {x : Declared} → SpellDeclared tokens x → take_declared tokens ≡ Some (record { declared = x; behind = [] })
unfolding take_declared take_weight same_letters
taken_whole (plain x) = refl
taken_whole (weighted x digits) = refl

taken_before : {tokens : List Token} {x : Declared} → SpellDeclared tokens x → (back : List Token)
    → take_declared (tokens ++ inverse_word ∷ back) ≡ Some (record { declared = x; behind = inverse_word ∷ back })
unfolding take_declared take_weight same_letters
taken_before (plain x) [] = refl
taken_before (plain x) (name y ∷ back) = refl
taken_before (plain x) (number digits ∷ back) = refl
taken_before (plain x) (symbol b ∷ back) = refl
taken_before (weighted x digits) back = refl

record IsTaken (tokens : List Token) (t : Taken) : Type 0 where
  front : List Token
  are : front ++ t.behind ≡ tokens
  spelled : SpellDeclared front t.declared

take_weight-sound : (x : List ℕ) (ts : List Token) → IsTaken (name x ∷ ts) (take_weight x ts)
unfolding take_weight
take_weight-sound x [] = record { front = name x ∷ []; are = refl; spelled = plain x }
take_weight-sound x (name k ∷ []) = record { front = name x ∷ []; are = refl; spelled = plain x }
take_weight-sound x (name k ∷ name y ∷ ts) = record { front = name x ∷ []; are = refl; spelled = plain x }
take_weight-sound x (name k ∷ symbol b ∷ ts) = record { front = name x ∷ []; are = refl; spelled = plain x }
take_weight-sound x (number digits ∷ ts) = record { front = name x ∷ []; are = refl; spelled = plain x }
take_weight-sound x (symbol b ∷ ts) = record { front = name x ∷ []; are = refl; spelled = plain x }
take_weight-sound x (name k ∷ number digits ∷ ts) = by_test (same_letters k (codes "weight")) refl
  where
    by_test : (test : Bool) → same_letters k (codes "weight") ≡ test
        → IsTaken (name x ∷ name k ∷ number digits ∷ ts) (cond test (with_weight x digits ts) (unweighted x (name k ∷ number digits ∷ ts)))
    by_test false is = record { front = name x ∷ []; are = refl; spelled = plain x }
    by_test true is =
        let same : codes "weight" ≡ k = sym (same_letters-true k (codes "weight") is) in
        record { front = name x ∷ word (codes "weight") ∷ number digits ∷ []; are = ap (λ k. name x ∷ name k ∷ number digits ∷ ts) same; spelled = weighted x digits }

take_declared-sound : (ts : List Token) (t : Taken) → take_declared ts ≡ Some t → IsTaken ts t
unfolding take_declared
take_declared-sound [] t h = absurd (cc)
take_declared-sound (name x ∷ ts) t h = let same : take_weight x ts ≡ t = (cc) in subst (λ t. IsTaken (name x ∷ ts) t) same (take_weight-sound x ts)
take_declared-sound (number digits ∷ ts) t h = absurd (cc)
take_declared-sound (symbol b ∷ ts) t h = absurd (cc)

-- the tokens of a form have it

equation_of : {X : Type 0} (form : X → X → Line) (parse : List Token → Option X) (front back : List Token) (d e : X) → has_no_equals front ≡ true → parse front ≡ Some d → parse back ≡ Some e
    → equation form parse (sides (front ++ equals_sign ∷ back)) ≡ Some (form d e)
equation_of form parse front back d e h k l = ap (equation form parse) (sides-append front back h) ∙ (λ i. two form (k i) (l i))

pub form_of-spelled : {tokens : List Token} {line : Line} → SpellLine tokens line → form_of tokens ≡ Some line
unfolding form_of same_letters
form_of-spelled (a_version digits) = refl
form_of-spelled (a_prime digits) = refl
form_of-spelled (a_letter h) = ap letters_form (taken_whole h)
form_of-spelled (a_pair {front} {back} {x} {y} h k are) =
    ap form_of are ∙ ap letters_form (taken_before h back) ∙ ap (declared_alone (pair x)) (taken_whole k)
form_of-spelled (an_involution h) = ap (declared_alone involution) (taken_whole h)
form_of-spelled (some_generators digits) = refl
form_of-spelled a_balance = refl
form_of-spelled (a_relation {front} {back} {d} {e} h k are) =
    ap form_of are ∙ equation_of relation parsed front back d e (spelled_has_no_equals h) (parsed-spelled h) (parsed-spelled k)
form_of-spelled (a_submodule_relation {front} {back} {d} {e} h k are) =
    ap form_of are ∙ equation_of submodule module_parsed front back d e (module_spelled_has_no_equals h) (module_parsed-spelled h) (module_parsed-spelled k)
form_of-spelled the_end = refl

-- tokens that have a form spell it

abbrev Spelled : List Token → Option Line → Type 0
Spelled tokens o = (line : Line) → o ≡ Some line → SpellLine tokens line

spelled_as : {tokens : List Token} {form : Line} → SpellLine tokens form → Spelled tokens (Some form)
spelled_as {tokens} {form} h line is = let same : form ≡ line = (cc) in subst (λ l. SpellLine tokens l) same h

unspelled : {tokens : List Token} → Spelled tokens None
unspelled line is = absurd (cc)

module _ (first : List ℕ) where
  one_number-sound : (form : ℕ → Line) → ((digits : List ℕ) → SpellLine (word first ∷ number digits ∷ []) (form (number_value digits))) → (ts : List Token) → Spelled (word first ∷ ts) (one_number form ts)
  one_number-sound form h [] = unspelled
  one_number-sound form h (name x ∷ ts) = unspelled
  one_number-sound form h (symbol b ∷ ts) = unspelled
  one_number-sound form h (number digits ∷ []) = spelled_as (h digits)
  one_number-sound form h (number digits ∷ t ∷ ts) = unspelled

  alone-sound : (form : Line) → SpellLine (word first ∷ []) form → (ts : List Token) → Spelled (word first ∷ ts) (alone form ts)
  alone-sound form h [] = spelled_as h
  alone-sound form h (t ∷ ts) = unspelled

  equation-sound : {X : Type 0} (form : X → X → Line) (parse : List Token → Option X) (ts : List Token)
      → ((front back : List Token) (d e : X) → parse front ≡ Some d → parse back ≡ Some e → SpellLine (word first ∷ front ++ equals_sign ∷ back) (form d e))
      → (o : Option Sides) → sides ts ≡ o → Spelled (word first ∷ ts) (equation form parse o)
  equation-sound form parse ts h None is = unspelled
  equation-sound {X} form parse ts h (Some s) is = both (parse s.left) (parse s.right) refl refl
    where
      both : (o q : Option X) → parse s.left ≡ o → parse s.right ≡ q → Spelled (word first ∷ ts) (two form o q)
      both None q k l = unspelled
      both (Some d) None k l = unspelled
      both (Some d) (Some e) k l =
          spelled_as (subst (λ us. SpellLine (word first ∷ us) (form d e)) (sym (sides-sound ts s is)) (h s.left s.right d e k l))

declared_alone-sound : (form : Declared → Line) (front ts : List Token) → ((own : List Token) (x : Declared) → SpellDeclared own x → SpellLine (front ++ own) (form x))
    → (o : Option Taken) → take_declared ts ≡ o → Spelled (front ++ ts) (declared_alone form o)
declared_alone-sound form front ts h None is = unspelled
declared_alone-sound form front ts h (Some t) is = let taken = take_declared-sound ts t is in by_behind taken.front taken.spelled t.behind taken.are
  where
    by_behind : (own : List Token) → SpellDeclared own t.declared → (behind : List Token) → own ++ behind ≡ ts → Spelled (front ++ ts) (alone (form t.declared) behind)
    by_behind own k [] are = spelled_as (subst (λ us. SpellLine (front ++ us) (form t.declared)) (sym (append-nil own) ∙ are) (h own t.declared k))
    by_behind own k (b ∷ more) are = unspelled

letter_or_pair-sound : (ts : List Token) (x : Declared) (own : List Token) → SpellDeclared own x → (behind : List Token) → own ++ behind ≡ ts
    → Spelled (word (codes "letter") ∷ ts) (letter_or_pair x behind)
letter_or_pair-sound ts x own h [] are = spelled_as (a_letter (subst (λ us. SpellDeclared us x) (sym (append-nil own) ∙ are) h))
letter_or_pair-sound ts x own h (number digits ∷ more) are = unspelled
letter_or_pair-sound ts x own h (symbol b ∷ more) are = unspelled
letter_or_pair-sound ts x own h (name k ∷ more) are = by_test (same_letters k (codes "inverse")) refl
  where
    by_test : (test : Bool) → same_letters k (codes "inverse") ≡ test → Spelled (word (codes "letter") ∷ ts) (cond test (declared_alone (pair x) (take_declared more)) None)
    by_test false is = unspelled
    by_test true is =
        let inverse : inverse_word ≡ name k = ap name (sym (same_letters-true k (codes "inverse") is)) in
        let all : ((word (codes "letter") ∷ own) ++ inverse_word ∷ []) ++ more ≡ word (codes "letter") ∷ ts =
        append_assoc (word (codes "letter") ∷ own) (inverse_word ∷ []) more ∙ ap (λ t. word (codes "letter") ∷ own ++ t ∷ more) inverse ∙ ap (λ us. word (codes "letter") ∷ us) are in
        subst (λ us. Spelled us (declared_alone (pair x) (take_declared more))) all
        (declared_alone-sound (pair x) ((word (codes "letter") ∷ own) ++ inverse_word ∷ []) more
        (λ back y k. a_pair h k (append_assoc (word (codes "letter") ∷ own) (inverse_word ∷ []) back)) (take_declared more) refl)

letters_form-sound : (ts : List Token) (o : Option Taken) → take_declared ts ≡ o → Spelled (word (codes "letter") ∷ ts) (letters_form o)
letters_form-sound ts None is = unspelled
letters_form-sound ts (Some t) is = let taken = take_declared-sound ts t is in letter_or_pair-sound ts t.declared taken.front taken.spelled t.behind taken.are

form_behind-sound : (k : Keyword) (ts : List Token) → Spelled (word (keyword_bytes k) ∷ ts) (form_behind k ts)
form_behind-sound of_version ts = one_number-sound (codes "venum") version a_version ts
form_behind-sound of_prime ts = one_number-sound (codes "prime") prime a_prime ts
form_behind-sound of_letter ts = letters_form-sound ts (take_declared ts) refl
form_behind-sound of_involution ts = declared_alone-sound involution (word (codes "involution") ∷ []) ts (λ own x h. an_involution h) (take_declared ts) refl
form_behind-sound of_generators ts = one_number-sound (codes "module") generators some_generators ts
form_behind-sound of_balance ts = alone-sound (codes "balance") balance a_balance ts
form_behind-sound of_relation ts =
    equation-sound (codes "relation") relation parsed ts (λ front back d e k l. a_relation (spelled-parsed front d k) (spelled-parsed back e l) refl) (sides ts) refl
form_behind-sound of_submodule ts =
    equation-sound (codes "sub") submodule module_parsed ts (λ front back d e k l. a_submodule_relation (spelled-module_parsed front d k) (spelled-module_parsed back e l) refl) (sides ts) refl
form_behind-sound of_end ts = alone-sound (codes "end") end the_end ts
form_behind-sound of_nothing ts = unspelled

pub spelled-form_of : (tokens : List Token) (line : Line) → form_of tokens ≡ Some line → SpellLine tokens line
unfolding form_of
spelled-form_of [] = unspelled
spelled-form_of (number digits ∷ ts) = unspelled
spelled-form_of (symbol b ∷ ts) = unspelled
spelled-form_of (name x ∷ ts) = by_keyword (keyword x) refl
  where
    by_keyword : (k : Keyword) → keyword x ≡ k → Spelled (name x ∷ ts) (form_behind k ts)
    by_keyword k is line h =
        subst (λ x. SpellLine (name x ∷ ts) line) (sym (keyword-sound x k is (λ e. absurd (ungiven e)))) (form_behind-sound k ts line h)
      where
        ungiven : k ≡ of_nothing → ⊥
        ungiven e = let none : None ≡ Some line = ap (λ k. form_behind k ts) (sym e) ∙ h in absurd (cc)

-- tokens have one form or none

pub formed : (tokens : List Token) → ((line : Line) × SpellLine tokens line) ⊎ ((line : Line) → SpellLine tokens line → ⊥)
formed tokens = by_form (form_of tokens) refl
  where
    by_form : (o : Option Line) → form_of tokens ≡ o → ((line : Line) × SpellLine tokens line) ⊎ ((line : Line) → SpellLine tokens line → ⊥)
    by_form (Some line) is = inl (line, spelled-form_of tokens line is)
    by_form None is = inr (λ line h. let same : None ≡ Some line = sym is ∙ form_of-spelled h in absurd (cc))

pub same_form : {tokens : List Token} {line other : Line} → SpellLine tokens line → SpellLine tokens other → line ≡ other
same_form {line} {other} h k = let same : Some line ≡ Some other = sym (form_of-spelled h) ∙ form_of-spelled k in (cc)

-- no form is blank
pub blank_formless : {line : Line} → SpellLine [] line → ⊥
unfolding form_of
blank_formless {line} h = let same : None ≡ Some line = form_of-spelled h in absurd (cc)
