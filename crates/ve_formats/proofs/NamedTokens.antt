-- The names among the tokens of a line are names.
use Rattle.std.proofs.Common.{ℕ, List, [], ◌∷◌, ◌++◌, subst, sym, append-nil}
use Rattle.std.specs.Prelude.{IsTrue, codes}
use Rattle.ve_theory.specs.Validity.{is_name}
use Rattle.ve_formats.specs.Tokens.{Token, name, number, symbol, Placed, Begins, with_name, with_number, with_symbol, Lexes, at_end, at_comment, past_separator, past_token}
use Rattle.ve_formats.specs.PresentationText.{tokens_of}
use Rattle.ve_formats.specs.PresentationLines as lines
use Rattle.ve_formats.specs.PresentationLines.{Declared, Line, word, SpellDeclared, plain, weighted, SpellLine, a_version, a_prime, a_letter, a_pair, an_involution, some_generators, a_balance, a_relation, a_submodule_relation, the_end}

unfoldable pub AreNames : List Token → Type 0
AreNames [] = Unit {0}
AreNames (name x ∷ ts) = IsTrue (is_name x) × AreNames ts
AreNames (number digits ∷ ts) = AreNames ts
AreNames (symbol b ∷ ts) = AreNames ts

begins_name : {text rest : List ℕ} {t : Token} (ts : List Token) → Begins text t rest → AreNames ts → AreNames (t ∷ ts)
unfolding AreNames
begins_name ts (with_name are named ends) h = (named, h)
begins_name ts (with_number are digits short ends) h = h
begins_name ts (with_symbol are sign) h = h

pub lexed_names : {at : ℕ} {text : List ℕ} {placed : List Placed} → Lexes at text placed → AreNames (tokens_of placed)
unfolding AreNames
lexed_names at_end = tt
lexed_names (at_comment are) = tt
lexed_names (past_separator are separates h) = lexed_names h
lexed_names (past_token begins h) = begins_name _ begins (lexed_names h)

-- the tokens behind some
behind_names : (front back : List Token) → AreNames (front ++ back) → AreNames back
unfolding AreNames
behind_names [] back h = h
behind_names (name x ∷ front) back h = behind_names front back h.1
behind_names (number digits ∷ front) back h = behind_names front back h
behind_names (symbol b ∷ front) back h = behind_names front back h

-- the first name of a declared letter, with tokens behind it
declared_name : {tokens : List Token} {x : Declared} → SpellDeclared tokens x → (back : List Token) → AreNames (tokens ++ back) → IsTrue (is_name x.called)
unfolding AreNames
declared_name (plain x) back h = h.0
declared_name (weighted x digits) back h = h.0

-- the letters that a line declares have names
abbrev pub DeclaresNames : Line → Type 0
DeclaresNames (lines.letter x) = IsTrue (is_name x.called)
DeclaresNames (lines.pair x y) = IsTrue (is_name x.called) × IsTrue (is_name y.called)
DeclaresNames (lines.involution x) = IsTrue (is_name x.called)
DeclaresNames _ = Unit {0}

pub line_names : {tokens : List Token} {form : Line} → SpellLine tokens form → AreNames tokens → DeclaresNames form
unfolding AreNames
line_names (a_version digits) h = tt
line_names (a_prime digits) h = tt
line_names (a_letter {tokens} k) h = declared_name k [] (subst AreNames (sym (append-nil tokens)) h.1)
line_names (a_pair {front} {back} {x} {y} k l are) h =
    let all : AreNames (front ++ lines.word (codes "inverse") ∷ back) = (subst AreNames are h).1 in
    (declared_name k (word (codes "inverse") ∷ back) all, declared_name l [] (subst AreNames (sym (append-nil back)) (behind_names front (word (codes "inverse") ∷ back) all).1))
line_names (an_involution {tokens} k) h = declared_name k [] (subst AreNames (sym (append-nil tokens)) h.1)
line_names (some_generators digits) h = tt
line_names a_balance h = tt
line_names (a_relation k l are) h = tt
line_names (a_submodule_relation k l are) h = tt
line_names the_end h = tt
