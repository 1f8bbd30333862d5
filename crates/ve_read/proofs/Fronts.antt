-- What the tokens of a line begin with.
use Rattle.std.proofs.Common.{◌≡◌, ℕ, inl, inr, Option, Some, None, List, [], ◌∷◌, codes, refl, sym, ap, ◌∙◌, subst, Bor, length, arith}
use Rattle.std.specs.Prelude.{MatchOption, IsTrue}
use Rattle.std.proofs.lemmas.Bool.{cases_Bool, cond-false}
use Rattle.std.proofs.lemmas.List.Elements.{All-head, All-tail, All-same}
use Rattle.ve_theory.specs.Words.{same_letters}
use Rattle.ve_theory.specs.Validity.{is_name}
use Rattle.ve_lemmas.proofs.Words.{same_letters-true}
use Rattle.ve_formats.specs.Tokens.{Token, name, number, symbol}
use Rattle.ve_formats.specs.LineReading.{take_weight, unweighted, with_weight, take_declared, letter_or_pair, declared_alone, form_of, form_behind, keyword}
use Rattle.ve_formats.specs.PresentationLines as lines
use Rattle.ve_lex.specs.declared.token.Placed.{Placed}
use Rattle.ve_lex.specs.declared.token.Token as lexed
use Rattle.ve_lex.specs.declared.token.Token.TheVariants.{Name, Number, Symbol}
use Rattle.ve_lex.specs.Lexed.{token_of}
use Rattle.ve_value.specs.Shapes.{AreWritten, IsWritten, tokens_in}
use Rattle.ve_read.specs.Fronts.{IsNumberIn, HasNoNumber, IsWordIn, HasNoWord, IsWeightIn}

-- the first of some tokens, and the others
module _ {tokens : List Placed} {first : Placed} {rest : List Placed} (are : tokens ≡ first ∷ rest) where
  pub rest_written : AreWritten tokens → AreWritten rest
  rest_written written = All-tail (λ (placed : Placed). IsWritten placed.token) first rest (All-same (λ (placed : Placed). IsWritten placed.token) _ _ (sym are) written)

  pub first_written : AreWritten tokens → IsWritten first.token
  first_written written = All-head (λ (placed : Placed). IsWritten placed.token) first rest (All-same (λ (placed : Placed). IsWritten placed.token) _ _ (sym are) written)

  pub first_token : (token : lexed.Token) → first.token ≡ token → tokens_in tokens ≡ token_of token ∷ tokens_in rest
  first_token token is = ap tokens_in are ∙ ap (λ t. token_of t ∷ tokens_in rest) is

  pub number_first : (value : ℕ) (text : Bor (List ℕ)) → first.token ≡ Number value text → AreWritten tokens → IsNumberIn (tokens_in tokens) value rest
  number_first value text is written = record {
    digits = text.now;
    front = first_token (Number value text) is;
    value_of_digits = subst IsWritten is (first_written written);
    written = rest_written written;
  }

  pub word_first : (text : Bor (List ℕ)) (word : List ℕ) → first.token ≡ Name text → text.now ≡ word → AreWritten tokens → IsWordIn word (tokens_in tokens) rest
  word_first text word is same written = record {
    front = first_token (Name text) is ∙ ap (λ t. name t ∷ tokens_in rest) same;
    written = rest_written written;
  }

  pub named_first : (text : Bor (List ℕ)) → first.token ≡ Name text → AreWritten tokens → IsTrue (is_name text.now)
  named_first text is written = subst IsWritten is (first_written written)

pub none_first : (tokens : List Placed) → length tokens ≡ 0 → tokens_in tokens ≡ []
none_first [] none = refl
none_first (t ∷ tokens) none = absurd (omega arith)

pub some_tokens : (tokens : List Placed) → (length tokens ≡ 0 → ⊥) → tokens_in tokens ≡ [] → ⊥
some_tokens [] some none = some refl
some_tokens (t ∷ tokens) some none = cc

-- weights

weight_stands : (x digits : List ℕ) (ts : List Token) → take_weight x (name (codes "weight") ∷ number digits ∷ ts) ≡ with_weight x digits ts
unfolding take_weight same_letters
weight_stands x digits ts = refl

pub no_weight : (x : List ℕ) (ts : List Token) → HasNoWord (codes "weight") ts → take_weight x ts ≡ unweighted x ts
unfolding take_weight
no_weight x [] none = refl
no_weight x (name k ∷ []) none = refl
no_weight x (name k ∷ number digits ∷ ts) none =
    elim (cases_Bool (same_letters k (codes "weight"))) [
      | inl same ↦ absurd (none (number digits ∷ ts) (ap (λ w. name w ∷ number digits ∷ ts) (same_letters-true k (codes "weight") same)))
      | inr other ↦ cond-false _ _ _ other
    ]
no_weight x (name k ∷ name y ∷ ts) none = refl
no_weight x (name k ∷ symbol b ∷ ts) none = refl
no_weight x (number digits ∷ ts) none = refl
no_weight x (symbol b ∷ ts) none = refl

no_number : (x k : List ℕ) (ts : List Token) → HasNoNumber ts → take_weight x (name k ∷ ts) ≡ unweighted x (name k ∷ ts)
unfolding take_weight
no_number x k [] none = refl
no_number x k (number digits ∷ ts) none = absurd (none digits ts refl)
no_number x k (name y ∷ ts) none = refl
no_number x k (symbol b ∷ ts) none = refl

pub weight_behind : (x : List ℕ) (tokens : List Token) (behind : List Placed) (found : Option (ℕ × Bor (List Placed))) → IsWordIn (codes "weight") tokens behind
    → MatchOption found (HasNoNumber (tokens_in behind)) (λ p. IsNumberIn (tokens_in behind) p.0 p.1.now)
    → MatchOption found (take_weight x tokens ≡ unweighted x tokens) (λ p. IsWeightIn x (take_weight x tokens) p.0 p.1.now)
weight_behind x tokens behind None word none = rw word.front (no_number x (codes "weight") (tokens_in behind) none)
weight_behind x tokens behind (Some (value, more)) word is =
    record {
      is = ap (take_weight x) (word.front ∙ ap (λ ts. name (codes "weight") ∷ ts) is.front)
          ∙ weight_stands x is.digits (tokens_in more.now)
          ∙ ap (λ n. record { declared = record { called = x; weight = Some n }; behind = tokens_in more.now }) (sym is.value_of_digits);
      written = is.written;
    }

-- declared letters

pub declared_first : (x : List ℕ) (ts : List Token) → take_declared (name x ∷ ts) ≡ Some (take_weight x ts)
unfolding take_declared
declared_first x ts = refl

pub none_declared : take_declared [] ≡ None
unfolding take_declared
none_declared = refl

pub undeclared : (token : lexed.Token) (ts : List Token) → ((b : Bor (List ℕ)) → token ≡ Name b → ⊥) → take_declared (token_of token ∷ ts) ≡ None
unfolding take_declared
undeclared (Name b) ts other = absurd (other b refl)
undeclared (Number value digits) ts other = refl
undeclared (Symbol b) ts other = refl

-- pairs

pub no_pair : (x : lines.Declared) (ts : List Token) → (ts ≡ [] → ⊥) → HasNoWord (codes "inverse") ts → letter_or_pair x ts ≡ None
no_pair x [] some none = absurd (some refl)
no_pair x (name k ∷ ts) some none =
    elim (cases_Bool (same_letters k (codes "inverse"))) [
      | inl same ↦ absurd (none ts (ap (λ w. name w ∷ ts) (same_letters-true k (codes "inverse") same)))
      | inr other ↦ cond-false _ _ _ other
    ]
no_pair x (number digits ∷ ts) some none = refl
no_pair x (symbol b ∷ ts) some none = refl

pub pair_stands : (x : lines.Declared) (ts : List Token) → letter_or_pair x (name (codes "inverse") ∷ ts) ≡ declared_alone (lines.pair x) (take_declared ts)
unfolding same_letters
pair_stands x ts = refl

-- whole lines

pub form_first : (x : List ℕ) (ts : List Token) → form_of (name x ∷ ts) ≡ form_behind (keyword x) ts
unfolding form_of
form_first x ts = refl

pub no_form : form_of [] ≡ None
unfolding form_of
no_form = refl

pub formless : (token : lexed.Token) (ts : List Token) → ((b : Bor (List ℕ)) → token ≡ Name b → ⊥) → form_of (token_of token ∷ ts) ≡ None
unfolding form_of
formless (Name b) ts other = absurd (other b refl)
formless (Number value digits) ts other = refl
formless (Symbol b) ts other = refl
