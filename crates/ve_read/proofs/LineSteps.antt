-- One line.
use Rattle.std.proofs.Common.{◌≡◌, ◌≢◌, ◌↔◌, ℕ, ◌⊎◌, inl, inr, List, [], ◌∷◌, map, Some, None, Result, Ok, Err, refl, sym, ap, ◌∙◌, subst}
use Rattle.std.specs.Prelude.{All}
use Rattle.std.proofs.lemmas.List.Elements.{All-head, All-tail, All-cons, All-nil}
use Rattle.ve_formats.specs.Causes.{after_end, too_deep, wrong_line}
use Rattle.ve_formats.specs.Tokens as defined
use Rattle.ve_formats.specs.Tokens.{Token, Lexes, at_end, at_comment, past_separator, past_token}
use Rattle.ve_formats.specs.LineReading.{form_of}
use Rattle.ve_formats.specs.PresentationLines as lines
use Rattle.ve_formats.specs.PresentationLines.{Draft, Line, SpellLine, MayStand, Works}
use Rattle.ve_formats.specs.PresentationText.{Refuses, IsTooDeep, tokens_of, taken, faulty_behind_end, faulty, deep, formless, meaningless}
use Rattle.ve_lex.specs.declared.token.Placed.{Placed}
use Rattle.ve_lex.specs.declared.token.LexFault.{LexFault}
use Rattle.ve_lex.specs.declared.token.LexFault.TheVariants.{BadByte, LongNumber, Memory}
use Rattle.ve_lex.specs.Lexed.{token_of, placed_of, HasItsValue, IsFaultOf}
use Rattle.ve_value.specs.Shapes.{AreWritten, IsWritten, tokens_in}
use Rattle.ve_value.proofs.LexedTokens.{written, begins_named, IsNamed}
use Rattle.ve_read.specs.declared.draft.Draft as program
use Rattle.ve_read.specs.declared.why.Why.{Why}
use Rattle.ve_read.specs.declared.why.Why.TheVariants.{Lex}
use Rattle.ve_read.specs.Refusals.{Tells}
use Rattle.ve_read.specs.Drafts.{Takes, TakesLine}
use Rattle.ve_read.proofs.Told.{tells_more}

-- faults of tokens

pub faulty_behind : (draft : Draft) (line : List ℕ) (fault : LexFault) → draft.stage ≡ lines.after_end → fault ≢ Memory → (fault ≢ Memory → IsFaultOf 0 line fault)
    → Refuses draft line after_end
faulty_behind draft line (BadByte place) ended known fails = faulty_behind_end ended (fails known)
faulty_behind draft line (LongNumber place) ended known fails = faulty_behind_end ended (fails known)
faulty_behind draft line Memory ended known fails = absurd (known refl)

pub faulty_line : (draft : Draft) (line : List ℕ) (fault : LexFault) → draft.stage ≢ lines.after_end → fault ≢ Memory → (fault ≢ Memory → IsFaultOf 0 line fault)
    → Tells (Refuses draft line) (Lex fault)
faulty_line draft line (BadByte place) going known fails = faulty going (fails known)
faulty_line draft line (LongNumber place) going known fails = faulty going (fails known)
faulty_line draft line Memory going known fails = absurd (known refl)

pub known_fault : (fault : LexFault) → ((x : ℕ) × (fault ≡ BadByte x)) ⊎ ((x : ℕ) × (fault ≡ LongNumber x)) → fault ≢ Memory
known_fault fault (inl (x, is)) none = cc
known_fault fault (inr (x, is)) none = cc

-- the tokens of a lexed line are written as names and numbers

lexes_named : {at : ℕ} {text : List ℕ} {tokens : List defined.Placed} → Lexes at text tokens → All (λ (p : defined.Placed). IsNamed p.token) tokens
lexes_named at_end = All-nil (λ (p : defined.Placed). IsNamed p.token)
lexes_named (at_comment is) = All-nil (λ (p : defined.Placed). IsNamed p.token)
lexes_named (past_separator is separates rest) = lexes_named rest
lexes_named (past_token {token} begins rest) = All-cons (λ (p : defined.Placed). IsNamed p.token) _ _ (begins_named begins) (lexes_named rest)

all_written : (tokens : List Placed) → All (λ (p : defined.Placed). IsNamed p.token) (map placed_of tokens) → All (λ (placed : Placed). HasItsValue placed.token) tokens → AreWritten tokens
all_written [] named values = All-nil (λ (placed : Placed). IsWritten placed.token)
all_written (t ∷ tokens) named values =
    All-cons (λ (placed : Placed). IsWritten placed.token) t tokens
    (written t.token (All-head (λ (p : defined.Placed). IsNamed p.token) _ _ named) (All-head (λ (placed : Placed). HasItsValue placed.token) _ _ values))
    (all_written tokens (All-tail (λ (p : defined.Placed). IsNamed p.token) _ _ named) (All-tail (λ (placed : Placed). HasItsValue placed.token) _ _ values))

pub lexed_written : (line : List ℕ) (tokens : List Placed) → Lexes 0 line (map placed_of tokens) → All (λ (placed : Placed). HasItsValue placed.token) tokens → AreWritten tokens
lexed_written line tokens lexes values = all_written tokens (lexes_named lexes) values

-- tokens without their places
tokens_are : (tokens : List Placed) → tokens_of (map placed_of tokens) ≡ tokens_in tokens
tokens_are [] = refl
tokens_are (t ∷ tokens) = ap (λ ts. token_of t.token ∷ ts) (tokens_are tokens)

pub some_placed : (tokens : List Placed) → tokens ≢ [] → map placed_of tokens ≢ []
some_placed [] some none = some refl
some_placed (t ∷ tokens) some none = cc

-- a line with tokens, before the end

module _ (draft : Draft) (line : List ℕ) (tokens : List Placed) (going : draft.stage ≢ lines.after_end) (lexes : Lexes 0 line (map placed_of tokens)) where
  pub deep_line : IsTooDeep (tokens_in tokens) → Refuses draft line too_deep
  deep_line h = deep going lexes (subst IsTooDeep (sym (tokens_are tokens)) h)

  module _ (fine : IsTooDeep (tokens_in tokens) → ⊥) (laws : (tokens : List Token) (form : Line) → (form_of tokens ≡ Some form) ↔ SpellLine tokens form) where
    fine_placed : IsTooDeep (tokens_of (map placed_of tokens)) → ⊥
    fine_placed h = fine (subst IsTooDeep (tokens_are tokens) h)

    spelled_is : (form : Line) → SpellLine (tokens_of (map placed_of tokens)) form → form_of (tokens_in tokens) ≡ Some form
    spelled_is form h = (laws (tokens_in tokens) form).1 (subst (λ ts. SpellLine ts form) (tokens_are tokens) h)

    pub formless_line : tokens ≢ [] → form_of (tokens_in tokens) ≡ None → Refuses draft line wrong_line
    formless_line some no_form = formless going lexes (some_placed tokens some) fine_placed (λ form h stands. let is = spelled_is form h in cc)

    module _ (form : Line) (is : form_of (tokens_in tokens) ≡ Some form) where
      spell : SpellLine (tokens_of (map placed_of tokens)) form
      spell = subst (λ ts. SpellLine ts form) (sym (tokens_are tokens)) ((laws (tokens_in tokens) form).0 is)

      same_form : (other : Line) → SpellLine (tokens_of (map placed_of tokens)) other → other ≡ form
      same_form other h = let both : Some other ≡ Some form = sym (spelled_is other h) ∙ is in cc

      pub line_taken : tokens ≢ [] → (result : Result program.Draft Why) → Takes draft form result → TakesLine draft line result
      line_taken some (Ok next) h = record { accepts = taken going lexes fine_placed spell h.stands h.works; kept = h.kept }
      line_taken some (Err why) (inl (wrong, other)) =
          subst (Tells (Refuses draft line)) (sym wrong)
          (formless going lexes (some_placed tokens some) fine_placed (λ form' h stands. other (subst (MayStand draft) (same_form form' h) stands)))
      line_taken some (Err why) (inr (stands, told)) =
          tells_more (λ cause. Works draft form (Err cause)) (Refuses draft line) why (λ cause works. meaningless going lexes fine_placed spell stands works) told
