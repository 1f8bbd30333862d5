-- Lines with one token.
use Rattle.std.proofs.Common.{◌≡◌, ℕ, ◌⊎◌, inl, inr, Option, Some, None, is_some, false, List, [], ◌∷◌, codes, refl, ap, ◌∙◌, subst, Bor}
use Rattle.ve_formats.specs.Tokens as defined
use Rattle.ve_formats.specs.Tokens.{Lexes, FailsToLex, name}
use Rattle.ve_lex.specs.declared.token.Placed.{Placed}
use Rattle.ve_lex.specs.declared.token.Token.{Token}
use Rattle.ve_lex.specs.declared.token.Token.TheVariants.{Name, Number, Symbol}
use Rattle.ve_lex.specs.declared.token.LexFault.{LexFault}
use Rattle.ve_lex.specs.declared.token.LexFault.TheVariants.{BadByte, LongNumber, Memory}
use Rattle.ve_lex.specs.Lexed.{token_of, placed_of, GoesOn, IsNextOf, IsFaultOf}
use Rattle.ve_read.specs.Cutting.{IsEndLine}

-- a token that is a name is a name in the program too
pub is_name_token : (token : Token) (bytes : List ℕ) → token_of token ≡ name bytes → ((b : Bor (List ℕ)) → token ≡ Name b → ⊥) → ⊥
is_name_token (Name b) bytes is other = other b refl
is_name_token (Number value digits) bytes is other = cc
is_name_token (Symbol b) bytes is other = cc

module _ (lexed : (at : ℕ) (line : List ℕ) → ((tokens : List defined.Placed) × Lexes at line tokens) ⊎ ((fault : defined.Fault) × FailsToLex at line fault))
    (same : (at : ℕ) (line : List ℕ) (tokens others : List defined.Placed) → Lexes at line tokens → Lexes at line others → tokens ≡ others)
    (never : (at : ℕ) (line : List ℕ) (tokens : List defined.Placed) (fault : defined.Fault) → Lexes at line tokens → FailsToLex at line fault → ⊥) where
  -- the first token of a text that has one token
  pub only_token : (at : ℕ) (text : List ℕ) (placed : Placed) (rest : List ℕ) (p : defined.Placed) → GoesOn at text placed rest → Lexes at text (p ∷ [])
      → (placed_of placed ≡ p) × Lexes placed.end rest []
  only_token at text placed rest p goes h = by_rest (lexed placed.end rest)
    where
      by_rest : ((tokens : List defined.Placed) × Lexes placed.end rest tokens) ⊎ ((fault : defined.Fault) × FailsToLex placed.end rest fault)
          → (placed_of placed ≡ p) × Lexes placed.end rest []
      by_rest (inl (tokens, lexes)) =
          let both : (placed_of placed ∷ tokens) ≡ (p ∷ []) = same at text (placed_of placed ∷ tokens) (p ∷ []) (goes.tokens tokens lexes) h in
          let none : tokens ≡ [] = (cc) in
          ((cc), subst (Lexes placed.end rest) none lexes)
      by_rest (inr (fault, fails)) = absurd (never at text (p ∷ []) fault h (goes.fault fault fails))

  -- a line `end` has that token first and nothing behind it
  pub end_token : (line : List ℕ) (placed : Placed) (rest : List ℕ) → GoesOn 0 line placed rest → IsEndLine line
      → (token_of placed.token ≡ name (codes "end")) × Lexes placed.end rest []
  end_token line placed rest goes h =
      let only = only_token 0 line placed rest h.placed goes h.lexes in
      (ap (λ (p : defined.Placed). p.token) only.0 ∙ h.word, only.1)

  -- what is behind such a token has neither a token nor a fault
  pub behind_end : (at : ℕ) (rest : List ℕ) (o : Option (Placed × Bor (List ℕ))) → Lexes at rest [] → IsNextOf at rest o → is_some o ≡ false
  behind_end at rest None h next = refl
  behind_end at rest (Some (placed, more)) h next = absurd (by_rest (lexed placed.end more.now))
    where
      by_rest : ((tokens : List defined.Placed) × Lexes placed.end more.now tokens) ⊎ ((fault : defined.Fault) × FailsToLex placed.end more.now fault) → ⊥
      by_rest (inl (tokens, lexes)) = let both : (placed_of placed ∷ tokens) ≡ [] = same at rest (placed_of placed ∷ tokens) [] (next.1.tokens tokens lexes) h in cc
      by_rest (inr (fault, fails)) = never at rest [] fault h (next.1.fault fault fails)

  pub no_fault_behind : (at : ℕ) (rest : List ℕ) (fault : LexFault) → Lexes at rest [] → IsFaultOf at rest fault → ⊥
  no_fault_behind at rest (BadByte place) h fails = never at rest [] _ h fails
  no_fault_behind at rest (LongNumber place) h fails = never at rest [] _ h fails
  no_fault_behind at rest Memory h fails = fails

-- the word `end` alone
pub is_end_line : (line : List ℕ) (placed : Placed) (rest : List ℕ) → GoesOn 0 line placed rest → token_of placed.token ≡ name (codes "end") → Lexes placed.end rest [] → IsEndLine line
is_end_line line placed rest goes word lexes = record { placed = placed_of placed; lexes = goes.tokens [] lexes; word = word }

pub lexes_to_none : (at : ℕ) (rest : List ℕ) (o : Option (Placed × Bor (List ℕ))) → is_some o ≡ false → IsNextOf at rest o → Lexes at rest []
lexes_to_none at rest None is next = next
lexes_to_none at rest (Some both) is next = absurd (cc)
