use Rattle.std.proofs.Common.{◌≡◌, ◌+◌, ◌++◌, List, length, map, All}
use Rattle.ve_formats.specs.Tokens.{Placed, Fault, Lexes, FailsToLex}
use Rattle.ve_lex.specs.Lexed.{placed_of, HasItsValue}
use Rattle.ve_lex.proofs.lexer.tokens.Given as goal

-- the tokens so far and those of what is left are those of the line
abbrev pub invariant-loop-tokens : goal.invariant-loop-tokens
invariant-loop-tokens l = record {
  tokens : (later : List Placed) → Lexes l.at l.rest later → Lexes 0 l.line (map placed_of l.tokens.items ++ later);
  fault : (fault : Fault) → FailsToLex l.at l.rest fault → FailsToLex 0 l.line fault;
  values : All (λ placed. HasItsValue placed.token) l.tokens.items;
  place : l.at + length l.rest ≡ length l.line;
}

abbrev pub decreases-loop-tokens : goal.decreases-loop-tokens
decreases-loop-tokens l = length l.rest
