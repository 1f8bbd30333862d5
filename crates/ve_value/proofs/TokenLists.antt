-- The tokens that are left at a place.
use Rattle.std.proofs.Common.{◌≡◌, ℕ, ◌+◌, ◌<◌, ◌≤◌, List, [], ◌∷◌, length, drop, drop-cons, get_or, ap, add-one}
use Rattle.std.proofs.lemmas.List.{drop_all}
use Rattle.ve_lex.specs.declared.token.Placed.{Placed}
use Rattle.ve_lex.specs.declared.token.Token.TheVariants.{Name}
use Rattle.ve_lex.specs.Lexed.{token_of}
use Rattle.ve_value.specs.Shapes.{tokens_in}

-- what stands past the end of a list of tokens
abbrev pub past_end : Placed
past_end = record { token = Name (record { ref_ptr = (0, 0); now = [] }); start = 0; end = 0 }

-- the first of them, where some are left
pub tokens_from : (tokens : List Placed) (i : ℕ) → i < length tokens → tokens_in (drop i tokens) ≡ token_of (get_or tokens i past_end).token ∷ tokens_in (drop (i + 1) tokens)
tokens_from tokens i h = rw (add-one i) (ap tokens_in (drop-cons tokens i past_end h))

pub tokens_past : (tokens : List Placed) (i : ℕ) → length tokens ≤ i → tokens_in (drop i tokens) ≡ []
tokens_past tokens i h = ap tokens_in (drop_all i tokens h)
