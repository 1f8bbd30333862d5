-- The sides of an equation, by the place of its sign.
use Rattle.std.proofs.Common.{◌≡◌, ℕ, zero, suc, ◌+◌, ◌-◌, ◌<◌, inl, inr, Bool, true, false, Some, None, List, [], ◌∷◌, length, take, drop, get_or, refl, sym, ap, ◌∙◌, arith, add-one}
use Rattle.std.specs.Prelude.{position, nat_lt}
use Rattle.std.specs.List.{position_or_len}
use Rattle.std.proofs.lemmas.Bool.{cases_Bool, cond-true, cond-false, ltb-false}
use Rattle.std.proofs.lemmas.List.{take_rest}
use Rattle.std.proofs.lemmas.List.Quantifiers.{position-Some}
use Rattle.std.proofs.lemmas.List.Sums.{fails_before_first}
use Rattle.std.proofs.lemmas.List.Elements.{All-take, All-drop}
use Rattle.ve_formats.specs.LineReading.{sides, before_sides, is_equals}
use Rattle.ve_lex.specs.declared.token.Placed.{Placed}
use Rattle.ve_lex.specs.declared.token.Token.TheVariants.{Symbol}
use Rattle.ve_lex.specs.Lexed.{token_of}
use Rattle.ve_value.specs.Shapes.{AreWritten, IsWritten, tokens_in}
use Rattle.ve_read.specs.Forms.{AreSidesIn}

-- what stands past the end of the tokens
abbrev past_end : Placed
past_end = record { token = Symbol 0; start = 0; end = 0 }

abbrev is_sign : Placed → Bool
is_sign placed = is_equals (token_of placed.token)

sides-at : (tokens : List Placed) (d : Placed) (i : ℕ) → i < length tokens → is_sign (get_or tokens i d) ≡ true → ((k : ℕ) → k < i → is_sign (get_or tokens k d) ≡ false)
    → sides (tokens_in tokens) ≡ Some (record { left = tokens_in (take i tokens); right = tokens_in (drop (suc i) tokens) })
unfolding sides
sides-at [] d i within sign before = absurd (omega arith)
sides-at (t ∷ tokens) d zero within sign before = cond-true _ _ _ sign
sides-at (t ∷ tokens) d (suc i) within sign before =
    cond-false _ _ _ (before 0 (omega arith))
    ∙ ap (before_sides (token_of t.token)) (sides-at tokens d i (omega arith) sign (λ k below. before (suc k) (omega arith)))

sides-nowhere : (tokens : List Placed) (d : Placed) → ((k : ℕ) → k < length tokens → is_sign (get_or tokens k d) ≡ false) → sides (tokens_in tokens) ≡ None
unfolding sides
sides-nowhere [] d none = refl
sides-nowhere (t ∷ tokens) d none =
    cond-false _ _ _ (none 0 (omega arith)) ∙ ap (before_sides (token_of t.token)) (sides-nowhere tokens d (λ k within. none (suc k) (omega arith)))

pub no_sides : (tokens : List Placed) → position is_sign tokens ≡ None → sides (tokens_in tokens) ≡ None
no_sides tokens missing = sides-nowhere tokens past_end nowhere
  where
    nowhere : (k : ℕ) → k < length tokens → is_sign (get_or tokens k past_end) ≡ false
    nowhere k within =
        elim (cases_Bool (nat_lt (position_or_len is_sign tokens) (length tokens))) [
          | inl before ↦ absurd (let there : position is_sign tokens ≡ Some (position_or_len is_sign tokens) = cond-true _ _ _ before in cc)
          | inr past ↦ let all = ltb-false _ _ past in fails_before_first is_sign tokens k past_end (omega arith)
        ]

pub sides_at : (tokens : List Placed) (i : ℕ) → position is_sign tokens ≡ Some i → AreWritten tokens
    → AreSidesIn (sides (tokens_in tokens)) (take i tokens) (take (length tokens - (i + 1)) (drop (i + 1) tokens))
sides_at tokens i found written =
    let at = position-Some is_sign tokens i past_end found in
    let behind : take (length tokens - (i + 1)) (drop (i + 1) tokens) ≡ drop (i + 1) tokens = take_rest tokens (i + 1) in
    record {
      are = sides-at tokens past_end i at.0 at.1 at.2
          ∙ ap (λ ts. Some (record { left = tokens_in (take i tokens); right = tokens_in ts })) (sym (behind ∙ ap (λ n. drop n tokens) (add-one i)));
      left_written = All-take (λ (placed : Placed). IsWritten placed.token) i tokens written;
      right_written = rw behind (All-drop (λ (placed : Placed). IsWritten placed.token) (i + 1) tokens written);
    }
