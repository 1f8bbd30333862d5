use Rattle.std.proofs.Common.{◌≡◌, List, [], ◌∷◌, ◌++◌, map, refl, sym, ap, ◌∙◌, subst, arith}
use Rattle.std.specs.Prelude.{All}
use Rattle.std.proofs.lemmas.List.Elements.{All-push}
use Rattle.ve_formats.specs.Tokens as defined
use Rattle.ve_formats.specs.Tokens.{Lexes}
use Rattle.ve_lex.specs.declared.token.Placed.{Placed}
use Rattle.ve_lex.specs.Lexed.{placed_of, HasItsValue}
use Rattle.ve_lex.proofs.lexer.tokens.Goals as goal

-- a token that was pushed comes before the later ones
map_pushed : (tokens : List Placed) (placed : Placed) (later : List defined.Placed) → map placed_of (tokens ++ placed ∷ []) ++ later ≡ map placed_of tokens ++ (placed_of placed ∷ later)
map_pushed [] placed later = refl
map_pushed (first ∷ tokens) placed later = ap (λ more. placed_of first ∷ more) (map_pushed tokens placed later)

pub loop-tokens-preserved : goal.loop-tokens-preserved
loop-tokens-preserved c =
    let before = c.loop-tokens.invariant in
    let next = rw c.in-Some.is at c.in_ok-placed.ensures.next in
    let pushed : c.push.new.self.items ≡ c.loop-tokens.tokens.items ++ c.in-Some.placed ∷ [] = c.in_ok-push.ensures.items in
    record {
      tokens = λ later lexes.
          subst (Lexes 0 c.args.line.now) (sym (ap (λ items. map placed_of items ++ later) pushed ∙ map_pushed c.loop-tokens.tokens.items c.in-Some.placed later))
          (before.tokens (placed_of c.in-Some.placed ∷ later) (next.1.tokens later lexes));
      fault = λ fault fails. before.fault fault (next.1.fault fault fails);
      values = subst (All (λ placed. HasItsValue placed.token)) (sym pushed) (All-push (λ placed. HasItsValue placed.token) c.loop-tokens.tokens.items c.in-Some.placed before.values next.0.value);
      place = omega (arith, next.1.room, before.place);
    }
