-- Where a text has no line, and where it has one.
use Rattle.std.proofs.Common.{◌≡◌, ℕ, Bool, true, false, true≢false, cond, List, [], ◌∷◌, length, arith, refl, sym, ap, ◌∙◌}
use Rattle.std.specs.Prelude.{nat_eq, Option, Some, None, MatchOption}
use Rattle.std.proofs.lemmas.Bool.{ne_eqb}
use Rattle.ve_formats.specs.Lines.{lines_of, onto_first_line}

pub no_lines : (text : List ℕ) → text ≡ [] → lines_of text ≡ []
unfolding lines_of
no_lines text is = ap lines_of is

pub empty_has_no_lines : (text : List ℕ) → true ≡ nat_eq (length text) 0 → lines_of text ≡ []
unfolding lines_of
empty_has_no_lines [] is = refl
empty_has_no_lines (b ∷ text) is = absurd (true≢false (is ∙ ne_eqb (length (b ∷ text)) 0 (λ same. omega (arith, same))))

onto_some : (b : ℕ) (lines : List (List ℕ)) → (line : List ℕ) × (behind : List (List ℕ)) × (onto_first_line b lines ≡ line ∷ behind)
unfolding onto_first_line
onto_some b [] = (b ∷ [], [], refl)
onto_some b (line ∷ lines) = (b ∷ line, lines, refl)

either : (t : Bool) (b : ℕ) (lines : List (List ℕ)) → (line : List ℕ) × (behind : List (List ℕ)) × (cond t ([] ∷ lines) (onto_first_line b lines) ≡ line ∷ behind)
either true b lines = ([], lines, refl)
either false b lines = onto_some b lines

pub some_text_has_a_line : (text : List ℕ) → false ≡ nat_eq (length text) 0 → (line : List ℕ) × (behind : List (List ℕ)) × (lines_of text ≡ line ∷ behind)
unfolding lines_of
some_text_has_a_line [] is = absurd (true≢false (sym is))
some_text_has_a_line (b ∷ text) is = either (nat_eq b 10) b (lines_of text)

-- what is said of an option's cases, weakened
pub option_weaker : {X : Type 0} {P Q : Type 0} {R S : X → Type 0} (o : Option X) → (P → Q) → ((x : X) → R x → S x) → MatchOption o P R → MatchOption o Q S
option_weaker None none some h = none h
option_weaker (Some x) none some h = some x h
