use Rattle.std.proofs.Common.{◌≡◌, ◌+◌, ◌*◌, ◌<◌, ℕ, List, [], Some, length, get_or, sym, ap, ap₂, ◌∙◌, arith}
use Rattle.std.proofs.lemmas.List.{get_or_default}
use Rattle.ve_theory.specs.Presentations.{letter_count}
use Rattle.ve_theory.specs.Answers.{Row}
use Rattle.ve_table.proofs.Entries.{row_here, no_row_here}
use Rattle.ve_table.proofs.table.TableRows.row.Goals as goal

-- the bound that was read is the letter's
bound_is : (bounds : List ℕ) (bound place letter : ℕ) → bound ≡ get_or bounds place bound → place ≡ letter → letter < length bounds → bound ≡ get_or bounds letter 0
bound_is bounds bound place letter read same inside = read ∙ ap (λ k. get_or bounds k bound) same ∙ get_or_default bounds letter bound 0 inside

pub returns-then-id-index : goal.returns-then-id-index
returns-then-id-index c =
    rw (← c.self.view_is)
    (let bound = bound_is c.self.inside.bounds.items c.index.result.now c.from-place.result c.args.letter c.index.ensures c.from-place.ensures (omega (arith, c.if-place-letters.false, c.from-place.ensures, c.len-letters.ensures, c.self.inside.bounds.ok.0)) in
    sym (no_row_here c.self.inside c.args.id c.args.letter (omega (arith, c.if-id-index.true, bound))))

pub returns : goal.returns
returns c =
    rw (← c.self.view_is)
    (let n : ℕ = letter_count c.self.inside.presentation.presentation in
    let rows : List Row = c.self.inside.rows.items in
    let letters : c.len-letters.result ≡ n = c.len-letters.ensures ∙ c.self.inside.bounds.ok.0 ∙ c.self.invariant.one_bound_each in
    let letter : c.args.letter < n = omega (arith, c.if-place-letters.false, c.from-place.ensures, letters) in
    let bound = bound_is c.self.inside.bounds.items c.index.result.now c.from-place.result c.args.letter c.index.ensures c.from-place.ensures (omega (arith, c.if-place-letters.false, c.from-place.ensures, c.len-letters.ensures, c.self.inside.bounds.ok.0)) in
    let lt : c.args.id < get_or c.self.inside.bounds.items c.args.letter 0 = omega (arith, c.if-id-index.false, bound) in
    let place : c.args.id * c.len-letters.result + c.from-place.result ≡ c.args.id * n + c.args.letter = ap₂ (λ m k. c.args.id * m + k) letters c.from-place.ensures in
    ap Some (c.index-2.ensures ∙ ap (λ k. get_or rows k c.index-2.result.now) place ∙ get_or_default rows (c.args.id * n + c.args.letter) c.index-2.result.now [] (c.self.invariant.places c.args.id c.args.letter letter lt))
    ∙ sym (row_here c.self.inside c.self.invariant c.args.id c.args.letter letter lt))
