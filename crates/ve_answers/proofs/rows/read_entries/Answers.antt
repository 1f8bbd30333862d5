use Rattle.std.proofs.Common.{◌≡◌, ◌<◌, ◌++◌, arith, sym, subst, ap, ◌∙◌, map, All}
use Rattle.std.specs.Prelude.{decimal}
use Rattle.std.proofs.lemmas.Bool.Decides.{Decides-eqb}
use Rattle.std.proofs.lemmas.List.{length-map}
use Rattle.std.proofs.lemmas.Option.{MatchOption-at_none, MatchOption-at_some}
use Rattle.std.proofs.lemmas.Slice.Eq.{strip_prefix_is}
use Rattle.ve_formats.specs.Lines.{each_after_space}
use Rattle.ve_answers.proofs.RowEntries.{no_pieces, other_count, not_numbers, are_entries}
use Rattle.ve_answers.proofs.rows.read_entries.Goals as goal

pub returns-in_default-clause-entries : goal.returns-in_default-clause-entries
returns-in_default-clause-entries c entries is =
    let stripped = strip_prefix_is Decides-eqb c.args.line.now c.args.word.now c.strip_prefix.result c.strip_prefix.ensures.cases in
    MatchOption-at_none _ _ c.in_default.is stripped (each_after_space (map decimal entries)) is.text

pub returns-in_default-2-clause-entries : goal.returns-in_default-2-clause-entries
returns-in_default-2-clause-entries c =
    let stripped = strip_prefix_is Decides-eqb c.args.line.now c.args.word.now c.strip_prefix.result c.strip_prefix.ensures.cases in
    let line : c.args.line.now ≡ c.args.word.now ++ c.in-Some.rest.now = MatchOption-at_some _ _ c.in-Some.rest c.in-Some.is stripped in
    no_pieces c.args.head.now c.args.word.now c.args.line.now c.in-Some.rest.now line (MatchOption-at_none _ _ c.in_default-2.is c.in_ok-pieces.ensures)

pub returns-then-len-head-clause-entries : goal.returns-then-len-head-clause-entries
returns-then-len-head-clause-entries c =
    let stripped = strip_prefix_is Decides-eqb c.args.line.now c.args.word.now c.strip_prefix.result c.strip_prefix.ensures.cases in
    let line : c.args.line.now ≡ c.args.word.now ++ c.in-Some.rest.now = MatchOption-at_some _ _ c.in-Some.rest c.in-Some.is stripped in
    let cut = MatchOption-at_some _ _ c.in-Some-2.pieces c.in-Some-2.is c.in_ok-pieces.ensures in
    let law = c.texts_split_once.ensures in
    other_count c.args.head.now c.args.word.now c.args.line.now c.in-Some.rest.now line law.spaces law.numbers (omega (arith, c.has_prime.ensures.below_256))
    (map (λ piece. piece.now) c.in-Some-2.pieces.items) cut.0 cut.1
    (λ same. absurd (omega (arith, same, length-map c.in-Some-2.pieces.items (λ piece. piece.now), c.len.ensures, c.if-len-head.true)))

pub returns-in_default-3-clause-entries : goal.returns-in_default-3-clause-entries
returns-in_default-3-clause-entries c =
    let stripped = strip_prefix_is Decides-eqb c.args.line.now c.args.word.now c.strip_prefix.result c.strip_prefix.ensures.cases in
    let line : c.args.line.now ≡ c.args.word.now ++ c.in-Some.rest.now = MatchOption-at_some _ _ c.in-Some.rest c.in-Some.is stripped in
    let cut = MatchOption-at_some _ _ c.in-Some-2.pieces c.in-Some-2.is c.in_ok-pieces.ensures in
    let none = MatchOption-at_none _ _ c.in_default-3.is c.in_ok-entries.ensures in
    let law = c.texts_split_once.ensures in
    not_numbers c.args.head.now c.args.word.now c.args.line.now c.in-Some.rest.now line law.spaces law.numbers (omega (arith, c.prime.ensures.below_256))
    (map (λ piece. piece.now) c.in-Some-2.pieces.items) cut.0 cut.1
    (λ entries below same.
    none entries (subst (λ p. All (λ n. n < p) entries) (sym c.prime.ensures.prime) below)
    (ap (map (λ piece. piece.now)) c.deref.ensures.value ∙ same))

pub returns-clause-entries : goal.returns-clause-entries
returns-clause-entries c =
    let stripped = strip_prefix_is Decides-eqb c.args.line.now c.args.word.now c.strip_prefix.result c.strip_prefix.ensures.cases in
    let line : c.args.line.now ≡ c.args.word.now ++ c.in-Some.rest.now = MatchOption-at_some _ _ c.in-Some.rest c.in-Some.is stripped in
    let cut = MatchOption-at_some _ _ c.in-Some-2.pieces c.in-Some-2.is c.in_ok-pieces.ensures in
    let found = MatchOption-at_some _ _ c.in-Some-3.entries c.in-Some-3.is c.in_ok-entries.ensures in
    let law = c.texts_split_once.ensures in
    are_entries c.args.head.now c.args.word.now c.args.line.now c.in-Some.rest.now line law.spaces law.numbers (omega (arith, c.prime.ensures.below_256))
    (map (λ piece. piece.now) c.in-Some-2.pieces.items) cut.0 cut.1
    (omega (arith, length-map c.in-Some-2.pieces.items (λ piece. piece.now), c.len.ensures, c.if-len-head.false))
    c.in-Some-3.entries.items (subst (λ p. All (λ n. n < p) c.in-Some-3.entries.items) c.prime.ensures.prime found.0)
    (ap (map (λ piece. piece.now)) (sym c.deref.ensures.value) ∙ found.1)
