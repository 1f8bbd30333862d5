use Rattle.std.proofs.Common.{◌≡◌, ℕ, ◌+◌, ◌-◌, ◌*◌, ◌<◌, ◌∙◌, List, [], refl, ap, subst, sym, length, take, arith}
use Rattle.std.specs.Prelude.{reverse}
use Rattle.std.proofs.Math.Seq.{take-length}
use Rattle.std.proofs.lemmas.List.{length-reverse}
use Rattle.std.proofs.lemmas.Option.{slice_get_read}
use Rattle.ve_theory.specs.Answers.{Row}
use Rattle.ve_table.specs.ByLetter.{AreDealt}
use Rattle.ve_table.proofs.ByLetter.{none_dealt, letter_dealt, round_ends, next_left, next_here, some_left, place_within}
use Rattle.ve_table.proofs.by_letter.rows_by_letter.Goals as goal

pub ids-init : goal.ids-init
ids-init c =
    let all : List Row = c.args.rows.items in
    let whole : length all - 0 * c.args.letters ≡ length (reverse all) = omega (arith, length-reverse all) in
    record {
      left = c.reverse.ensures.items ∙ sym (ap (λ n. take n (reverse all)) whole ∙ take-length (reverse all));
      dealt = none_dealt c.args.letters all c.in_ok-lists.lists.items c.in_ok-lists.ensures.count c.in_ok-lists.ensures.empty;
    }

pub letters-init : goal.letters-init
letters-init c =
    let all : List Row = c.args.rows.items in
    let same : length all - c.ids._id * c.args.letters ≡ length all - (c.ids._id * c.args.letters + 0) = omega arith in
    record { left = c.ids.invariant.left ∙ ap (λ n. take n (reverse all)) same; dealt = c.ids.invariant.dealt }

pub take_last-row-requires : goal.take_last-row-requires
take_last-row-requires c =
    let inside = place_within c.args.letters c.args.ids c.ids._id c.letters.letter (length c.args.rows.items) c.requires.places c.ids-test.true c.letters-test.true in
    some_left c.args.rows.items c.letters.left.items (c.ids._id * c.args.letters + c.letters.letter) c.letters.invariant.left inside

pub letters-preserved : goal.letters-preserved
letters-preserved c =
    let all : List Row = c.args.rows.items in
    let n : ℕ = c.ids._id * c.args.letters + c.letters.letter in
    let inside = place_within c.args.letters c.args.ids c.ids._id c.letters.letter (length all) c.requires.places c.ids-test.true c.letters-test.true in
    let taken = c.take_last-row.ensures.row ∙ next_here all c.letters.left.items n c.letters.invariant.left inside [] in
    let next : length all - (n + 1) ≡ length all - (c.ids._id * c.args.letters + (c.letters.letter + 1)) = omega arith in
    let there : c.letters.letter < length c.letters.lists.items = omega (arith, c.letters.invariant.dealt.count, c.letters-test.true) in
    record {
      left = c.take_last-row.ensures.rest ∙ next_left all c.letters.left.items n c.letters.invariant.left inside ∙ ap (λ m. take m (reverse all)) next;
      dealt =
          letter_dealt c.args.letters c.ids._id c.letters.letter all c.letters.lists.items c.index_mut.result.now c.push.new.self c.take_last-row.result c.letters.invariant.dealt
          (slice_get_read c.letters.lists.items (length c.letters.lists.items) c.letters.letter c.index_mut.result.now refl there c.index_mut.ensures.value)
          c.in_ok-push.ensures.items (sym taken);
    }

pub ids-preserved : goal.ids-preserved
ids-preserved c =
    let all : List Row = c.args.rows.items in
    let end : c.letters.letter ≡ c.args.letters = omega (arith, c.letters-test.false, c.letters.auto.letter-end) in
    let next : c.ids._id * c.args.letters + c.args.letters ≡ (c.ids._id + 1) * c.args.letters = omega arith in
    record {
      left = c.give_back.ensures ∙ c.letters.invariant.left ∙ ap (λ m. take (length all - m) (reverse all)) (ap (λ m. c.ids._id * c.args.letters + m) end ∙ next);
      dealt = round_ends c.args.letters c.ids._id c.letters.letter all c.letters.lists.items c.letters-test.false c.letters.invariant.dealt;
    }

pub returns : goal.returns
returns c =
    let end : c.ids._id ≡ c.args.ids = omega (arith, c.ids-test.false, c.ids.auto._id-end) in
    subst (λ n. AreDealt c.args.letters n 0 c.args.rows.items c.ids.lists.items) end c.ids.invariant.dealt
