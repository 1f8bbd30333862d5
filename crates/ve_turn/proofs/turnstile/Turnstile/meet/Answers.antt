-- The second view goes into the first, which then learns which journal is longer.
use Rattle.std.proofs.Common.{◌+◌, max, List, sym, ap, ◌∙◌, subst, arith}
use Rattle.ve_turn.specs.Journal.{BeginsWith}
use Rattle.ve_turn.specs.Knows.{met_of}
use Rattle.ve_turn.specs.Steps.{unsettled}
use Rattle.ve_turn.proofs.Journals.{length-longer_of}
use Rattle.ve_turn.proofs.Standing.{outside}
use Rattle.ve_turn.proofs.turnstile.Turnstile.meet.Goals as goal

pub join-requires-clause-outside : goal.join-requires-clause-outside
join-requires-clause-outside g c = let a = c.first.inside in let b = c.second.inside in let o = a.outside in let o' = b.outside in (o.0, o'.0, outside a.token o.0 o.1, outside b.token o'.0 o'.1)

pub settle-requires-clause-meeting : goal.settle-requires-clause-meeting
settle-requires-clause-meeting g c = let a = c.first.inside in let b = c.second.inside in let o = a.outside in let o' = b.outside in
    (o'.0.seen, unsettled o.0 o'.0, c.join.ensures.meeting o.0 o'.0 (outside a.token o.0 o.1) (outside b.token o'.0 o'.1))

pub overflow_add-both : goal.overflow_add-both
overflow_add-both g c = let a = c.first.inside in let b = c.second.inside in let o = a.outside in let o' = b.outside in
    let told = c.settle.ensures.outside o'.0.seen (unsettled o.0 o'.0) (c.join.ensures.meeting o.0 o'.0 (outside a.token o.0 o.1) (outside b.token o'.0 o'.1)) in
    let x = told.3 in let y = told.4 in let m = c.first.invariant.0.2 in let n = c.second.invariant.0.2 in omega arith

pub overflow_add-both-2 : goal.overflow_add-both-2
overflow_add-both-2 g c = let a = c.first.inside in let b = c.second.inside in let o = a.outside in let o' = b.outside in
    let told = c.settle.ensures.outside o'.0.seen (unsettled o.0 o'.0) (c.join.ensures.meeting o.0 o'.0 (outside a.token o.0 o.1) (outside b.token o'.0 o'.1)) in
    let x = told.3 in let y = told.4 in let m = c.first.invariant.0.2 in let n = c.second.invariant.0.2 in omega arith

pub of-requires : goal.of-requires
of-requires g c = let a = c.first.inside in let b = c.second.inside in let o = a.outside in let o' = b.outside in let p = c.first.invariant in let q = c.second.invariant in
    let told = c.settle.ensures.outside o'.0.seen (unsettled o.0 o'.0) (c.join.ensures.meeting o.0 o'.0 (outside a.token o.0 o.1) (outside b.token o'.0 o'.1)) in
    (met_of o.0 o'.0, told.0, (p.0.0, p.0.1, (λ i. p.0.2 i + q.0.2 i + 1), told.3), c.max.ensures ∙ ((λ i. max (p.1 i) (q.1 i)) ∙ length-longer_of o.0.seen o'.0.seen))

pub returns : goal.returns
returns g c = let a = c.first.inside in let b = c.second.inside in let o = a.outside in let o' = b.outside in
    let told = c.settle.ensures.outside o'.0.seen (unsettled o.0 o'.0) (c.join.ensures.meeting o.0 o'.0 (outside a.token o.0 o.1) (outside b.token o'.0 o'.1)) in
    let made = c.of.ensures (met_of o.0 o'.0) told.0 in let first = ap (λ p. p.knows) c.first.view_is in let second = ap (λ p. p.knows) c.second.view_is in
    let known = ap (λ p. p.knows) made in record {
      turnstile = ap (λ p. p.turnstile) made ∙ (c.settle.ensures.table ∙ (c.join.ensures.table ∙ (ap (λ p. p.turnstile) c.first.view_is ∙ c.requires.turnstile.0)));
      knows = known ∙ (λ i. met_of (first i) (second i));
      seen = (
        subst (λ (x : List g.row.T-Entry.Denot × List g.row.T-Entry.Denot). BeginsWith x.0 x.1) (λ i. ((sym known i).seen, (first i).seen)) told.1,
        subst (λ (x : List g.row.T-Entry.Denot × List g.row.T-Entry.Denot). BeginsWith x.0 x.1) (λ i. ((sym known i).seen, (second i).seen)) told.2,
      );
    }
