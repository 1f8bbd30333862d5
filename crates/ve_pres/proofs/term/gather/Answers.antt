use Rattle.std.proofs.Common.{rules}
use Rattle.std.proofs.lemmas.List.Sorted.{answers_always}
use Rattle.ve_pres.proofs.Orders.{sorts_by_words, test_from_order}
use Rattle.ve_pres.proofs.Gatherings.{gathering_begins, gathering_goes_on}
use Rattle.ve_pres.proofs.term.gather.Goals as goal

pub loop-term-init : goal.loop-term-init
loop-term-init c =
    gathering_begins _ _ _ _ c.requires c.in_ok-sort_by.ensures.permutation
    (c.in_ok-sort_by.ensures.sorted _ (sorts_by_words (λ t. t.word)) (answers_always _ _ _ (λ f a r q k. test_from_order r a.0.now.word a.1.0.now.word (search rules) (search rules))))
    c.in_ok-kept.ensures.items

pub loop-term-preserved : goal.loop-term-preserved
loop-term-preserved c = gathering_goes_on _ _ _ _ _ _ c.in-Some.term c.loop-term.invariant c.in-Some.ensures.items c.in_ok-add_last.ensures.sum c.in_ok-add_last.ensures.count
