use Rattle.std.proofs.Common.{inl, inr, sym, ap, ◌∙◌, arith}
use Rattle.std.proofs.lemmas.List.{nil_from_length}
use Rattle.std.proofs.lemmas.Bool.{eqb-true}
use Rattle.ve_vec.specs.Terms.{pairs}
use Rattle.ve_vec.proofs.Inserting.{alone_of, term_of, as_product}
use Rattle.ve_vec.proofs.Merging.{unchanged}
use Rattle.ve_vec.proofs.Ids.{ids_of_sum}
use Rattle.ve_vec.proofs.sparse.Sparse.add_scaled.Goals as goal
use Rattle.ve_vec.proofs.sparse.Sparse.add_scaled.Goals.{then-by-eq0-via-then-by-eq0, then-by-eq0-via-else-by-eq0+then-is_empty}

pub returns-then-by-eq0-clause-ok : goal.returns-then-by-eq0-clause-ok
returns-then-by-eq0-clause-ok c =
    unchanged _ _ _ _ c.requires.fits
    (elim c.then-by-eq0.branch [
      | then-by-eq0-via-then-by-eq0 w ↦ inl w.if-by-eq0.true
      | then-by-eq0-via-else-by-eq0+then-is_empty w ↦
          inr (sym c.other.view_is ∙ ap pairs (sym c.as_slice-others.ensures ∙ nil_from_length _ (eqb-true _ 0 (sym w.is_empty.ensures ∙ w.if-is_empty.true))))
    ])

pub returns-then-comes_before-clause-ids : goal.returns-then-comes_before-clause-ids
returns-then-comes_before-clause-ids c = λ among.
    ids_of_sum c.args.field.now c.args.by among c.args.self.now c.args.other.now _
    (rw (c.as_slice-others.ensures, c.other.view_is, c.self.view_is) at c.in_ok-append_scaled.ensures.ok)

pub returns-clause-ids : goal.returns-clause-ids
returns-clause-ids c = λ among.
    ids_of_sum c.args.field.now c.args.by among c.args.self.now c.args.other.now _
    (rw c.in_ok-replace.ensures.ok
    (rw (c.new-sum.ensures.items, c.as_slice-2.ensures, c.as_slice-others.ensures, c.other.view_is, c.self.view_is) at c.in_ok-append_sum.ensures.ok))

pub mul-requires-clause-second : goal.mul-requires-clause-second
mul-requires-clause-second c =
    (term_of _ _ _ _ (alone_of c.as_slice-others.result.now (record { id = 0; coef = 0 }) c.other.view_is c.as_slice-others.ensures c.in-len1.len_at_least c.in-len1.len_below) c.requires.other_fits).residue

pub insert_term-requires-clause-nonzero : goal.insert_term-requires-clause-nonzero
insert_term-requires-clause-nonzero c =
    let term = term_of _ _ _ _ (alone_of c.as_slice-others.result.now (record { id = 0; coef = 0 }) c.other.view_is c.as_slice-others.ensures c.in-len1.len_at_least c.in-len1.len_below) c.requires.other_fits in
    c.mul.ensures.nonzero (omega (arith, c.if-by-eq0.false)) term.positive

pub returns-in-len1-clause-ok : goal.returns-in-len1-clause-ok
returns-in-len1-clause-ok c =
    rw (alone_of c.as_slice-others.result.now (record { id = 0; coef = 0 }) c.other.view_is c.as_slice-others.ensures c.in-len1.len_at_least c.in-len1.len_below)
    (as_product _ _ _ _ _ _ _ c.mul.ensures.product (rw c.self.view_is at c.in_ok-insert_term.ensures.ok))

pub returns-in-len1-clause-ids : goal.returns-in-len1-clause-ids
returns-in-len1-clause-ids c = λ among.
    ids_of_sum c.args.field.now c.args.by among c.args.self.now c.args.other.now _
    (rw (alone_of c.as_slice-others.result.now (record { id = 0; coef = 0 }) c.other.view_is c.as_slice-others.ensures c.in-len1.len_at_least c.in-len1.len_below)
    (as_product c.args.field.now c.args.by _ _ _ c.args.self.now _ c.mul.ensures.product (rw c.self.view_is at c.in_ok-insert_term.ensures.ok)))
