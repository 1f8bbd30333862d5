use Rattle.std.proofs.Common.{◌≡◌, true, false, length, sym, ap, ◌∙◌, inl, inr, eqb-true, eq-eqb}
use Rattle.std.proofs.lemmas.List.{nil_from_length}
use Rattle.ve_value.specs.declared.factor.Pending.{Pending}
use Rattle.ve_value.proofs.WorkSteps.{open_within, stands_whole, not_whole}
use Rattle.ve_value.proofs.value.Work.is_whole.Goals as goal

pub returns-then-not-is_empty : goal.returns-then-not-is_empty
returns-then-not-is_empty c = λ P r h. sym (open_within P _ r h (λ none.
    let zero : c.args.self.now.outer.len ≡ 0 = c.args.self.now.outer.ok.0 ∙ ap (length {A = Pending}) none in
    let both : false ≡ true = sym c.if-not-is_empty.true ∙ c.is_empty.ensures ∙ eq-eqb _ 0 zero in
    (cc)))

pub returns-in-Standing : goal.returns-in-Standing
returns-in-Standing c = λ P r h.
    let zero : c.args.self.now.outer.len ≡ 0 = eqb-true _ _ (sym c.is_empty.ensures ∙ c.if-not-is_empty.false) in
    sym (stands_whole P _ _ r h (nil_from_length _ (sym c.args.self.now.outer.ok.0 ∙ zero)) c.in-Standing.is)

pub returns-in-Wanted : goal.returns-in-Wanted
returns-in-Wanted c = λ P r h. sym (not_whole P _ r h (inl c.in-Wanted.is))

pub returns-in-Raising : goal.returns-in-Raising
returns-in-Raising c = λ P r h. sym (not_whole P _ r h (inr (inl (_, c.in-Raising.is))))

pub returns-in-Inverting : goal.returns-in-Inverting
returns-in-Inverting c = λ P r h. sym (not_whole P _ r h (inr (inr (_, c.in-Inverting.is))))
