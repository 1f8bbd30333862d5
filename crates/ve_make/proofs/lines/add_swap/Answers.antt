use Rattle.std.proofs.Common.{◌≡◌, ◌∷◌, [], Some, ap, subst, refl, ◌∙◌, length, map}
use Rattle.ve_formats.specs.Lines.{numbers_below}
use Rattle.ve_pres.specs.Drafts.{IsNameFault, with_letters}
use Rattle.ve_make.specs.Symmetric.{swap_name}
use Rattle.ve_make.proofs.Swaps.{swap_is_name, no_name_fault, next_swap}
use Rattle.ve_make.proofs.lines.add_swap.Goals as goal

pub add_involution-requires-clause-name : goal.add_involution-requires-clause-name
add_involution-requires-clause-name c = rw (c.deref.ensures, c.in_ok-name.ensures.ok) (swap_is_name c.decimals_are_numbers.ensures.digits c.args.swap c.requires.few)

pub add_involution-requires-clause-open : goal.add_involution-requires-clause-open
add_involution-requires-clause-open c = rw c.requires.before (record { relations = refl; submodule = refl })

pub returns-in-Ok : goal.returns-in-Ok
returns-in-Ok c =
    let name : c.deref.result.now ≡ swap_name c.args.swap = c.deref.ensures ∙ c.in_ok-name.ensures.ok in
    let draft = c.args.presentation.now in
    c.in-Ok.ensures.ok ∙ ap (λ n. with_letters draft (n ∷ []) (Some (length draft.presentation.names) ∷ [])) name ∙ next_swap draft.presentation.prime c.args.swap draft c.requires.before

pub unreachable-requires : goal.unreachable-requires
unreachable-requires c =
    let name : c.deref.result.now ≡ swap_name c.args.swap = c.deref.ensures ∙ c.in_ok-name.ensures.ok in
    let names : c.args.presentation.now.presentation.names ≡ map swap_name (numbers_below c.args.swap) = ap (λ d. d.presentation.names) c.requires.before in
    no_name_fault c.args.swap c.in-Err.fault c.requires.few c.in_default.not-Memory
    (subst (λ ns. IsNameFault ns (swap_name c.args.swap) c.in-Err.fault) names (subst (λ n. IsNameFault c.args.presentation.now.presentation.names n c.in-Err.fault) name c.in-Err.ensures.fault))
