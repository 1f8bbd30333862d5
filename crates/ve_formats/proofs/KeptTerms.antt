-- The list of terms of a sum has no keys but the sum's, and is no longer than it.
use Rattle.std.proofs.Common.{◌≡◌, ℕ, ◌<◌, ◌≤◌, List, length, All, subst, sym, ◌∙◌}
use Rattle.ve_theory.specs.Words.{Word, ShortlexLetters, Shortlex, same_letters, same_word}
use Rattle.ve_theory.specs.Elements.{AlgebraElement, Element, IsAlgebraElementOf, IsElementOf}
use Rattle.ve_theory.specs.Laws.{ReducedListsAreUnique}
use Rattle.ve_formats.proofs.Collecting.{Collected, collected}
use Rattle.ve_formats.proofs.WordOrders.{letters_order, words_order}

module _ (unique : ReducedListsAreUnique) (p : ℕ) (some : 0 < p) where
  module _ (Q : List ℕ → Type 0) {v e : AlgebraElement} (h : IsAlgebraElementOf p v e) where
    abbrev list : Collected ShortlexLetters same_letters letters_order Q p some e
    list = collected ShortlexLetters same_letters letters_order Q p some e

    is_list : list.list ≡ v
    is_list = unique.algebra p list.list v list.holds.reduced h.reduced (λ k. list.holds.alike k ∙ sym (h.alike k))

    pub letters_kept : All (λ t. Q t.0) e → All (λ t. Q t.0) v
    letters_kept all = subst (λ (u : AlgebraElement). All (λ t. Q t.0) u) is_list (list.keys all)

    pub terms_kept : length v ≤ length e
    terms_kept = subst (λ (u : AlgebraElement). length u ≤ length e) is_list list.short

  module _ (Q : Word → Type 0) {v e : Element} (h : IsElementOf p v e) where
    abbrev module_list : Collected Shortlex same_word words_order Q p some e
    module_list = collected Shortlex same_word words_order Q p some e

    is_module_list : module_list.list ≡ v
    is_module_list = unique.elements p module_list.list v module_list.holds.reduced h.reduced (λ k. module_list.holds.alike k ∙ sym (h.alike k))

    pub words_kept : All (λ t. Q t.0) e → All (λ t. Q t.0) v
    words_kept all = subst (λ (u : Element). All (λ t. Q t.0) u) is_module_list (module_list.keys all)

    pub module_terms_kept : length v ≤ length e
    module_terms_kept = subst (λ (u : Element). length u ≤ length e) is_module_list module_list.short
