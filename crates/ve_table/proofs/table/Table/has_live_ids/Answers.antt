use Rattle.std.proofs.Common.{rules, ℕ, ◌<◌, ◌↔◌, All, IsTrue, List, length, subst, sym, arith}
use Rattle.std.proofs.Math.ListN.{get_or-map}
use Rattle.std.proofs.iter.Serving.{serving}
use Rattle.std.proofs.lemmas.List.{length-map}
use Rattle.std.proofs.lemmas.List.Elements.{All-map}
use Rattle.ve_vec.specs.declared.term.Term.{Term}
use Rattle.ve_vec.specs.Terms.{pair_of, pairs}
use Rattle.ve_table.specs.Tables.{ActionTable, IsLive}
use Rattle.ve_table.specs.Sound.{HasLiveIds}
use Rattle.ve_table.proofs.table.Table.has_live_ids.Goals as goal

-- what holds of the ids of a vector holds of those of its terms
of_terms : (P : ℕ → Type 0) (terms : List Term) → All (λ t. P t.0) (pairs terms) → All (λ (t : Term). P t.id) terms
of_terms P terms all k d lt = subst (λ (t : ℕ × ℕ). P t.0) (get_or-map pair_of terms k d) (all k (pair_of d) (omega (arith, lt, length-map terms pair_of)))

pub all-requires-clause-callable : goal.all-requires-clause-callable
all-requires-clause-callable c =
    let n : ℕ = length c.args.self.now.words in
    let ids = of_terms (λ b. b < n) c.terms.result.now (subst (All (λ t. t.0 < n)) (sym c.terms.ensures) c.requires) in
    grind (serving, ids)

pub returns : goal.returns
returns c =
    let T : ActionTable = c.args.self.now in
    subst (λ v. IsTrue c.all.result ↔ HasLiveIds T v) c.terms.ensures (
      λ yes. All-map (λ t. IsLive T t.0) pair_of c.terms.result.now (search rules),
      λ all. let live = of_terms (IsLive T) c.terms.result.now all in search rules,
    )
