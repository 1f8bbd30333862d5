use Rattle.std.proofs.Common.{◌≡◌, ◌*◌, length, sym, ap, ap₂, subst, ◌∙◌}
use Rattle.ve_theory.specs.Presentations.{letter_count}
use Rattle.ve_table.specs.Parts.{HasAllRows}
use Rattle.ve_table.specs.ByLetter.{AreDealt}
use Rattle.ve_table.proofs.TakingApart.{all_places, parts_taken}
use Rattle.ve_table.proofs.table.Table.into_parts.Goals as goal

pub rows_by_letter-requires : goal.rows_by_letter-requires
rows_by_letter-requires c = record {
  places =
      all_places c.self.inside c.self.invariant (subst HasAllRows (sym c.self.view_is) c.requires)
      ∙ ap₂ (λ ids letters. ids * letters) (sym (c.len-ids.ensures ∙ c.self.inside.entries.ok.0)) (sym (c.len-letters.ensures ∙ c.weights.result.now.ok.0 ∙ ap length c.weights.ensures ∙ c.self.invariant.sound.valid.presentation.one_weight_each));
}

pub returns : goal.returns
returns c =
    let letters : c.len-letters.result ≡ letter_count c.self.inside.presentation.presentation = c.len-letters.ensures ∙ c.weights.result.now.ok.0 ∙ ap length c.weights.ensures ∙ c.self.invariant.sound.valid.presentation.one_weight_each in
    rw (← c.self.view_is)
    (parts_taken c.self.inside c.self.invariant (subst HasAllRows (sym c.self.view_is) c.requires) c.in_ok-origins.origins c.in_ok-rows.rows c.in_ok-origins.ensures
    (subst (λ n. AreDealt n c.len-ids.result 0 c.self.inside.rows.items c.in_ok-rows.rows.items) letters c.in_ok-rows.ensures) (c.len-ids.ensures ∙ c.self.inside.entries.ok.0))
