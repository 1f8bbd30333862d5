use Rattle.std.proofs.Common.{◌≡◌, ◌∷◌, [], ◌++◌, ap₂, ap, sym, ◌∙◌, subst, arith}
use Rattle.std.proofs.lemmas.List.FromFn.{map-range_with_len_more}
use Rattle.ve_theory.specs.Combinations.{unit}
use Rattle.std.specs.List.{range_with_len}
use Rattle.ve_matrix.specs.Matrices.{HasResidues, IsSquare, identity_matrix}
use Rattle.ve_matrix.proofs.Identity.{identity_square, units_residues}
use Rattle.ve_matrix.proofs.matrix.Matrix.identity.Goals as goal

pub loop-place-preserved : goal.loop-place-preserved
loop-place-preserved c = record {
  units =
      c.push_reserved.ensures.items
      ∙ ap₂ (λ l v. l ++ v ∷ []) c.loop-place.invariant.units c.unit.ensures.value
      ∙ sym (map-range_with_len_more unit 0 c.loop-place.place c.loop-place.place (omega arith));
  count = omega (arith, c.push_reserved.ensures.len, c.loop-place.invariant.count);
  capacity = c.push_reserved.ensures.capacity ∙ c.loop-place.invariant.capacity;
}

pub invariant_of-result : goal.invariant_of-result
invariant_of-result c =
    let all : c.loop-place.place ≡ c.args.size = omega arith in
    subst IsSquare (sym (c.loop-place.invariant.units ∙ ap identity_matrix all)) (identity_square c.args.size (omega (arith, c.ranges.size.fits)))

pub returns-clause-residues : goal.returns-clause-residues
returns-clause-residues c p large = subst (HasResidues p) (sym c.loop-place.invariant.units) (units_residues p (range_with_len 0 c.loop-place.place) large)
