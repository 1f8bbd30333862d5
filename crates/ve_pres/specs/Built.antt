-- What a presentation keeps beside its letters and relations.
use Rattle.std.specs.Prelude.{◌≡◌, ◌+◌, ◌≤◌, length}
use Rattle.ve_theory.specs.Presentations.{inverse_relators, relator_bound, submodule_bound}
use Rattle.ve_theory.specs.Validity.{IsValid, cells as cells_of, most_relations}
use Rattle.ve_pres.specs.Drafts.{Draft}
use Rattle.ve_pres.specs.declared.presentation.Presentation.TheInside.{Inside}

abbrev pub draft_of : Inside → Draft
draft_of p = record {
  presentation = record {
    version = p.version;
    is_balanced = p.balanced;
    prime = p.field;
    names = p.letters.names;
    inverses = p.letters.inverses.items;
    weights = p.letters.weights.items;
    generators = p.roots;
    relations = p.relations.items;
    submodule = p.submodule.items;
  };
  counted = p.counted;
}

-- The presentation is valid, and the relators of letters, the cells and the bounds are its own.
pub record IsBuilt (p : Inside) : Type 0 where
  pub valid : IsValid (draft_of p).presentation
  pub relators : p.letters.relators.items ≡ inverse_relators p.field 0 p.letters.inverses.items
  pub cells : p.cells ≡ cells_of (draft_of p).presentation
  pub d : p.d ≡ relator_bound (draft_of p).presentation
  pub m : p.m ≡ submodule_bound (draft_of p).presentation
  pub counted : length p.relations.items + length p.submodule.items ≤ p.counted
  pub limit : p.counted ≤ most_relations
