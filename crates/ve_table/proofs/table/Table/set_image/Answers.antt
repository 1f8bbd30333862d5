use Rattle.std.proofs.Common.{sym, subst}
use Rattle.ve_table.specs.Sound.{IsImageOf}
use Rattle.ve_table.specs.Tables.{ActionTable}
use Rattle.ve_table.specs.Kept.{table_of}
use Rattle.ve_table.proofs.Setting.{sound_imaged, kept_imaged}
use Rattle.ve_table.proofs.table.Table.set_image.Goals as goal

pub returns-clause-sound : goal.returns-clause-sound
returns-clause-sound c =
    let T : ActionTable = table_of c.self.inside in
    let is_image : IsImageOf T c.args.root c.args.image = subst (λ T. IsImageOf T c.args.root c.args.image) (sym c.self.view_is) c.requires.image in
    sound_imaged T c.from.result c.args.image c.self.invariant.sound (subst (λ i. IsImageOf T i c.args.image) (sym c.from.ensures) is_image)

pub invariant_of-self : goal.invariant_of-self
invariant_of-self c =
    let T : ActionTable = table_of c.self.inside in
    let is_image : IsImageOf T c.args.root c.args.image = subst (λ T. IsImageOf T c.args.root c.args.image) (sym c.self.view_is) c.requires.image in
    record {
      sound = sound_imaged T c.from.result c.args.image c.self.invariant.sound (subst (λ i. IsImageOf T i c.args.image) (sym c.from.ensures) is_image);
      entries = kept_imaged T c.self.inside.entries.items c.from.result c.args.image c.self.invariant.entries;
      count = c.self.invariant.count;
      few_places = c.self.invariant.few_places;
      places = c.self.invariant.places;
      rest = c.self.invariant.rest;
      one_bound_each = c.self.invariant.one_bound_each;
      bounds = c.self.invariant.bounds;
      live_count = c.self.invariant.live_count;
      own_forwards = c.self.invariant.own_forwards;
      own_reaches = c.self.invariant.own_reaches;
    }
