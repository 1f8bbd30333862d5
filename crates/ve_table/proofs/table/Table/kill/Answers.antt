use Rattle.std.proofs.Common.{◌<◌, suc, length, arith, sym, ap, subst, ◌≡◌, ◌-◌, ◌∙◌}
use Rattle.std.proofs.lemmas.List.{length-set}
use Rattle.std.proofs.lemmas.Option.{slice_get_within}
use Rattle.ve_table.specs.Tables.{ActionTable, IsId, IsLive, live_words}
use Rattle.ve_table.specs.Sound.{IsSound, IsForwardOf}
use Rattle.ve_table.specs.Kept.{table_of, IsEntryOf}
use Rattle.ve_table.specs.Changes.{with_forward}
use Rattle.ve_table.proofs.Deaths.{keeps_killed}
use Rattle.ve_table.proofs.Entries.{has_entry, entry_of}
use Rattle.ve_table.proofs.Killing.{one_less, killed, sound_killed, kept_entries, live_killed}
use Rattle.ve_table.proofs.table.Table.kill.Goals as goal

pub overflow_sub-self : goal.overflow_sub-self
overflow_sub-self c =
    let live : IsLive (table_of c.self.inside) c.args.id = rw (← c.self.view_is) at c.requires.live in
    omega (arith, c.self.invariant.live_count, one_less _ _ c.args.id c.args.forward c.self.invariant.sound.one_forward_each live)

pub index_mut-requires : goal.index_mut-requires
index_mut-requires c =
    let live : IsLive (table_of c.self.inside) c.args.id = rw (← c.self.view_is) at c.requires.live in
    let within : c.args.id < length c.self.inside.entries.items = has_entry c.self.inside c.self.invariant _ (rw (sym c.self.invariant.sound.one_forward_each) (slice_get_within _ _ _ live)) in
    omega (arith, within, c.self.inside.entries.ok.0)

pub push_reserved-requires : goal.push_reserved-requires
push_reserved-requires c =
    let live : IsLive (table_of c.self.inside) c.args.id = rw (← c.self.view_is) at c.requires.live in
    let keeps = c.self.invariant.own_forwards in
    omega (arith, keeps.count, keeps.room, c.self.inside.forwards.ok.0, c.self.invariant.live_count, one_less _ _ c.args.id c.args.forward c.self.invariant.sound.one_forward_each live)

pub overflow_cast-len : goal.overflow_cast-len
overflow_cast-len c =
    let live : IsLive (table_of c.self.inside) c.args.id = rw (← c.self.view_is) at c.requires.live in
    omega (arith, c.self.invariant.own_forwards.count, c.self.invariant.count, c.len.ensures, c.push_reserved.ensures.len, c.self.inside.forwards.ok.0, c.self.invariant.live_count, one_less _ _ c.args.id c.args.forward c.self.invariant.sound.one_forward_each live)

pub returns-clause-dead : goal.returns-clause-dead
returns-clause-dead c =
    killed c.self.inside c.self.invariant c.args.id c.index_mut.result.now c.index_mut.result.now c.args.forward c.len.result c.push_reserved.new.self.items c.index_mut.ensures.value c.push_reserved.ensures.items
    (omega (arith, c.len.ensures, c.push_reserved.ensures.len, c.self.inside.forwards.ok.0))
    ∙ ap (λ T. with_forward T c.args.id c.args.forward) c.self.view_is

pub returns-clause-sound : goal.returns-clause-sound
returns-clause-sound c =
    let is_forward : IsForwardOf (table_of c.self.inside) c.args.id c.args.forward = subst (λ T. IsForwardOf T c.args.id c.args.forward) (sym c.self.view_is) c.requires.forward in
    subst IsSound
    (sym (killed c.self.inside c.self.invariant c.args.id c.index_mut.result.now c.index_mut.result.now c.args.forward c.len.result c.push_reserved.new.self.items c.index_mut.ensures.value c.push_reserved.ensures.items
    (omega (arith, c.len.ensures, c.push_reserved.ensures.len, c.self.inside.forwards.ok.0))))
    (sound_killed (table_of c.self.inside) c.args.id c.args.forward c.self.invariant.sound is_forward)

pub invariant_of-self : goal.invariant_of-self
invariant_of-self c =
    let T : ActionTable = table_of c.self.inside in
    let death : c.len.result ≡ suc (length c.self.inside.forwards.items) = omega (arith, c.len.ensures, c.push_reserved.ensures.len, c.self.inside.forwards.ok.0) in
    let same =
    killed c.self.inside c.self.invariant c.args.id c.index_mut.result.now c.index_mut.result.now c.args.forward c.len.result c.push_reserved.new.self.items c.index_mut.ensures.value c.push_reserved.ensures.items death in
    let is_forward : IsForwardOf T c.args.id c.args.forward = subst (λ T. IsForwardOf T c.args.id c.args.forward) (sym c.self.view_is) c.requires.forward in
    let live : IsLive T c.args.id = subst (λ T. IsLive T c.args.id) (sym c.self.view_is) c.requires.live in
    let id : IsId T c.args.id = rw (sym c.self.invariant.sound.one_forward_each) (slice_get_within _ _ _ live) in
    let own : IsEntryOf T c.args.id c.index_mut.result.now = entry_of c.self.inside c.self.invariant c.args.id c.index_mut.result.now id c.index_mut.ensures.value in
    let less = one_less T.forwards T.words c.args.id c.args.forward c.self.invariant.sound.one_forward_each live in
    record {
      sound = subst IsSound (sym same) (sound_killed T c.args.id c.args.forward c.self.invariant.sound is_forward);
      entries = λ b e found. subst (λ U. IsEntryOf U b e) (sym same)
          (kept_entries T c.self.inside.entries.items c.args.id c.args.forward _ c.self.invariant.entries
          (record { origin = own.origin; own_reach = own.own_reach; own_length = own.own_length }) b e found);
      count = rw (length-set c.self.inside.entries.items c.args.id _) c.self.invariant.count;
      few_places = rw (length-set c.self.inside.entries.items c.args.id _) c.self.invariant.few_places;
      places = c.self.invariant.places;
      rest = c.self.invariant.rest;
      one_bound_each = c.self.invariant.one_bound_each;
      bounds = rw (length-set c.self.inside.entries.items c.args.id _) c.self.invariant.bounds;
      live_count = subst (λ U. c.self.inside.live - 1 ≡ length (live_words U)) (sym same) (live_killed T c.args.id c.self.inside.live c.args.forward c.self.invariant.sound.one_forward_each live c.self.invariant.live_count);
      own_forwards = keeps_killed c.self.inside.entries.items c.self.inside.live c.self.inside.forwards c.push_reserved.new.self c.args.id c.args.forward _ c.self.invariant.own_forwards (omega (arith, less, c.self.invariant.live_count)) c.push_reserved.ensures.items
          c.push_reserved.ensures.capacity death;
      own_reaches = c.self.invariant.own_reaches;
    }
