-- `none_seen` makes a value of no memory, whose ghost field is the empty list.
use Rattle.std.proofs.Common.{[], ◌∷◌, refl}
use Rattle.std.proofs.raw_atomic.Walks.{proved}
use mir.Val.{Val, vstruct, vcons, vnil, vunit}
use base.Fml.{Fml}
use denote.RattleType.{owns}
use types.Kit.{‵, raw, ◌⊛◌, ◌$◌, ◌∵◌, !, qed, move, keep, join, split, use0, suffices, done}
use types.Run.{unit_lit, no_more, and_then, returns, enter}
use types.Part.{agg}
use types.ByLocal.{alloc_all, pass_all, free_all, look_at, sets}
use denote.Signature.{types_at, type_at}
use denote.Shadow.{makes_shadow}
use denote.Steps.{nothing}
use denote.Triple.Entry.{alive, Res}
use denote.Triple.Walked.{walk_of, says, ends_at}
use Rattle.ve_port.specs.contracts.seen.none_seen as f
use Rattle.ve_port.proofs.seen.none_seen.Statement.{statement}
use Rattle.ve_port.proofs.seen.none_seen.Code as code

pub none_seen_spec : {M : Type 1} → statement M
none_seen_spec 𝓤 𝓛 𝓜 𝓡 wired =
    let c = f.clauses 𝓛 𝓜.mem 𝓡.returns in
    proved 𝓛 f.ended tt c 𝓜 𝓡 tt f.Key.name code.function (code.unfolded 𝓤 𝓛.H 𝓜 𝓡 wired) (λ κs. tt) (λ κs. tt) (λ κs qs bounds a g are.
    let v : Val = vstruct (vcons vunit vnil) in
    let r : Res f.signature κs = record { marker = tt; bytes = [] } in
    let y : (walk_of 𝓛 f.ended tt c).Ghost = ((κs, qs, bounds, a, tt), g) in
    let O : Fml = (type_at f.signature.result κs).own_val r (v ∷ []) in
    qed 𝓛 ((raw (alive 𝓛 f.signature κs qs) ⊛ ‵ (owns (types_at f.signature.params κs) a tt)) ∷ raw ((c κs a).requires g) ∷ []) ∵
    split ! $ keep ! (0 ∷ []) $
    enter ! _ _ _ _ _ $ alloc_all ! (λ l. pass_all ! refl tt $
    sets ! (agg ! (and_then ! (unit_lit !) (no_more !))) refl (tt, (tt, tt)) $
    returns ! (look_at ! 0 refl) $ free_all ! refl $
    use0 𝓛 (‵ O) (makes_shadow 𝓛 O (λ vss. (tt, (tt, tt)), tt) (((vunit ∷ [], tt), (refl, (refl, tt))), tt)) $
    suffices ! _ (ends_at 𝓛 f.ended tt c y v r tt tt) $ says ! refl $
    nothing ! $ join ! $ move ! (1 ∷ 0 ∷ []) $ join ! $ done !))
