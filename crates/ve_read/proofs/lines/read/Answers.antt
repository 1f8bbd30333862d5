use Rattle.std.proofs.Common.{arith, refl}
use Rattle.ve_read.specs.Drafts.{draft_of}
use Rattle.ve_read.proofs.TextSteps.{read_nothing, read_line, refused_line, spelled, refused_at_end, shorter_behind}
use Rattle.ve_read.proofs.lines.read.Goals as goal

pub loop-front-init : goal.loop-front-init
loop-front-init c = record { kept = tt; read = read_nothing c.args.text.now; room = omega arith }

pub returns-in-Err : goal.returns-in-Err
returns-in-Err c =
    refused_line _ _ (draft_of c.loop-front.draft) _ c.loop-front.invariant.read c.in-Some.front.now c.in-Some.behind.now c.in-Err.why c.in-Some.ensures.lines c.in-Err.ensures

pub loop-front-preserved : goal.loop-front-preserved
loop-front-preserved c =
    let next = c.in-Ok.ensures in
    let shorter = shorter_behind c.loop-front.rest.now c.in-Some.front.now c.in-Some.behind.now c.in-Some.ensures.lines c.in-Some.ensures.places in
    record {
      kept = next.kept;
      read = read_line _ _ (draft_of c.loop-front.draft) _ c.loop-front.invariant.read c.in-Some.front.now c.in-Some.behind.now (draft_of c.in-Ok.next) c.in-Some.ensures.lines next.accepts;
      room = omega (arith, c.loop-front.invariant.room);
    }

pub returns-in-Some-finish : goal.returns-in-Some-finish
returns-in-Some-finish c =
    let finished = c.in-Some-finish.ensures in
    let none = c.in_default.ensures.none.0 refl in
    rw (← finished.1) (spelled _ _ (draft_of c.loop-front.draft) _ c.loop-front.invariant.read none finished.0)

pub returns-in-None : goal.returns-in-None
returns-in-None c =
    let none = c.in_default.ensures.none.0 refl in
    refused_at_end _ _ (draft_of c.loop-front.draft) _ c.loop-front.invariant.read none c.in-None.ensures
