use Rattle.std.proofs.Common.{◌∙◌}
use Rattle.ve_port.specs.Sink.{Gains-append}
use Rattle.ve_port.specs.Writing.{Writes-stopped, Writes-after, Stops-longer, Stops-after}
use Rattle.ve_show.proofs.Numbered.{Gains-number, Stops-number}
use Rattle.ve_show.specs.Parts.{declarations_text}
use Rattle.ve_show.proofs.text.show_declarations.Goals as goal

pub returns-in_err-show_numbered : goal.returns-in_err-show_numbered
unfolding declarations_text
returns-in_err-show_numbered g c =
    Writes-stopped c.from_residual.ensures.1
    (Stops-longer (Stops-longer (Stops-longer (Stops-longer (Stops-number _ (c.from.ensures ∙ c.version.ensures) c.in_err-show_numbered.ensures.stopped) _) _) _) _)

pub returns-in_err-show_numbered-2 : goal.returns-in_err-show_numbered-2
unfolding declarations_text
returns-in_err-show_numbered-2 g c =
    let version = Gains-number _ (c.from.ensures ∙ c.version.ensures) c.in_ok-show_numbered.ensures.gained in
    let stop = Stops-number _ (c.from-2.ensures ∙ c.prime.ensures.prime ∙ c.field.ensures.field) c.in_err-show_numbered-2.ensures.stopped in
    Writes-stopped c.from_residual-in_err-show_numbered-2.ensures.1 (Stops-longer (Stops-longer (Stops-longer (Stops-after version stop) _) _) _)

pub returns-in_err-show_letters : goal.returns-in_err-show_letters
unfolding declarations_text
returns-in_err-show_letters g c =
    let version = Gains-number _ (c.from.ensures ∙ c.version.ensures) c.in_ok-show_numbered.ensures.gained in
    let prime = Gains-number _ (c.from-2.ensures ∙ c.prime.ensures.prime ∙ c.field.ensures.field) c.in_ok-show_numbered-2.ensures.gained in
    Writes-stopped c.from_residual-in_err-show_letters.ensures.1 (Stops-longer (Stops-longer (Stops-after (Gains-append version prime) c.in_err-show_letters.ensures.stopped) _) _)

pub returns-in_err-show_numbered-3 : goal.returns-in_err-show_numbered-3
unfolding declarations_text
returns-in_err-show_numbered-3 g c =
    let version = Gains-number _ (c.from.ensures ∙ c.version.ensures) c.in_ok-show_numbered.ensures.gained in
    let prime = Gains-number _ (c.from-2.ensures ∙ c.prime.ensures.prime ∙ c.field.ensures.field) c.in_ok-show_numbered-2.ensures.gained in
    let stop = Stops-number _ c.roots.ensures c.in_err-show_numbered-3.ensures.stopped in
    Writes-stopped c.from_residual-in_err-show_numbered-3.ensures.1 (Stops-longer (Stops-after (Gains-append (Gains-append version prime) c.in_ok-show_letters.ensures.gained) stop) _)

pub returns : goal.returns
unfolding declarations_text
returns g c =
    let version = Gains-number _ (c.from.ensures ∙ c.version.ensures) c.in_ok-show_numbered.ensures.gained in
    let prime = Gains-number _ (c.from-2.ensures ∙ c.prime.ensures.prime ∙ c.field.ensures.field) c.in_ok-show_numbered-2.ensures.gained in
    let generators = Gains-number _ c.roots.ensures c.in_ok-show_numbered-3.ensures.gained in
    Writes-after (Gains-append (Gains-append (Gains-append version prime) c.in_ok-show_letters.ensures.gained) generators) c.show_balance.ensures
