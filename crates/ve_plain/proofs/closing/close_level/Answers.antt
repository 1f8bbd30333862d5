use Rattle.std.proofs.Common.{subst, sym}
use Rattle.ve_table.specs.Sound.{IsSound}
use Rattle.ve_machine.specs.Finished.{IsOpening}
use Rattle.ve_plain.proofs.Jobs.{finished_table}
use Rattle.ve_plain.proofs.closing.close_level.Goals as goal

pub finish-requires : goal.finish-requires
finish-requires c =
    finished_table c.openings_are_under_way.ensures c.nothing_left_is_finished.ensures c.new-work.result.table c.do_all.new.self.table
    (subst IsOpening (sym c.new-work.ensures.table) c.requires) (subst IsSound (sym c.new-work.ensures.table) c.is_sound.ensures)
    c.do_all.ensures.continues c.in-Ok.ensures.settled
