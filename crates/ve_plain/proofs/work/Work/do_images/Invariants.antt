use Rattle.std.proofs.Common.{ℕ, ◌<◌}
use Rattle.ve_table.specs.Tables.{ActionTable, presented, IsDue}
use Rattle.ve_machine.specs.Forwards.{IsForwarding}
use Rattle.ve_machine.specs.Jobs.{image_value}
use Rattle.ve_plain.specs.Working.{IsAtWork}
use Rattle.ve_plain.specs.Works.{Lasts}
use Rattle.ve_plain.proofs.work.Work.do_images.Given as goal

-- the image jobs of the letters so far are done
abbrev pub invariant-loop-letter : goal.invariant-loop-letter
invariant-loop-letter l = record {
  lasts : Lasts l.initial.self l.self;
  done : (O : ActionTable) → IsAtWork O l.initial.self.table → (x : ℕ) → x < l.letter → IsDue O l.id x
      → IsForwarding (presented O).prime l.self.table.forwards (image_value O l.self.table.forwards l.id x);
}
