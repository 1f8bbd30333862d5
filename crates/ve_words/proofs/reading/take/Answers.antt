use Rattle.ve_words.proofs.Values.{memory_alone}
use Rattle.ve_words.proofs.reading.take.Goals as goal

pub returns-in-Ok : goal.returns-in-Ok
returns-in-Ok c = record { taken = c.in-Ok.ensures.kinds c.requires.free; rows = (c.in-Ok.ensures.matches c.requires.simple).0; refused = tt }

pub returns-in-Err : goal.returns-in-Err
returns-in-Err c = record {
  taken = tt;
  rows = tt;
  refused = λ h none. memory_alone _ c.in-Err.error (c.in-Err.ensures.kinds c.requires.free) (c.fault_of.ensures h) none;
}
