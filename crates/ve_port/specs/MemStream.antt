-- What contracts see of the sources and sinks of this crate.
use Rattle.std.specs.Prelude.{ℕ, List, None, Some}
use Rattle.ve_port.specs.Count.{last_u64}
use Rattle.ve_port.specs.Sink.{Output}
use Rattle.ve_port.specs.Source.{Input}

-- the bytes that are left or written, the numbers of the calls that fail, and how many calls were made and failed
pub record MemStream : Type 0 where
  pub bytes : List ℕ
  pub failing : List ℕ
  pub calls : ℕ
  pub faults : ℕ

-- a source in memory, each of whose faults has a call of its own that the list names, so that the count has no end
abbrev pub mem_input : MemStream → Input
mem_input s = record { left = Some s.bytes; count = record { faults = s.faults; last = None } }

-- a sink in memory
abbrev pub mem_output : MemStream → Output
mem_output s = record { written = Some s.bytes; count = record { faults = s.faults; last = Some last_u64 } }
