-- What contracts see of a real stream.
use Rattle.std.specs.Prelude.{◌≡◌, ℕ, List, ◌++◌, Option, None, Some}
use Rattle.std.specs.Io.KnownBytes.{Appends}
use Rattle.ve_port.specs.Count.{Count, last_u64}
use Rattle.ve_port.specs.Sink.{Output}
use Rattle.ve_port.specs.Source.{Input}

-- the reader or the writer, and the count of its faults
pub record Edge (S : Type 0) : Type 0 where
  pub stream : S
  pub faults : ℕ

abbrev pub edge_count : ℕ → Count
edge_count faults = record { faults = faults; last = Some last_u64 }

-- a reader as a source, which tells no bytes
abbrev pub edge_input : {S : Type 0} → Edge S → Input
edge_input s = record { left = None; count = edge_count s.faults }

-- a writer as a sink, which tells no bytes
abbrev pub edge_output : {S : Type 0} → Edge S → Output
edge_output s = record { written = None; count = edge_count s.faults }

-- a part of the bytes was appended, from their front
pub record AppendsFront (old new : Option (List ℕ)) (bytes : List ℕ) : Type 0 where
  pub part : List ℕ
  pub rest : List ℕ
  pub is_front : bytes ≡ part ++ rest
  pub appends : Appends old new part
