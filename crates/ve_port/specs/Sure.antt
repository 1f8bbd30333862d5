-- What contracts see of a source and a sink that never fail.
use Rattle.std.specs.Prelude.{ℕ, List, None, Some}
use Rattle.ve_port.specs.Count.{Count}
use Rattle.ve_port.specs.Sink.{Output}
use Rattle.ve_port.specs.Source.{Input}

-- the count of what never fails
abbrev pub no_faults : Count
no_faults = record { faults = 0; last = None }

-- a source that has these bytes left
abbrev pub sure_input : List ℕ → Input
sure_input bytes = record { left = Some bytes; count = no_faults }

-- a sink that was given these bytes
abbrev pub sure_output : List ℕ → Output
sure_output bytes = record { written = Some bytes; count = no_faults }
