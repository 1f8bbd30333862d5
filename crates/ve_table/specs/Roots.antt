-- The entries of level 0.
use Rattle.std.specs.Prelude.{◌≡◌, ℕ, List, map, All}
use Rattle.std.specs.List.{range_with_len}
use Rattle.ve_table.specs.declared.origin.Origin.TheVariants.{Root}
use Rattle.ve_table.specs.declared.entry.Entry.{Entry}

-- a live id without letters
pub record IsRootEntry (e : Entry) : Type 0 where
  pub own_reach : e.reach ≡ 0
  pub own_length : e.length ≡ 0
  pub live : e.death ≡ 0

-- one for each of the generators, in order
pub record AreRoots (count : ℕ) (entries : List Entry) : Type 0 where
  pub origins : map (λ (e : Entry). e.origin) entries ≡ map Root (range_with_len 0 count)
  pub each : All IsRootEntry entries
