-- Units of the curves of bytes.
use Rattle.std.specs.Prelude.{ℕ, ◌^◌}
use Rattle.bk_simulation_page.specs.declared.page.Unit.{Unit}
use Rattle.bk_simulation_page.specs.declared.page.Unit.TheVariants.{Kib, Mib, Gib}

-- the bytes of a unit
abbrev pub unit_bytes : Unit → ℕ
unit_bytes Kib = 2 ^ 10
unit_bytes Mib = 2 ^ 20
unit_bytes Gib = 2 ^ 30
