-- Ranges of the numbers of a plan (this project's rule).
use Rattle.std.specs.Prelude.{◌≡◌, ℕ, ◌<◌, ◌≤◌, ◌*◌, ◌^◌, max}
use Rattle.bk_simulation.specs.declared.load.Load.{Load}
use Rattle.bk_simulation.specs.declared.load.Scale.{Scale}
use Rattle.bk_simulation.specs.declared.load.Upkeep.{Upkeep}
use Rattle.bk_simulation.specs.declared.plan.Plan.{Plan}
use Rattle.bk_store.specs.Limits.{IsAllowed}
use Rattle.bk_simulation.specs.Numbers.{in_64_bits}

-- a record can have this many bytes
abbrev pub IsRecordSize : ℕ → Type 0
IsRecordSize size = (20 ≤ size) × (size ≤ 5000004)

-- each number of the load is in its range
pub record IsLoad (load : Load) : Type 0 where
  pub entry : IsRecordSize load.entry
  pub seconds : (0 < load.seconds) × (load.seconds < 2 ^ 40)
  pub rate : (0 < load.rate) × (load.rate < 2 ^ 50)
  pub ledger : (0 < load.ledger) × (load.ledger < 2 ^ 50)
  pub writers : (0 < load.writers) × (load.writers ≤ 100000)

-- each number of the scale is in its range
pub record IsScale (scale : Scale) : Type 0 where
  pub record_bytes : IsRecordSize scale.«record»
  pub batch : (0 < scale.batch) × (scale.batch ≤ 2 ^ 20)

-- the plan of this load, upkeep and scale, whose numbers are in their ranges
pub record IsRunPlan (load : Load) (upkeep : Upkeep) (scale : Scale) (plan : Plan) : Type 0 where
  pub loads : IsLoad load
  pub scales : IsScale scale
  pub allowed : IsAllowed upkeep.settings
  pub same_load : plan.load ≡ load
  pub same_upkeep : plan.upkeep ≡ upkeep
  pub same_scale : plan.scale ≡ scale
  pub unit : plan.unit ≡ max (in_64_bits (load.entry * scale.batch)) 1
  pub records : plan.records ≤ 1000000000
  pub interval : 1 ≤ plan.interval
  pub settings : IsAllowed plan.settings
