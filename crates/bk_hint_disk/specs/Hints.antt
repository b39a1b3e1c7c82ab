-- The contract of a store of hints: effect of each call, and what an error leaves.
use Rattle.std.specs.Prelude.{◌≡◌, ◌⊎◌, ℕ, List, Option, Result, Ok, Err, option_map, Vec}
use Rattle.std.specs.Global.{Global}
use Rattle.std.specs.FinMap as map
use Rattle.bk_record.specs.Files.{Files}
use Rattle.bk_hint_disk.specs.declared.fault.HintStoreFault.{HintStoreFault}

-- the bytes of a hint that was read
abbrev pub bytes_in : Vec ℕ Global → List ℕ
bytes_in hint = hint.items

-- `get`: the hint of the log, if it has one
abbrev pub Gets : {T : Type 0} → (T → List ℕ) → Files → ℕ → Result (Option T) HintStoreFault → Files → Type 0
Gets bytes old log (Ok found) new = (option_map bytes found ≡ map.get old log) × (new ≡ old)
Gets bytes old log (Err fault) new = new ≡ old

-- `put`: the bytes are the hint of the log. An error leaves the old hint, these bytes or none.
abbrev pub Puts : {T : Type 0} → Files → ℕ → List ℕ → Result T HintStoreFault → Files → Type 0
Puts old log hint (Ok _) new = new ≡ map.insert old log hint
Puts old log hint (Err fault) new = (new ≡ old) ⊎ ((new ≡ map.insert old log hint) ⊎ (new ≡ map.remove old log))

-- `drop_hint`: the log has no hint. An error leaves its hint or none.
abbrev pub Drops : {T : Type 0} → Files → ℕ → Result T HintStoreFault → Files → Type 0
Drops old log (Ok _) new = new ≡ map.remove old log
Drops old log (Err fault) new = (new ≡ old) ⊎ (new ≡ map.remove old log)
