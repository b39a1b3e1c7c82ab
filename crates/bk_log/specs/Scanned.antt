-- The fields of a scanner: the scan that they represent, and the type invariant (`KeepsScan`).
use Rattle.std.specs.Prelude.{◌≡◌, ℕ, ◌-◌, ◌≤◌, Bool, false, IsTrue, List, take, drop, Option, Some, None}
use Rattle.bk_record.specs.Files.{header_length}
use Rattle.bk_disk.specs.Disk.{view_end}
use Rattle.bk_log.specs.declared.fault.ScanFault.{ScanFault}
use Rattle.bk_log.specs.declared.fault.ScanFault.TheVariants.{Disk}
use Rattle.bk_log.specs.Ahead.{Ahead}
use Rattle.bk_log.specs.Scanning.{Scan, IsInPart, HasComeTo}

-- scan of a window's log
abbrev pub window_scan : Ahead → ℕ → ℕ → ℕ → ℕ → ℕ → Bool → Option ScanFault → Scan
window_scan window from end given foreign torn ended fault = record {
  from = from;
  end = end;
  file = window.bytes;
  honest = window.honest;
  sound = window.sound;
  left = end - window.at;
  given = given;
  foreign = foreign;
  torn = torn;
  ended = ended;
  fault = fault;
}

-- scan at its start
abbrev pub new_scan : List ℕ → Bool → Bool → ℕ → ℕ → Scan
new_scan bytes honest sound from end =
    window_scan (record { at = from; bytes = bytes; honest = honest; sound = sound; ready = 0; room = 0 }) from end 0 0 0 false None

-- Invariant of the scanner's fields. The position is in the part. `Disk` was reported only if the
-- view is not sound. A scan that is going on has passed no record if it has no buffer. On an honest
-- view the part is in it, and the scan is that of its bytes.
pub record KeepsScan (window : Ahead) (from end given foreign torn : ℕ) (ended : Bool) (fault : Option ScanFault) : Type 0 where
  pub placed : IsInPart from end window.at given foreign
  pub told : fault ≡ Some Disk → window.sound ≡ false
  pub fresh : ended ≡ false → fault ≡ None → window.room ≡ 0 → (window.at ≡ from) × ((given ≡ 0) × (foreign ≡ 0))
  pub headed : header_length ≤ from
  pub in_view : IsTrue window.honest → end ≤ view_end window.bytes
  pub scanned : IsTrue window.honest
      → HasComeTo (window_scan window from end given foreign torn ended fault) window.at (take (end - window.at) (drop window.at window.bytes))
