-- A disk that fails in the call it was set to fail in, and the views of such a disk, one of which
-- may be unreadable. Used by tests that inject faults. Read `Failing` first.
use Rattle.std.specs.Prelude.{◌≡◌, ℕ, ◌+◌, ◌-◌, ◌==◌, ◌&&◌, ◌||◌, not, if◌then◌else◌, Bool, List, take, Result, Ok, Err, IsTrue, IsErrOf}
use Rattle.std.proofs.Common.{refl}
use Rattle.std.specs.Coded.{Coded, code_by, coded×, coded_ℕ, coded_bool, coded_list}
use Rattle.std.specs.FinMap as map
use Rattle.bk_record.specs.Files.{Files}
use Rattle.bk_disk.specs.Disk.{Appends}
use Rattle.bk_disk.specs.declared.fault.DiskFault.{DiskFault}
use Rattle.bk_disk.specs.declared.fault.DiskFault.TheVariants.{Disk}

-- Countdown to one event: its number, counted from the next event, or 0 if none is set or it has
-- occurred; and whether it has occurred.
pub record Count : Type 0 where
  pub left : ℕ
  pub reached : Bool

abbrev pub count_code : Coded Count
count_code = code_by (ℕ × Bool) (coded× coded_ℕ coded_bool) (λ c. (c.left, c.reached)) (λ p. record { left = p.0; reached = p.1 }) (λ _. refl)

-- the count after one more event
abbrev pub count_after_event : Count → Count
count_after_event count = record { left = count.left - 1; reached = count.reached || (count.left == 1) }

-- A failing disk. It has the files, the honesty and the failure count of the inner disk. `calls`
-- counts down to the call that fails, and `shared` is whether the inner disk failed in it too.
-- `views` counts down to the unreadable view. `kept` is the number of bytes that a failing append
-- writes.
pub record Failing : Type 0 where
  pub files : Files
  pub synced : Files
  pub gone : Files
  pub honest : Bool
  pub failures : ℕ
  pub calls : Count
  pub shared : Bool
  pub views : Count
  pub kept : ℕ

abbrev pub failing_code : Coded Failing
failing_code =
    code_by (Files × (Files × (Files × (Bool × (ℕ × (Count × (Bool × (Count × ℕ))))))))
    (coded× (map.code coded_ℕ (coded_list coded_ℕ)) (coded× (map.code coded_ℕ (coded_list coded_ℕ)) (coded× (map.code coded_ℕ (coded_list coded_ℕ)) (coded× coded_bool (coded× coded_ℕ (coded× count_code (coded× coded_bool (coded× count_code coded_ℕ))))))))
    (λ d. (d.files, (d.synced, (d.gone, (d.honest, (d.failures, (d.calls, (d.shared, (d.views, d.kept)))))))))
    (λ p. record {
      files = p.0;
      synced = p.1.0;
      gone = p.1.1.0;
      honest = p.1.1.1.0;
      failures = p.1.1.1.1.0;
      calls = p.1.1.1.1.1.0;
      shared = p.1.1.1.1.1.1.0;
      views = p.1.1.1.1.1.1.1.0;
      kept = p.1.1.1.1.1.1.1.1;
    }) (λ _. refl)

-- failure count: that of the inner disk, plus one if its own failure has occurred and the inner
-- disk did not fail in that call
abbrev pub failure_count : Failing → ℕ
failure_count disk = disk.failures + (if disk.calls.reached && not disk.shared then 1 else 0)

-- the call is counted, and returns `Disk` if it is the one that fails
pub record Counts {T : Type 0} (old new : Failing) (result : Result T DiskFault) : Type 0 where
  pub calls : new.calls ≡ count_after_event old.calls
  pub told : old.calls.left ≡ 1 → IsErrOf result Disk
  pub kept : new.kept ≡ old.kept

-- a call that fails leaves the files and the failure count of the inner disk unchanged
abbrev pub FailsUntouched : Failing → Failing → Type 0
FailsUntouched old new = old.calls.left ≡ 1 → (new.files ≡ old.files) × (new.failures ≡ old.failures)

-- an append that fails appends a prefix of its piece to the inner disk, with any result of that
-- append
abbrev pub FailsKeeping : Failing → ℕ → List ℕ → Failing → Type 0
FailsKeeping old log piece new = old.calls.left ≡ 1 → IsTrue old.honest
    → (kept : Result (Unit {0}) DiskFault) × Appends old.files log (take old.kept piece) kept new.files

-- specification value of a view of such a disk: the inner view, and whether it is unreadable
pub record FailingView : Type 0 where
  pub bytes : List ℕ
  pub honest : Bool
  pub sound : Bool
  pub broken : Bool

abbrev pub failing_view_code : Coded FailingView
failing_view_code =
    code_by (List ℕ × (Bool × (Bool × Bool))) (coded× (coded_list coded_ℕ) (coded× coded_bool (coded× coded_bool coded_bool)))
    (λ v. (v.bytes, (v.honest, (v.sound, v.broken)))) (λ p. record { bytes = p.0; honest = p.1.0; sound = p.1.1.0; broken = p.1.1.1 }) (λ _. refl)

-- a new view is counted, and is unreadable if its number is the one set
abbrev pub CountsView : Failing → Result FailingView DiskFault → Failing → Type 0
CountsView old (Ok view) new = (view.broken ≡ (old.views.left == 1)) × (new.views ≡ count_after_event old.views)
CountsView old (Err _) new = new.views ≡ old.views
