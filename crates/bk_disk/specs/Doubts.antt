-- The logs of a directory on which a call failed.
use Rattle.std.specs.Prelude.{◌≡◌, ℕ, ◌⊎◌, Bool, true, false, if◌then◌else◌, Option, Some, None}
use Rattle.std.proofs.Common.{refl}
use Rattle.std.specs.Coded.{Coded, code_by, coded×, coded_ℕ, coded_bool}
use Rattle.std.specs.Option.{option_or}
use Rattle.std.specs.Ordering.{nat_cmp}
use Rattle.std.specs.FinMap as map
use Rattle.bk_disk.specs.declared.file_fault.Failed.{Failed}
use Rattle.bk_disk.specs.declared.file_fault.Operation.TheVariants.{Sync}
use Rattle.bk_disk.specs.declared.reason.Reason.TheVariants.{Found}
use Rattle.bk_disk.specs.declared.reason.Finding.TheVariants.{Unnoted}
use Rattle.bk_disk.specs.declared.trouble.State.TheVariants.{Lost}
use Rattle.bk_disk.specs.declared.trouble.Trouble.{Trouble}

-- What failed calls left of logs, by log id; and whether every other log counts as lost, since a failed call could not be noted.
pub record Doubts : Type 0 where
  pub logs : map.FinMap nat_cmp Trouble
  pub all : Bool

abbrev pub doubts_code : Coded Trouble → Coded Doubts
doubts_code trouble = code_by (map.FinMap nat_cmp Trouble × Bool) (coded× (map.code coded_ℕ trouble) coded_bool)
    (λ d. (d.logs, d.all)) (λ p. record { logs = p.0; all = p.1 }) (λ _. refl)

-- no call has failed
abbrev pub no_doubts : Doubts
no_doubts = record { logs = map.empty; all = false }

-- the log in this trouble, and the others as before
abbrev pub noted : Doubts → ℕ → Trouble → Doubts
noted doubts log trouble = record { logs = map.insert doubts.logs log trouble; all = doubts.all }

-- as before, and every other log lost
abbrev pub all_lost : Doubts → Doubts
all_lost doubts = record { logs = doubts.logs; all = true }

-- the log is noted, or every log that is not noted counts as lost
abbrev pub Notes : Doubts → ℕ → Trouble → Doubts → Type 0
Notes old log trouble new = (new ≡ noted old log trouble) ⊎ (new ≡ all_lost old)

-- this log is not noted any more
abbrev pub forgotten : Doubts → ℕ → Doubts
forgotten doubts log = record { logs = map.remove doubts.logs log; all = doubts.all }

-- a log that counts as lost since a failed call could not be noted
abbrev pub unnoted : Failed
unnoted = record { operation = Sync; reason = Found Unnoted }

abbrev pub lost : Trouble
lost = record { state = Lost; failed = unnoted; unmarked = Some unnoted }

-- what a failed call left of a log, none if no call failed on it
abbrev pub trouble_of : Doubts → ℕ → Option Trouble
trouble_of doubts log = option_or (map.get doubts.logs log) (if doubts.all then Some lost else None)
