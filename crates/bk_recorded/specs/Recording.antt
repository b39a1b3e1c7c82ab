-- What is recorded before a step.
use Rattle.std.specs.Prelude.{◌≡◌, ℕ, ◌<◌, ◌≤◌, ◌^◌, Bool, true, false, Ok}
use Rattle.bk_manifest.specs.Fact.{Fact, deleted_ledger, fenced_ledger}
use Rattle.bk_manifest.specs.Keeping.{Kept}
use Rattle.bk_manifest.specs.State.{the_deletion, the_fence}
use Rattle.bk_manifest.specs.declared.subject.Subject.{Subject}
use Rattle.bk_ledgers.specs.Recording.{OnceTransition, RecordsNone}
use Rattle.bk_drive.specs.declared.step.Step.{Step}
use Rattle.bk_drive.specs.declared.step.Step.TheVariants as steps

-- A record about a ledger: it is durable if the step is allowed, and no further record is if it is
-- not. Of a number that is no ledger id nothing is recorded.
abbrev pub RecordsOne : Fact → Subject → ℕ → Kept → Bool → Kept → Type 0
RecordsOne one subject ledger m true m' = (ledger < 2 ^ 63 → OnceTransition one subject m (Ok tt) m') × (2 ^ 63 ≤ ledger → m' ≡ m)
RecordsOne one subject ledger m false m' = (ledger < 2 ^ 63) × RecordsNone m m'

-- A deletion and a fence are recorded. Any other step is allowed, and nothing is recorded.
abbrev pub RecordsStep : Kept → Step → Bool → Kept → Type 0
RecordsStep m (steps.Delete ledger) allowed m' = RecordsOne (deleted_ledger ledger) (the_deletion ledger) ledger m allowed m'
RecordsStep m (steps.Fence ledger) allowed m' = RecordsOne (fenced_ledger ledger) (the_fence ledger) ledger m allowed m'
RecordsStep m step allowed m' = (allowed ≡ true) × (m' ≡ m)
