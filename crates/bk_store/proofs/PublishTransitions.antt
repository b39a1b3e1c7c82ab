-- What the calls on the disk and the held logs give a log that is published.
use Rattle.std.proofs.Common.{◌≡◌, ℕ, ◌+◌, Bool, IsTrue, Some, Ok, sym, subst, arith}
use Rattle.std.proofs.Math.Decide.{dec_le}
use Rattle.std.specs.FinMap as finite
use Rattle.bk_record.specs.Files.{Files}
use Rattle.bk_disk.specs.Disk.{FailsExactlyIf, IsFile}
use Rattle.bk_store.specs.Logs.{View, Log, Logs, with_view}
use Rattle.bk_store.specs.State.{StoreParts}
use Rattle.bk_store.specs.Primitives.{IsOpenLog, PublishLogTransition}

-- a call that does not tell a failing device leaves the count of failures, and one that does raises
-- it by one
pub not_failed : {before now : ℕ} {Told : Type 0} → FailsExactlyIf before now Told → ¬ Told → now ≡ before
not_failed {before = before} {now = now} cause untold = elim (dec_le now before) [
  | yes below ↦ let later = cause.later in omega (arith, below, later)
  | no above ↦ absurd (untold (cause.told (omega arith)))
]

pub failed_once : {before now : ℕ} {Told : Type 0} → FailsExactlyIf before now Told → Told → now ≡ before + 1
failed_once cause told = let more = cause.failed told in let once = cause.once in omega (arith, more, once)

pub show_ok : (inside now : StoreParts) → inside ≡ now → (id : ℕ) → IsOpenLog now.state id
    → (files : Files) (honest : Bool) (failures : ℕ) (logs : Logs) (view : View)
    → honest ≡ inside.state.honest → failures ≡ inside.state.failures
    → ((log : Log) → finite.get inside.state.logs id ≡ Some log → logs ≡ finite.insert inside.state.logs id (with_view view log))
    → (IsTrue inside.state.honest → IsFile inside.state.files id view.bytes × IsTrue view.is_honest × (files ≡ inside.state.files))
    → PublishLogTransition now.state id (Ok tt) (record inside.state { files = files; honest = honest; failures = failures; logs = logs })
show_ok inside now is id open_log files honest failures logs view same_honest same_failures shown views =
    let o : IsOpenLog inside.state id = subst (λ (n : StoreParts). IsOpenLog n.state id) (sym is) open_log in
    let here = shown o.log o.held in
    subst (λ (n : StoreParts). PublishLogTransition n.state id (Ok tt) (record inside.state { files = files; honest = honest; failures = failures; logs = logs })) is (
      o.log,
      o.held,
      (
        view,
        (λ h. ((views h).1, (views h).0)),
        (λ h. (views h).2),
        (λ i. record inside.state { files = files; honest = same_honest i; failures = same_failures i; logs = here i }),
      ),
    )
