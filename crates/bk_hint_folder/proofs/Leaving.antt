-- A hint that is put after its log was synced.
use Rattle.std.proofs.Common.{◌≡◌, ◌∙◌, ◌⊎◌, inl, inr, ℕ, List, [], Option, Some, None, unwrap_or, Result, Ok, Err, IsNone, refl, sym, ap, subst}
use Rattle.std.specs.FinMap as map
use Rattle.std.proofs.lemmas.Option.{same_Some}
use Rattle.bk_record.specs.Files.{Files, file_of}
use Rattle.bk_disk.specs.Durable.{IsAllDurable, IsDurable}
use Rattle.bk_hint_disk.specs.Truth.{AreTrue, IsTrueHint}
use Rattle.bk_hint_disk.specs.declared.fault.HintStoreFault.TheVariants.{Disk}
use Rattle.bk_hint_disk.specs.declared.fault.MakeFault.{MakeFault}
use Rattle.bk_hint_disk.specs.Hints.{Puts}
use Rattle.bk_hint_disk.proofs.Using.{puts_true}
use Rattle.bk_hint_folder.specs.Sealed.{IsOpenLog, IsSealedLog}
use Rattle.bk_hint_folder.specs.Hinting.{IsPutOrNot, IsSafeHint, LeavesHints, OfFile}
use Rattle.bk_hint_folder.specs.Putting.{PutsHint}
use Rattle.bk_hint_folder.specs.declared.making.Outcome.{Outcome}
use Rattle.bk_hint_folder.specs.declared.making.Outcome.TheVariants.{Made, Kept, Unsealed, Unfit, NoLog}

-- a log that was synced is durable
pub synced_durable : (files kept : Files) (log : ℕ) → IsDurable kept log (file_of files log) → IsAllDurable files log kept
synced_durable files kept log durable file is = subst (IsDurable kept log) (ap (λ (o : Option (List ℕ)). unwrap_or o []) is) durable

-- the same put, of the same log
pub puts_here : (files files' kept old old' : Files) (log : ℕ) (hint hint' : List ℕ) (result : Result Outcome MakeFault) (new : Files) → files' ≡ files → old' ≡ old
    → hint' ≡ hint → PutsHint files' kept old' log hint' result new → PutsHint files kept old log hint result new
puts_here files files' kept old old' log hint hint' result new same held is puts =
    subst (λ (h : List ℕ). PutsHint files kept old log h result new) is (subst (λ (o : Files). PutsHint files kept o log hint' result new) held
    (subst (λ (f : Files). PutsHint f kept old' log hint' result new) same puts))

-- what a put of a safe hint leaves
pub put_leaves : (files kept old : Files) (log : ℕ) (file hint : List ℕ) (result : Result Outcome MakeFault) (new : Files) → map.get files log ≡ Some file
    → IsSealedLog file → IsTrueHint file hint → PutsHint files kept old log hint result new → LeavesHints files kept old log result new
put_leaves files kept old log file hint (Ok (Made bytes)) new is sealed fact puts = ((file, is, sealed), (hint, ((file, is, fact), puts.0), puts.1, puts.2))
put_leaves files kept old log file hint (Ok Kept) new is sealed fact puts = absurd puts
put_leaves files kept old log file hint (Ok Unsealed) new is sealed fact puts = absurd puts
put_leaves files kept old log file hint (Ok Unfit) new is sealed fact puts = absurd puts
put_leaves files kept old log file hint (Ok NoLog) new is sealed fact puts = absurd puts
put_leaves files kept old log file hint (Err fault) new is sealed fact puts = elim puts [
  | inl same ↦ inl same
  | inr some ↦ inr (hint, ((file, is, fact), some.0), some.1)
]

or_not_true : (files old : Files) (log : ℕ) (file hint : List ℕ) (new : Files) → map.get files log ≡ Some file → IsTrueHint file hint → IsPutOrNot old log hint new
    → AreTrue old files → AreTrue new files
or_not_true files old log file hint new is fact put holds = puts_true {T = Unit {0}} old new files log hint file (Err Disk) put holds is fact

-- hints that were true stay so
pub leaves_true : (files kept old : Files) (log : ℕ) (result : Result Outcome MakeFault) (new : Files) → LeavesHints files kept old log result new
    → AreTrue old files → AreTrue new files
leaves_true files kept old log (Ok (Made bytes)) new left holds =
    let some = left.1 in
    or_not_true files old log some.1.0.0 some.0 new some.1.0.1 some.1.0.2 (inr (inl some.3)) holds
leaves_true files kept old log (Ok Kept) new left holds = subst (λ (h : Files). AreTrue h files) (sym left.1) holds
leaves_true files kept old log (Ok Unsealed) new left holds = subst (λ (h : Files). AreTrue h files) (sym left.1) holds
leaves_true files kept old log (Ok Unfit) new left holds = subst (λ (h : Files). AreTrue h files) (sym left.1) holds
leaves_true files kept old log (Ok NoLog) new left holds = subst (λ (h : Files). AreTrue h files) (sym left.1) holds
leaves_true files kept old log (Err fault) new left holds = elim left [
  | inl same ↦ subst (λ (h : Files). AreTrue h files) (sym same) holds
  | inr some ↦ or_not_true files old log some.1.0.0 some.0 new some.1.0.1 some.1.0.2 some.2 holds
]
