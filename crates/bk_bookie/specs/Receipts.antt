-- Receipts against the trail, and why `finish` is refused. Read `IsNewReceipt` and `FinishFails`
-- first.
use Rattle.std.specs.Prelude.{◌≡◌, ℕ, ◌+◌, ◌<◌, ◌≤◌, List, length, Some, slice_get, Result, Ok, Err}
use Rattle.bk_record.specs.Record.{read_added}
use Rattle.sha2.specs.Sha256.{sha256}
use Rattle.bk_store.specs.Trail.{HasAddMark}
use Rattle.bk_store.specs.declared.answer.Added.{Added}
use Rattle.bk_store.specs.declared.answer.Added.TheVariants.{Accepted, Held}
use Rattle.bk_store.specs.declared.mark.Mark.{Mark}
use Rattle.bk_store.specs.declared.mark.Mark.TheVariants.{Add}
use Rattle.bk_store.specs.declared.mark.Receipt.{Receipt}
use Rattle.bk_bookie.specs.Passes.{PassView}
use Rattle.bk_bookie.specs.declared.fault.FinishFault.{FinishFault}
use Rattle.bk_bookie.specs.declared.fault.FinishFault.TheVariants.{PassesOut, Missing, Differs}
use Rattle.bk_bookie.specs.declared.receipts.Found.{Found}
use Rattle.bk_bookie.specs.declared.receipts.Found.TheVariants as founds

-- ---- new receipts

-- A receipt of this payload. Its number is not below the length that the pass had observed before
-- the call, and below the length that it has observed since. So the numbers of a pass rise.
pub record IsNewReceipt (p q : PassView) (payload : List ℕ) (receipt : Receipt) : Type 0 where
  pub reads : read_added payload ≡ Ok receipt.key
  pub digest : receipt.digest ≡ sha256 payload
  pub above : p.seen ≤ receipt.number
  pub below : receipt.number < q.seen

-- The receipt of an add's answer: a new receipt if the entry was accepted.
abbrev pub GivesReceipt : {F : Type 0} → PassView → PassView → List ℕ → Result Added F → Type 0
GivesReceipt p q payload (Ok (Accepted receipt)) = IsNewReceipt p q payload receipt
GivesReceipt p q payload (Ok Held) = Unit {0}
GivesReceipt p q payload (Err fault) = Unit {0}

-- ---- look-up of a receipt

-- The mark of a receipt.
abbrev pub mark_of : Receipt → Mark
mark_of receipt = Add receipt.key receipt.digest

-- The trail has the mark of the receipt at its number.
abbrev pub Stands : List Mark → Receipt → Type 0
Stands trail receipt = HasAddMark trail receipt.number receipt.key receipt.digest

-- The trail ends before the number of the receipt.
abbrev pub IsMissing : List Mark → Receipt → Type 0
IsMissing trail receipt = length trail ≤ receipt.number

-- The trail has this mark at the number of the receipt, and it is not the receipt's.
abbrev pub IsOther : List Mark → Receipt → Mark → Type 0
IsOther trail receipt mark = (slice_get trail receipt.number ≡ Some mark) × ¬ (mark ≡ mark_of receipt)

-- Result of the look-up of a receipt in a trail.
abbrev pub LooksUp : List Mark → Receipt → Found → Type 0
LooksUp trail receipt founds.Stands = Stands trail receipt
LooksUp trail receipt founds.Missing = IsMissing trail receipt
LooksUp trail receipt (founds.Differs mark) = IsOther trail receipt mark

-- ---- all receipts

-- The trail has the mark of every receipt.
abbrev pub AllStand : List Mark → List Receipt → Type 0
AllStand trail receipts = (k : ℕ) (receipt : Receipt) → slice_get receipts k ≡ Some receipt → Stands trail receipt

-- The trail has the marks of the receipts below this index.
abbrev pub StandBelow : List Mark → List Receipt → ℕ → Type 0
StandBelow trail receipts end = (k : ℕ) (receipt : Receipt) → k < end → slice_get receipts k ≡ Some receipt → Stands trail receipt

-- The receipt is in the list, and the trail has the marks of all receipts before it.
pub record IsFirstRefused (trail : List Mark) (receipts : List Receipt) (receipt : Receipt) : Type 0 where
  pub index : ℕ
  pub here : slice_get receipts index ≡ Some receipt
  pub before : StandBelow trail receipts index

-- The fault of the first receipt whose mark is not in the trail.
abbrev pub FirstRefused : List Mark → List Receipt → FinishFault → Type 0
FirstRefused trail receipts (PassesOut n) = ⊥
FirstRefused trail receipts (Missing number) = (receipt : Receipt) × IsFirstRefused trail receipts receipt × (receipt.number ≡ number) × IsMissing trail receipt
FirstRefused trail receipts (Differs number) = (receipt : Receipt) × IsFirstRefused trail receipts receipt × (receipt.number ≡ number)
    × ((mark : Mark) × IsOther trail receipt mark)

-- Why `finish` is refused: passes that were not handed in first, then the receipts in their order.
abbrev pub FinishFails : ℕ → List Mark → ℕ → List Receipt → FinishFault → Type 0
FinishFails made trail handed receipts (PassesOut n) = (0 < n) × (handed + n ≡ made)
FinishFails made trail handed receipts (Missing number) = (made ≤ handed) × FirstRefused trail receipts (Missing number)
FinishFails made trail handed receipts (Differs number) = (made ≤ handed) × FirstRefused trail receipts (Differs number)
