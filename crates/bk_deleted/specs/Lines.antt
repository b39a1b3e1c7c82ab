-- The lines of files of ledgers.
use Rattle.std.specs.Prelude.{◌≡◌, ℕ, ◌+◌, ◌<◌, ◌^◌, ◌⊎◌, List, ◌++◌, codes, All}
use Rattle.std.specs.Fmt.{decimal}
use Rattle.bk_messages.specs.declared.dead.DeadFault.{DeadFault}
use Rattle.bk_messages.specs.declared.dead.DeadFault.TheVariants as dead
use Rattle.bk_deleted.specs.declared.lines.Lines.{Lines}
use Rattle.bk_deleted.specs.declared.lines.Lines.TheVariants.{Plain, Listed}

-- the line as the stock shell lists a ledger: a word, any spaces, and its digits
abbrev pub IsListing : List ℕ → ℕ → Type 0
IsListing line ledger = (spaces : List ℕ) × All (λ byte. byte ≡ 32) spaces × (line ≡ codes "ledgerID:" ++ (spaces ++ decimal ledger))

-- the line names this ledger
abbrev pub Names : Lines → List ℕ → ℕ → Type 0
Names Plain line ledger = line ≡ decimal ledger
Names Listed line ledger = (line ≡ decimal ledger) ⊎ IsListing line ledger

-- The fault is of the line of this index, whose number is one more, unless memory is refused.
abbrev pub IsOfLine : ℕ → DeadFault → Type 0
IsOfLine index (dead.Line path number end) = index + 1 < 2 ^ 64 → number ≡ index + 1
IsOfLine index dead.Memory = Unit {0}
IsOfLine index (dead.Unread path reason) = ⊥
IsOfLine index dead.NoneLive = ⊥
IsOfLine index dead.Logs = ⊥
IsOfLine index (dead.Manifest fault) = ⊥
