-- The logs of which `seal` takes all. Read `ArePicked`.
use Rattle.std.specs.Prelude.{ℕ, Bool, true, false, List, [], ◌∷◌, ◌++◌}
use Rattle.bk_record.specs.Files.{Files}
use Rattle.bk_inspect.specs.declared.header.Head.{Head}
use Rattle.bk_inspect.specs.Heads.{IsHead}
use Rattle.bk_inspect.specs.Reading.{OfFile}
use Rattle.bk_inspect.specs.Sealing.{IsOpenHead}

-- whether a header is of version 1 and names no ledgers map
abbrev pub IsOpenAs : Head → Bool → Type 0
IsOpenAs head true = IsOpenHead head
IsOpenAs head false = ¬ (IsOpenHead head)

-- the same of a log's header
abbrev pub HasOpenHead : Files → ℕ → Bool → Type 0
HasOpenHead files log is = OfFile files log (λ file. (head : Head) × IsHead file head × IsOpenAs head is)

-- those of some logs of which something is true, in order
pub data ArePicked (Holds : ℕ → Bool → Type 0) : List ℕ → List ℕ → Type 0 where
  none : ArePicked Holds [] []
  taken : {logs picked : List ℕ} {log : ℕ} → ArePicked Holds logs picked → Holds log true → ArePicked Holds (logs ++ log ∷ []) (picked ++ log ∷ [])
  left : {logs picked : List ℕ} {log : ℕ} → ArePicked Holds logs picked → Holds log false → ArePicked Holds (logs ++ log ∷ []) picked
