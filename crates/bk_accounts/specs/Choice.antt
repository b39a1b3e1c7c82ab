-- The choice of a log to compact: the contract of `lowest_below`. Read `IsChoice` first.
use Rattle.std.specs.Prelude.{◌≡◌, ℕ, ◌*◌, ◌<◌, ◌≤◌, List, Contains}

-- less than `threshold` thousandths of the total remain
abbrev pub IsBelow : ℕ → ℕ → ℕ → Type 0
IsBelow threshold total remaining = remaining * 1000 < threshold * total

-- The chosen log is allowed and below the threshold. Of such logs it has the least part remaining,
-- `remaining / total` compared by cross products; of equals, the lowest id.
pub record IsChoice (total remaining : ℕ → ℕ) (threshold : ℕ) (allowed : List ℕ) (chosen : ℕ) : Type 0 where
  pub allowed_log : Contains allowed chosen
  pub below : IsBelow threshold (total chosen) (remaining chosen)
  pub least : (log : ℕ) → Contains allowed log → IsBelow threshold (total log) (remaining log) → remaining chosen * total log ≤ remaining log * total chosen
  pub lowest : (log : ℕ) → Contains allowed log → IsBelow threshold (total log) (remaining log)
      → remaining chosen * total log ≡ remaining log * total chosen → chosen ≤ log

-- no allowed log is below the threshold
abbrev pub NoneBelow : (ℕ → ℕ) → (ℕ → ℕ) → ℕ → List ℕ → Type 0
NoneBelow total remaining threshold allowed = (log : ℕ) → Contains allowed log → threshold * total log ≤ remaining log * 1000

-- at most one choice
abbrev pub HasOneChoice : Type 0
HasOneChoice =
    (total remaining : ℕ → ℕ) (threshold : ℕ) (allowed : List ℕ) (one other : ℕ)
    → IsChoice total remaining threshold allowed one → IsChoice total remaining threshold allowed other → one ≡ other
