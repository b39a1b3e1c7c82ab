-- Numbers as people read them.
use Rattle.std.specs.Prelude.{◌≡◌, ℕ, ◌+◌, ◌*◌, ◌/◌, ◌%◌, ◌<◌, ◌^◌, List, [], ◌∷◌, ◌++◌, Option}
use Rattle.std.specs.Fmt.{decimal}
use Rattle.std.specs.Io.KnownBytes.{Appends}
use Rattle.bk_report.specs.declared.size.Unit.{Unit}
use Rattle.bk_report.specs.declared.size.Unit.TheVariants.{B, Ki, Mi, Gi, Ti}
use Rattle.bk_report.specs.declared.size.Size.{Size}

-- the digits of a number below 1,000, with zeros in front
abbrev pub three_digits : ℕ → List ℕ
three_digits n = (48 + n / 100) ∷ (48 + n / 10 % 10) ∷ (48 + n % 10) ∷ []

-- the digits of a number, with a comma before each third digit from the right
pub data IsGrouped : ℕ → List ℕ → Type 0 where
  short : {n : ℕ} → n < 1000 → IsGrouped n (decimal n)
  long : {n : ℕ} {front : List ℕ} → 0 < n / 1000 → IsGrouped (n / 1000) front → IsGrouped n (front ++ 44 ∷ three_digits (n % 1000))

-- a number is written
abbrev pub WritesNumber : Option (List ℕ) → Option (List ℕ) → ℕ → Type 0
WritesNumber before now n = (digits : List ℕ) × IsGrouped n digits × Appends before now digits

-- the bytes of a unit
abbrev pub bytes_in : Unit → ℕ
bytes_in B = 1
bytes_in Ki = 2 ^ 10
bytes_in Mi = 2 ^ 20
bytes_in Gi = 2 ^ 30
bytes_in Ti = 2 ^ 40

-- The size is that of so many bytes, rounded down to tenths of a unit in which it is at least 1, and below 1,024 where
-- there is a larger unit.
pub record IsSizeOf (bytes : ℕ) (size : Size) : Type 0 where
  pub whole : size.whole ≡ bytes / bytes_in size.unit
  pub tenth : size.tenth ≡ bytes % bytes_in size.unit * 10 / bytes_in size.unit
  pub large : 0 < bytes → 0 < size.whole
  pub small : bytes < 2 ^ 50 → size.whole < 1024
