-- The count of failures over calls that follow one another, of which the last alone may tell a failing device.
use Rattle.std.proofs.Common.{◌≡◌, ℕ, ◌<◌, ◌⊎◌, inl, inr, Ok, IsErrOf, sym, subst, arith}
use Rattle.std.proofs.Math.Nat.{eq-or-lt_of_le}
use Rattle.bk_disk.specs.Disk.{FailsExactlyIf}

-- a call that does not tell it leaves the count
pub unfailed : {Told : Type 0} (before now : ℕ) → FailsExactlyIf before now Told → (Told → ⊥) → now ≡ before
unfailed before now cause untold = by_count (eq-or-lt_of_le cause.later) where
  by_count : (before ≡ now) ⊎ (before < now) → now ≡ before
  by_count (inl same) = sym same
  by_count (inr rose) = absurd (untold (cause.told rose))

-- a count that stays, where nothing is told
pub none_failed : {Told : Type 0} (before now : ℕ) → now ≡ before → (Told → ⊥) → FailsExactlyIf before now Told
none_failed before now same untold = record {
  later = omega (arith, same);
  once = omega (arith, same);
  failed = λ told. absurd (untold told);
  told = λ rose. absurd (omega (arith, same, rose));
}
