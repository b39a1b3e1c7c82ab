-- Sums of the results of callers. A number saturates at 2^64 - 1.
use Rattle.std.specs.Prelude.{◌≡◌, ℕ, ◌+◌, ◌-◌, ◌^◌, ◌++◌, min}
use Rattle.bk_load.specs.declared.done.Done.{Done}

abbrev pub sum_of : ℕ → ℕ → ℕ
sum_of a b = min (a + b) (2 ^ 64 - 1)

-- the results of two callers together
pub record JoinsResults (one other sum : Done) : Type 0 where
  pub receipts : sum.receipts.items ≡ one.receipts.items ++ other.receipts.items
  pub times : sum.times.items ≡ one.times.items ++ other.times.items
  pub dead : sum.dead.items ≡ one.dead.items ++ other.dead.items
  pub bytes : sum.bytes ≡ sum_of one.bytes other.bytes
  pub held : sum.held ≡ sum_of one.held other.held
  pub refused : sum.refused ≡ sum_of one.refused other.refused
  pub takes : sum.takes ≡ sum_of one.takes other.takes
  pub wrong : sum.wrong ≡ sum_of one.wrong other.wrong
