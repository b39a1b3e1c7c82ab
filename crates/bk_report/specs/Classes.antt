-- Classes of sizes: powers of two.
use Rattle.std.specs.Prelude.{ℕ, ◌*◌, ◌^◌, ◌<◌, ◌≤◌}

-- the size is in the class: from 2 ^ class on, below the next power; class 0 has 0 too
pub record IsOfClass (size class : ℕ) : Type 0 where
  pub small : class < 64
  pub least : 0 < size → 2 ^ class ≤ size
  pub below : size < 2 * 2 ^ class
