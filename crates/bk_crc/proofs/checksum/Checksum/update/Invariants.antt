use Rattle.std.proofs.Common.{ℕ, List, ◌++◌, take, ◌≡◌}
use Rattle.bk_crc.specs.declared.polynomial.Polynomial.{Polynomial}
use Rattle.bk_crc.specs.Holds.{Holds}
use Rattle.bk_crc.proofs.checksum.Checksum.update.Given as goal

abbrev pub invariant-loop-byte : goal.invariant-loop-byte
invariant-loop-byte l = record {
  polynomial : l.self.polynomial ≡ l.fn.self.polynomial;
  holds : (polynomial : Polynomial) (message : List ℕ) → Holds polynomial l.fn.self message → Holds polynomial l.self (message ++ take l.byte-index l.bytes);
}
