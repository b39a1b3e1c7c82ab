use Rattle.std.proofs.Common.{◌≡◌, ◌<◌, ℕ}
use Rattle.bk_drive.specs.Abstract.{HasAt}
use Rattle.bk_drive.specs.Machine.{ReaderLease}
use Rattle.bk_drive.proofs.readers.Readers.reader_of.Given as goal

abbrev pub invariant-loop-reader : goal.invariant-loop-reader
invariant-loop-reader g l = (i : ℕ) (hold : ReaderLease) → i < l.reader → HasAt l.self i hold → ¬ (hold.ticket.log ≡ l.log)
