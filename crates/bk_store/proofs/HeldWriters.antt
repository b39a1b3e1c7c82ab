-- The writer of a log that is held.
use Rattle.std.proofs.Common.{◌≡◌, ℕ, Option, Some, None, refl}
use Rattle.std.specs.FinMap as finite
use Rattle.std.specs.Option.{option_and_then}
use Rattle.bk_record.specs.Files.{header_length}
use Rattle.bk_log.specs.Writing as writers
use Rattle.bk_store.specs.Logs.{Log}
use Rattle.bk_store.specs.State.{StoreParts}
use Rattle.bk_store.specs.Invariant.{StructuralInvariant}
use Rattle.bk_store.specs.Primitives.{writer_of}

-- a writer is that of a log
log_of : (o : Option Log) (w : writers.Writing) → option_and_then (λ log. log.writer) o ≡ Some w → (log : Log) × (o ≡ Some log) × (log.writer ≡ Some w)
log_of None w is = cc
log_of (Some log) w is = (log, refl, is)

-- one without records ends at the header's end
pub empty_writer : (p : StoreParts) → StructuralInvariant p → (id : ℕ) (w : writers.Writing) → writer_of p.state.logs id ≡ Some w → w.count ≡ 0 → w.end ≡ header_length
empty_writer p fits id w is =
    let held = log_of (finite.get p.state.logs id) w is in
    ((fits.logs.each id held.0 held.1).by w held.2).empty
