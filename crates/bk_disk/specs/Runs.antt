-- Runs of records: one ledger, consecutive entry ids, one size, directly one behind another. Read
-- `IsRunAt`.
use Rattle.std.specs.Prelude.{ℕ, ◌+◌, ◌*◌, ◌-◌, ◌<◌, List, ◌++◌, drop}
use Rattle.std.specs.Int.{w32, w64, to_be_bytes}
use Rattle.bk_disk.specs.Blocks.{HasPrefix}
use Rattle.bk_disk.specs.declared.record_run.RecordRun.{RecordRun}

-- first 20 bytes of a record of a run, by its place in the run: length of the payload in four bytes,
-- ledger id and entry id in eight bytes each, big-endian
abbrev pub head_in_run : RecordRun → ℕ → List ℕ
head_in_run run place =
    to_be_bytes w32 (run.size - 4) ++ (to_be_bytes w64 run.first.ledger ++ to_be_bytes w64 (run.first.entry + place))

-- At this position the bytes have the first 20 bytes of each record of the run.
abbrev pub IsRunAt : List ℕ → ℕ → RecordRun → Type 0
IsRunAt bytes at run = (place : ℕ) → place < run.count → HasPrefix (drop (at + place * run.size) bytes) (head_in_run run place)
