-- Preparing an entry before the store is called.
use Rattle.std.specs.Prelude.{◌≡◌, ℕ, List, Result, Ok, Err}
use Rattle.bk_record.specs.Key.{EntryKey}
use Rattle.bk_record.specs.Record.{read_added}
use Rattle.sha2.specs.Sha256.{sha256}
use Rattle.bk_store.specs.declared.answer.AddFault.{AddFault}
use Rattle.bk_store.specs.declared.answer.AddFault.TheVariants.{Bad, Deleted, Fenced, Full, Memory}

-- the payload is that of an entry, with this key and this digest
pub record IsOf (key : EntryKey) (digest payload : List ℕ) : Type 0 where
  pub keyed : read_added payload ≡ Ok key
  pub digested : digest ≡ sha256 payload

-- A payload that can be added is prepared, unless out of memory; any other fails as an add of it
-- does.
abbrev pub IsPrepared : List ℕ → Result (List ℕ) AddFault → Type 0
IsPrepared payload (Ok entry) = entry ≡ payload
IsPrepared payload (Err (Bad fault)) = read_added payload ≡ Err fault
IsPrepared payload (Err Memory) = (key : EntryKey) × (read_added payload ≡ Ok key)
IsPrepared payload (Err Deleted) = ⊥
IsPrepared payload (Err Fenced) = ⊥
IsPrepared payload (Err (Full used limit)) = ⊥
