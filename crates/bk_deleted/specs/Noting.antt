-- What a command notes of deleted ledgers.
use Rattle.std.specs.Prelude.{◌≡◌, ℕ, ◌<◌, ◌⊎◌, List, [], length, codes, Bool, true, false, Option, Some, None, Contains}
use Rattle.bk_deleted.specs.declared.noted.NoteRow.{NoteRow}

-- commands that show entries, or the ledgers that have some
abbrev pub ShowsEntries : List ℕ → Type 0
ShowsEntries name = (name ≡ codes "ledgers") ⊎ ((name ≡ codes "find") ⊎ ((name ≡ codes "entries") ⊎ (name ≡ codes "export")))

-- The note of a command that shows all ledgers: how many are deleted, if any is. That of a command that
-- shows one: this one, if it is deleted.
abbrev pub IsNote : Bool → Option ℕ → List ℕ → Option NoteRow → Type 0
IsNote true ledger deleted None = deleted ≡ []
IsNote true ledger deleted (Some note) = (0 < length deleted) × (note.ledgers ≡ Some (length deleted)) × (note.ledger ≡ None)
IsNote false None deleted note = note ≡ None
IsNote false (Some ledger) deleted None = ¬ (Contains deleted ledger)
IsNote false (Some ledger) deleted (Some note) = Contains deleted ledger × (note.ledger ≡ Some ledger) × (note.ledgers ≡ None)
