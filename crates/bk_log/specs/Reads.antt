-- Reads of a view: the bytes asked for, or an error.
use Rattle.std.specs.Prelude.{◌≡◌, ℕ, List, take, drop, Result, Ok, Err}
use Rattle.bk_disk.specs.Disk.{IsInView}
use Rattle.bk_log.specs.declared.reading.ReadFault.{ReadFault}
use Rattle.bk_log.specs.declared.reading.ReadFault.TheVariants.{Disk, PastEnd, Memory, Odd}

-- Errors of a read on an honest view: `PastEnd` only if the bytes are not in it, `Memory` only if
-- they are.
abbrev pub ReadFails : List ℕ → ℕ → ℕ → ReadFault → Type 0
ReadFails file at n Disk = Unit {0}
ReadFails file at n PastEnd = ¬ (IsInView file at n)
ReadFails file at n Memory = IsInView file at n
ReadFails file at n Odd = ⊥

-- read of `n` bytes from a position
abbrev pub GivesBytes : {T : Type 0} → (T → List ℕ) → List ℕ → ℕ → ℕ → Result T ReadFault → Type 0
GivesBytes bytes file at n (Ok found) = IsInView file at n × (bytes found ≡ take n (drop at file))
GivesBytes bytes file at n (Err fault) = ReadFails file at n fault

-- read into a buffer, which does not allocate
abbrev pub Fills : {T : Type 0} → List ℕ → ℕ → ℕ → Result T ReadFault → List ℕ → Type 0
Fills file at n (Ok _) out = IsInView file at n × (out ≡ take n (drop at file))
Fills file at n (Err Disk) out = Unit {0}
Fills file at n (Err PastEnd) out = ¬ (IsInView file at n)
Fills file at n (Err Memory) out = ⊥
Fills file at n (Err Odd) out = ⊥

-- read of the first bytes from a position, at least 20, into the front of a buffer
abbrev pub FillsFront : List ℕ → ℕ → Result ℕ ReadFault → List ℕ → Type 0
FillsFront file at (Ok n) out = IsInView file at n × (take n out ≡ take n (drop at file))
FillsFront file at (Err Disk) out = Unit {0}
FillsFront file at (Err PastEnd) out = ¬ (IsInView file at 20)
FillsFront file at (Err Memory) out = ⊥
FillsFront file at (Err Odd) out = ⊥
