-- Why a frame was not encoded.
use Rattle.std.specs.Prelude.{◌≡◌, ℕ, ◌<◌, ◌^◌, List, length, false}
use Rattle.std.specs.List.{AllByRecursion}
use Rattle.bk_serve_core.specs.declared.fault.EncodeError.{EncodeError}
use Rattle.bk_serve_core.specs.declared.fault.EncodeError.TheVariants.{Memory, TooLong}
use Rattle.bk_serve_core.specs.declared.layout.Layout.{Layout}
use Rattle.bk_serve_core.specs.Fields.{Parts, fields}
use Rattle.bk_serve_core.specs.Layouts.{fits}

-- each number has eight bytes
abbrev pub AreNumbers : List ℕ → Type 0
AreNumbers numbers = AllByRecursion (λ n. n < 2 ^ 64) numbers

-- the fields are too long for the layout and have so many bytes after their numbers, or memory was refused
abbrev pub RefusesLayout : EncodeError → Layout → List ℕ → List ℕ → Type 0
RefusesLayout (TooLong n) layout numbers tail = (fits layout (length (fields numbers tail)) ≡ false) × (n ≡ length tail)
RefusesLayout Memory layout numbers tail = Unit {0}

-- the same by the layout of the kind
abbrev pub Refuses : EncodeError → (ℕ → Layout) → Parts → Type 0
Refuses e layout p = RefusesLayout e (layout p.kind) p.numbers p.tail
