-- Fields of a frame: numbers of eight bytes, big-endian, and bytes after them. Read `body_of` and `frame_of` first.
use Rattle.std.specs.Prelude.{◌≡◌, ℕ, ◌+◌, ◌*◌, ◌<◌, ◌^◌, List, ◌∷◌, ◌++◌, length, drop, slice_index, true}
use Rattle.std.specs.List.{flat_map, AllByRecursion}
use Rattle.std.specs.Int.{w32, w64, to_be_bytes, from_be_bytes}
use Rattle.bk_serve_core.specs.declared.layout.Layout.{Layout}
use Rattle.bk_serve_core.specs.Layouts.{fits}

-- every number is a byte
abbrev pub IsBytes : List ℕ → Type 0
IsBytes bytes = (i : ℕ) → slice_index bytes i < 256

-- these numbers, and the bytes after them
abbrev pub fields : List ℕ → List ℕ → List ℕ
fields numbers tail = flat_map (to_be_bytes w64) numbers ++ tail

-- the number in the field of this index
abbrev pub word : ℕ → List ℕ → ℕ
word i body = from_be_bytes w64 (drop (8 * i) body)

-- what a frame has after its id: a kind, numbers, and bytes
pub record Parts : Type 0 where
  pub kind : ℕ
  pub numbers : List ℕ
  pub tail : List ℕ

abbrev pub parts : ℕ → List ℕ → List ℕ → Parts
parts kind numbers tail = record { kind = kind; numbers = numbers; tail = tail }

abbrev pub body_of : Parts → List ℕ
body_of p = p.kind ∷ fields p.numbers p.tail

-- every number has eight bytes, and the fields are those of the layout of the kind
abbrev pub FitsLayout : (ℕ → Layout) → Parts → Type 0
FitsLayout layout p =
    AllByRecursion (λ n. n < 2 ^ 64) p.numbers × (fits (layout p.kind) (length (fields p.numbers p.tail)) ≡ true)

-- a frame: the number of bytes after the length field, in four bytes; an id, in eight bytes; the body
abbrev pub frame_of : ℕ → List ℕ → List ℕ
frame_of id body = to_be_bytes w32 (8 + length body) ++ (to_be_bytes w64 id ++ body)
