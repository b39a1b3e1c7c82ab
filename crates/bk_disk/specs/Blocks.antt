-- The bytes of a log in memory, cut into blocks of one size, and the full blocks into chunks of one
-- size. Only the last block and the last chunk may be shorter. Used by the disk in memory and its
-- views. Read `IsCut` first.
use Rattle.std.specs.Prelude.{◌≡◌, ℕ, ◌<◌, ◌^◌, List, ◌++◌, length, map, Vec}
use Rattle.std.specs.Global.{Global}
use Rattle.std.specs.declared.sync.Arc.{Arc}
use Rattle.std.specs.List.{All, flat_map}

-- a block, and a chunk of blocks; a log shares both with its views
abbrev pub Block : Type 0
Block = Arc (Vec ℕ Global) Global

abbrev pub Chunk : Type 0
Chunk = Arc (Vec Block Global) Global

-- the bytes of a block
abbrev pub bytes_of : Block → List ℕ
bytes_of block = block.value.items

-- the blocks of a chunk, each as its bytes
abbrev pub blocks_of : Chunk → List (List ℕ)
blocks_of chunk = map bytes_of chunk.value.items

module _ {A : Type 0} where
  -- concatenation of the full pieces and the last one
  abbrev pub joined : List (List A) → List A → List A
  joined full last = flat_map (λ piece. piece) full ++ last

  -- Every full piece has `size` items, the last has fewer, and together they have fewer than 2 ^ 32
  -- items, as many as a log may have bytes.
  pub record IsCut (size : ℕ) (full : List (List A)) (last : List A) : Type 0 where
    pub each : All (λ piece. length piece ≡ size) full
    pub short : length last < size
    pub fits : length (joined full last) < 2 ^ 32

-- `front` is a prefix of the bytes
abbrev pub HasPrefix : List ℕ → List ℕ → Type 0
HasPrefix bytes front = (behind : List ℕ) × (bytes ≡ front ++ behind)
