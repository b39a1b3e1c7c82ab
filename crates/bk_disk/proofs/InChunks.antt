-- A log's full blocks cut into chunks of one size.
use Rattle.std.proofs.Common.{◌≡◌, ℕ, ◌+◌, ◌*◌, ◌/◌, ◌%◌, ◌<◌, ◌≤◌, ◌^◌, List, [], ◌∷◌, ◌++◌, map, length, get_or, set, append_assoc, sym, ◌∙◌, ap, arith}
use Rattle.std.proofs.lemmas.List.Elements.{All-head, All-tail, All-cons}
use Rattle.std.proofs.lemmas.List.{get_or-map, length-map, length-set, map_push, set-append_left}
use Rattle.bk_disk.specs.Blocks.{Block, Chunk, bytes_of, blocks_of, joined, IsCut}
use Rattle.bk_disk.specs.declared.chunks.TheConstants.{CHUNK}
use Rattle.bk_disk.proofs.Cuts.{flat, get_or-joined, get_or-last, joined_more, joined_push, length_joined}

-- how many blocks there are
pub length_chunks : (full : List Chunk) (last : List Block) (now : List (List ℕ)) → IsCut CHUNK (map blocks_of full) (map bytes_of last)
    → joined (map blocks_of full) (map bytes_of last) ≡ now
    → (length now ≡ length full * CHUNK + length last) × (length now < 2 ^ 32)
length_chunks full last now cut is =
    let sizes = length_joined CHUNK (map blocks_of full) (map bytes_of last) now cut is in
    let many = length-map full blocks_of in
    let few = length-map last bytes_of in
    (omega (arith, sizes.0, many, few), sizes.1)

-- a full chunk has as many blocks as a chunk has
pub length_chunk : (full : List Chunk) (last : List Block) (i : ℕ) (x : Chunk) → IsCut CHUNK (map blocks_of full) (map bytes_of last)
    → i < length full → x ≡ get_or full i x → length x.value.items ≡ CHUNK
length_chunk full last i x cut in' there =
    let here : get_or (map blocks_of full) i [] ≡ blocks_of x = get_or-map blocks_of full i x [] in' ∙ ap blocks_of (sym there) in
    let whole : length (get_or (map blocks_of full) i []) ≡ CHUNK = cut.each i [] (omega (arith, length-map full blocks_of)) in
    omega (arith, ap length here, whole, length-map x.value.items bytes_of)

-- the block at a place, in a full chunk
pub block_of_full : (full : List Chunk) (last : List Block) (now : List (List ℕ)) (at : ℕ) (x : Chunk) (b : Block)
    → IsCut CHUNK (map blocks_of full) (map bytes_of last)
    → joined (map blocks_of full) (map bytes_of last) ≡ now
    → at / CHUNK < length full → x ≡ get_or full (at / CHUNK) x → b ≡ get_or x.value.items (at % CHUNK) b → bytes_of b ≡ get_or now at []
block_of_full full last now at x b cut is in' there inner =
    let i = at / CHUNK in
    let r = at % CHUNK in
    let size = length_chunk full last i x cut in' there in
    let here : get_or (map blocks_of full) i [] ≡ blocks_of x = get_or-map blocks_of full i x [] in' ∙ ap blocks_of (sym there) in
    let found : get_or (blocks_of x) r [] ≡ bytes_of b = get_or-map bytes_of x.value.items r b [] (omega (arith, size)) ∙ ap bytes_of (sym inner) in
    let place : i * CHUNK + r ≡ at = omega arith in
    let from = get_or-joined CHUNK (map blocks_of full) (map bytes_of last) i r [] cut.each (omega (arith, length-map full blocks_of)) (omega arith) in
    sym (ap (λ l. get_or l at []) (sym is) ∙ ap (λ n. get_or (joined (map blocks_of full) (map bytes_of last)) n []) (sym place) ∙ from
    ∙ ap (λ l. get_or l r []) here ∙ found)

-- and in the last one
pub block_of_last : (full : List Chunk) (last : List Block) (now : List (List ℕ)) (at : ℕ) (b : Block)
    → IsCut CHUNK (map blocks_of full) (map bytes_of last)
    → joined (map blocks_of full) (map bytes_of last) ≡ now
    → at < length now → length full ≤ at / CHUNK → b ≡ get_or last (at % CHUNK) b → bytes_of b ≡ get_or now at []
block_of_last full last now at b cut is in' past inner =
    let r = at % CHUNK in
    let sizes = length_chunks full last now cut is in
    let short : length (map bytes_of last) < CHUNK = cut.short in
    let few = length-map last bytes_of in
    let many = length-map full blocks_of in
    let found : get_or (map bytes_of last) r [] ≡ bytes_of b = get_or-map bytes_of last r b [] (omega (arith, sizes.0, few, short)) ∙ ap bytes_of (sym inner) in
    let place : length (map blocks_of full) * CHUNK + r ≡ at = omega (arith, sizes.0, few, many, short) in
    let from = get_or-last CHUNK (map blocks_of full) (map bytes_of last) r [] cut.each in
    sym (ap (λ l. get_or l at []) (sym is) ∙ ap (λ n. get_or (joined (map blocks_of full) (map bytes_of last)) n []) (sym place) ∙ from ∙ found)

-- a block goes behind those of the last chunk, which may now be full
pub block_pushed : (full : List Chunk) (last rest behind : List Block) (b : Block) (all : List (List ℕ)) → rest ≡ b ∷ behind
    → joined (map blocks_of full) (map bytes_of last) ++ map bytes_of rest ≡ all
    → joined (map blocks_of full) (map bytes_of (last ++ b ∷ [])) ++ map bytes_of behind ≡ all
block_pushed full last rest behind b all steps is =
    rw (map_push bytes_of last b)
    (joined_more (map blocks_of full) (map bytes_of last) (map bytes_of rest) (bytes_of b ∷ []) (map bytes_of behind) all (sym (ap (map bytes_of) steps)) is)

pub chunk_pushed : (full : List Chunk) (last rest behind : List Block) (b : Block) (x : Chunk) (all : List (List ℕ)) → x.value.items ≡ last ++ b ∷ []
    → rest ≡ b ∷ behind
    → joined (map blocks_of full) (map bytes_of last) ++ map bytes_of rest ≡ all
    → joined (map blocks_of (full ++ x ∷ [])) [] ++ map bytes_of behind ≡ all
chunk_pushed full last rest behind b x all closed steps is =
    joined_push blocks_of full x (map bytes_of last) (map bytes_of rest) (bytes_of b ∷ []) (map bytes_of behind) all
    (ap (map bytes_of) closed ∙ map_push bytes_of last b) (sym (ap (map bytes_of) steps)) is

-- another block in the stead of the first, in a chunk in the stead of the first
pub chunk_replaced : (full : List Chunk) (last : List Block) (old : List (List ℕ)) (x y : Chunk) (b : Block)
    → IsCut CHUNK (map blocks_of full) (map bytes_of last)
    → joined (map blocks_of full) (map bytes_of last) ≡ old
    → 0 < length full → x ≡ get_or full 0 x → blocks_of y ≡ set (blocks_of x) 0 (bytes_of b)
    → IsCut CHUNK (map blocks_of (set full 0 y)) (map bytes_of last)
    × (joined (map blocks_of (set full 0 y)) (map bytes_of last) ≡ set old 0 (bytes_of b))
chunk_replaced [] last old x y b cut is some here there = absurd (omega arith)
chunk_replaced (z ∷ zs) last old x y b cut is some here there =
    let behind = flat (map blocks_of zs) ++ map bytes_of last in
    let size : length (blocks_of z) ≡ CHUNK = All-head (λ p. length p ≡ CHUNK) (blocks_of z) (map blocks_of zs) cut.each in
    let front : blocks_of y ≡ set (blocks_of z) 0 (bytes_of b) = there ∙ ap (λ f. set (blocks_of f) 0 (bytes_of b)) here in
    let same : length (blocks_of y) ≡ CHUNK = ap length front ∙ length-set (blocks_of z) 0 (bytes_of b) ∙ size in
    let was : blocks_of z ++ behind ≡ old = sym (append_assoc (blocks_of z) (flat (map blocks_of zs)) (map bytes_of last)) ∙ is in
    let some' : 0 < length (blocks_of z) = omega (arith, size) in
    let whole : joined (map blocks_of (y ∷ zs)) (map bytes_of last) ≡ set old 0 (bytes_of b) =
    append_assoc (blocks_of y) (flat (map blocks_of zs)) (map bytes_of last) ∙ ap (λ f. f ++ behind) front
    ∙ sym (set-append_left (blocks_of z) behind 0 (bytes_of b) some') ∙ ap (λ f. set f 0 (bytes_of b)) was in
    let fits : length (joined (map blocks_of (z ∷ zs)) (map bytes_of last)) < 2 ^ 32 = cut.fits in (
      record {
        each = All-cons (λ p. length p ≡ CHUNK) (blocks_of y) (map blocks_of zs) same
            (All-tail (λ p. length p ≡ CHUNK) (blocks_of z) (map blocks_of zs) cut.each);
        short = cut.short;
        fits = omega (arith, ap length whole, length-set old 0 (bytes_of b), ap length is, fits);
      },
      whole,
    )
