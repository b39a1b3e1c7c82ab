-- A log's bytes cut into blocks of one size, and its full blocks into chunks of one size.
use Rattle.std.proofs.Common.{◌≡◌, ℕ, zero, suc, ◌+◌, ◌*◌, ◌/◌, ◌%◌, ◌<◌, ◌≤◌, ◌^◌, List, [], ◌∷◌, ◌++◌, map, length, take, drop, get_or, set, refl, sym}
use Rattle.std.proofs.Common.{◌∙◌, ap, arith, append_assoc, length-append}
use Rattle.std.specs.List.{All, AllZip, flat_map}
use Rattle.std.proofs.lemmas.List.Elements.{All-head, All-tail, All-cons, All-push, All-append}
use Rattle.std.proofs.lemmas.List.{length-take, length-drop, length-take-le, take-append-le, append-nil, get_or_append_left, get_or-append-add, map_push}
use Rattle.std.proofs.lemmas.List.{take-append-drop, drop_at, drop-append-le, drop-drop}
use Rattle.std.proofs.lemmas.Grind.{flat_map-append}
use Rattle.std.proofs.Math.Seq.{drop-append-add, take-append-add}
use Rattle.bk_disk.specs.Blocks.{joined, IsCut, HasPrefix}
use Rattle.bk_disk.specs.declared.blocks.TheConstants.{BLOCK}

module _ {A : Type 0} where
  -- each piece has this many
  abbrev pub Each : ℕ → List (List A) → Type 0
  Each size full = All (λ piece. length piece ≡ size) full

  -- what stands in the pieces, one after another
  abbrev pub flat : List (List A) → List A
  flat full = flat_map (λ piece. piece) full

  pub flat-append : (xs ys : List (List A)) → flat (xs ++ ys) ≡ flat xs ++ flat ys
  flat-append xs ys = flat_map-append (λ piece. piece) xs ys

  pub length-flat : (size : ℕ) (full : List (List A)) → Each size full → length (flat full) ≡ length full * size
  length-flat size [] each = omega arith
  length-flat size (b ∷ bs) each =
      let first = All-head (λ x. length x ≡ size) b bs each in
      let others = length-flat size bs (All-tail (λ x. length x ≡ size) b bs each) in
      omega (arith, length-append b (flat bs), first, others)

  -- what stands from a place in a full piece on
  pub drop-joined : (size : ℕ) (full : List (List A)) (last : List A) (i r : ℕ) → Each size full → i < length full → r ≤ size
      → drop (i * size + r) (flat full ++ last) ≡ drop r (get_or full i []) ++ (flat (drop (suc i) full) ++ last)
  drop-joined size [] last i r each in' low = absurd (omega arith)
  drop-joined size (b ∷ bs) last zero r each in' low =
      let first : length b ≡ size = All-head (λ x. length x ≡ size) b bs each in
      let at : 0 * size + r ≡ r = omega arith in
      let below : r ≤ length b = omega arith in
      rw (at, append_assoc) (drop-append-le r b (flat bs ++ last) below)
  drop-joined size (b ∷ bs) last (suc i) r each in' low =
      let first : length b ≡ size = All-head (λ x. length x ≡ size) b bs each in
      let at : suc i * size + r ≡ length b + (i * size + r) = omega arith in
      rw (at, append_assoc, ← drop-drop (i * size + r) (length b) (b ++ (flat bs ++ last)), drop_at b (flat bs ++ last) (length b) refl)
      (drop-joined size bs last i r (All-tail (λ x. length x ≡ size) b bs each) (omega arith) low)

  -- what stands at a place in a full piece
  pub get_or-joined : (size : ℕ) (full : List (List A)) (last : List A) (i r : ℕ) (d : A) → Each size full → i < length full → r < size
      → get_or (flat full ++ last) (i * size + r) d ≡ get_or (get_or full i []) r d
  get_or-joined size [] last i r d each in' low = absurd (omega arith)
  get_or-joined size (b ∷ bs) last zero r d each in' low =
      let first : length b ≡ size = All-head (λ x. length x ≡ size) b bs each in
      let at : 0 * size + r ≡ r = omega arith in
      let below : r < length b = omega arith in
      rw (at, append_assoc) (get_or_append_left b (flat bs ++ last) d r below)
  get_or-joined size (b ∷ bs) last (suc i) r d each in' low =
      let first : length b ≡ size = All-head (λ x. length x ≡ size) b bs each in
      let at : suc i * size + r ≡ length b + (i * size + r) = omega arith in
      rw (at, append_assoc, get_or-append-add b (flat bs ++ last) (i * size + r) d)
      (get_or-joined size bs last i r d (All-tail (λ x. length x ≡ size) b bs each) (omega arith) low)

  -- and behind the full pieces, in the last
  pub get_or-last : (size : ℕ) (full : List (List A)) (last : List A) (r : ℕ) (d : A) → Each size full
      → get_or (flat full ++ last) (length full * size + r) d ≡ get_or last r d
  get_or-last size full last r d each =
      rw (← length-flat size full each) (get_or-append-add (flat full) last r d)

  -- how many they have together
  pub length_joined : (size : ℕ) (full : List (List A)) (last now : List A) → IsCut size full last → joined full last ≡ now
      → (length now ≡ length full * size + length last) × (length now < 2 ^ 32)
  length_joined size full last now cut is =
      let whole = length-append (flat full) last in
      let pieces = length-flat size full cut.each in
      let fits : length (joined full last) < 2 ^ 32 = cut.fits in
      (omega (arith, sym (ap length is), whole, pieces), omega (arith, sym (ap length is)))

  -- what is to come goes behind what stands in the last piece
  pub joined_more : (full : List (List A)) (last rest head behind all : List A) → head ++ behind ≡ rest
      → joined full last ++ rest ≡ all → joined full (last ++ head) ++ behind ≡ all
  joined_more full last rest head behind all parts is =
      ap (λ x. x ++ behind) (sym (append_assoc (flat full) last head)) ∙ append_assoc (flat full ++ last) head behind
      ∙ ap (λ x. (flat full ++ last) ++ x) parts ∙ is

  -- what an append that fills pieces leaves: what stood in the last and what is appended were cut anew
  pub appended : (size : ℕ) (full more : List (List A)) (last rest old piece : List A) → IsCut size full last → joined full last ≡ old
      → IsCut size more rest → joined more rest ≡ last ++ piece → length old + length piece < 2 ^ 32
      → IsCut size (full ++ more) rest × (joined (full ++ more) rest ≡ old ++ piece)
  appended size full more last rest old piece cut is cut' is' fits =
      let c = flat full in
      let whole : joined (full ++ more) rest ≡ old ++ piece =
      ap (λ x. x ++ rest) (flat-append full more) ∙ append_assoc c (flat more) rest ∙ ap (λ x. c ++ x) is'
      ∙ sym (append_assoc c last piece) ∙ ap (λ x. x ++ piece) is in (
        record {
          each = All-append (λ b. length b ≡ size) full more cut.each cut'.each;
          short = cut'.short;
          fits = omega (arith, ap length whole, length-append old piece);
        },
        whole,
      )

-- a piece that is full is pushed
pub each_push : {A B : Type 0} (items : B → List A) (size : ℕ) (full : List B) (b : B) → Each size (map items full) → length (items b) ≡ size
    → Each size (map items (full ++ b ∷ []))
each_push items size full b each is = rw (map_push items full b) (All-push (λ x. length x ≡ size) (map items full) (items b) each is)

pub joined_push : {A B : Type 0} (items : B → List A) (full : List B) (b : B) (last rest head behind all : List A) → items b ≡ last ++ head
    → head ++ behind ≡ rest
    → joined (map items full) last ++ rest ≡ all → joined (map items (full ++ b ∷ [])) [] ++ behind ≡ all
joined_push items full b last rest head behind all piece cut is =
    let c = flat (map items full) in
    rw (
      map_push items full b,
      flat-append (map items full) (items b ∷ []),
      piece,
      append-nil (flat (map items full) ++ flat ((last ++ head) ∷ [])),
      append-nil (last ++ head),
    )
    (append_assoc c (last ++ head) behind ∙ ap (λ x. c ++ x) (append_assoc last head behind ∙ ap (λ x. last ++ x) cut) ∙ sym (append_assoc c last rest) ∙ is)

-- clones of one another have the same items
pub map_clones : {B C : Type 0} (items : B → C) (R : B → B → Type 0) → ((a b : B) → R a b → items b ≡ items a) → (xs ys : List B) → AllZip R xs ys
    → map items ys ≡ map items xs
map_clones items R same [] [] all = refl
map_clones items R same [] (y ∷ ys) all = absurd all
map_clones items R same (x ∷ xs) [] all = absurd all
map_clones items R same (x ∷ xs) (y ∷ ys) all = λ i. same x y all.0 i ∷ map_clones items R same xs ys all.1 i

-- how many bytes a log has
pub length_blocks : (full : List (List ℕ)) (last now : List ℕ) → IsCut BLOCK full last → joined full last ≡ now
    → (length now ≡ length full * BLOCK + length last) × (length now < 2 ^ 32)
length_blocks = length_joined BLOCK

-- a full block at a position's quotient has the bytes from that position on, from the remainder on
pub full_block_of : (full : List (List ℕ)) (last now : List ℕ) (at : ℕ) (b : List ℕ) → IsCut BLOCK full last → joined full last ≡ now
    → at / BLOCK < length full → b ≡ get_or full (at / BLOCK) []
    → (at % BLOCK < length b) × HasPrefix (drop at now) (drop (at % BLOCK) b)
full_block_of full last now at b cut is in' there =
    let i = at / BLOCK in
    let r = at % BLOCK in
    let behind = flat (drop (suc i) full) ++ last in
    let size : length b ≡ BLOCK = ap length there ∙ cut.each i [] in' in
    let place : i * BLOCK + r ≡ at = omega arith in
    let from = drop-joined BLOCK full last i r cut.each in' (omega arith) in (
      omega (arith, size),
      (
        behind,
        ap (drop at) (sym is) ∙ ap (λ n. drop n (joined full last)) (sym place) ∙ from ∙ ap (λ x. drop r x ++ behind) (sym there),
      ),
    )

-- and behind the full blocks the last one has them
pub last_block_of : (full : List (List ℕ)) (last now : List ℕ) (at : ℕ) → IsCut BLOCK full last → joined full last ≡ now
    → at < length now → length full ≤ at / BLOCK
    → (at % BLOCK < length last) × HasPrefix (drop at now) (drop (at % BLOCK) last)
last_block_of full last now at cut is in' past =
    let r = at % BLOCK in
    let sizes = length_joined BLOCK full last now cut is in
    let before : length (flat full) ≡ length full * BLOCK = length-flat BLOCK full cut.each in
    let short : length last < BLOCK = cut.short in
    let place : length (flat full) + r ≡ at = omega (arith, sizes.0, before) in (
      omega (arith, sizes.0, before),
      (
        [],
        ap (drop at) (sym is) ∙ ap (λ n. drop n (joined full last)) (sym place) ∙ drop-append-add (flat full) last r
            ∙ sym (append-nil (drop r last)),
      ),
    )

-- a front, and a piece of what stands behind it
pub take-add : (n m : ℕ) (bytes : List ℕ) → n ≤ length bytes → take n bytes ++ take m (drop n bytes) ≡ take (n + m) bytes
take-add n m bytes long =
    let size : length (take n bytes) ≡ n = length-take-le n bytes long in
    sym (ap (take (n + m)) (sym (take-append-drop n bytes)) ∙ ap (λ k. take (k + m) (take n bytes ++ drop n bytes)) (sym size)
    ∙ take-append-add (take n bytes) (drop n bytes) m)

-- one more piece of a read, as far as a block has it
pub take_next : (now got part : List ℕ) (from done n : ℕ) → from + done + n ≤ length now → got ≡ take done (drop from now)
    → HasPrefix (drop (from + done) now) part → n ≤ length part → got ++ take n part ≡ take (done + n) (drop from now)
take_next now got part from done n room so_far begins fits =
    let behind = begins.0 in
    let there : take n part ≡ take n (drop done (drop from now)) =
    sym (take-append-le n part behind fits) ∙ ap (take n) (sym begins.1) ∙ ap (take n) (sym (drop-drop done from now)) in
    ap (λ x. x ++ take n part) so_far ∙ ap (λ x. take done (drop from now) ++ x) there
    ∙ take-add done n (drop from now) (omega (arith, length-drop from now))

-- twelve bytes over those at 8 to 20 leave as many
length_patched : (bytes patch : List ℕ) → 20 ≤ length bytes → length patch ≡ 12 → length (take 8 bytes ++ patch ++ drop 20 bytes) ≡ length bytes
length_patched bytes patch long twelve =
    omega (arith, length-append (take 8 bytes ++ patch) (drop 20 bytes), length-append (take 8 bytes) patch, length-take 8 bytes, length-drop 20 bytes)

-- a write over bytes at 8 to 20 of a front is one of the whole
patch_front : (front behind patch : List ℕ) → 20 ≤ length front → (take 8 front ++ patch ++ drop 20 front) ++ behind ≡ take 8
    (front ++ behind) ++ patch ++ drop 20 (front ++ behind)
patch_front front behind patch long =
    let low : 8 ≤ length front = omega arith in
    rw (take-append-le 8 front behind low, drop-append-le 20 front behind long) (append_assoc (take 8 front ++ patch) (drop 20 front) behind)

-- what a patch of the first of the full blocks leaves
pub first_patched : (full : List (List ℕ)) (last old patch b : List ℕ) → IsCut BLOCK full last → joined full last ≡ old
    → 0 < length full → length patch ≡ 12 → b ≡ take 8 (get_or full 0 []) ++ patch ++ drop 20 (get_or full 0 [])
    → IsCut BLOCK (set full 0 b) last × (joined (set full 0 b) last ≡ take 8 old ++ patch ++ drop 20 old)
first_patched [] last old patch b cut is some twelve there = absurd (omega arith)
first_patched (x ∷ xs) last old patch b cut is some twelve there =
    let behind = flat xs ++ last in
    let size : length x ≡ BLOCK = All-head (λ y. length y ≡ BLOCK) x xs cut.each in
    let same : length b ≡ BLOCK = ap length there ∙ length_patched x patch (omega (arith, size)) twelve ∙ size in
    let was : x ++ behind ≡ old = sym (append_assoc x (flat xs) last) ∙ is in
    let whole : joined (b ∷ xs) last ≡ take 8 old ++ patch ++ drop 20 old =
    append_assoc b (flat xs) last ∙ ap (λ f. f ++ behind) there ∙ patch_front x behind patch (omega (arith, size))
    ∙ ap (λ f. take 8 f ++ patch ++ drop 20 f) was in
    let fits : length (joined (x ∷ xs) last) < 2 ^ 32 = cut.fits in (
      record {
        each = All-cons (λ y. length y ≡ BLOCK) b xs same (All-tail (λ y. length y ≡ BLOCK) x xs cut.each);
        short = cut.short;
        fits = omega (
          arith,
          ap length whole,
          length_patched old patch (omega (arith, ap length was, length-append x behind, size)) twelve,
          ap length is,
          fits,
        );
      },
      whole,
    )
