-- A ledgers map that is read from a view, batch by batch and piece by piece.
use Rattle.std.proofs.Common.{◌≡◌, ℕ, ◌+◌, ◌*◌, ◌<◌, ◌≤◌, List, ◌++◌, length, take, drop, min, sym, ap, ◌∙◌, subst, arith, length-drop}
use Rattle.std.proofs.Common.{ℤ, pos, negsuc, Bool, true, false, cond, ◌&&◌, ◌==◌, nat_le, Option, Some, None, Result, Ok, Err}
use Rattle.std.proofs.Common.{BTreeMap, btree_map_len, nat_cmp}
use Rattle.std.specs.BTreeMap as tree
use Rattle.std.specs.FinMap as ledgers
use Rattle.std.proofs.lemmas.List.{drop-drop, take_min, length-take-le}
use Rattle.bk_disk.specs.Disk.{IsInView, view_end}
use Rattle.bk_record.specs.Files.{header_length}
use Rattle.bk_head.specs.declared.fault.HeadFault.{HeadFault}
use Rattle.bk_head.specs.declared.fault.HeadFault.TheVariants.{NotAMap}
use Rattle.bk_head.specs.Reading.{MapAnswer, map_place}
use Rattle.bk_head.specs.declared.header.Header.{Header}
use Rattle.bk_head.proofs.Answering.{unsealed, spelled_map}
use Rattle.bk_inspect.specs.Maps.{tail_at, IsMapIn}
use Rattle.bk_head.specs.Ledgers.{LedgersMap, SpellsMap, map_of, ledgers_of, AreDistinct}
use Rattle.bk_head.specs.Faults.{HasPairs}
use Rattle.bk_head.specs.Parts.{AddsPairs, IsFrontOf}
use Rattle.bk_head.proofs.Adding.{take-more, adds_then}
use Rattle.bk_head.proofs.Batching.{spells_more}

-- what lies in a view has been written to its log
written : (file : List ℕ) (at n : ℕ) → IsInView file at n → 0 < n → at + n ≤ length file
written file at n inside some = omega (arith, inside.0, inside.1)

-- more pairs, read from where the others end
pub pairs_more : (file : List ℕ) (from done some : ℕ) (piece : List ℕ) (before : List (ℕ × ℕ)) (m n : LedgersMap) → 0 < some
    → IsInView file (from + 16 * done) (16 * some) → piece ≡ take (16 * some) (drop (from + 16 * done) file)
    → (a : AddsPairs before (take (16 * done) (drop from file)) m) → AddsPairs (before ++ a.good) piece n
    → AddsPairs before (take (16 * (done + some)) (drop from file)) n
pairs_more file from done some piece before m n more inside is a b =
    let long = written file (from + 16 * done) (16 * some) inside (omega arith) in
    let whole : take (16 * done + 16 * some) (drop from file) ≡ take (16 * done) (drop from file) ++ piece =
    take-more (16 * done) (16 * some) (drop from file) (omega (arith, long, length-drop from file))
    ∙ ap (λ (x : List ℕ). take (16 * done) (drop from file) ++ take (16 * some) x) (drop-drop (16 * done) from file)
    ∙ ap (λ (x : List ℕ). take (16 * done) (drop from file) ++ x) (sym is) in
    let sum : 16 * done + 16 * some ≡ 16 * (done + some) = omega arith in
    subst (λ (x : List ℕ). AddsPairs before x n) (sym whole ∙ ap (λ k. take k (drop from file)) sum)
    (adds_then before (take (16 * done) (drop from file)) piece m n a b)

-- the first bytes of a batch are shown
pub head_shown : (file head : List ℕ) (offset at left : ℕ) → offset + at + left ≡ view_end file → 0 < left → 1024 ≤ offset
    → head ≡ take (min left 24) (drop (offset + at) file) → IsFrontOf head left (drop at (drop offset file))
head_shown file head offset at left end some headed is =
    let here : drop (offset + at) file ≡ drop at (drop offset file) = sym (drop-drop at offset file) in
    let long : left ≡ length (drop (offset + at) file) = omega (arith, end, length-drop (offset + at) file) in
    let same : min left 24 ≡ min 24 (length (drop (offset + at) file)) = omega (arith, long) in (
      long ∙ ap length here,
      is ∙ ap (λ k. take k (drop (offset + at) file)) same ∙ take_min 24 (drop (offset + at) file) ∙ ap (take 24) here,
    )

-- one batch more
pub batch_more : (file : List ℕ) (offset at left count : ℕ) (m n : LedgersMap) → offset + at + left ≡ view_end file → 0 < left → 1024 ≤ offset
    → 24 + 16 * count ≤ left → SpellsMap (take at (drop offset file)) m
    → HasPairs (drop at (drop offset file)) (take (16 * count) (drop 24 (drop at (drop offset file))))
    → ((before : List (ℕ × ℕ)) → AreDistinct (ledgers_of before) → m ≡ ledgers.from_entries before
    → AddsPairs before (take (16 * count) (drop (offset + (at + 24)) file)) n)
    → SpellsMap (take (at + 24 + 16 * count) (drop offset file)) n
batch_more file offset at left count m n end some headed fits s has add =
    let tail = drop offset file in
    let pairs = take (16 * count) (drop 24 (drop at tail)) in
    let long : length tail ≡ at + left = omega (arith, end, length-drop offset file) in
    let sized : length pairs ≡ 16 * count =
    length-take-le (16 * count) (drop 24 (drop at tail)) (omega (arith, length-drop 24 (drop at tail), length-drop at tail, long, fits)) in
    let same : at + 24 + 16 * count ≡ at + (24 + length pairs) = omega (arith, sized) in
    let here : drop (offset + (at + 24)) file ≡ drop 24 (drop at tail) =
    sym (drop-drop (at + 24) offset file) ∙ sym (drop-drop 24 at tail) in
    subst (λ k. SpellsMap (take k tail) n) (sym same) (spells_more tail pairs at m n (omega (arith, long)) s has
    (subst (λ (x : List ℕ). AddsPairs s.pairs (take (16 * count) x) n) here (add s.pairs s.distinct s.map_is)))

-- ---- where the map is

-- the offset of a map's place is the header's
offset_is : (long : ℕ) (offset count : ℤ) (place : ℕ × ℕ) → Ok (Some place) ≡ map_place long offset count → offset ≡ pos place.0
offset_is long (negsuc n) count place is = cc
offset_is long (pos offset) (negsuc n) place is = cc
offset_is long (pos offset) (pos count) place is =
    let within = nat_le header_length offset && nat_le offset long in
    let placed : Bool → Result (Option (ℕ × ℕ)) HeadFault = λ b. cond b (Ok (Some (offset, count))) (Err (NotAMap offset)) in
    elim (offset == 0 && count == 0) as (λ b. Ok (Some place) ≡ cond b (Ok None) (placed within) → pos offset ≡ pos place.0) [
      | true ↦ λ i. cc
      | false ↦ λ i. elim within as (λ b. Ok (Some place) ≡ placed b → pos offset ≡ pos place.0) [ true ↦ λ j. cc | false ↦ λ j. cc ] i
    ] is

pub tail_is : (file : List ℕ) (long : ℕ) (offset count : ℤ) (place : ℕ × ℕ) → Ok (Some place) ≡ map_place long offset count
    → drop place.0 file ≡ tail_at file offset
tail_is file long offset count place is = sym (ap (tail_at file) (offset_is long offset count place is))

pub no_map_in : (file : List ℕ) (end : ℕ) (header : Header) (place : Option (ℕ × ℕ)) → end ≡ view_end file
    → Ok place ≡ map_place end header.map_offset header.count → place ≡ None → IsMapIn file header None
no_map_in file end header place is stands none =
    subst (λ k. MapAnswer (tail_at file header.map_offset) k header (Ok None)) is
    (unsealed place (tail_at file header.map_offset) end header stands none)

pub map_in : (file : List ℕ) (end offset count found : ℕ) (header : Header) (place : Option (ℕ × ℕ)) (map : BTreeMap ℕ ℕ) → end ≡ view_end file
    → Ok place ≡ map_place end header.map_offset header.count → place ≡ Some (offset, count) → SpellsMap (drop offset file) (map_of map)
    → tree.IsOrdered nat_cmp map → found ≡ btree_map_len map → found ≡ count → IsMapIn file header (Some (map_of map))
map_in file end offset count found header place map is stands some spells ordered long same =
    let at = ap (λ p. Ok p) (sym some) ∙ stands in
    subst (λ k. MapAnswer (tail_at file header.map_offset) k header (Ok (Some (map_of map)))) is
    (spelled_map place offset count (tail_at file header.map_offset) end header map found (stands, some)
    (subst (λ (x : List ℕ). SpellsMap x (map_of map)) (tail_is file end header.map_offset header.count (offset, count) at) spells) ordered long same)
