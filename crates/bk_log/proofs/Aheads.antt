-- Reading ahead: the bytes ready after a step, and the head of what is left.
use Rattle.std.proofs.Common.{◌≡◌, ℕ, ◌+◌, ◌-◌, ◌≤◌, min, Bool, List, length, take, drop, IsTrue, Option, Result, Ok, Err, IfOk, IfErr, sym, ap, ◌∙◌, subst, arith, length-drop}
use Rattle.std.proofs.Math.Decide.{dec_le}
use Rattle.std.proofs.lemmas.List.{drop-drop, drop-take, take-take, take-append-le, drop-append-le, length-take-le, drop_all, take_all, length-take}
use Rattle.bk_disk.specs.Disk.{IsInView}
use Rattle.bk_disk.specs.Blocks.{HasPrefix}
use Rattle.bk_record.specs.Key.{EntryKey}
use Rattle.bk_log.specs.declared.fault.ScanFault.{ScanFault}
use Rattle.bk_log.specs.declared.fault.ScanFault.TheVariants.{Memory}
use Rattle.bk_log.specs.declared.front.Front.{Front}
use Rattle.bk_log.specs.declared.front.Front.TheVariants.{Record, Rest, Bad}
use Rattle.bk_log.specs.Fronts.{IsFront}
use Rattle.bk_log.specs.Ahead.{Ahead, ShowsAhead, ShowsWindow, AheadFails, IsRecord, ShowsFront}

-- an advance within the bytes that were read
skipped_within : (bytes read : List ℕ) (at offset size : ℕ) → size ≤ length read - offset → drop offset read ≡ take (length read - offset) (drop at bytes)
    → drop (offset + size) read ≡ take (length read - (offset + size)) (drop (at + size) bytes)
skipped_within bytes read at offset size enough shown =
    let left : length read - offset ≡ size + (length read - (offset + size)) = omega arith in
    sym (drop-drop size offset read) ∙ ap (drop size) (shown ∙ ap (λ n. take n (drop at bytes)) left)
    ∙ drop-take size (length read - (offset + size)) (drop at bytes) ∙ ap (take (length read - (offset + size))) (drop-drop size at bytes)

-- an advance to the end of the bytes that were read
skipped_past : (bytes read : List ℕ) (at offset : ℕ) → offset ≤ length read → drop (offset + (length read - offset)) read ≡ take
    (length read - (offset + (length read - offset))) (drop at bytes)
skipped_past bytes read at offset within =
    let all : offset + (length read - offset) ≡ length read = omega arith in
    let none : length read - (offset + (length read - offset)) ≡ 0 = omega arith in
    drop_all (offset + (length read - offset)) read (omega arith) ∙ sym (ap (λ n. take n (drop at bytes)) none)

shows_skip : (honest : Bool) (bytes read : List ℕ) (at offset size step taken : ℕ) → ShowsAhead honest bytes at offset read → step ≡ size
    → taken ≡ min size (length read - offset) → ShowsAhead honest bytes (at + step) (offset + taken) read
shows_skip honest bytes read at offset size step taken shows same least = record {
  within = omega (arith, shows.within);
  shown = λ h. elim (dec_le size (length read - offset)) [
    | yes enough ↦
        let few : taken ≡ size = omega arith in
        rw (few, same) (skipped_within bytes read at offset size enough (shows.shown h))
    | no more ↦
        let all : taken ≡ length read - offset = omega arith in
        rw all (skipped_past bytes read (at + step) offset shows.within)
  ];
}

-- bytes lent from the window are the view's
pub lent : (bytes read : List ℕ) (since start before count from : ℕ) → drop start read ≡ take (length read - start) (drop since bytes)
    → before + count ≤ length read - start → from ≡ since + before → take count (drop (start + before) read) ≡ take count (drop from bytes)
lent bytes read since start before count from shown enough place =
    let known : length read - start ≡ before + (length read - start - before) = omega arith in
    ap (take count)
    (sym (drop-drop before start read) ∙ ap (drop before) (shown ∙ ap (λ n. take n (drop since bytes)) known)
    ∙ drop-take before (length read - start - before) (drop since bytes))
    ∙ take-take count (length read - start - before) (drop before (drop since bytes)) (omega arith)
    ∙ ap (take count) (drop-drop before since bytes ∙ ap (λ n. drop n bytes) (sym place))

-- bytes that the view lent are the view's
pub lent_in : (bytes lent : List ℕ) (start before count from : ℕ) → HasPrefix (drop start bytes) lent → before + count ≤ length lent
    → from ≡ start + before → take count (drop before lent) ≡ take count (drop from bytes)
lent_in bytes lent start before count from (behind, is) enough place =
    sym (take-append-le count (drop before lent) behind (omega (arith, length-drop before lent, enough)))
    ∙ ap (take count)
    (sym (drop-append-le before lent behind (omega (arith, enough))) ∙ ap (drop before) (sym is) ∙ drop-drop before start bytes
    ∙ ap (λ n. drop n bytes) (sym place))

pub shows_window : (honest : Bool) (bytes read : List ℕ) (at offset since start size step taken : ℕ) → ShowsWindow honest bytes at offset since start read
    → step ≡ size → taken ≡ min size (length read - offset) → ShowsWindow honest bytes (at + step) (offset + taken) since start read
shows_window honest bytes read at offset since start size step taken shows same least =
    record { ahead = shows_skip honest bytes read at offset size step taken shows.ahead same least; begun = shows.begun }

-- number of bytes left, for a range in the view
pub length-left : (bytes : List ℕ) (at left : ℕ) → IsInView bytes at left → left ≡ length (take left (drop at bytes))
length-left bytes at left view = sym (length-take-le left (drop at bytes) (omega (arith, view.0, view.1, length-drop at bytes)))

-- head of the bytes left: the first twenty, or all if fewer
pub head_left : (bytes head : List ℕ) (at wanted left : ℕ) → wanted ≡ min left 20 → head ≡ take wanted (drop at bytes)
    → head ≡ take 20 (take left (drop at bytes))
head_left bytes head at wanted left least cut =
    cut ∙ sym (elim (dec_le 20 left) as (λ _. take 20 (take left (drop at bytes)) ≡ take wanted (drop at bytes)) [
      | yes more ↦ let twenty : 20 ≡ wanted = omega arith in take-take 20 left (drop at bytes) more ∙ ap (λ n. take n (drop at bytes)) twenty
      | no fewer ↦ let all : left ≡ wanted = omega arith in
          take_all 20 (take left (drop at bytes)) (omega (arith, length-take left (drop at bytes))) ∙ ap (λ n. take n (drop at bytes)) all
    ])

-- the head is in the window
pub window_head : (w old : Ahead) (read bytes head : List ℕ) (offset wanted left : ℕ) → w ≡ old → ShowsAhead w.honest w.bytes w.at offset read
    → IsTrue old.honest → wanted ≡ min left 20 → wanted ≤ length read - offset → bytes ≡ read → head ≡ take (offset + wanted - offset) (drop offset bytes)
    → head ≡ take 20 (take left (drop old.at old.bytes))
window_head w old read bytes head offset wanted left is shows honest least enough same cut =
    let count : offset + wanted - offset ≡ wanted = omega arith in
    let known = shows.shown (ap (λ a. a.honest) is ∙ honest) in
    let here : drop offset read ≡ take (length read - offset) (drop old.at old.bytes) =
    known ∙ ap (λ (a : Ahead). take (length read - offset) (drop a.at a.bytes)) is in
    head_left old.bytes head old.at wanted left least
    (cut ∙ ap (λ b. take (offset + wanted - offset) (drop offset b)) same ∙ ap (λ n. take n (drop offset read)) count ∙ ap (take wanted) here
    ∙ take-take wanted (length read - offset) (drop old.at old.bytes) enough)

-- the head was read without a window
pub head_read : (w old : Ahead) (over head : List ℕ) (wanted left : ℕ) → length over ≡ 20 → w ≡ old → wanted ≡ min left 20
    → head ≡ take (length (take wanted over)) (drop w.at w.bytes) → head ≡ take 20 (take left (drop old.at old.bytes))
head_read w old over head wanted left size is least cut =
    let count : length (take wanted over) ≡ wanted = length-take-le wanted over (omega arith) in
    head_left old.bytes head old.at wanted left least
    (cut ∙ ap (λ n. take n (drop w.at w.bytes)) count ∙ ap (λ (a : Ahead). take wanted (drop a.at a.bytes)) is)

-- `Memory` occurs only at a record, and only without a buffer
pub no_room : (room size : ℕ) (here : List ℕ) (key : Option EntryKey) (fault : ScanFault) → (fault ≡ Memory) × (room ≡ 0) → IsFront here (Record size key)
    → AheadFails room here fault
no_room room size here key fault (memory, none) stands = subst (AheadFails room here) (sym memory) (none, (stands.0, stands.1.0))

-- a front that was lent, with room for its record
pub shows_lent : (room : ℕ) (here : List ℕ) (front : Front) (result : Result Front ScanFault) → IsFront here front → IfOk result (λ found. found ≡ front)
    → IfErr result (λ fault. (fault ≡ Memory) × (room ≡ 0) × IsRecord front) → ShowsFront room here result
shows_lent room here front (Ok found) is same err = subst (IsFront here) (sym same) is
shows_lent room here (Record size key) (Err fault) is same (memory, none, record') = no_room room size here key fault (memory, none) is
shows_lent room here Rest (Err fault) is same (memory, none, record') = elim record' [ ]
shows_lent room here (Bad value) (Err fault) is same (memory, none, record') = elim record' [ ]
