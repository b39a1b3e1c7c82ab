-- A record at a place: how a fetch recognises it from the bytes read, and when there is none.
use Rattle.std.proofs.Common.{◌≡◌, ℕ, ◌+◌, ◌-◌, ◌<◌, ◌≤◌, ◌^◌, List, length, take, drop, Some, Err}
use Rattle.std.proofs.Common.{refl, sym, ap, ◌∙◌, subst, arith, length-append, length-drop}
use Rattle.std.proofs.lemmas.List.{drop-drop, drop-take, take_at, take-take, length-take-le}
use Rattle.std.specs.Int.{w32, to_be_bytes}
use Rattle.bk_record.specs.Key.{EntryKey}
use Rattle.bk_record.specs.Record.{record_of, key_of, length_field}
use Rattle.bk_record.proofs.Records.{length-record_of, length_field-take, length_field-record_of, drop_field}
use Rattle.bk_record.specs.Piece.{BeginsWith}
use Rattle.bk_record.proofs.Pieces.{begins_with_field}
use Rattle.bk_log.proofs.Begins.{key_of-take}
use Rattle.bk_disk.specs.Disk.{IsInView}
use Rattle.bk_log.specs.declared.reading.ReadFault.{ReadFault}
use Rattle.bk_log.specs.declared.reading.ReadFault.TheVariants.{Disk, PastEnd, Memory, Odd}
use Rattle.bk_log.specs.Reads.{ReadFails, FillsFront}
use Rattle.bk_log.specs.Places.{HasRecordAt, HasEntryAt, FetchFails, fetch_fault_of_read}

-- a record ends in the file
pub record_fits : (file payload : List ℕ) (at : ℕ) → HasRecordAt file at payload → at + length payload ≤ length file
record_fits file payload at here =
    omega (
      arith,
      here.behind_header,
      here.begins.legal.0,
      length-drop (at - 4) file,
      ap length here.begins.is,
      length-append (record_of payload) here.begins.behind,
      length-record_of payload,
    )

pub payload_in_view : (file payload : List ℕ) (at : ℕ) → HasRecordAt file at payload → IsInView file at (length payload)
payload_in_view file payload at here = (omega (arith, here.behind_header), omega (arith, record_fits file payload at here))

-- length field of a record at a place
pub field_of : (file payload field : List ℕ) (at : ℕ) → HasRecordAt file at payload → field ≡ take 4 (drop (at - 4) file) → length_field field ≡ length payload
field_of file payload field at here is =
    let four : 4 ≤ length (drop (at - 4) file) = omega (arith, length-drop (at - 4) file, here.behind_header, record_fits file payload at here) in
    ap length_field is ∙ length_field-take 4 (drop (at - 4) file) (omega arith) four
    ∙ ap length_field here.begins.is ∙ length_field-record_of payload here.begins.behind (omega (arith, here.begins.legal.1))

-- the payload's position follows the length field
drop-field : (file : List ℕ) (at : ℕ) → 4 ≤ at → drop 4 (drop (at - 4) file) ≡ drop at file
drop-field file at least = let e : (at - 4) + 4 ≡ at = omega arith in drop-drop 4 (at - 4) file ∙ ap (λ n. drop n file) e

-- payload of a record at a place
pub payload_of : (file payload : List ℕ) (at : ℕ) → HasRecordAt file at payload → take (length payload) (drop at file) ≡ payload
payload_of file payload at here =
    ap (take (length payload)) (sym (drop-field file at (omega (arith, here.behind_header))) ∙ ap (drop 4) here.begins.is
    ∙ drop_field payload here.begins.behind)
    ∙ take_at payload here.begins.behind (length payload) refl

-- a length field and a payload that fit make a record at the place
pub record_here : (file payload field : List ℕ) (at n : ℕ) → 1028 ≤ at → field ≡ take 4 (drop (at - 4) file) → to_be_bytes w32 n ≡ take 4 field
    → 16 ≤ n → n < 2 ^ 31 → IsInView file at n → payload ≡ take n (drop at file) → HasRecordAt file at payload
record_here file payload field at n least is written low high view same =
    let front = drop (at - 4) file in
    let number : to_be_bytes w32 n ≡ take 4 front = written ∙ ap (take 4) is ∙ take-take 4 4 front (omega arith) in
    let stands : take n (drop 4 front) ≡ payload = ap (take n) (drop-field file at (omega arith)) ∙ sym same in
    record {
      behind_header = least;
      begins = subst (BeginsWith front) stands (begins_with_field front n number low high (omega (arith, view.1, length-drop (at - 4) file)));
    }

-- What a fetch has read: the head of a possible record at a place, and the number in its length
-- field.
pub record HeadRead (file : List ℕ) (at from n : ℕ) (head : List ℕ) : Type 0 where
  pub place : from ≡ at
  pub view : IsInView file (from - 4) 20
  pub shown : head ≡ take 20 (drop (from - 4) file)
  pub number : n ≡ length_field head
  pub written : to_be_bytes w32 n ≡ take 4 head

-- the head, taken from the first bytes read
pub head_of_front : (file out : List ℕ) (at from n size : ℕ) → 20 ≤ size → IsInView file (from - 4) size
    → take size out ≡ take size (drop (from - 4) file) → from ≡ at → n ≡ length_field (take 20 out) → to_be_bytes w32 n ≡ take 4 (take 20 out)
    → HeadRead file at from n (take 20 out)
head_of_front file out at from n size most view shown place number written = record {
  place = place;
  view = (view.0, omega (arith, view.1, most));
  shown = sym (take-take 20 size out most) ∙ ap (take 20) shown ∙ take-take 20 size (drop (from - 4) file) most;
  number = number;
  written = written;
}

-- the two ids, taken from the first bytes read
pub ids_of_front : (out : List ℕ) → take 16 (drop 4 out) ≡ take 16 (drop 4 (take 20 out))
ids_of_front out = sym (take-take 16 16 (drop 4 out) (omega arith)) ∙ sym (ap (take 16) (drop-take 4 16 out))

-- a payload that lies in the first bytes read
pub payload_of_front : (file out : List ℕ) (from n size : ℕ) → 1028 ≤ from → 20 ≤ size → IsInView file (from - 4) size
    → take size out ≡ take size (drop (from - 4) file) → n ≤ size - 4 → IsInView file from n × (take n (drop 4 out) ≡ take n (drop from file))
payload_of_front file out from n size least most view shown enough =
    let field : size ≡ 4 + (size - 4) = omega arith in
    let cut : (xs : List ℕ) → drop 4 (take size xs) ≡ take (size - 4) (drop 4 xs) = λ xs.
    ap (λ k. drop 4 (take k xs)) field ∙ drop-take 4 (size - 4) xs in
    let behind : take (size - 4) (drop 4 out) ≡ take (size - 4) (drop from file) =
    sym (cut out) ∙ ap (drop 4) shown ∙ cut (drop (from - 4) file) ∙ ap (take (size - 4)) (drop-field file from (omega arith)) in (
      (omega arith, omega (arith, view.1)),
      sym (take-take n (size - 4) (drop 4 out) enough) ∙ ap (take n) behind ∙ take-take n (size - 4) (drop from file) enough,
    )

-- the head begins with the length field
field_read : (file head : List ℕ) (at from n : ℕ) → HeadRead file at from n head → take 4 head ≡ take 4 (drop (at - 4) file)
field_read file head at from n read =
    ap (take 4) (read.shown ∙ ap (λ a. take 20 (drop (a - 4) file)) read.place) ∙ take-take 4 20 (drop (at - 4) file) (omega arith)

-- the head has twenty bytes
pub length_head : (file head : List ℕ) (at from n : ℕ) → HeadRead file at from n head → length head ≡ 20
length_head file head at from n read =
    ap length read.shown ∙ length-take-le 20 (drop (from - 4) file) (omega (arith, read.view.0, read.view.1, length-drop (from - 4) file))

-- the number is the length of any record at the place
long_as : (file payload head : List ℕ) (at from n : ℕ) → HeadRead file at from n head → HasRecordAt file at payload → n ≡ length payload
long_as file payload head at from n read here =
    let size = length_head file head at from n read in
    read.number ∙ sym (length_field-take 4 head (omega arith) (omega (arith, size)))
    ∙ field_of file payload (take 4 head) at here (field_read file head at from n read)

-- the ids in the head are the first bytes at the place
ids_read : (file head : List ℕ) (at from n : ℕ) → 4 ≤ at → HeadRead file at from n head
    → take 16 (drop 4 head) ≡ take 16 (drop at file)
ids_read file head at from n least read =
    ap (λ x. take 16 (drop 4 x)) (read.shown ∙ ap (λ a. take 20 (drop (a - 4) file)) read.place) ∙ ap (take 16) (drop-take 4 16 (drop (at - 4) file))
    ∙ take-take 16 16 (drop 4 (drop (at - 4) file)) (omega arith) ∙ ap (take 16) (drop-field file at least)

-- the head of a record lies in the view
pub needs_head : (file : List ℕ) (at from : ℕ) (key : EntryKey) → from ≡ at → (payload : List ℕ) → HasEntryAt file at key payload → IsInView file (from - 4) 20
needs_head file at from key place payload here = (
  omega (arith, place, here.here.behind_header),
  omega (arith, place, here.here.behind_header, here.here.begins.legal.0, record_fits file payload at here.here),
)

-- the payload of a record lies in the view; its length is the number in the field
needs_payload : (file head : List ℕ) (at from n : ℕ) (key : EntryKey) → HeadRead file at from n head → (payload : List ℕ) → HasEntryAt file at key payload
    → IsInView file from n
needs_payload file head at from n key read payload here =
    subst (λ a. IsInView file a n) (sym read.place)
    (subst (λ m. IsInView file at m) (sym (long_as file payload head at from n read here.here)) (payload_in_view file payload at here.here))

-- error of a fetch whose head could not be read
pub head_refused : (file : List ℕ) (at from : ℕ) (key : EntryKey) (fault : ReadFault) (out : List ℕ) → from ≡ at
    → FillsFront file (from - 4) (Err fault) out → FetchFails file at key (fetch_fault_of_read fault)
head_refused file at from key Disk out place fills = tt
head_refused file at from key PastEnd out place fills = λ payload here. fills (needs_head file at from key place payload here)
head_refused file at from key Memory out place fills = absurd fills
head_refused file at from key Odd out place fills = absurd fills

-- no record has such a length
pub fetch_bad_length : (file head : List ℕ) (at from n : ℕ) (key : EntryKey) → HeadRead file at from n head → ¬ ((16 ≤ n) × (n < 2 ^ 31))
    → (payload : List ℕ) → ¬ (HasEntryAt file at key payload)
fetch_bad_length file head at from n key read bad payload here =
    let long = long_as file payload head at from n read here.here in
    bad (omega (arith, here.here.begins.legal.0), omega (arith, here.here.begins.legal.1))

-- no record at the place has the key
pub fetch_other_key : (file head : List ℕ) (at from n : ℕ) (key : EntryKey) → HeadRead file at from n head → ¬ (key_of (take 16 (drop 4 head)) ≡ Some key)
    → (payload : List ℕ) → ¬ (HasEntryAt file at key payload)
fetch_other_key file head at from n key read differs payload here =
    let least : 4 ≤ at = omega (arith, here.here.behind_header) in
    let long : 16 ≤ length payload = here.here.begins.legal.0 in
    let first : take 16 (drop at file) ≡ take 16 payload =
    sym (take-take 16 (length payload) (drop at file) long) ∙ ap (take 16) (payload_of file payload at here.here) in
    differs (ap key_of (ids_read file head at from n least read ∙ first) ∙ key_of-take payload long ∙ here.keyed)

-- if the payload lies in the view, a record of the key is at the place
pub entry_here : (file head : List ℕ) (at from n : ℕ) (key : EntryKey) → 1028 ≤ at → HeadRead file at from n head → (16 ≤ n) × (n < 2 ^ 31)
    → key_of (take 16 (drop 4 head)) ≡ Some key → IsInView file from n → HasEntryAt file at key (take n (drop from file))
entry_here file head at from n key least read legal keyed view =
    let payload = take n (drop from file) in
    let size : length payload ≡ n = length-take-le n (drop from file) (omega (arith, view.0, view.1, length-drop from file)) in
    let first : take 16 (drop at file) ≡ take 16 payload =
    ap (λ a. take 16 (drop a file)) (sym read.place) ∙ sym (take-take 16 n (drop from file) legal.0) in
    let ids : key_of (take 16 (drop 4 head)) ≡ key_of payload =
    ap key_of (ids_read file head at from n (omega arith) read ∙ first) ∙ key_of-take payload (omega (arith, size, legal.0)) in
    let field : take 4 head ≡ take 4 (drop (from - 4) file) =
    field_read file head at from n read ∙ ap (λ a. take 4 (drop (a - 4) file)) (sym read.place) in
    let number : to_be_bytes w32 n ≡ take 4 (take 4 head) = read.written ∙ sym (take-take 4 4 head (omega arith)) in
    record {
      here = subst (λ a. HasRecordAt file a payload) read.place
          (record_here file payload (take 4 head) from n (omega (arith, read.place)) field number legal.0 legal.1 view refl);
      keyed = sym ids ∙ keyed;
    }

-- error of a fetch whose payload could not be read
pub payload_refused : (file head : List ℕ) (at from n : ℕ) (key : EntryKey) (fault : ReadFault) → 1028 ≤ at → HeadRead file at from n head
    → (16 ≤ n) × (n < 2 ^ 31) → key_of (take 16 (drop 4 head)) ≡ Some key → ReadFails file from n fault → FetchFails file at key (fetch_fault_of_read fault)
payload_refused file head at from n key Disk least read legal keyed fails = tt
payload_refused file head at from n key PastEnd least read legal keyed fails =
    λ payload here. fails (needs_payload file head at from n key read payload here)
payload_refused file head at from n key Memory least read legal keyed fails =
    (take n (drop from file), entry_here file head at from n key least read legal keyed fails)
payload_refused file head at from n key Odd least read legal keyed fails = absurd fails

-- the payload returned is that of the record
pub fetch_found : (file head payload : List ℕ) (at from n : ℕ) (key : EntryKey) → 1028 ≤ at → HeadRead file at from n head
    → (16 ≤ n) × (n < 2 ^ 31) → key_of (take 16 (drop 4 head)) ≡ Some key → IsInView file from n × (payload ≡ take n (drop from file))
    → HasEntryAt file at key payload
fetch_found file head payload at from n key least read legal keyed shown =
    subst (HasEntryAt file at key) (sym shown.1) (entry_here file head at from n key least read legal keyed shown.0)

-- a record that lies in the first bytes read
pub entry_of_front : (file out : List ℕ) (at from n size : ℕ) (key : EntryKey) → 1028 ≤ at → 20 ≤ size → IsInView file (from - 4) size
    → take size out ≡ take size (drop (from - 4) file) → HeadRead file at from n (take 20 out) → (16 ≤ n) × (n < 2 ^ 31)
    → key_of (take 16 (drop 4 (take 20 out))) ≡ Some key → n ≤ size - 4 → HasEntryAt file at key (take n (drop 4 out))
entry_of_front file out at from n size key least most view shown read legal keyed enough =
    fetch_found file (take 20 out) (take n (drop 4 out)) at from n key least read legal keyed
    (payload_of_front file out from n size (omega (arith, least, read.place)) most view shown enough)
