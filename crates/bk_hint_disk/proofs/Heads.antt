-- An entry of a log, as a scan finds it, is a record whose first 20 bytes are the head that a hint lists.
use Rattle.std.proofs.Common.{◌≡◌, ◌∙◌, ℕ, ◌+◌, ◌-◌, ◌≤◌, ◌^◌, ◌&&◌, nat_lt, cond, true, false, List, ◌++◌, length, take, drop, Some, None, refl, sym, ap, subst, arith, append_assoc}
use Rattle.std.specs.Int.{w32, w64, to_be_bytes, from_be_bytes}
use Rattle.std.proofs.Math.Seq.{take-append_seam, drop-append_seam}
use Rattle.std.proofs.lemmas.List.{length-take, length-drop, take-append-drop, drop-drop}
use Rattle.std.proofs.lemmas.Nat.{be_bytes_8}
use Rattle.bk_record.specs.Key.{EntryKey}
use Rattle.bk_record.specs.Record.{record_of, key_of, ledger_field, entry_field}
use Rattle.bk_record.specs.Spelling.{IsBytes}
use Rattle.bk_record.proofs.Records.{bytes_take, bytes_drop}
use Rattle.bk_disk.specs.Blocks.{HasPrefix}
use Rattle.bk_log.specs.Places.{HasEntryAt}
use Rattle.bk_hint_view.specs.Rows.{head_of}

-- the fields of a payload that has a key
record HasFields (payload : List ℕ) (key : EntryKey) : Type 0 where
  ledger : key.ledger ≡ from_be_bytes w64 (take 8 payload)
  entry : key.entry ≡ from_be_bytes w64 (take 8 (drop 8 payload))

key_fields : (payload : List ℕ) (key : EntryKey) → key_of payload ≡ Some key → HasFields payload key
unfolding key_of ledger_field entry_field
key_fields payload key is =
    elim (nat_lt (ledger_field payload) (2 ^ 63) && nat_lt (entry_field payload) (2 ^ 63)) as
    (λ b. cond b (Some (record { ledger = ledger_field payload; entry = entry_field payload })) None ≡ Some key → HasFields payload key) [
      | true ↦ λ h.
          let read : EntryKey = record { ledger = ledger_field payload; entry = entry_field payload } in
          let same : read ≡ key = cc in
          record { ledger = sym (ap (λ (k : EntryKey). k.ledger) same); entry = sym (ap (λ (k : EntryKey). k.entry) same) }
      | false ↦ λ h. absurd cc
    ] is

-- the first 16 bytes of a payload are its ids
ids_first : (payload : List ℕ) (key : EntryKey) → IsBytes payload → 16 ≤ length payload → key_of payload ≡ Some key
    → payload ≡ to_be_bytes w64 key.ledger ++ (to_be_bytes w64 key.entry ++ drop 16 payload)
ids_first payload key each long is =
    let fields = key_fields payload key is in
    let rest = drop 8 payload in
    let first : to_be_bytes w64 key.ledger ≡ take 8 payload =
    be_bytes_8 (take 8 payload) key.ledger (omega (arith, length-take 8 payload)) (bytes_take 8 payload each) fields.ledger in
    let second : to_be_bytes w64 key.entry ≡ take 8 rest =
    be_bytes_8 (take 8 rest) key.entry (omega (arith, length-take 8 rest, length-drop 8 payload)) (bytes_take 8 rest (bytes_drop 8 payload each)) fields.entry in
    sym (take-append-drop 8 payload)
    ∙ ap (λ (l : List ℕ). take 8 payload ++ l) (sym (take-append-drop 8 rest) ∙ ap (λ (l : List ℕ). take 8 rest ++ l) (drop-drop 8 8 payload))
    ∙ ap (λ (l : List ℕ). l ++ (take 8 rest ++ drop 16 payload)) (sym first)
    ∙ ap (λ (l : List ℕ). to_be_bytes w64 key.ledger ++ (l ++ drop 16 payload)) (sym second)

record_is : (payload : List ℕ) → record_of payload ≡ to_be_bytes w32 (length payload) ++ payload
unfolding record_of
record_is payload = refl

-- the payload of a record that bytes begin with
payload_bytes : (bytes payload behind : List ℕ) → bytes ≡ record_of payload ++ behind → IsBytes bytes → IsBytes payload
payload_bytes bytes payload behind is each =
    let split : bytes ≡ to_be_bytes w32 (length payload) ++ (payload ++ behind) =
    is ∙ ap (λ (l : List ℕ). l ++ behind) (record_is payload) ∙ append_assoc (to_be_bytes w32 (length payload)) payload behind in
    let rest : drop 4 bytes ≡ payload ++ behind = ap (drop 4) split ∙ drop-append_seam (to_be_bytes w32 (length payload)) (payload ++ behind) in
    let part : take (length payload) (drop 4 bytes) ≡ payload = ap (take (length payload)) rest ∙ take-append_seam payload behind in
    subst IsBytes part (bytes_take (length payload) (drop 4 bytes) (bytes_drop 4 bytes each))

head_is : (key : EntryKey) (at size : ℕ) → head_of (record { key = key; at = at; size = size })
    ≡ to_be_bytes w32 (size - 4) ++ (to_be_bytes w64 key.ledger ++ to_be_bytes w64 key.entry)
unfolding head_of
head_is key at size = refl

pub record_head : (file payload : List ℕ) (at size : ℕ) (key : EntryKey) → IsBytes file → HasEntryAt file at key payload → size ≡ 4 + length payload
    → HasPrefix (drop (at - 4) file) (head_of (record { key = key; at = at; size = size }))
record_head file payload at size key each stands sized =
    let begins = stands.here.begins in
    let four = to_be_bytes w32 (length payload) in
    let ids = ids_first payload key (payload_bytes (drop (at - 4) file) payload begins.behind begins.is (bytes_drop (at - 4) file each)) (omega (arith, begins.legal.0)) stands.keyed in
    let a = to_be_bytes w64 key.ledger in
    let b = to_be_bytes w64 key.entry in
    let rest = drop 16 payload in
    let less : length payload ≡ size - 4 = omega (arith, sized) in
    let spelled : record_of payload ++ begins.behind ≡ (four ++ (a ++ b)) ++ (rest ++ begins.behind) =
    ap (λ (l : List ℕ). l ++ begins.behind) (record_is payload ∙ ap (λ (l : List ℕ). four ++ l) (ids ∙ sym (append_assoc a b rest)) ∙ sym (append_assoc four (a ++ b) rest))
    ∙ append_assoc (four ++ (a ++ b)) rest begins.behind in (
      rest ++ begins.behind,
      begins.is ∙ spelled ∙ ap (λ (l : List ℕ). l ++ (rest ++ begins.behind))
          (ap (λ (n : ℕ). to_be_bytes w32 n ++ (a ++ b)) less ∙ sym (head_is key at size)),
    )
