-- The entries of a log from a position that is at the end of a record.
use Rattle.std.proofs.Common.{◌≡◌, inl, inr, ℕ, zero, suc, ◌+◌, ◌-◌, ◌<◌, ◌≤◌, ℤ, Bool, not}
use Rattle.std.proofs.Common.{Option, List, [], ◌∷◌, ◌++◌, length, drop, Some, is_some, slice_get}
use Rattle.std.proofs.Common.{refl, sym, ap, ◌∙◌, subst, arith, length-append, length-drop, length-take, append_assoc}
use Rattle.std.proofs.lemmas.List.{take_all}
use Rattle.std.proofs.lemmas.Option.{same_Some}
use Rattle.std.specs.List.{filter}
use Rattle.bk_record.specs.Key.{EntryKey}
use Rattle.bk_record.specs.Record.{key_of, is_foreign, record_of}
use Rattle.bk_record.specs.Body.{Body, IsBadAt}
use Rattle.bk_record.specs.Body.Body.{done, more, torn}
use Rattle.bk_record.specs.Files.{header_length, records_of, In}
use Rattle.bk_record.specs.Spelling.{all_pieces}
use Rattle.bk_record.proofs.Records.{length-record_of}
use Rattle.bk_record.proofs.Bodies.{body_append}
use Rattle.bk_record.proofs.Entries.{In-filter, filter-In}
use Rattle.bk_record.proofs.Growth.{In-append_cases}
use Rattle.bk_record.proofs.Orders.{pieces_behind}
use Rattle.bk_disk.specs.Disk.{view_end}
use Rattle.bk_log.specs.Growing.{HasNoBadLength}
use Rattle.bk_log.specs.Ranges.{IsPassed, entries_in, part}
use Rattle.bk_log.proofs.Ranges.{all_pieces-behind, all_pieces-file}
use Rattle.bk_log.proofs.Passes.{goes_on, passed_none}
use Rattle.bk_store.specs.JobInvariant.{IsReadTo, entries_from}

abbrev is_entry : ℕ × List ℕ → Bool
is_entry r = not (is_foreign r.1)

-- ---- records of a body

body_ends : {from : ℕ} {bytes rest : List ℕ} {records : List (ℕ × List ℕ)} (at : ℕ) (payload : List ℕ) → Body from bytes records rest
    → In (at, payload) records → at + length payload ≤ from + length bytes
body_ends at payload (done) is = absurd is
body_ends at payload (torn t) is = absurd is
body_ends at payload (more {from = from} {payload = first} {behind = behind} legal body) (inl here) =
    let place : from + 4 ≡ at = ap (λ (r : ℕ × List ℕ). r.0) here in
    let long : length first ≡ length payload = ap (λ (r : ℕ × List ℕ). length r.1) here in
    omega (arith, place, long, length-append (record_of first) behind, length-record_of first)
body_ends at payload (more {from = from} {payload = first} {behind = behind} legal body) (inr later) =
    let next = body_ends at payload body later in
    omega (arith, next, length-append (record_of first) behind, length-record_of first)

-- a record of a log is after its header
pub record_behind : (bytes : List ℕ) (at : ℕ) (payload : List ℕ) → In (at, payload) (records_of bytes) → header_length < at
unfolding records_of
record_behind bytes at payload there = pieces_behind (length bytes) header_length (drop header_length bytes) at payload there

-- ---- the part after the header

whole_part : (bytes : List ℕ) → part bytes header_length (view_end bytes) ≡ drop header_length bytes
whole_part bytes = take_all (view_end bytes - header_length) (drop header_length bytes) (omega (arith, length-drop header_length bytes))

-- the end of the header is such a position
pub read_start : (bytes : List ℕ) → IsReadTo bytes header_length
read_start bytes = record {
  given = 0;
  foreign = 0;
  within = omega arith;
  passed = passed_none header_length (part bytes header_length (view_end bytes));
}

-- so is a later position, if whole records are between
pub read_on : (bytes : List ℕ) (at next given foreign : ℕ) → IsReadTo bytes at
    → IsPassed at (part bytes at (view_end bytes)) next (part bytes next (view_end bytes)) given foreign → IsReadTo bytes next
read_on bytes at next given foreign r p =
    let end = view_end bytes in
    let old = r.passed in
    let long = length-append p.front (part bytes next end) in
    let split : length (part bytes at end) ≡ length (p.front ++ part bytes next end) = ap length p.split in
    let cut = length-take (end - at) (drop at bytes) in
    let within : next ≤ end = omega (arith, p.place, long, split, cut, r.within) in
    record {
      given = length (filter (λ r. not (is_foreign r.1)) (old.records ++ p.records));
      foreign = length (filter (λ r. is_foreign r.1) (old.records ++ p.records));
      within = within;
      passed = record {
        front = old.front ++ p.front;
        records = old.records ++ p.records;
        split = old.split ∙ ap (λ (l : List ℕ). old.front ++ l) p.split ∙ sym (append_assoc old.front p.front (part bytes next end));
        place = omega (arith, old.place, p.place, length-append old.front p.front);
        whole = body_append old.whole refl (subst (λ (n : ℕ). Body n p.front p.records []) old.place p.whole);
        entries = refl;
        others = refl;
      };
    }

-- ---- records after the position

records_split : (bytes : List ℕ) (at : ℕ) (r : IsReadTo bytes at) → records_of bytes ≡ r.passed.records ++ all_pieces at (part bytes at (view_end bytes))
records_split bytes at r =
    let left = part bytes at (view_end bytes) in
    sym (all_pieces-file bytes) ∙ ap (all_pieces header_length) (sym (whole_part bytes) ∙ r.passed.split)
    ∙ all_pieces-behind left r.passed.whole refl ∙ ap (λ n. r.passed.records ++ all_pieces n left) (sym r.passed.place)

-- an entry of the log after the position is among those from it on
pub entry_ahead : (bytes : List ℕ) (at : ℕ) → IsReadTo bytes at → (place : ℕ) (payload : List ℕ) (key : EntryKey)
    → In (place, payload) (records_of bytes) → key_of payload ≡ Some key → at < place → In (place, payload) (entries_from bytes at)
unfolding entries_in
entry_ahead bytes at r place payload key there keyed behind =
    let left = all_pieces at (part bytes at (view_end bytes)) in
    elim (In-append_cases (place, payload) r.passed.records left (subst (In (place, payload)) (records_split bytes at r) there)) [
      | inl before ↦ let ends = body_ends place payload r.passed.whole before in absurd (omega (arith, ends, r.passed.place, behind))
      | inr ahead ↦ In-filter is_entry (place, payload) left ahead (ap (λ (o : Option EntryKey). not (not (is_some o))) keyed)
    ]

-- the entries from a position on are after it
pub ahead_behind : (bytes : List ℕ) (at place : ℕ) (payload : List ℕ) → In (place, payload) (entries_from bytes at) → at < place
unfolding entries_in
ahead_behind bytes at place payload there =
    let bytes' = part bytes at (view_end bytes) in
    pieces_behind (length bytes') at bytes' place payload (filter-In is_entry (place, payload) (all_pieces at bytes') there)

-- they are records of the log
pub ahead_stands : (bytes : List ℕ) (at place : ℕ) (payload : List ℕ) → IsReadTo bytes at → In (place, payload) (entries_from bytes at)
    → In (place, payload) (records_of bytes)
unfolding entries_in
ahead_stands bytes at place payload r there =
    let left = all_pieces at (part bytes at (view_end bytes)) in
    subst (In (place, payload)) (sym (records_split bytes at r)) (In-behind r.passed.records left (filter-In is_entry (place, payload) left there))
  where
    In-behind : (front behind : List (ℕ × List ℕ)) → In (place, payload) behind → In (place, payload) (front ++ behind)
    In-behind [] behind is = is
    In-behind (x ∷ front) behind is = inr (In-behind front behind is)

-- there is no bad length if the log has none
pub none_bad : (bytes : List ℕ) (at : ℕ) → IsReadTo bytes at → HasNoBadLength bytes → (place : ℕ) (value : ℤ)
    → ¬ (IsBadAt at (part bytes at (view_end bytes)) place value)
none_bad bytes at r none place value bad =
    let goes = goes_on bytes header_length (view_end bytes) at r.given r.foreign r.passed in
    none place value (subst (λ (b : List ℕ). IsBadAt header_length b place value) (whole_part bytes) (goes.bad place value bad))

-- ---- one more entry

pub drop_next : {X : Type 0} (xs : List X) (n : ℕ) (x : X) → slice_get xs n ≡ Some x → drop n xs ≡ x ∷ drop (n + 1) xs
drop_next [] n x is = cc
drop_next (y ∷ ys) zero x is = let same : y ≡ x = same_Some y x is in ap (λ z. z ∷ ys) same
drop_next (y ∷ ys) (suc n) x is =
    let one : suc n + 1 ≡ suc (n + 1) = omega arith in
    drop_next ys n x is ∙ ap (λ k. x ∷ drop k (y ∷ ys)) (sym one)

-- the entries from a position, after a scan from it has given some
pub entries_passed : (bytes : List ℕ) (from next given foreign : ℕ)
    → IsPassed from (part bytes from (view_end bytes)) next (part bytes next (view_end bytes)) given foreign
    → entries_from bytes next ≡ drop given (entries_from bytes from)
entries_passed bytes from next given foreign p = (goes_on bytes from (view_end bytes) next given foreign p).entries
