-- The position of a scan: the records before it, and the bytes after it as the rest of the part.
use Rattle.std.proofs.Common.{◌≡◌, ◌⊎◌, inl, inr, ℕ, ◌+◌, ◌≤◌, ℤ, pos, ◌<ℤ◌, Bool, true, false, cond, not, List, [], ◌∷◌, ◌++◌, length, take, drop, Some}
use Rattle.std.proofs.Common.{slice_get, refl, sym, ap, ◌∙◌, subst, arith, length-append, append_assoc}
use Rattle.std.proofs.lemmas.List.{append-nil, length-take-le, take-append-drop, drop_at}
use Rattle.std.proofs.lemmas.List.Elements.{filter-append}
use Rattle.std.proofs.lemmas.Bool.{false_from_ne_true}
use Rattle.std.proofs.lemmas.Int.{ints, to_z_pos}
use Rattle.std.specs.Int.{w32, cast_signed}
use Rattle.std.specs.List.{filter}
use Rattle.bk_record.specs.Record.{record_of, is_foreign, length_field, signed_field}
use Rattle.bk_record.specs.Body.{starts_with_record, IsTorn, Body, IsBadAt}
use Rattle.bk_record.specs.Body.Body.{done, torn}
use Rattle.bk_record.specs.Piece.{BeginsWith}
use Rattle.bk_record.proofs.Records.{Starts, starts_only, starts-torn, starts-nil, length-record_of, length_field-take}
use Rattle.bk_record.proofs.Bodies.{body_append, body_record}
use Rattle.bk_record.proofs.EntryLists.{is_entry}
use Rattle.bk_record.proofs.Spellings.{bad_append}
use Rattle.bk_record.specs.Spelling.{all_pieces, all_leftover}
use Rattle.bk_log.specs.Ranges.{IsPassed, GoesOn, entries_in, foreign_in, part}
use Rattle.bk_log.proofs.Ranges.{all_pieces-behind, all_leftover-behind, all_pieces-record, all_pieces-stop, all_leftover-stop}

abbrev is_other : ℕ × List ℕ → Bool
is_other r = is_foreign r.1

-- the number of records that pass a test, with one record more
count_more : (p : ℕ × List ℕ → Bool) (records : List (ℕ × List ℕ)) (r : ℕ × List ℕ) (b : Bool) → p r ≡ b
    → length (filter p (records ++ r ∷ [])) ≡ length (filter p records) + cond b 1 0
count_more p records r b is =
    ap length (filter-append p records (r ∷ [])) ∙ length-append (filter p records) (filter p (r ∷ []))
    ∙ ap (λ c. length (filter p records) + length (cond c (r ∷ []) [])) is
    ∙ elim b as (λ c. length (filter p records) + length (cond c (r ∷ []) []) ≡ length (filter p records) + cond c 1 0) [ true ↦ refl | false ↦ refl ]

seam : {X : Type 0} (xs : List X) (y : X) (ys : List X) → slice_get (xs ++ y ∷ ys) (length xs) ≡ Some y
seam [] y ys = refl
seam (x ∷ xs) y ys = seam xs y ys

-- at the start of the part no record is passed
pub passed_none : (from : ℕ) (bytes : List ℕ) → IsPassed from bytes from bytes 0 0
passed_none from bytes = record { front = []; records = []; split = refl; place = omega arith; whole = done; entries = refl; others = refl }

-- the pieces after the position are the rest of those of the part
all_pieces-passed : (from at given foreign : ℕ) (bytes left : List ℕ) (p : IsPassed from bytes at left given foreign)
    → all_pieces from bytes ≡ p.records ++ all_pieces at left
all_pieces-passed from at given foreign bytes left p =
    ap (all_pieces from) p.split ∙ all_pieces-behind left p.whole refl ∙ ap (λ n. p.records ++ all_pieces n left) (sym p.place)

all_leftover-passed : (from at given foreign : ℕ) (bytes left : List ℕ) (p : IsPassed from bytes at left given foreign) → all_leftover bytes ≡ all_leftover left
all_leftover-passed from at given foreign bytes left p = ap all_leftover p.split ∙ all_leftover-behind left p.whole refl

-- one record more is passed
pub passed_more : (from at given foreign : ℕ) (bytes left behind payload : List ℕ) (other : Bool) → IsPassed from bytes at left given foreign
    → (b : BeginsWith left payload) → behind ≡ b.behind → is_foreign payload ≡ other
    → IsPassed from bytes (at + (4 + length payload)) behind (given + cond (not other) 1 0) (foreign + cond other 1 0)
passed_more from at given foreign bytes left behind payload other p b same is =
    let split : bytes ≡ (p.front ++ record_of payload) ++ behind =
    p.split ∙ ap (λ x. p.front ++ x) b.is ∙ ap (λ x. p.front ++ (record_of payload ++ x)) (sym same) ∙ sym (append_assoc p.front (record_of payload) behind) in
    let whole : Body from (p.front ++ record_of payload) (p.records ++ (from + length p.front + 4, payload) ∷ []) [] =
    body_append p.whole refl (body_record (from + length p.front) payload b.legal) in
    record {
      front = p.front ++ record_of payload;
      records = p.records ++ (at + 4, payload) ∷ [];
      split = split;
      place = omega (arith, p.place, length-append p.front (record_of payload), length-record_of payload);
      whole = subst (λ n. Body from (p.front ++ record_of payload) (p.records ++ (n + 4, payload) ∷ []) []) (sym p.place) whole;
      entries = ap (λ n. n + cond (not other) 1 0) p.entries ∙ sym (count_more is_entry p.records (at + 4, payload) (not other) (ap not is));
      others = ap (λ n. n + cond other 1 0) p.others ∙ sym (count_more is_other p.records (at + 4, payload) other is);
    }

-- an entry at the position is the next one of the part
pub entry_at : (from at given foreign : ℕ) (bytes left payload : List ℕ) → IsPassed from bytes at left given foreign → BeginsWith left payload
    → is_foreign payload ≡ false → slice_get (entries_in from bytes) given ≡ Some (at + 4, payload)
unfolding entries_in
entry_at from at given foreign bytes left payload p b is =
    let list : all_pieces from bytes ≡ p.records ++ ((at + 4, payload) ∷ all_pieces (at + 4 + length payload) b.behind) =
    all_pieces-passed from at given foreign bytes left p
    ∙ ap (λ x. p.records ++ x) (ap (all_pieces at) b.is ∙ all_pieces-record at payload b.behind b.legal) in
    let kept : filter is_entry (all_pieces from bytes) ≡ filter is_entry p.records ++
    ((at + 4, payload) ∷ filter is_entry (all_pieces (at + 4 + length payload) b.behind)) =
    ap (filter is_entry) list ∙ filter-append is_entry p.records _
    ∙ ap (λ c. filter is_entry p.records ++ cond (not c) ((at + 4, payload) ∷ filter is_entry (all_pieces (at + 4 + length payload) b.behind))
    (filter is_entry (all_pieces (at + 4 + length payload) b.behind))) is in
    ap (λ l. slice_get l given) kept ∙ ap (slice_get _) p.entries ∙ seam (filter is_entry p.records) (at + 4, payload) _

-- a scan that begins at the position continues that of the part
pub goes_on : (file : List ℕ) (from end at given foreign : ℕ) → IsPassed from (part file from end) at (part file at end) given foreign
    → GoesOn file from end at given foreign
unfolding entries_in foreign_in
goes_on file from end at given foreign p =
    let bytes = part file from end in
    let left = part file at end in
    let list = all_pieces-passed from at given foreign bytes left p in
    record {
      entries = sym (ap (λ l. drop given (filter is_entry l)) list ∙ ap (drop given) (filter-append is_entry p.records (all_pieces at left))
          ∙ drop_at (filter is_entry p.records) (filter is_entry (all_pieces at left)) given (sym p.entries));
      others = ap (λ l. length (filter is_other l)) list ∙ ap length (filter-append is_other p.records (all_pieces at left))
          ∙ length-append (filter is_other p.records) (filter is_other (all_pieces at left))
          ∙ ap (λ n. n + length (filter is_other (all_pieces at left))) (sym p.others);
      rest = sym (all_leftover-passed from at given foreign bytes left p);
      bad = λ place value is. subst (λ b. IsBadAt from b place value) (sym p.split)
          (bad_append left place value p.whole (subst (λ n. IsBadAt n left place value) p.place is));
    }

-- if no record is at the position, all records of the part were passed
records_all : (from at given foreign : ℕ) (bytes left : List ℕ) (p : IsPassed from bytes at left given foreign) → starts_with_record left ≡ false
    → all_pieces from bytes ≡ p.records
records_all from at given foreign bytes left p is =
    all_pieces-passed from at given foreign bytes left p ∙ ap (λ x. p.records ++ x) (all_pieces-stop at left is) ∙ append-nil p.records

pub all_given : (from at given foreign : ℕ) (bytes left : List ℕ) → IsPassed from bytes at left given foreign → starts_with_record left ≡ false
    → given ≡ length (entries_in from bytes)
unfolding entries_in
all_given from at given foreign bytes left p is = p.entries ∙ sym (ap (λ l. length (filter is_entry l)) (records_all from at given foreign bytes left p is))

pub all_foreign : (from at given foreign : ℕ) (bytes left : List ℕ) → IsPassed from bytes at left given foreign → starts_with_record left ≡ false
    → foreign ≡ foreign_in from bytes
unfolding foreign_in
all_foreign from at given foreign bytes left p is = p.others ∙ sym (ap (λ l. length (filter is_other l)) (records_all from at given foreign bytes left p is))

pub rest_all : (from at given foreign : ℕ) (bytes left : List ℕ) → IsPassed from bytes at left given foreign → starts_with_record left ≡ false
    → all_leftover bytes ≡ left
rest_all from at given foreign bytes left p is = all_leftover-passed from at given foreign bytes left p ∙ all_leftover-stop left is

pub rest_stops : (left : List ℕ) → IsTorn left ⊎ (left ≡ []) → starts_with_record left ≡ false
rest_stops left (inl is) = starts-torn left is
rest_stops left (inr is) = ap starts_with_record is ∙ starts-nil

rest_body : (at : ℕ) (left : List ℕ) → IsTorn left ⊎ (left ≡ []) → Body at left [] left
rest_body at left (inl is) = torn is
rest_body at left (inr is) = subst (λ l. Body at l [] l) (sym is) done

-- if torn bytes or none are left, the part parses to its end
pub all_spelled : (from at given foreign : ℕ) (bytes left : List ℕ) → IsPassed from bytes at left given foreign → IsTorn left ⊎ (left ≡ [])
    → Body from bytes (all_pieces from bytes) (all_leftover bytes)
all_spelled from at given foreign bytes left p end =
    let stops = rest_stops left end in
    let whole : Body from (p.front ++ left) (p.records ++ []) left = body_append p.whole refl (rest_body (from + length p.front) left end) in
    subst (λ b. Body from b (all_pieces from bytes) (all_leftover bytes)) (sym p.split)
    (subst (λ r. Body from (p.front ++ left) (all_pieces from bytes) r) (sym (rest_all from at given foreign bytes left p stops))
    (subst (λ l. Body from (p.front ++ left) l left) (append-nil p.records ∙ sym (records_all from at given foreign bytes left p stops)) whole))

-- no record has a length below 16, as a signed number
pub bad_stops : (left : List ℕ) (value : ℤ) → value ≡ signed_field left → value <ℤ pos 16 → starts_with_record left ≡ false
unfolding signed_field length_field
bad_stops left value is below = false_from_ne_true (starts_with_record left) (λ yes.
    let starts : Starts left = starts_only left yes in
    let number : value ≡ pos (length_field left) = is ∙ to_z_pos w32 (length_field left) starts.most in
    let low : pos (length_field left) <ℤ pos 16 = subst (λ (v : ℤ). v <ℤ pos 16) number below in
    omega (arith, ints, starts.least, low))

-- a bad length at the position is the bad length of the part
pub bad_at : (from at given foreign : ℕ) (bytes left : List ℕ) (value : ℤ) → IsPassed from bytes at left given foreign → 4 ≤ length left
    → value ≡ signed_field left → value <ℤ pos 16 → IsBadAt from bytes at value
unfolding signed_field length_field
bad_at from at given foreign bytes left value p four is below = record {
  before = p.front;
  field = take 4 left;
  behind = drop 4 left;
  records = p.records;
  bytes_are = p.split ∙ ap (λ x. p.front ++ x) (sym (take-append-drop 4 left)) ∙ sym (append_assoc p.front (take 4 left) (drop 4 left));
  whole = p.whole;
  four = length-take-le 4 left four;
  value_is = is ∙ ap (cast_signed w32) (sym (length_field-take 4 left (omega arith) four));
  below = below;
  place = p.place;
}
