-- A written map is read again, with the same result.
use Rattle.std.proofs.Common.{◌≡◌, ℕ, zero, suc, ◌+◌, ◌≤◌, ℤ, pos, true, false, List, ◌++◌, length, take, drop, replicate}
use Rattle.std.proofs.Common.{Option, Some, None, Result, Ok, refl, sym, ap, subst, ◌∙◌, arith, eqb, leb}
use Rattle.std.specs.Int.{w32, to_be_bytes, from_be_bytes}
use Rattle.std.specs.FinMap as ledgers
use Rattle.std.proofs.lemmas.Bool.{ne_eqb, le-leb}
use Rattle.bk_head.specs.declared.header.Header.{Header}
use Rattle.bk_head.specs.declared.fault.HeadFault.{HeadFault}
use Rattle.bk_head.specs.Header.{IsHeader, SaysOfMap, magic, version_field, head_of, patch_of, patched_header, empty_header}
use Rattle.bk_head.specs.Ledgers.{LedgersMap}
use Rattle.bk_head.specs.Reading.{MapAnswer, AnswerAt, map_place}
use Rattle.bk_head.specs.Written.{written_map, IsWritable}
use Rattle.bk_head.proofs.Spelling.{written_spells}

pub read_again : (map : LedgersMap) (offset : ℕ) → IsWritable map → 1024 ≤ offset
    → MapAnswer (written_map map) (offset + length (written_map map))
    (record { version = 1; map_offset = pos offset; count = pos (ledgers.len map) }) (Ok (Some map))
unfolding MapAnswer
read_again map offset writable low =
    let some : eqb offset 0 ≡ false = ne_eqb offset 0 (λ e. omega (arith, e)) in
    let from : leb 1024 offset ≡ true = le-leb 1024 offset low in
    let to : leb offset (offset + length (written_map map)) ≡ true = le-leb offset (offset + length (written_map map)) (omega arith) in
    rw (some, from, to) (written_spells map writable, refl)

-- a header of this version after a patch of its bytes 8 to 20
patched_bytes : (bytes : List ℕ) (header : Header) (offset count version : ℕ) → IsHeader bytes header → header.version ≡ version
    → take 8 (magic ++ to_be_bytes w32 version) ≡ magic ++ to_be_bytes w32 version
    → patched_header bytes offset count ≡ magic ++ to_be_bytes w32 version ++ patch_of offset count ++ drop 20 bytes
patched_bytes bytes header offset count version is same eight =
    ap (λ (x : List ℕ). x ++ patch_of offset count ++ drop 20 bytes)
    (ap (take 8) (is.bytes_are ∙ ap (λ (v : ℕ). magic ++ to_be_bytes w32 v ++ is.fields ++ is.rest) same) ∙ eight)

pub patched_again : (bytes : List ℕ) (header : Header) (offset count : ℕ) → IsHeader bytes header → header.version ≡ 1
    → IsHeader (patched_header bytes offset count) (record { version = 1; map_offset = pos offset; count = pos count })
patched_again bytes header offset count is one = record {
  fields = patch_of offset count;
  rest = drop 20 bytes;
  bytes_are = patched_bytes bytes header offset count 1 is one refl;
  says = refl;
}

-- in version 0, offset and count do not depend on the bytes
old_says : (version : ℕ) (fields others : List ℕ) (offset count : ℤ) → version ≡ 0 → SaysOfMap version fields offset count
    → SaysOfMap version others offset count
old_says zero fields others offset count none says = says
old_says (suc version) fields others offset count none says = absurd (omega (arith, none))

pub old_patched_again : (bytes : List ℕ) (header : Header) (offset count : ℕ) → IsHeader bytes header → header.version ≡ 0
    → IsHeader (patched_header bytes offset count) header
old_patched_again bytes header offset count is none = record {
  fields = patch_of offset count;
  rest = drop 20 bytes;
  bytes_are = patched_bytes bytes header offset count 0 is none refl
      ∙ ap (λ (v : ℕ). magic ++ to_be_bytes w32 v ++ patch_of offset count ++ drop 20 bytes) (sym none);
  says = old_says header.version is.fields (patch_of offset count) header.map_offset header.count none is.says;
}

pub empty_is_header : IsHeader empty_header (record { version = 1; map_offset = pos 0; count = pos 0 })
unfolding empty_header head_of
empty_is_header = record { fields = patch_of 0 0; rest = replicate 1004 0; bytes_are = refl; says = refl }

-- ---- a log of version 0 has no map

says_nothing : (version : ℕ) (fields rest bytes : List ℕ) (offset count : ℤ) → bytes ≡ magic ++ to_be_bytes w32 version ++ fields ++ rest
    → version_field bytes ≡ 0 → SaysOfMap version fields offset count → (offset ≡ pos 0) × (count ≡ pos 0)
unfolding version_field
says_nothing zero fields rest bytes offset count is none says = says
says_nothing (suc zero) fields rest bytes offset count is none says =
    let one : from_be_bytes w32 (drop 4 bytes) ≡ 1 = ap (λ (x : List ℕ). from_be_bytes w32 (drop 4 x)) is in absurd (omega (arith, one, none))
says_nothing (suc (suc version)) fields rest bytes offset count is none says = absurd says

pub old_has_no_map : (bytes : List ℕ) (header : Header) (tail : List ℕ) (length : ℕ) (answer : Result (Option LedgersMap) HeadFault)
    → IsHeader bytes header → version_field bytes ≡ 0 → MapAnswer tail length header answer → answer ≡ Ok None
unfolding MapAnswer
old_has_no_map bytes header tail length answer is none reads =
    let both = says_nothing header.version is.fields is.rest bytes header.map_offset header.count is.bytes_are none is.says in
    subst (λ (c : ℤ). AnswerAt (map_place length (pos 0) c) tail answer) both.1
    (subst (λ (o : ℤ). AnswerAt (map_place length o header.count) tail answer) both.0 reads)
