-- The entries of a log as a list, for any sufficient bound of the search.
use Rattle.std.proofs.Common.{◌≡◌, ℕ, Bool, zero, suc, ◌+◌, ◌≤◌, cond, List, [], ◌∷◌, length, take, drop, true, false}
use Rattle.std.proofs.Common.{not, refl, sym, ap, arith, length-drop}
use Rattle.std.specs.List.{filter}
use Rattle.bk_record.specs.Record.{is_foreign, length_field}
use Rattle.bk_record.specs.Body.{starts_with_record, pieces}
use Rattle.bk_record.specs.Files.{header_length, records_of}
use Rattle.bk_record.specs.Scan.{entries_of}
use Rattle.bk_record.proofs.Records.{starts_only, starts-nil}
use Rattle.bk_record.proofs.Bodies.{pieces-stop}
use Rattle.bk_record.proofs.Growth.{records_of-short}

-- any two bounds that are at least the number of bytes give the same records
pub pieces-enough : (most other from : ℕ) (bytes : List ℕ) → length bytes ≤ most → length bytes ≤ other → pieces most from bytes ≡ pieces other from bytes
pieces-enough zero zero from bytes m n = refl
pieces-enough zero (suc other) from [] m n = sym (pieces-stop (suc other) from [] starts-nil)
pieces-enough zero (suc other) from (b ∷ bytes) m n = absurd (omega arith)
pieces-enough (suc most) zero from [] m n = pieces-stop (suc most) from [] starts-nil
pieces-enough (suc most) zero from (b ∷ bytes) m n = absurd (omega arith)
pieces-enough (suc most) (suc other) from bytes m n =
    let size = length_field bytes in
    let first : List (ℕ × List ℕ) → List (ℕ × List ℕ) = λ rest. (from + 4, take size (drop 4 bytes)) ∷ rest in
    elim (starts_with_record bytes) as (λ b. starts_with_record bytes ≡ b
    → cond b (first (pieces most (from + 4 + size) (drop (4 + size) bytes))) []
    ≡ cond b (first (pieces other (from + 4 + size) (drop (4 + size) bytes))) []) [
      | true ↦ λ is.
          let s = starts_only bytes is in
          let fewer = length-drop (4 + size) bytes in
          ap first (pieces-enough most other (from + 4 + size) (drop (4 + size) bytes) (omega (arith, s.whole)) (omega (arith, s.whole)))
      | false ↦ λ _. refl
    ] refl

-- ---- the list of entries

-- whether a record has a key
abbrev pub is_entry : ℕ × List ℕ → Bool
is_entry r = not (is_foreign r.1)

-- logs with the same records have the same entries
pub entries_of-same : (a b : List ℕ) → records_of a ≡ records_of b → entries_of a ≡ entries_of b
unfolding entries_of
entries_of-same a b is = ap (filter is_entry) is

pub entries_of-short : (file : List ℕ) → length file ≤ header_length → entries_of file ≡ []
unfolding entries_of
entries_of-short file short = ap (filter is_entry) (records_of-short file short)
