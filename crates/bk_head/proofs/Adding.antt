-- Adding pairs to a map one by one, and the first that cannot be added.
use Rattle.std.proofs.Common.{◌≡◌, ℕ, ◌+◌, ◌-◌, ◌*◌, ◌≤◌, List, [], ◌∷◌, ◌++◌, length, take, drop, Option, Some, None}
use Rattle.std.proofs.Common.{refl, sym, ap, subst, ap₂, ◌∙◌, append_assoc, arith}
use Rattle.std.specs.Prelude.{IsSome}
use Rattle.std.specs.Int.{w64, from_be_bytes}
use Rattle.std.specs.Ordering.{nat_cmp}
use Rattle.std.specs.Cmp.{nat_cmp_total}
use Rattle.std.specs.List.{flat_map, AllByRecursion}
use Rattle.std.specs.FinMap as ledgers
use Rattle.std.specs.FinMap.{find}
use Rattle.std.proofs.lemmas.List.{length-append, length-take, length-drop, take-append-drop, drop-drop, take_at, take-take, drop-take, append-nil}
use Rattle.byteorder.specs.Endian.{big_number}
use Rattle.bk_record.specs.Files.{In}
use Rattle.bk_record.proofs.Records.{bytes_drop}
use Rattle.bk_head.specs.declared.fault.HeadFault.{HeadFault}
use Rattle.bk_head.specs.declared.fault.HeadFault.TheVariants.{BadMagic, Version, Negative, NotAMap, MapLength, Repeated, CountDiffers, Memory}
use Rattle.bk_head.specs.Ledgers.{LedgersMap, pair_bytes, IsPair, ledgers_of, AreDistinct}
use Rattle.bk_head.specs.Faults.{ReachesPair, ReachesNew, PairFault, OrMemory}
use Rattle.bk_head.specs.Parts.{AddsPairs, PairRefusal}
use Rattle.bk_record.specs.Spelling.{IsBytes}
use Rattle.bk_head.proofs.Bytes.{big_number-8, from_be_bytes-take-8}
use Rattle.bk_head.proofs.Distinct.{AreDistinct-push, ledgers_of-append, In-from_find, find_none}
use Rattle.bk_head.proofs.Pairs.{IsNumbers, pair_at, pair_at-is, flat_map-append, spelled}

-- a longer prefix, in two parts
pub take-more : (n m : ℕ) (bytes : List ℕ) → n + m ≤ length bytes → take (n + m) bytes ≡ take n bytes ++ take m (drop n bytes)
take-more n m bytes long =
    ap (take (n + m)) (sym (take-append-drop n bytes) ∙ ap (λ (x : List ℕ). take n bytes ++ x) (sym (take-append-drop m (drop n bytes)))
    ∙ sym (append_assoc (take n bytes) (take m (drop n bytes)) (drop m (drop n bytes))))
    ∙ take_at (take n bytes ++ take m (drop n bytes)) (drop m (drop n bytes)) (n + m)
    (omega (arith, length-append (take n bytes) (take m (drop n bytes)), length-take n bytes, length-take m (drop n bytes), length-drop n bytes))

number_in : (bytes : List ℕ) → from_be_bytes w64 (take 16 bytes) ≡ from_be_bytes w64 bytes
number_in bytes = sym (from_be_bytes-take-8 (take 16 bytes)) ∙ ap (from_be_bytes w64) (take-take 8 16 bytes (omega arith)) ∙ from_be_bytes-take-8 bytes

-- the pair that the code reads at a position
pub pair_read : (at : ℕ) (bytes pair : List ℕ) (ledger size : ℕ) → IsBytes bytes → at + 16 ≤ length bytes → pair ≡ take (at + 16 - at) (drop at bytes)
    → ledger ≡ big_number 8 pair → size ≡ big_number 8 (take (length pair - 8) (drop 8 pair)) → (pair_bytes (ledger, size) ≡ take 16 (drop at bytes))
    × IsNumbers (ledger, size)
pair_read at bytes pair ledger size each long is is-ledger is-size =
    let rest = drop at bytes in
    let whole = pair_at-is rest (bytes_drop at bytes each) (omega (arith, length-drop at bytes)) in
    let sixteen : at + 16 - at ≡ 16 = omega arith in
    let pair-is : pair ≡ take 16 rest = is ∙ ap (λ n. take n rest) sixteen in
    let size-of : length pair - 8 ≡ 8 = omega (arith, ap length pair-is, length-take 16 rest, length-drop at bytes) in
    let ledger-is : ledger ≡ from_be_bytes w64 rest = is-ledger ∙ ap (big_number 8) pair-is ∙ big_number-8 (take 16 rest) ∙ number_in rest in
    let behind : take (length pair - 8) (drop 8 pair) ≡ take 8 (take 8 (drop 8 rest)) =
    ap (λ n. take n (drop 8 pair)) size-of ∙ ap (λ (x : List ℕ). take 8 (drop 8 x)) pair-is ∙ ap (take 8) (drop-take 8 8 rest) in
    let size-is : size ≡ from_be_bytes w64 (drop 8 rest) =
    is-size ∙ ap (big_number 8) behind ∙ big_number-8 (take 8 (take 8 (drop 8 rest))) ∙ from_be_bytes-take-8 (take 8 (drop 8 rest))
    ∙ from_be_bytes-take-8 (drop 8 rest) in
    let same : ◌≡◌ {A = ℕ × ℕ} (ledger, size) (pair_at rest) = λ i. (ledger-is i, size-is i) in
    (ap pair_bytes same ∙ whole.0, subst IsNumbers (sym same) whole.1)

each-append : (P : ℕ × ℕ → Type 0) (ps qs : List (ℕ × ℕ)) → AllByRecursion P ps → AllByRecursion P qs → AllByRecursion P (ps ++ qs)
each-append P [] qs a b = b
each-append P (p ∷ ps) qs a b = (a.0, each-append P ps qs a.1 b)

pub numbers_of : (ps : List (ℕ × ℕ)) → AllByRecursion IsPair ps → AllByRecursion IsNumbers ps
numbers_of [] h = tt
numbers_of (p ∷ ps) h = ((omega (arith, h.0.0), omega (arith, h.0.1)), numbers_of ps h.1)

-- a ledger that the map does not have is not among its pairs
found_in : (pairs : List (ℕ × ℕ)) (m : LedgersMap) (ledger : ℕ) → m ≡ ledgers.from_entries pairs → ledgers.get m ledger ≡ find nat_cmp ledger pairs
found_in pairs m ledger is = ap (λ (x : LedgersMap). ledgers.get x ledger) is ∙ ledgers.get-from_entries nat_cmp_total pairs ledger

-- adding one more pair, with a new ledger
pub adds_more : (before : List (ℕ × ℕ)) (at : ℕ) (bytes : List ℕ) (m n : LedgersMap) (p : ℕ × ℕ) → at + 16 ≤ length bytes → pair_bytes p
    ≡ take 16 (drop at bytes)
    → AddsPairs before (take at bytes) m → IsPair p → ledgers.get m p.0 ≡ None → n ≡ ledgers.insert m p.0 p.1 → AddsPairs before (take (at + 16) bytes) n
adds_more before at bytes m n p long is a good new added =
    let none : find nat_cmp p.0 (before ++ a.good) ≡ None = sym (found_in (before ++ a.good) m p.0 a.map_is) ∙ new in
    let joined : (before ++ a.good) ++ p ∷ [] ≡ before ++ (a.good ++ p ∷ []) = append_assoc before a.good (p ∷ []) in
    let one : flat_map pair_bytes (p ∷ []) ≡ pair_bytes p = append-nil (pair_bytes p) in
    let fresh : AreDistinct (ledgers_of (before ++ a.good) ++ p.0 ∷ []) = AreDistinct-push (ledgers_of (before ++ a.good)) p.0 a.distinct
    (find_none p.0 (before ++ a.good) none) in
    record {
      good = a.good ++ p ∷ [];
      bytes_are = take-more at 16 bytes long ∙ ap (λ (x : List ℕ). x ++ take 16 (drop at bytes)) a.bytes_are
          ∙ ap (λ (x : List ℕ). flat_map pair_bytes a.good ++ x) (sym is ∙ sym one) ∙ sym (flat_map-append a.good (p ∷ []));
      each = each-append IsPair a.good (p ∷ []) a.each (good, tt);
      distinct = subst AreDistinct (sym (ledgers_of-append (before ++ a.good) (p ∷ [])) ∙ ap ledgers_of joined) fresh;
      map_is = added ∙ ap (λ (x : LedgersMap). ledgers.insert x p.0 p.1) a.map_is
          ∙ sym (ledgers.from_entries_push nat_cmp_total ledgers.nat_cmp-IsAntisymmetric (before ++ a.good) p.0 p.1 none)
          ∙ ap (λ (x : List (ℕ × ℕ)). ledgers.from_entries {R = nat_cmp} x) joined;
    }

some_of : (o : Option ℕ) → IsSome o → (v : ℕ) × (o ≡ Some v)
some_of None h = absurd cc
some_of (Some v) h = (v, refl)

reaches : (before : List (ℕ × ℕ)) (at left : ℕ) (bytes : List ℕ) (m : LedgersMap) (p : ℕ × ℕ) → IsBytes bytes → at + 16 + 16 * left ≡ length bytes
    → pair_bytes p ≡ take 16 (drop at bytes) → IsNumbers p → (a : AddsPairs before (take at bytes) m) → ReachesPair before bytes a.good p
reaches before at left bytes m p each long is numbers a =
    let rest = spelled left (drop (at + 16) bytes) (bytes_drop (at + 16) bytes each) (omega (arith, length-drop (at + 16) bytes)) in
    record {
      later = rest.pairs;
      bytes_are = sym (take-append-drop at bytes) ∙ ap (λ (x : List ℕ). x ++ drop at bytes) a.bytes_are
          ∙ ap (λ (x : List ℕ). flat_map pair_bytes a.good ++ x) (sym (take-append-drop 16 (drop at bytes))
          ∙ ap (λ (x : List ℕ). x ++ drop 16 (drop at bytes)) (sym is)
          ∙ ap (λ (x : List ℕ). pair_bytes p ++ x) (drop-drop 16 at bytes ∙ rest.bytes_are))
          ∙ sym (flat_map-append a.good (p ∷ rest.pairs));
      numbers = each-append IsNumbers a.good (p ∷ rest.pairs) (numbers_of a.good a.each) (numbers, rest.numbers);
      each = a.each;
      distinct = a.distinct;
    }

-- a pair that cannot be added is the first such one
pub refused : (before : List (ℕ × ℕ)) (at left : ℕ) (bytes : List ℕ) (m : LedgersMap) (p : ℕ × ℕ) (fault : HeadFault) → IsBytes bytes
    → at + 16 + 16 * left ≡ length bytes
    → pair_bytes p ≡ take 16 (drop at bytes) → IsNumbers p → AddsPairs before (take at bytes) m
    → OrMemory fault (IsPair p × (ledgers.get m p.0 ≡ None)) (PairRefusal m p fault) → OrMemory fault (ReachesNew before bytes) (PairFault before bytes fault)
refused before at left bytes m p Memory each long is numbers a h =
    let new = find_none p.0 (before ++ a.good) (sym (found_in (before ++ a.good) m p.0 a.map_is) ∙ h.1) in
    (a.good, (p, (reaches before at left bytes m p each long is numbers a, (h.0, new))))
refused before at left bytes m p Negative each long is numbers a h = (a.good, (p, (reaches before at left bytes m p each long is numbers a, h)))
refused before at left bytes m p (Repeated ledger) each long is numbers a h =
    let found = some_of (ledgers.get m p.0) h.1.1 in
    let among : In p.0 (ledgers_of (before ++ a.good)) = In-from_find p.0 (before ++ a.good) found.0
    (sym (found_in (before ++ a.good) m p.0 a.map_is) ∙ found.1) in
    let Stands : ℕ → Type 0 = λ l. ReachesPair before bytes a.good (l, p.1) × (IsPair (l, p.1) × In l (ledgers_of (before ++ a.good))) in
    (a.good, (p.1, subst Stands (sym h.0) (reaches before at left bytes m p each long is numbers a, (h.1.0, among))))
refused before at left bytes m p BadMagic each long is numbers a h = h
refused before at left bytes m p (Version version) each long is numbers a h = h
refused before at left bytes m p (NotAMap place) each long is numbers a h = h
refused before at left bytes m p (MapLength place) each long is numbers a h = h
refused before at left bytes m p (CountDiffers found) each long is numbers a h = h

-- adding more pairs after those that were added
pub adds_then : (before : List (ℕ × ℕ)) (bytes piece : List ℕ) (m n : LedgersMap) → (a : AddsPairs before bytes m) → AddsPairs (before ++ a.good) piece n
    → AddsPairs before (bytes ++ piece) n
adds_then before bytes piece m n a b =
    let joined : (before ++ a.good) ++ b.good ≡ before ++ (a.good ++ b.good) = append_assoc before a.good b.good in
    record {
      good = a.good ++ b.good;
      bytes_are = ap₂ (λ (x y : List ℕ). x ++ y) a.bytes_are b.bytes_are ∙ sym (flat_map-append a.good b.good);
      each = each-append IsPair a.good b.good a.each b.each;
      distinct = subst (λ (ps : List (ℕ × ℕ)). AreDistinct (ledgers_of ps)) joined b.distinct;
      map_is = b.map_is ∙ ap (λ (ps : List (ℕ × ℕ)). ledgers.from_entries ps) joined;
    }
