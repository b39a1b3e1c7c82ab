-- Bytes of pairs: they parse as one list of pairs, 16 bytes each.
use Rattle.std.proofs.Common.{◌≡◌, ℕ, zero, suc, ◌*◌, ◌^◌, ◌<◌, ◌≤◌, List, [], ◌∷◌, ◌++◌, length, take, drop, refl, sym, ap, ◌∙◌, append_assoc, arith}
use Rattle.std.specs.Int.{w64, to_be_bytes, from_be_bytes}
use Rattle.std.specs.List.{flat_map, AllByRecursion}
use Rattle.std.proofs.lemmas.List.{length-append, length-take, length-drop, take-append-drop, take_at, drop_at, nil_from_length}
use Rattle.bk_record.proofs.Records.{bytes_drop}
use Rattle.bk_head.specs.Ledgers.{pair_bytes}
use Rattle.bk_record.specs.Spelling.{IsBytes}
use Rattle.bk_head.proofs.Bytes.{front_8, below_8, again_8}

-- both numbers are below 2 ^ 64
abbrev pub IsNumbers : ℕ × ℕ → Type 0
IsNumbers p = (p.0 < 2 ^ 64) × (p.1 < 2 ^ 64)

pub length-pair_bytes : (p : ℕ × ℕ) → length (pair_bytes p) ≡ 16
unfolding pair_bytes
length-pair_bytes p = refl

pub length-pairs : (ps : List (ℕ × ℕ)) → length (flat_map pair_bytes ps) ≡ 16 * length ps
length-pairs [] = refl
length-pairs (p ∷ ps) = omega (arith, length-append (pair_bytes p) (flat_map pair_bytes ps), length-pair_bytes p, length-pairs ps)

pub flat_map-append : (ps qs : List (ℕ × ℕ)) → flat_map pair_bytes (ps ++ qs) ≡ flat_map pair_bytes ps ++ flat_map pair_bytes qs
flat_map-append [] qs = refl
flat_map-append (p ∷ ps) qs = ap (λ (x : List ℕ). pair_bytes p ++ x) (flat_map-append ps qs)
    ∙ sym (append_assoc (pair_bytes p) (flat_map pair_bytes ps) (flat_map pair_bytes qs))

-- ---- one pair

-- the pair that the first sixteen bytes encode
abbrev pub pair_at : List ℕ → ℕ × ℕ
pair_at bytes = (from_be_bytes w64 bytes, from_be_bytes w64 (drop 8 bytes))

pub pair_at-is : (bytes : List ℕ) → IsBytes bytes → 16 ≤ length bytes → (pair_bytes (pair_at bytes) ≡ take 16 bytes) × IsNumbers (pair_at bytes)
unfolding pair_bytes
pair_at-is bytes each long =
    let first = front_8 bytes each (omega arith) in
    let second = front_8 (drop 8 bytes) (bytes_drop 8 bytes each) (omega (arith, length-drop 8 bytes)) in
    let whole : to_be_bytes w64 (from_be_bytes w64 bytes) ++ to_be_bytes w64 (from_be_bytes w64 (drop 8 bytes)) ≡ take 8 bytes ++ take 8 (drop 8 bytes) =
    ap (λ (x : List ℕ). x ++ to_be_bytes w64 (from_be_bytes w64 (drop 8 bytes))) first ∙ ap (λ (x : List ℕ). take 8 bytes ++ x) second in
    let again : take 16 bytes ≡ take 8 bytes ++ take 8 (drop 8 bytes) =
    ap (take 16) (sym (take-append-drop 8 bytes) ∙ ap (λ (x : List ℕ). take 8 bytes ++ x) (sym (take-append-drop 8 (drop 8 bytes)))
    ∙ sym (append_assoc (take 8 bytes) (take 8 (drop 8 bytes)) (drop 8 (drop 8 bytes))))
    ∙ take_at (take 8 bytes ++ take 8 (drop 8 bytes)) (drop 8 (drop 8 bytes)) 16
    (omega (arith, length-append (take 8 bytes) (take 8 (drop 8 bytes)), length-take 8 bytes, length-take 8 (drop 8 bytes), length-drop 8 bytes)) in
    (whole ∙ sym again, (below_8 bytes each, below_8 (drop 8 bytes) (bytes_drop 8 bytes each)))

pub pair_at-again : (p : ℕ × ℕ) (rest : List ℕ) → IsNumbers p → pair_at (pair_bytes p ++ rest) ≡ p
unfolding pair_bytes
pair_at-again p rest fits =
    let ledger = again_8 p.0 (to_be_bytes w64 p.1 ++ rest) fits.0 in
    let size = again_8 p.1 rest fits.1 in
    λ i. (ledger i, size i)

pub drop-pair_bytes : (p : ℕ × ℕ) (rest : List ℕ) → drop 16 (pair_bytes p ++ rest) ≡ rest
drop-pair_bytes p rest = drop_at (pair_bytes p) rest 16 (length-pair_bytes p)

-- ---- many

-- the pairs that 16 n bytes encode
pub record IsSpelled (bytes : List ℕ) (count : ℕ) : Type 0 where
  pub pairs : List (ℕ × ℕ)
  pub bytes_are : bytes ≡ flat_map pair_bytes pairs
  pub numbers : AllByRecursion IsNumbers pairs
  pub many : length pairs ≡ count

pub spelled : (count : ℕ) (bytes : List ℕ) → IsBytes bytes → length bytes ≡ 16 * count → IsSpelled bytes count
spelled zero bytes each long = record { pairs = []; bytes_are = nil_from_length bytes (omega (arith, long)); numbers = tt; many = refl }
spelled (suc n) bytes each long =
    let first = pair_at-is bytes each (omega (arith, long)) in
    let rest = spelled n (drop 16 bytes) (bytes_drop 16 bytes each) (omega (arith, length-drop 16 bytes, long)) in
    record {
      pairs = pair_at bytes ∷ rest.pairs;
      bytes_are = sym (take-append-drop 16 bytes) ∙ ap (λ (x : List ℕ). x ++ drop 16 bytes) (sym first.0)
          ∙ ap (λ (x : List ℕ). pair_bytes (pair_at bytes) ++ x) rest.bytes_are;
      numbers = (first.1, rest.numbers);
      many = ap suc rest.many;
    }

-- equal bytes encode equal pairs
pub same_pairs : (ps qs : List (ℕ × ℕ)) → AllByRecursion IsNumbers ps → AllByRecursion IsNumbers qs → flat_map pair_bytes ps ≡ flat_map pair_bytes qs
    → ps ≡ qs
same_pairs [] [] fits-p fits-q e = refl
same_pairs [] (q ∷ qs) fits-p fits-q e = absurd (omega (arith, ap length e, length-pairs (q ∷ qs)))
same_pairs (p ∷ ps) [] fits-p fits-q e = absurd (omega (arith, ap length e, length-pairs (p ∷ ps)))
same_pairs (p ∷ ps) (q ∷ qs) fits-p fits-q e =
    let head : p ≡ q = sym (pair_at-again p (flat_map pair_bytes ps) fits-p.0) ∙ ap pair_at e ∙ pair_at-again q (flat_map pair_bytes qs) fits-q.0 in
    let tail : flat_map pair_bytes ps ≡ flat_map pair_bytes qs = sym (drop-pair_bytes p (flat_map pair_bytes ps)) ∙ ap (drop 16) e
    ∙ drop-pair_bytes q (flat_map pair_bytes qs) in
    let rest = same_pairs ps qs fits-p.1 fits-q.1 tail in
    λ i. head i ∷ rest i
