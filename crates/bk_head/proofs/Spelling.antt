-- The written form of a map: its length, and that it parses as the map.
use Rattle.std.proofs.Common.{◌≡◌, ℕ, zero, suc, ◌+◌, ◌-◌, ◌*◌, ◌<◌, ◌≤◌, min, Bool, true, false, cond, ◌&&◌, T, List, [], ◌∷◌, ◌++◌, length, take, drop}
use Rattle.std.proofs.Common.{Some, inl, inr, refl, sym, ap, subst, ◌∙◌, arith}
use Rattle.std.specs.Int.{div_ceil}
use Rattle.std.specs.List.{flat_map, AllByRecursion}
use Rattle.std.specs.Ordering.{nat_cmp, eq_by_cmp, is_lt}
use Rattle.std.specs.Cmp.{nat_cmp_total, Equal-is}
use Rattle.std.specs.FinMap as ledgers
use Rattle.std.specs.FinMap.{find, is_sorted}
use Rattle.std.specs.FinMap.Entries.{below_all}
use Rattle.std.proofs.lemmas.Bool.{cases_lt, cases_Bool}
use Rattle.std.proofs.lemmas.List.{length-append, length-take, length-drop, take-append-drop}
use Rattle.bk_record.specs.Record.{IsPayload}
use Rattle.bk_record.specs.Files.{In}
use Rattle.bk_record.proofs.Records.{length-record_of}
use Rattle.bk_head.specs.Ledgers.{LedgersMap, pair_bytes, batch_payload, batch_of, IsPair, Batches, ledgers_of, AreDistinct, SpellsMap}
use Rattle.bk_head.specs.Written.{batch_pairs, batches_in, written_pairs, written_map, IsWritable}
use Rattle.bk_head.proofs.Distinct.{In-from_find, tied, tied_itself}
use Rattle.bk_head.proofs.Pairs.{length-pairs}
use Rattle.bk_head.proofs.Batching.{length-payload, batches_at}

-- ---- cutting

-- any two bounds that are at least the number of pairs give the same batches
cut_alike : (m n : ℕ) (ps : List (ℕ × ℕ)) → length ps ≤ m → length ps ≤ n → batches_in m ps ≡ batches_in n ps
cut_alike zero zero ps a b = refl
cut_alike zero (suc n) [] a b = refl
cut_alike (suc m) zero [] a b = refl
cut_alike (suc m) (suc n) [] a b = refl
cut_alike zero (suc n) (p ∷ ps) a b = absurd (omega arith)
cut_alike (suc m) zero (p ∷ ps) a b = absurd (omega arith)
cut_alike (suc m) (suc n) (p ∷ ps) a b =
    ap (λ (x : List (List (ℕ × ℕ))). take batch_pairs (p ∷ ps) ∷ x)
    (cut_alike m n (drop batch_pairs (p ∷ ps)) (omega (arith, length-drop batch_pairs (p ∷ ps))) (omega (arith, length-drop batch_pairs (p ∷ ps))))

-- the first batch, and those of the other pairs
pub written_pairs-cons : (p : ℕ × ℕ) (ps : List (ℕ × ℕ)) → written_pairs (p ∷ ps)
    ≡ batch_of (take batch_pairs (p ∷ ps)) ++ written_pairs (drop batch_pairs (p ∷ ps))
unfolding written_pairs
written_pairs-cons p ps =
    ap (λ (x : List (List (ℕ × ℕ))). batch_of (take batch_pairs (p ∷ ps)) ++ flat_map batch_of x)
    (cut_alike (length ps) (length (drop batch_pairs (p ∷ ps))) (drop batch_pairs (p ∷ ps)) (omega (arith, length-drop batch_pairs (p ∷ ps))) (omega arith))

pub written_pairs-nil : written_pairs [] ≡ []
unfolding written_pairs
written_pairs-nil = refl

-- ---- lengths

pub length-batch_payload : (ps : List (ℕ × ℕ)) → length (batch_payload ps) ≡ 20 + 16 * length ps
unfolding batch_payload
length-batch_payload ps = omega (arith, length-payload (length ps) (flat_map pair_bytes ps), length-pairs ps)

length-batch_of : (ps : List (ℕ × ℕ)) → length (batch_of ps) ≡ 24 + 16 * length ps
length-batch_of ps = omega (arith, length-record_of (batch_payload ps), length-batch_payload ps)

ceil_small : (n : ℕ) → 0 < n → n ≤ 10000 → div_ceil n 10000 ≡ 1
ceil_small n some few = omega arith

ceil_large : (n k : ℕ) → n ≡ 10000 + k → div_ceil n 10000 ≡ 1 + div_ceil k 10000
ceil_large n k e = omega arith

-- length: 24 bytes per batch, 16 per pair
length-written_up_to : (m : ℕ) (ps : List (ℕ × ℕ)) → length ps ≤ m → length (written_pairs ps) ≡ 24 * div_ceil (length ps) batch_pairs + 16 * length ps
length-written_up_to m [] few = ap length written_pairs-nil
length-written_up_to zero (p ∷ ps) few = absurd (omega arith)
length-written_up_to (suc m) (p ∷ ps) few =
    let rest = drop batch_pairs (p ∷ ps) in
    let left : length rest ≡ length (p ∷ ps) - batch_pairs = length-drop batch_pairs (p ∷ ps) in
    let front : length (take batch_pairs (p ∷ ps)) ≡ min batch_pairs (length (p ∷ ps)) = length-take batch_pairs (p ∷ ps) in
    let deep = length-written_up_to m rest (omega (arith, left)) in
    let whole : length (written_pairs (p ∷ ps))
    ≡ (24 + 16 * length (take batch_pairs (p ∷ ps))) + (24 * div_ceil (length rest) batch_pairs + 16 * length rest) =
    ap length (written_pairs-cons p ps) ∙ length-append (batch_of (take batch_pairs (p ∷ ps))) (written_pairs rest)
    ∙ ap (λ n. n + length (written_pairs rest)) (length-batch_of (take batch_pairs (p ∷ ps)))
    ∙ ap (λ n. (24 + 16 * length (take batch_pairs (p ∷ ps))) + n) deep in
    elim (cases_lt batch_pairs (length (p ∷ ps))) [
      | inl many ↦ omega (arith, whole, left, front, ceil_large (length (p ∷ ps)) (length rest) (omega (arith, left)))
      | inr few' ↦ omega (arith, whole, left, front, ceil_small (length (p ∷ ps)) (omega arith) few')
    ]

pub length-written_pairs : (ps : List (ℕ × ℕ)) → length (written_pairs ps) ≡ 24 * div_ceil (length ps) batch_pairs + 16 * length ps
length-written_pairs ps = length-written_up_to (length ps) ps (omega arith)

-- ---- the written form parses as the map

each-take : (n : ℕ) (ps : List (ℕ × ℕ)) → AllByRecursion IsPair ps → AllByRecursion IsPair (take n ps)
each-take zero ps h = tt
each-take (suc n) [] h = tt
each-take (suc n) (p ∷ ps) h = (h.0, each-take n ps h.1)

each-drop : (n : ℕ) (ps : List (ℕ × ℕ)) → AllByRecursion IsPair ps → AllByRecursion IsPair (drop n ps)
each-drop zero ps h = h
each-drop (suc n) [] h = tt
each-drop (suc n) (p ∷ ps) h = each-drop n ps h.1

written_up_to : (m : ℕ) (ps : List (ℕ × ℕ)) → length ps ≤ m → AllByRecursion IsPair ps → Batches (written_pairs ps) ps
written_up_to m [] few each = batches_at [] _ [] [] (sym written_pairs-nil) refl Batches.none
written_up_to zero (p ∷ ps) few each = absurd (omega arith)
written_up_to (suc m) (p ∷ ps) few each =
    let front = take batch_pairs (p ∷ ps) in
    let rest = drop batch_pairs (p ∷ ps) in
    let fits : IsPayload (batch_payload front) =
    (omega (arith, length-batch_payload front), omega (arith, length-batch_payload front, length-take batch_pairs (p ∷ ps))) in
    let deep = written_up_to m rest (omega (arith, length-drop batch_pairs (p ∷ ps))) (each-drop batch_pairs (p ∷ ps) each) in
    batches_at _ _ _ _ (sym (written_pairs-cons p ps)) (take-append-drop batch_pairs (p ∷ ps))
    (Batches.more {pairs = front} {others = rest} {behind = written_pairs rest} (record { fits = fits; each = each-take batch_pairs (p ∷ ps) each }) deep)

-- ---- entries of a finite map

T_both : (a b : Bool) → T (a && b) → T a × T b
T_both true b h = (tt, h)
T_both false b h = absurd h

not_below_itself : (x y : ℕ) → y ≡ x → T (is_lt (nat_cmp x y)) → ⊥
not_below_itself x y e h = subst (λ r. T (is_lt r)) ((Equal-is (nat_cmp x y)).0 (tied_itself x y e)) h

below_apart : (x : ℕ) (es : List (ℕ × ℕ)) → T (below_all nat_cmp x es) → ¬ (In x (ledgers_of es))
below_apart x [] h = λ k. k
below_apart x (e ∷ es) h = λ k. elim k [
  | inl same ↦ not_below_itself x e.0 same (T_both (is_lt (nat_cmp x e.0)) (below_all nat_cmp x es) h).0
  | inr among ↦ below_apart x es (T_both (is_lt (nat_cmp x e.0)) (below_all nat_cmp x es) h).1 among
]

sorted_distinct : (es : List (ℕ × ℕ)) → T (is_sorted nat_cmp es) → AreDistinct (ledgers_of es)
sorted_distinct [] h = tt
sorted_distinct (e ∷ es) h =
    let parts = T_both (below_all nat_cmp e.0 es) (is_sorted nat_cmp es) h in
    (below_apart e.0 es parts.0, sorted_distinct es parts.1)

-- a property of every ledger that is found holds of every pair
each_found : (es : List (ℕ × ℕ)) → AreDistinct (ledgers_of es) → ((ledger size : ℕ) → find nat_cmp ledger es ≡ Some size → IsPair (ledger, size))
    → AllByRecursion IsPair es
each_found [] d h = tt
each_found (e ∷ es) d h = (
  h e.0 e.1 (ap (λ b. cond b (Some e.1) (find nat_cmp e.0 es)) (tied_itself e.0 e.0 refl)),
  each_found es d.1 (λ ledger size found. h ledger size (elim (cases_Bool (eq_by_cmp nat_cmp ledger e.0)) [
    | inl same ↦ absurd (d.0 (subst (λ q. In q (ledgers_of es)) (tied ledger e.0 same) (In-from_find ledger es size found)))
    | inr other ↦ ap (λ b. cond b (Some e.1) (find nat_cmp ledger es)) other ∙ found
  ])),
)

pub written_spells : (m : LedgersMap) → IsWritable m → SpellsMap (written_map m) m
written_spells m w =
    let es = ledgers.entries m in
    let distinct = sorted_distinct es (ledgers.entries_sorted m) in
    let each = each_found es distinct (λ ledger size found. w.each ledger size (ledgers.get-entries m ledger ∙ found)) in
    record {
      pairs = es;
      spelled = written_up_to (length es) es (omega arith) each;
      distinct = distinct;
      map_is = ledgers.same_map nat_cmp_total ledgers.nat_cmp-IsAntisymmetric m (ledgers.from_entries es)
          (λ q. ledgers.get-entries m q ∙ sym (ledgers.get-from_entries nat_cmp_total es q));
    }
