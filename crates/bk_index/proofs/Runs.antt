-- Runs of keys: a run of one key more ends with that key.
use Rattle.std.proofs.Common.{◌≡◌, ℕ, zero, suc, ◌+◌, ◌-◌, ◌*◌, ◌<◌, ◌≤◌, ◌^◌, ap, ◌∙◌, arith}
use Rattle.std.specs.FinMap as map
use Rattle.std.proofs.Math.Nat.{mul-le-mul_right, add-mul}
use Rattle.bk_record.specs.Key.{EntryKey}
use Rattle.bk_record.specs.Location.{Place}
use Rattle.bk_record.specs.Keyed.{Places}
use Rattle.bk_index.specs.Runs.{key_behind, place_behind, with_run, key_of_run, place_of_run}

one_more : (index : Places) (key : EntryKey) (place : Place) (size done : ℕ)
    → with_run index key place size (suc done) ≡ map.insert (with_run index key place size done) (key_of_run key done) (place_of_run place size done)
one_more index key place size zero =
    let entry : key.entry ≡ key.entry + 0 = omega arith in
    let at : place.at ≡ place.at + 0 * size = omega arith in
    (λ i. map.insert index (record { ledger = key.ledger; entry = entry i }) (record { log = place.log; at = at i }))
one_more index key place size (suc done) =
    let entry : (key.entry + 1) + done ≡ key.entry + suc done = omega arith in
    let at : (place.at + size) + done * size ≡ place.at + suc done * size = omega arith in
    one_more (map.insert index key place) (key_behind key) (place_behind place size) size done
    ∙ (λ i. map.insert (with_run index key place size (suc done)) (record { ledger = key.ledger; entry = entry i }) (record { log = place.log; at = at i }))

pub with_one_more : (index : Places) (key : EntryKey) (place : Place) (size done : ℕ)
    → with_run index key place size (done + 1) ≡ map.insert (with_run index key place size done) (key_of_run key done) (place_of_run place size done)
with_one_more index key place size done =
    let next : done + 1 ≡ suc done = omega arith in
    ap (with_run index key place size) next ∙ one_more index key place size done

-- the position of a key of the run
pub at_of_run : (at size count done : ℕ) → done < count → at + count * size < 2 ^ 32 + size → at + done * size < 2 ^ 32
at_of_run at size count done less bound =
    let more : suc done * size ≤ count * size = mul-le-mul_right size (omega (arith, less)) in
    omega (arith, more, bound)

-- a run after the first keys of a run: together they are a run
pub with_more : (index : Places) (key : EntryKey) (place : Place) (size done n : ℕ)
    → with_run (with_run index key place size done) (key_of_run key done) (place_of_run place size done) size n ≡ with_run index key place size (done + n)
with_more index key place size zero n =
    let all : n ≡ 0 + n = omega arith in
    let entry : key.entry + 0 ≡ key.entry = omega arith in
    let at : place.at + 0 * size ≡ place.at = omega arith in
    (λ i. with_run index (record { ledger = key.ledger; entry = entry i }) (record { log = place.log; at = at i }) size (all i))
with_more index key place size (suc done) n =
    let all : suc (done + n) ≡ suc done + n = omega arith in
    let entry : key.entry + suc done ≡ (key.entry + 1) + done = omega arith in
    let at : place.at + suc done * size ≡ (place.at + size) + done * size = omega arith in
    (λ i. with_run (with_run index key place size (suc done)) (record { ledger = key.ledger; entry = entry i }) (record { log = place.log; at = at i }) size n)
    ∙ with_more (map.insert index key place) (key_behind key) (place_behind place size) size done n
    ∙ ap (with_run index key place size) all

-- the positions of the keys that are left
pub at_of_rest : (at size count done : ℕ) → done ≤ count → at + count * size < 2 ^ 32 + size → (at + done * size) + (count - done) * size < 2 ^ 32 + size
at_of_rest at size count done order bound =
    let parts : done + (count - done) ≡ count = omega arith in
    omega (arith, bound, add-mul done (count - done) size, ap (λ n. n * size) parts)

-- the positions of fewer keys
pub at_of_fewer : (at size count n : ℕ) → n ≤ count → at + count * size < 2 ^ 32 + size → at + n * size < 2 ^ 32 + size
at_of_fewer at size count n order bound =
    let less : n * size ≤ count * size = mul-le-mul_right size order in
    omega (arith, less, bound)
