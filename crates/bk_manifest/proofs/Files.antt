-- A manifest that was written is read.
use Rattle.std.proofs.Common.{◌≡◌, ℕ, ◌+◌, ◌-◌, ◌^◌, ◌<◌, ◌≤◌, Bool, true, false, not, cond, eqb, ltb, List, [], ◌++◌, length, take, drop, Result, Ok, Err, refl, sym, ap, subst, ◌∙◌, append_assoc, arith}
use Rattle.std.specs.Int.{w32, w64, from_be_bytes}
use Rattle.std.specs.List.{AllByRecursion}
use Rattle.std.proofs.lemmas.Bool.{le-ltb, eq-eqb}
use Rattle.std.proofs.lemmas.List.{length-append}
use Rattle.bk_manifest.specs.declared.fault.Fault.{Fault}
use Rattle.bk_manifest.specs.declared.fault.Fault.TheVariants.{Short, BadMagic, Version, BadGeneration}
use Rattle.bk_manifest.specs.Checksum.{crc32c}
use Rattle.bk_manifest.specs.Fact.{Fact, AreFacts}
use Rattle.bk_manifest.specs.Batch.{batches_from, found_from}
use Rattle.bk_manifest.specs.File.{magic, front_of, header_of, written, generation_of, content_of, all_facts, IsEnd}
use Rattle.bk_manifest.proofs.Checksums.{crc32c_low}
use Rattle.bk_manifest.proofs.ReadFields.{wide32, wide64}
use Rattle.bk_manifest.proofs.Loops.{BatchesLeft, batches_begin}
use Rattle.bk_manifest.proofs.Batches.{all_batches, ended}

abbrev tested : Bool → Bool → Bool → Bool → Fault → Fault → Fault → Fault → ℕ → Result ℕ Fault
tested short right version fits a b d e n = cond short (Err a) (cond (not right) (Err b) (cond (not version) (Err d) (cond fits (Ok n) (Err e))))

ok_by : (short right version fits : Bool) (a b d e : Fault) (n : ℕ) → short ≡ false → right ≡ true → version ≡ true → fits ≡ true
    → tested short right version fits a b d e n ≡ Ok n
ok_by short right version fits a b d e n p q r s = rw (p, q, r, s) refl

abbrev okay : ℕ → Result ℕ Fault
okay n = Ok n

pub length-header : (generation : ℕ) → length (header_of generation) ≡ 24
unfolding header_of front_of
length-header generation = refl

pub header_again : (generation : ℕ) (rest : List ℕ) → generation < 2 ^ 64 → generation_of (header_of generation ++ rest) ≡ Ok generation
unfolding generation_of header_of front_of
header_again generation rest small =
    let file : List ℕ = header_of generation ++ rest in
    ok_by (ltb (length file) 24) (eqb (from_be_bytes w64 file) magic) (eqb (from_be_bytes w32 (drop 8 file)) 1)
    (eqb (crc32c (take 20 file)) (from_be_bytes w32 (drop 20 file))) (Short (length file)) BadMagic (Version (from_be_bytes w32 (drop 8 file))) BadGeneration
    (from_be_bytes w64 (drop 12 file)) (le-ltb _ _ (omega arith)) refl refl
    (eq-eqb _ _ (sym (wide32.again (crc32c (front_of generation)) (crc32c_low (front_of generation)))))
    ∙ ap okay (wide64.again generation small)

-- what is found in a file that was written
pub found_again : (generation : ℕ) (batches : List (List Fact)) (file rest : List ℕ) → AllByRecursion AreFacts batches
    → file ≡ written generation batches ++ rest → IsEnd generation file (length (written generation batches))
    → found_from (length file) generation file 24 ≡ Ok (all_facts batches, length (written generation batches))
found_again generation batches file rest legal file_is ends =
    let parts : file ≡ header_of generation ++ (batches_from generation 24 batches ++ rest) =
    file_is ∙ append_assoc (header_of generation) (batches_from generation 24 batches) rest in
    let size : length file ≡ length (written generation batches) + length rest = ap length file_is ∙ length-append (written generation batches) rest in
    let stop : 24 + length (batches_from generation 24 batches) ≡ length (written generation batches) =
    omega (arith, length-append (header_of generation) (batches_from generation 24 batches), length-header generation) in
    let long : 24 ≤ length file = omega (arith, size, stop) in
    let left = all_batches batches generation file (header_of generation) rest [] 24 (found_from (length file) generation file 24) legal parts (length-header generation)
    (batches_begin generation file long) in
    let there = subst (λ (n : ℕ). BatchesLeft generation file (all_facts batches) n (found_from (length file) generation file 24)) stop left in
    ended generation file (all_facts batches) (length (written generation batches)) (found_from (length file) generation file 24) (omega (arith, size)) ends there

pub content_again : (generation : ℕ) (batches : List (List Fact)) (file rest : List ℕ) → AllByRecursion AreFacts batches → generation < 2 ^ 64
    → file ≡ written generation batches ++ rest → IsEnd generation file (length (written generation batches))
    → content_of file ≡ Ok (record { generation = generation; facts = all_facts batches; stop = length (written generation batches); torn = length rest })
unfolding content_of
content_again generation batches file rest legal small file_is ends =
    let parts : file ≡ header_of generation ++ (batches_from generation 24 batches ++ rest) =
    file_is ∙ append_assoc (header_of generation) (batches_from generation 24 batches) rest in
    let header : generation_of file ≡ Ok generation = ap generation_of parts ∙ header_again generation (batches_from generation 24 batches ++ rest) small in
    let found = found_again generation batches file rest legal file_is ends in
    let torn : length file - length (written generation batches) ≡ length rest =
    omega (arith, ap length file_is, length-append (written generation batches) rest) in
    rw (header, found, torn) refl
