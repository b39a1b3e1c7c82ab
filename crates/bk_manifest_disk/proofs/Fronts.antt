-- First bytes of a file, and of one that goes on where it ends.
use Rattle.std.proofs.Common.{◌≡◌, ℕ, ◌+◌, ◌-◌, ◌≤◌, List, ◌++◌, length, take, drop, Option, Some, None, true, nat_le, if◌then◌else◌}
use Rattle.std.proofs.Common.{sym, ap, ◌∙◌, arith, append_assoc, length-append, length-drop, length-take}
use Rattle.std.proofs.Math.Decide.{dec_le}
use Rattle.std.proofs.Math.Seq.{take-append-add}
use Rattle.std.proofs.lemmas.Bool.{le-leb}
use Rattle.std.proofs.lemmas.List.{drop-take, take-take, take-append-drop, nil_from_length, length-take-le}
use Rattle.bk_record.specs.Files.{header_length}
use Rattle.bk_record.specs.Longer.{IsLonger}
use Rattle.bk_disk.specs.Disk.{patched_file}
use Rattle.bk_manifest_disk.specs.Limiting.{shown}

pub length-take-within : (n : ℕ) (xs : List ℕ) → length (take n xs) ≤ n
length-take-within n xs = omega (arith, length-take n xs)

-- a longer prefix of a longer list
longer_take : (n m : ℕ) (xs behind : List ℕ) → n ≤ m → (more : List ℕ) × (take m (xs ++ behind) ≡ take n xs ++ more)
longer_take n m xs behind order =
    let front = take n xs in
    let rest = m - length front in
    let within : length front ≤ n = length-take-within n xs in
    let split : xs ++ behind ≡ front ++ (drop n xs ++ behind) =
    ap (λ (l : List ℕ). l ++ behind) (sym (take-append-drop n xs)) ∙ append_assoc front (drop n xs) behind in
    let sum : m ≡ length front + rest = omega (arith, order, within) in (
      take rest (drop n xs ++ behind),
      ap (take m) split ∙ ap (λ k. take k (front ++ (drop n xs ++ behind))) sum
          ∙ take-append-add front (drop n xs ++ behind) rest,
    )

-- more bytes of a file that goes on after its header
pub longer_fronts : (n m : ℕ) (file now : List ℕ) → n ≤ m → IsLonger file now → IsLonger (take n file) (take m now)
longer_fronts n m file now order longer = elim (dec_le header_length n) [
  | yes headed ↦
      let k = n - header_length in
      let j = m - header_length in
      let more = longer_take k j (drop header_length file) longer.behind (omega (arith, order, headed)) in
      record {
        behind = more.0;
        is = ap (λ i. drop header_length (take i now)) (count m j (omega (arith, order, headed))) ∙ drop-take header_length j now ∙ ap (take j) longer.is ∙ more.1
            ∙ sym (ap (λ (l : List ℕ). l ++ more.0) (ap (λ i. drop header_length (take i file)) (count n k (omega (arith, headed))) ∙ drop-take header_length k file));
      }
  | no short ↦ record {
    behind = drop header_length (take m now);
    is = ap (λ (l : List ℕ). l ++ drop header_length (take m now))
        (sym (nil_from_length (drop header_length (take n file)) (omega (arith, short, length-drop header_length (take n file), length-take-within n file))));
  }
] where
  count : (i k : ℕ) → i ≡ header_length + k → i ≡ header_length + k
  count i k is = is

pub longer_shown : (limit : Option ℕ) (file now : List ℕ) → IsLonger file now → IsLonger (shown limit file) (shown limit now)
longer_shown None file now longer = longer
longer_shown (Some n) file now longer = longer_fronts n n file now (omega arith) longer

pub length-shown : (limit : Option ℕ) (file : List ℕ) → length (shown limit file) ≤ length file
length-shown None file = omega arith
length-shown (Some n) file = omega (arith, length-take n file)

-- a patch of the first bytes
pub patched_front : (n : ℕ) (file bytes : List ℕ) → 20 ≤ n → n ≤ length file → length bytes ≡ 12
    → take n (patched_file file bytes) ≡ patched_file (take n file) bytes
patched_front n file bytes headed within twelve =
    let k = n - 20 in
    let sum : n ≡ 20 + k = omega (arith, headed) in
    let front = take 8 file ++ bytes in
    let size : length front ≡ 20 = length-append (take 8 file) bytes ∙ omega (arith, twelve, length-take-le 8 file (omega (arith, headed, within))) in
    let long : nat_le 20 (length file) ≡ true = le-leb 20 (length file) (omega (arith, headed, within)) in
    let long' : nat_le 20 (length (take n file)) ≡ true = le-leb 20 (length (take n file)) (omega (arith, headed, length-take-le n file within)) in
    ap (λ b. take n (if b then front ++ drop 20 file else file)) long
    ∙ ap (λ i. take i (front ++ drop 20 file)) (omega (arith, sum, size))
    ∙ take-append-add front (drop 20 file) k
    ∙ (λ i. (sym (take-take 8 n file (omega (arith, headed))) i ++ bytes) ++ sym (ap (λ i. drop 20 (take i file)) sum ∙ drop-take 20 k file) i)
    ∙ sym (ap (λ b. if b then take 8 (take n file) ++ bytes ++ drop 20 (take n file) else take n file) long')
