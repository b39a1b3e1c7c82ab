-- Files that entry logs can have stay so.
use Rattle.std.proofs.Common.{get_or, Result, Ok, Err, OnOk, OnErr, Some, None, cond, ◌≡◌, ℕ, ◌+◌, ◌<◌, ◌≤◌, ◌^◌, List, [], ◌++◌, length, take, drop, sym, ◌∙◌}
use Rattle.std.proofs.Common.{subst, arith, Ordering, Less, Equal, Greater, refl}
use Rattle.std.specs.Ordering.{nat_cmp, is_eq}
use Rattle.std.specs.Cmp.{nat_cmp_total}
use Rattle.std.specs.List.{All}
use Rattle.std.specs.FinMap as files
use Rattle.std.specs.BTreeMap.{BTreeMap}
use Rattle.std.specs.BTreeMap as tree
use Rattle.std.proofs.lemmas.List.{length-append, length-take, length-drop}
use Rattle.std.proofs.lemmas.List.Elements.{All-nil, All-from_get_or, All-append, All-take, All-drop}
use Rattle.std.proofs.lemmas.Option.{same_Some}
use Rattle.bk_record.specs.Files.{Files}
use Rattle.bk_disk.specs.Disk.{IsLogFile, AreLogFiles}
use Rattle.bk_disk.specs.Logs.{files_of}
use Rattle.bk_disk.proofs.FileMaps.{files_of-insert, written}

-- no files
pub AreLogFiles-none : AreLogFiles files.empty
AreLogFiles-none = record { each = λ log file is. let none : None ≡ Some file = sym (files.get-empty nat_cmp log) ∙ is in cc }

-- one file more, or another in its stead
pub AreLogFiles-insert : (fs : Files) (log : ℕ) (file : List ℕ) → AreLogFiles fs → IsLogFile log file → AreLogFiles (files.insert fs log file)
AreLogFiles-insert fs log file all one = record {
  each = λ q found is. by_order q found (nat_cmp q log) refl
      (sym (files.get-insert nat_cmp_total fs log file q) ∙ is);
} where
  by_order : (q : ℕ) (found : List ℕ) (r : Ordering) → nat_cmp q log ≡ r → cond (is_eq r) (Some file) (files.get fs q) ≡ Some found → IsLogFile q found
  by_order q found Less e there = all.each q found there
  by_order q found Equal e there = subst (λ k. IsLogFile k found) (sym (files.nat_cmp-IsAntisymmetric q log e))
      (subst (IsLogFile log) (same_Some _ _ there) one)
  by_order q found Greater e there = all.each q found there

-- one file less
pub AreLogFiles-remove : (fs : Files) (log : ℕ) → AreLogFiles fs → AreLogFiles (files.remove fs log)
AreLogFiles-remove fs log all = record { each = λ q found is. by_order q found (nat_cmp q log) refl (sym (files.get-remove nat_cmp_total fs log q) ∙ is) } where
  by_order : (q : ℕ) (found : List ℕ) (r : Ordering) → nat_cmp q log ≡ r → cond (is_eq r) None (files.get fs q) ≡ Some found → IsLogFile q found
  by_order q found Less e there = all.each q found there
  by_order q found Equal e there = cc
  by_order q found Greater e there = all.each q found there

-- an empty file
pub IsLogFile-none : (log : ℕ) → log < 2 ^ 31 → IsLogFile log []
IsLogFile-none log low = record { id = low; size = omega arith; bytes = All-nil _ }

-- more bytes at the end of a file
pub IsLogFile-append : (log : ℕ) (file piece : List ℕ) → IsLogFile log file → All (λ b. b < 2 ^ 8) piece → length file + length piece < 2 ^ 32
    → IsLogFile log (file ++ piece)
IsLogFile-append log file piece one bytes short = record {
  id = one.id;
  size = omega (arith, length-append file piece, short);
  bytes = All-append (λ b. b < 2 ^ 8) file piece one.bytes bytes;
}

-- other bytes at 8 to 20 of a file
pub IsLogFile-patch : (log : ℕ) (file bytes : List ℕ) → IsLogFile log file → All (λ b. b < 2 ^ 8) bytes → length bytes ≡ 12 → 20 ≤ length file
    → IsLogFile log (take 8 file ++ bytes ++ drop 20 file)
IsLogFile-patch log file bytes one each twelve long = record {
  id = one.id;
  size = omega (
    arith,
    length-append (take 8 file ++ bytes) (drop 20 file),
    length-append (take 8 file) bytes,
    length-take 8 file,
    length-drop 20 file,
    twelve,
    one.size,
  );
  bytes = All-append (λ b. b < 2 ^ 8) (take 8 file ++ bytes) (drop 20 file) (All-append (λ b. b < 2 ^ 8) (take 8 file) bytes
      (All-take (λ b. b < 2 ^ 8) 8 file one.bytes) each) (All-drop (λ b. b < 2 ^ 8) 20 file one.bytes);
}

-- what a call changed or left, by its answer
pub on_answer : {X T E : Type 0} (P : X → Type 0) (now changed left : X) (result : Result T E) → OnOk result (now ≡ changed) → OnErr result (now ≡ left)
    → P changed → P left → P now
on_answer P now changed left (Ok x) ok err done kept = subst P (sym ok) done
on_answer P now changed left (Err e) ok err done kept = subst P (sym err) kept

-- a map of logs that has the same logs
pub AreLogFiles-same : (m n : BTreeMap ℕ (List ℕ)) → n.entries ≡ m.entries → AreLogFiles (files_of m) → AreLogFiles (files_of n)
AreLogFiles-same m n same all = subst (λ (es : List (ℕ × List ℕ)). AreLogFiles (files.from_entries es)) (sym same) all

-- a map of logs that got one more, or was refused it
pub AreLogFiles-updates : {T E : Type 0} (m n : BTreeMap ℕ (List ℕ)) (log : ℕ) (file : List ℕ) (result : Result T E)
    → OnOk result (tree.Updates nat_cmp m n log (Some file))
    → OnErr result (n.entries ≡ m.entries) → IsLogFile log file → AreLogFiles (files_of m) → AreLogFiles (files_of n)
AreLogFiles-updates m n log file (Ok x) ok err one all = rw (files_of-insert m n log file ok) (AreLogFiles-insert (files_of m) log file all one)
AreLogFiles-updates m n log file (Err e) ok err one all = AreLogFiles-same m n err all

-- a map of logs of which one was written through a loan
pub AreLogFiles-written : (m n : BTreeMap ℕ (List ℕ)) (log : ℕ) (file now : List ℕ) → Some file ≡ tree.get nat_cmp m log
    → tree.WritesThrough nat_cmp (nat_cmp log) m now n → (IsLogFile log file → IsLogFile log now) → AreLogFiles (files_of m) → AreLogFiles (files_of n)
AreLogFiles-written m n log file now found wrote keeps all =
    let is = written m n log file now refl found wrote in
    rw is.1 (AreLogFiles-insert (files_of m) log now all (keeps (all.each log file is.0)))

-- the elements of bytes
pub each_byte : (bytes : List ℕ) → ((i : ℕ) → get_or bytes i 0 < 2 ^ 8) → All (λ b. b < 2 ^ 8) bytes
each_byte bytes each = All-from_get_or (λ b. b < 2 ^ 8) bytes 0 (λ i _. each i)
