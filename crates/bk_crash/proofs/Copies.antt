-- The entries of a copy of the record, and the files of a record.
use Rattle.std.proofs.Common.{◌≡◌, ℕ, List, [], ◌∷◌, ◌++◌, map, Vec, Global, refl, sym, ap, ◌∙◌, append_assoc}
use Rattle.std.specs.Prelude.{vec_len}
use Rattle.std.specs.List.{AllZip}
use Rattle.std.proofs.lemmas.List.{append-nil}
use Rattle.std.proofs.lemmas.List.Elements.{same_from_all_zip}
use Rattle.bk_disk.specs.Logs.{listed}
use Rattle.bk_crash.specs.Noting.{NotedLog}
use Rattle.bk_crash.proofs.Leaving.{listed_more}

-- A value and its clone.
abbrev pub IsSame : {X : Type 0} → X → X → Type 0
IsSame x y = y ≡ x

-- A file and its clone.
abbrev pub IsSameFile : Vec ℕ Global → Vec ℕ Global → Type 0
IsSameFile v w = AllZip IsSame v.items w.items × (vec_len w ≡ vec_len v)

-- A clone of a file has the same bytes.
pub cloned_bytes : (v w : Vec ℕ Global) (bytes : List ℕ) → IsSameFile v w → v.items ≡ bytes → w.items ≡ bytes
cloned_bytes v w bytes each is = same_from_all_zip IsSame v.items w.items each.0 (λ x y same. same) ∙ is

-- A clone of the removed files has the same ids and bytes.
pub cloned_files : (es fs : List (ℕ × Vec ℕ Global)) → AllZip (λ p q. IsSame p.0 q.0 × IsSameFile p.1 q.1) es fs → listed fs ≡ listed es
cloned_files [] [] each = refl
cloned_files [] (f ∷ fs) each = absurd each
cloned_files (e ∷ es) [] each = absurd each
cloned_files (e ∷ es) (f ∷ fs) each =
    λ i. (each.0.0 i, cloned_bytes e.1 f.1 e.1.items each.0.1 refl i) ∷ cloned_files es fs each.1 i

-- The bytes of each log.
abbrev pub bytes_of : List (ℕ × NotedLog) → List (ℕ × List ℕ)
bytes_of logs = map (λ e. (e.0, e.1.bytes)) logs

-- Loop invariant: some of the logs are listed, the rest are not.
abbrev pub AreListed : List (ℕ × NotedLog) → List (ℕ × NotedLog) → List (ℕ × Vec ℕ Global) → Type 0
AreListed rest all files = listed files ++ bytes_of rest ≡ bytes_of all

-- The next log is listed.
pub listed_on : (rest behind all : List (ℕ × NotedLog)) (log : ℕ × NotedLog) (files now : List (ℕ × Vec ℕ Global)) (file : Vec ℕ Global)
    → rest ≡ log ∷ behind → AreListed rest all files → file.items ≡ log.1.bytes → now ≡ files ++ (log.0, file) ∷ [] → AreListed behind all now
listed_on rest behind all log files now file is so_far same more =
    ap (λ (l : List (ℕ × List ℕ)). l ++ bytes_of behind) (listed_more files now log.0 file more)
    ∙ append_assoc (listed files) ((log.0, file.items) ∷ []) (bytes_of behind)
    ∙ ap (λ (b : List ℕ). listed files ++ (log.0, b) ∷ bytes_of behind) same
    ∙ sym (ap (λ (r : List (ℕ × NotedLog)). listed files ++ bytes_of r) is) ∙ so_far

-- All logs are listed if none remain.
pub all_listed : (rest all : List (ℕ × NotedLog)) (files : List (ℕ × Vec ℕ Global)) → rest ≡ [] → AreListed rest all files → listed files ≡ bytes_of all
all_listed rest all files none so_far =
    sym (append-nil (listed files)) ∙ sym (ap (λ (r : List (ℕ × NotedLog)). listed files ++ bytes_of r) none) ∙ so_far
