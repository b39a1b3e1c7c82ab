-- Logs that are found one after another are synced each, and stay so.
use Rattle.std.proofs.Common.{◌≡◌, inl, inr, ℕ, ◌+◌, ◌<◌, Bool, IsTrue, List, take, length, get_or, Result, Ok, Err, subst, ◌∙◌}
use Rattle.std.specs.Result.{OnOk}
use Rattle.std.proofs.lemmas.List.{take_more}
use Rattle.bk_record.specs.Files.{Files, file_of, In}
use Rattle.bk_record.proofs.Growth.{In-push_cases}
use Rattle.bk_disk.specs.Durable.{IsDurable, DurableGrows}
use Rattle.bk_disk.proofs.DurableGrows.{keeps_same, keeps_trans}
use Rattle.bk_store.specs.Found.{AllDurable}
use Rattle.bk_store.proofs.DurableNeverShrinks.{kept_on}

-- one call after another
pub both_keep : {honest honest' : Bool} {kept gone kept' gone' kept'' gone'' : Files} → honest' ≡ honest
    → (IsTrue honest → DurableGrows kept gone kept' gone') → (IsTrue honest' → DurableGrows kept' gone' kept'' gone'')
    → IsTrue honest → DurableGrows kept gone kept'' gone''
both_keep {kept = kept} {gone = gone} {kept' = kept'} {gone' = gone'} {kept'' = kept''} {gone'' = gone''} stays one two is =
    keeps_trans kept gone kept' gone' kept'' gone'' (one is) (two (stays ∙ is))

-- what holds anyway
pub on_any : {T E P : Type 0} (result : Result T E) → P → OnOk result P
on_any (Ok x) is = is
on_any (Err fault) is = tt

-- The logs before this one are kept as they are, and the disk has kept what it did.
pub record IsKeeping (honest : Bool) (files : Files) (ids : List ℕ) (k : ℕ) (kept gone kept' gone' : Files) : Type 0 where
  pub more : IsTrue honest → DurableGrows kept gone kept' gone'
  pub all : IsTrue honest → AllDurable files kept' (take k ids)

pub none_kept : (honest : Bool) (files : Files) (ids : List ℕ) (kept gone : Files) → IsKeeping honest files ids 0 kept gone kept gone
none_kept honest files ids kept gone = record { more = λ is. keeps_same kept gone; all = λ is id never. absurd never }

-- one more log
pub keeping_on : {honest honest' : Bool} {files files' : Files} {ids : List ℕ} {k : ℕ} {kept gone kept' gone' : Files} (kept'' gone'' : Files) (d : ℕ)
    → IsKeeping honest files ids k kept gone kept' gone' → k < length ids → honest' ≡ honest → (IsTrue honest → files' ≡ files)
    → (IsTrue honest' → DurableGrows kept' gone' kept'' gone'')
    → (IsTrue honest' → IsDurable kept'' (get_or ids k d) (file_of files' (get_or ids k d)))
    → IsKeeping honest files ids (k + 1) kept gone kept'' gone''
keeping_on {honest} {honest'} {files} {files'} {ids} {k} {kept} {gone} {kept'} {gone'} kept'' gone'' d so_far within stays same one synced = record {
  more = λ is. keeps_trans kept gone kept' gone' kept'' gone'' (so_far.more is) (one (stays ∙ is));
  all = λ is id there. elim (In-push_cases id (get_or ids k d) (take k ids) (subst (In id) (take_more ids k d within) there)) [
    | inl before ↦ kept_on (one (stays ∙ is)) id (file_of files id) (so_far.all is id before)
    | inr last ↦ subst (λ n. IsDurable kept'' n (file_of files n)) last
        (subst (λ fs. IsDurable kept'' (get_or ids k d) (file_of fs (get_or ids k d))) (same is) (synced (stays ∙ is)))
  ];
}
