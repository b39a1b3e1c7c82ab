-- One log more that an opening finds.
use Rattle.std.specs.Prelude.{◌≡◌, ℕ, cond, [], ◌++◌, None, Some, option_map}
use Rattle.std.specs.Option.{option_or}
use Rattle.std.specs.Ordering.{nat_cmp, eq_by_cmp}
use Rattle.std.specs.BTreeMap.{get}
use Rattle.bk_manifest_disk.specs.declared.table.Finding.{Finding}
use Rattle.bk_manifest_disk.specs.declared.looking.Found.{Found}
use Rattle.bk_manifest_disk.specs.Opening.{hidden_from, adopted_length, reported, listed}

-- nothing was found yet
pub record IsNew (found : Found) : Type 0 where
  pub lengths : (q : ℕ) → get nat_cmp found.lengths q ≡ None
  pub limits : (q : ℕ) → get nat_cmp found.limits q ≡ None
  pub adopted : found.adopted.items ≡ []
  pub reports : found.reports.items ≡ []

-- a log of this length was added
pub record Adds (old : Found) (log n : ℕ) (finding : Finding) (new : Found) : Type 0 where
  pub lengths : (q : ℕ) → get nat_cmp new.lengths q ≡ cond (eq_by_cmp nat_cmp q log) (Some n) (get nat_cmp old.lengths q)
  pub limits : (q : ℕ) → get nat_cmp new.limits q ≡ cond (eq_by_cmp nat_cmp q log) (option_or (hidden_from finding) (get nat_cmp old.limits q)) (get nat_cmp old.limits q)
  pub adopted : new.adopted.items ≡ old.adopted.items ++ listed (option_map (λ d. (log, d)) (adopted_length finding))
  pub reports : new.reports.items ≡ old.reports.items ++ listed (reported log finding)
