-- The choice of a log by the accounts is that by what the logs hold.
use Rattle.std.proofs.Common.{◌≡◌, ℕ, IsTrue, List, Option, Some, None, IsSome, is_some, option_map, unwrap_or, MatchOption, refl, ap, subst, ◌∙◌}
use Rattle.std.specs.List.{All}
use Rattle.std.specs.Option.{option_map_or}
use Rattle.std.specs.FinMap as finite
use Rattle.std.specs.FinSet as set
use Rattle.bk_record.specs.Keyed.{log_count}
use Rattle.bk_accounts.specs.Account.{Account}
use Rattle.bk_accounts.specs.Book.{HasAccount, total_at, remaining_at}
use Rattle.bk_accounts.specs.Choice.{IsChoice, NoneBelow}
use Rattle.bk_accounts.specs.Sums.{all_bytes, live_bytes}
use Rattle.bk_store.specs.Logs.{Log}
use Rattle.bk_store.specs.State.{StoreParts}
use Rattle.bk_store.specs.Invariant.{StoreInvariant, ContentInvariant, entry_measure, acknowledged_entries}
use Rattle.bk_store.specs.CompactionPrimitives.{IsLeastUsed, log_bytes, live_log_bytes}

-- each log that is held has an account
account_open : (p : StoreParts) → StoreInvariant p → (id : ℕ) → IsSome (finite.get p.state.logs id) → HasAccount p.accounts id
account_open p keeps id held =
    opened (finite.get p.accounts id) (ap is_some (keeps.fits.accounts.named id) ∙ counted (finite.get p.state.logs id) held)
  where
    counted : (o : Option Log) → IsSome o → is_some (option_map (λ _. log_count p.state.index id) o) ≡ is_some o
    counted None wrong = refl
    counted (Some l) there = refl

    opened : (o : Option Account) → is_some (option_map (λ (a : Account). a.named) o) ≡ is_some (finite.get p.state.logs id) → IsSome o
    opened None is = is ∙ held
    opened (Some a) is = refl

pub accounts_open : (p : StoreParts) → StoreInvariant p → (allowed : List ℕ) → All (λ id. IsSome (finite.get p.state.logs id)) allowed
    → All (λ id. HasAccount p.accounts id) allowed
accounts_open p keeps allowed held k d inside = account_open p keeps _ (held k d inside)

summed : {E : Type 0} (f : List E → ℕ) (o : Option (List E)) → unwrap_or (option_map f o) 0 ≡ option_map_or f o 0
summed f None = refl
summed f (Some es) = refl

pub total_same : (p : StoreParts) → ContentInvariant p → total_at p.accounts ≡ log_bytes p.state
total_same p reveal_invariant i id =
    (ap (λ (o : Option ℕ). unwrap_or o 0) (reveal_invariant.counted.total id) ∙ summed (all_bytes entry_measure) (acknowledged_entries p.state.files p.state.logs id)) i

pub remaining_same : (p : StoreParts) → ContentInvariant p → remaining_at p.accounts ≡ live_log_bytes p.state
remaining_same p reveal_invariant i id =
    (ap (λ (o : Option ℕ). unwrap_or o 0) (reveal_invariant.counted.remaining id)
    ∙ summed (live_bytes entry_measure (set.contains p.state.ledgers.dead)) (acknowledged_entries p.state.files p.state.logs id)) i

pub least_used : (p : StoreParts) → StoreInvariant p → (threshold : ℕ) (allowed : List ℕ) (result : Option ℕ)
    → MatchOption result (NoneBelow (total_at p.accounts) (remaining_at p.accounts) threshold allowed)
    (IsChoice (total_at p.accounts) (remaining_at p.accounts) threshold allowed)
    → IsTrue p.state.honest → IsLeastUsed p.state threshold allowed result
least_used p keeps threshold allowed None is honest =
    let reveal_invariant = keeps.promises honest in
    subst (λ t. NoneBelow t (live_log_bytes p.state) threshold allowed) (total_same p reveal_invariant)
    (subst (λ r. NoneBelow (total_at p.accounts) r threshold allowed) (remaining_same p reveal_invariant) is)
least_used p keeps threshold allowed (Some id) is honest =
    let reveal_invariant = keeps.promises honest in
    subst (λ t. IsChoice t (live_log_bytes p.state) threshold allowed id) (total_same p reveal_invariant)
    (subst (λ r. IsChoice (total_at p.accounts) r threshold allowed id) (remaining_same p reveal_invariant) is)
