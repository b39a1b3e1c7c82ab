-- A deletion preserves the store invariant.
use Rattle.std.proofs.Common.{◌≡◌, ◌≢◌, ◌+◌, ◌≤◌, ℕ, Bool, List, Option, Some, None, true, false, cond, not, eqb, Result, Ok}
use Rattle.std.proofs.Common.{Err, IsSome, is_some, option_map, unwrap_or, refl, sym, ap, subst, ◌∙◌}
use Rattle.std.proofs.lemmas.Bool.{eq-eqb}
use Rattle.std.specs.Option.{option_or}
use Rattle.std.specs.FinMap as finite
use Rattle.std.specs.FinSet as set
use Rattle.bk_record.specs.Key.{EntryKey, key_cmp}
use Rattle.bk_record.specs.Location.{Place}
use Rattle.bk_record.specs.Files.{header_length}
use Rattle.bk_record.specs.Scan.{Payloads}
use Rattle.bk_record.specs.Keyed.{Keyed, without_ledger, log_count, Places}
use Rattle.bk_record.proofs.Keys.{key_cmp_total, key_cmp_antisymmetric}
use Rattle.bk_record.proofs.KeyedLaws.{get-without_ledger}
use Rattle.bk_cache.specs.Recents.{recent_of}
use Rattle.bk_cache.specs.Caches as caches
use Rattle.bk_cache.proofs.CallerLaws.{recent_of-without_recent}
use Rattle.bk_accounts.specs.Account.{Account}
use Rattle.bk_accounts.specs.Book.{Book, named_in, total_at}
use Rattle.bk_accounts.proofs.CallerLaws.{sums_left, contains-insert_dead}
use Rattle.bk_store.specs.Logs.{Log}
use Rattle.bk_store.specs.State.{State, StoreParts}
use Rattle.bk_store.specs.Contents.{written_at}
use Rattle.bk_store.specs.Transitions.{DeleteTransition, state_after_delete}
use Rattle.bk_store.specs.Deletion.{AreLeft, DeleteInternals}
use Rattle.bk_store.specs.Invariant.{StoreInvariant, ContentInvariant, PlacesInvariant, IsWrittenAt, entry_measure}
use Rattle.bk_store.specs.declared.answer.DeleteFault.{DeleteFault}
use Rattle.bk_store.specs.declared.answer.DeleteFault.TheVariants as delete_faults
use Rattle.bk_store.proofs.KeyMaps.{left_cases, left_same}
use Rattle.bk_store.proofs.LedgerLeaves.{carries_without_ledger}
use Rattle.bk_store.proofs.RemovedFiles.{harmless_without_ledger}
use Rattle.bk_store.proofs.PublishedMoves.{shows_without_ledger}
use Rattle.bk_store.proofs.TrailMoves.{replays_deleted, follows_deleted}
use Rattle.bk_store.proofs.InvariantParts.{keeps_same}
use Rattle.bk_store.proofs.JobStays.{job_stays}
use Rattle.bk_store.proofs.FrontMoves.{fronts_deleted}

module _ {X : Type 0} where
  -- a ledger's key is not left
  left_none : (m : Keyed X) (ledger : ℕ) (key : EntryKey) → key.ledger ≡ ledger → finite.get (without_ledger m ledger) key ≡ None
  left_none m ledger key own = get-without_ledger m ledger key ∙ ap (λ (b : Bool). cond b None (finite.get m key)) (eq-eqb key.ledger ledger own)

  -- a key that is left was there, and is of another ledger
  left_some : (m : Keyed X) (ledger : ℕ) (key : EntryKey) → IsSome (finite.get (without_ledger m ledger) key)
      → (key.ledger ≢ ledger) × IsSome (finite.get m key)
  left_some m ledger key there = elim (finite.get (without_ledger m ledger) key)
      as (λ o. finite.get (without_ledger m ledger) key ≡ o → IsSome o → (key.ledger ≢ ledger) × IsSome (finite.get m key)) [
        | None ↦ λ _ none. cc
        | Some v ↦ λ is _. let old = left_cases m ledger key v is in (old.0, ap is_some old.1)
      ] refl there

  without_ledger-empty : (ledger : ℕ) → without_ledger (finite.empty {X = X} {R = key_cmp}) ledger ≡ finite.empty
  without_ledger-empty ledger = finite.same_map key_cmp_total key_cmp_antisymmetric _ _ (λ q.
      get-without_ledger finite.empty ledger q
      ∙ elim (eqb q.ledger ledger) as (λ b. cond b None (finite.get (finite.empty {X = X} {R = key_cmp}) q)
      ≡ finite.get (finite.empty {X = X} {R = key_cmp}) q) [
        | true ↦ sym (finite.get-empty key_cmp q)
        | false ↦ refl
      ])

-- ---- the write caches

-- what the flush has left of a key
flush_left : (s : caches.CacheState) (ledger : ℕ) → caches.flush_of (caches.without s ledger) ≡ without_ledger (caches.flush_of s) ledger
flush_left s ledger = either s.flush
  where
    either : (o : Option Payloads) → unwrap_or (option_map (λ m. without_ledger m ledger) o) finite.empty ≡ without_ledger (unwrap_or o finite.empty) ledger
    either None = sym (without_ledger-empty ledger)
    either (Some m) = refl

module _ (s : State) (ledger : ℕ) where
  pub written_gone : (key : EntryKey) → key.ledger ≡ ledger → written_at (state_after_delete s ledger) key ≡ None
  written_gone key own =
      (λ i. option_or (left_none s.caches.active ledger key own i) (finite.get (flush_left s.caches ledger i) key))
      ∙ left_none (caches.flush_of s.caches) ledger key own

  pub written_same : (key : EntryKey) → key.ledger ≢ ledger → written_at (state_after_delete s ledger) key ≡ written_at s key
  written_same key apart =
      (λ i. option_or (left_same s.caches.active ledger key apart i) (finite.get (flush_left s.caches ledger i) key))
      ∙ ap (option_or (finite.get s.caches.active key)) (left_same (caches.flush_of s.caches) ledger key apart)

  -- a recent entry that is left was one, of another ledger
  recent_left : (key : EntryKey) (payload : List ℕ) → recent_of (state_after_delete s ledger).caches.recent key ≡ Some payload
      → (key.ledger ≢ ledger) × (recent_of s.caches.recent key ≡ Some payload)
  recent_left key payload is =
      let left = sym (recent_of-without_recent s.caches.recent ledger key) ∙ is in
      elim (eqb key.ledger ledger) as (λ b. eqb key.ledger ledger ≡ b → cond (not b) (recent_of s.caches.recent key) None ≡ Some payload
      → (key.ledger ≢ ledger) × (recent_of s.caches.recent key ≡ Some payload)) [
        | true ↦ λ _ none. cc
        | false ↦ λ other there. ((λ same. let tied = eq-eqb key.ledger ledger same in cc), there)
      ] refl left

  -- ---- the places of the flush

  placed_left : PlacesInvariant s.caches.flush s.places s.logs → PlacesInvariant (state_after_delete s ledger).caches.flush (state_after_delete s ledger).places s.logs
  placed_left placed = record {
    idle = λ none. ap (λ m. without_ledger m ledger) (placed.idle (none_left s.caches.flush none)) ∙ without_ledger-empty ledger;
    flushing = λ key place is.
        let old = left_cases s.places ledger key place is in
        flushed_still key old.0 (placed.flushing key place old.1);
    logs = λ key place is. placed.logs key place (left_cases s.places ledger key place is).1;
    front = λ key earlier place is before there.
        let old = left_cases s.places ledger key place is in
        let was = left_some (caches.flush_of s.caches) ledger earlier (subst (λ m. IsSome (finite.get m earlier)) (flush_left s.caches ledger) there) in
        ap is_some (left_same s.places ledger earlier was.0) ∙ placed.front key earlier place old.1 before was.1;
    rising = λ key later place other is there.
        placed.rising key later place other (left_cases s.places ledger key place is).1 (left_cases s.places ledger later other there).1;
    newest = λ id log held now key place is. placed.newest id log held now key place (left_cases s.places ledger key place is).1;
  }
    where
      none_left : (o : Option Payloads) → option_map (λ m. without_ledger m ledger) o ≡ None → o ≡ None
      none_left None none = refl
      none_left (Some m) none = cc

      flushed_still : (key : EntryKey) → key.ledger ≢ ledger → IsSome (finite.get (caches.flush_of s.caches) key)
          → IsSome (finite.get (caches.flush_of (state_after_delete s ledger).caches) key)
      flushed_still key apart there =
          ap is_some (ap (λ m. finite.get m key) (flush_left s.caches ledger) ∙ left_same (caches.flush_of s.caches) ledger key apart) ∙ there

  written_still : (key : EntryKey) (place : Place) → finite.get (state_after_delete s ledger).places key ≡ Some place
      → ((k : EntryKey) (p : Place) → finite.get s.places k ≡ Some p → IsWrittenAt s.caches.flush s.files k p)
      → IsWrittenAt (state_after_delete s ledger).caches.flush s.files key place
  written_still key place is written =
      let was = left_cases s.places ledger key place is in
      let old = written key place was.1 in
      record {
        payload = old.payload;
        flushing = ap (λ m. finite.get m key) (flush_left s.caches ledger) ∙ left_same (caches.flush_of s.caches) ledger key was.0 ∙ old.flushing;
        stands = old.stands;
      }

-- ---- the accounts

named_left : (index : Places) (ledger : ℕ) (old new : Book) (id names : ℕ) (held : Option Log) → AreLeft index ledger old new
    → named_in old id ≡ option_map (λ _. names) held → named_in new id ≡ option_map (λ _. log_count index id) held
named_left index ledger old new id names held left was =
    ap (option_map (λ (account : Account). account.named)) (left id) ∙ either (finite.get old id) held was
  where
    either : (o : Option Account) (h : Option Log) → option_map (λ account. account.named) o ≡ option_map (λ _. names) h
        → option_map (λ (account : Account). account.named)
        (option_map (λ (account : Account). record account { named = log_count index id; live = finite.remove account.live ledger }) o)
        ≡ option_map (λ _. log_count index id) h
    either None None is = refl
    either None (Some log) is = cc
    either (Some account) None is = cc
    either (Some account) (Some log) is = refl

total_left : (index : Places) (ledger : ℕ) (old new : Book) (id : ℕ) → AreLeft index ledger old new → total_at new id ≡ total_at old id
total_left index ledger old new id left =
    ap (λ o. unwrap_or (option_map (λ (account : Account). account.total) o) 0) (left id) ∙ either (finite.get old id)
  where
    either : (o : Option Account)
        → unwrap_or (option_map (λ (account : Account). account.total)
        (option_map (λ (account : Account). record account { named = log_count index id; live = finite.remove account.live ledger }) o)) 0
        ≡ unwrap_or (option_map (λ (account : Account). account.total) o) 0
    either None = refl
    either (Some account) = refl

-- ---- all of it

module _ (p : StoreParts) (ledger : ℕ) (keeps : StoreInvariant p) (book : Book) (left : AreLeft (without_ledger p.state.index ledger) ledger p.accounts book) where
  abbrev gone : StoreParts
  gone = record p { state = state_after_delete p.state ledger; accounts = book }

  promised : ContentInvariant p → ContentInvariant gone
  promised reveal_invariant = record {
    map = record {
      carried = without_ledger reveal_invariant.map.carried ledger;
      carries = carries_without_ledger reveal_invariant.map.carries (written_at gone.state) ledger (written_gone p.state ledger) (written_same p.state ledger);
      harmless = harmless_without_ledger reveal_invariant.map.harmless (written_at gone.state) ledger (written_same p.state ledger);
      recent = λ key payload is.
          let old = recent_left p.state ledger key payload is in
          left_same reveal_invariant.map.carried ledger key old.0 ∙ reveal_invariant.map.recent key payload old.1;
      replays = replays_deleted reveal_invariant.map.replays ledger;
    };
    shows = shows_without_ledger reveal_invariant.shows ledger;
    counted = sums_left entry_measure reveal_invariant.counted (set.contains (set.insert p.state.ledgers.dead ledger)) ledger
        (log_count (without_ledger p.state.index ledger)) book
        (contains-insert_dead p.state.ledgers.dead ledger) left;
    logs = reveal_invariant.logs;
    placed = λ key place is. written_still p.state ledger key place is reveal_invariant.placed;
  }

  gone_kept : StoreInvariant gone
  gone_kept =
      let fits = keeps.fits in
      record {
        fits = record {
          limits = fits.limits;
          logs = fits.logs;
          sent = λ key place is. fits.sent key place (left_cases p.state.index ledger key place is).1;
          placed = placed_left p.state ledger fits.placed;
          ledgers = follows_deleted fits.ledgers ledger;
          accounts = record {
            named = λ id. named_left (without_ledger p.state.index ledger) ledger p.accounts book id (log_count p.state.index id)
                (finite.get p.state.logs id) left (fits.accounts.named id);
            total = λ id log is. subst (λ n. n + header_length ≤ log.acknowledged)
                (sym (total_left (without_ledger p.state.index ledger) ledger p.accounts book id left)) (fits.accounts.total id log is);
          };
        };
        job = λ job is. job_stays p.state gone.state job (record {
          honest = refl;
          source = refl;
          copy = refl;
          named = λ _ key place now own. (left_cases p.state.index ledger key place now).1;
          stands = λ _ place key payload own entry. entry;
        }) (keeps.job job is);
        fronts = fronts_deleted keeps.fronts ledger;
        promises = λ honest. promised (keeps.promises honest);
      }

pub keeps_delete : (p q : StoreParts) (ledger : ℕ) (result : Result ℕ DeleteFault) → StoreInvariant p → DeleteTransition p.state ledger result q.state
    → DeleteInternals p ledger result q → StoreInvariant q
keeps_delete p q ledger (Err delete_faults.AlreadyDeleted) keeps turn beside = keeps_same p q keeps beside turn.1
keeps_delete p q ledger (Err delete_faults.Memory) keeps turn beside = keeps_same p q keeps beside turn.1
keeps_delete p q ledger (Ok n) keeps turn beside =
    let index = ap (λ (s : State). s.index) turn.2 in
    let left : AreLeft (without_ledger p.state.index ledger) ledger p.accounts q.accounts =
    subst (λ i. AreLeft i ledger p.accounts q.accounts) index beside.0 in
    subst StoreInvariant (sym (beside.1 ∙ ap (λ s. record p { state = s; accounts = q.accounts }) turn.2)) (gone_kept p ledger keeps q.accounts left)
