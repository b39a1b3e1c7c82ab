-- A rebuilt index preserves the store invariant: the index entries of each log are taken out, then
-- given as it says.
use Rattle.std.proofs.Common.{◌≡◌, ℕ, ◌+◌, ◌≤◌, ◌==◌, if◌then◌else◌, Bool, true, false, IsTrue, List, [], ◌∷◌}
use Rattle.std.proofs.Common.{Option, Some, None, IfSome, option_map, unwrap_or, refl, sym, ap, subst, ◌∙◌, arith}
use Rattle.std.specs.FinMap as finite
use Rattle.bk_record.specs.Key.{EntryKey}
use Rattle.bk_record.specs.Location.{Place}
use Rattle.bk_record.specs.Files.{header_length}
use Rattle.bk_record.specs.Keyed.{log_count, Places}
use Rattle.bk_record.proofs.KeyedCounts.{log_count-none}
use Rattle.bk_accounts.specs.Account.{Account, with_name, remaining_size, ledger_size}
use Rattle.bk_accounts.specs.Book.{Book, named_in, after_name}
use Rattle.bk_accounts.proofs.Books.{get-changed}
use Rattle.bk_store.specs.Jobs.{Job, with_rebuild}
use Rattle.bk_store.specs.JobInvariant.{JobInvariant}
use Rattle.bk_store.specs.State.{State, StoreParts}
use Rattle.bk_store.specs.Invariant.{StoreInvariant, StructuralInvariant, ContentInvariant, acknowledged_entries}
use Rattle.bk_store.specs.Primitives.{CanReplaceIndex, ReplaceIndexTransition}
use Rattle.bk_store.specs.Internals.{ReplaceIndexInternals}
use Rattle.bk_store.specs.Deletion.{AreNamedBy}
use Rattle.bk_store.specs.Found.{AreUnnamed, named_by}
use Rattle.bk_store.proofs.JobStays.{job_rebuilt}
use Rattle.bk_store.proofs.InvariantParts.{none_placed}
use Rattle.bk_store.proofs.OpenedSums.{names_in, name_counted, plus_none}
use Rattle.bk_store.proofs.Rebuilding.{carries_rebuilt, shows_rebuilt, still_named, goes_forward}
use Rattle.bk_store.proofs.RemovedFiles.{harmless_moved}
use Rattle.bk_store.proofs.Unnaming.{IsUnnaming, in_log}

-- an account with n index entries
abbrev with_names : ℕ → Account → Account
with_names n account = record account { named = n }

-- ---- the index entries are taken out

none_named : (log : ℕ) → log_count finite.empty log ≡ 0
none_named log = log_count-none finite.empty log (λ key place is. absurd (none_placed finite.empty key place refl is))

pub unnaming_done : (old now : Book) → IsUnnaming (λ _. 0) old now [] → AreNamedBy finite.empty old now
unnaming_done old now done log = done log ∙ ap (λ n. option_map (with_names n) (finite.get old log)) (none_left ∙ sym (none_named log))
  where
    none_left : 0 + in_log log [] ≡ 0
    none_left = omega arith

-- ---- the index entries are given

pub unnamed_all : (old now : Book) → AreNamedBy finite.empty old now → AreUnnamed now
unnamed_all old now named log = subst (λ o. IfSome (option_map (λ (account : Account). account.named) o) (λ n. n ≡ 0)) (sym (named log))
    (all (finite.get old log))
  where
    all : (o : Option Account)
        → IfSome (option_map (λ (account : Account). account.named) (option_map (with_names (log_count finite.empty log)) o)) (λ n. n ≡ 0)
    all None = tt
    all (Some account) = none_named log

-- each pair is a name more of its log
get-named_by : (pairs : List (EntryKey × Place)) (book : Book) (log : ℕ) → finite.get (named_by pairs book) log
    ≡ option_map (λ (account : Account). record account { named = account.named + names_in pairs log }) (finite.get book log)
get-named_by [] book log = all (finite.get book log)
  where
    all : (o : Option Account) → o ≡ option_map (λ (account : Account). record account { named = account.named + names_in [] log }) o
    all None = refl
    all (Some account) = ap (λ n. Some (with_names n account)) (plus_none account.named)
get-named_by (e ∷ pairs) book log =
    get-named_by pairs (after_name book e.1.log) log
    ∙ ap (option_map (λ (account : Account). record account { named = account.named + names_in pairs log })) (get-changed book e.1.log log with_name)
    ∙ all (finite.get book log)
  where
    pick : (b : Bool) (account : Account) → (if b then with_name account else account) ≡ with_names (if b then account.named + 1 else account.named) account
    pick true account = refl
    pick false account = refl

    all : (o : Option Account)
        → option_map (λ (account : Account). record account { named = account.named + names_in pairs log })
        (option_map (λ account. if log == e.1.log then with_name account else account) o)
        ≡ option_map (λ (account : Account). record account { named = account.named + names_in (e ∷ pairs) log }) o
    all None = refl
    all (Some account) =
        ap (λ (a : Account). Some (record a { named = a.named + names_in pairs log })) (pick (log == e.1.log) account)
        ∙ ap (λ n. Some (with_names n account)) (name_counted (λ _. account.named) e pairs log)

pub renamed : (index : Places) (old mid new : Book) → AreNamedBy finite.empty old mid → new ≡ named_by (finite.entries index) mid → AreNamedBy index old new
renamed index old mid new unnamed is log =
    ap (λ b. finite.get b log) is ∙ get-named_by (finite.entries index) mid log
    ∙ ap (option_map (λ (account : Account). record account { named = account.named + names_in (finite.entries index) log })) (unnamed log)
    ∙ all (finite.get old log)
  where
    all : (o : Option Account)
        → option_map (λ (account : Account). record account { named = account.named + names_in (finite.entries index) log })
        (option_map (with_names (log_count finite.empty log)) o)
        ≡ option_map (with_names (log_count index log)) o
    all None = refl
    all (Some account) = ap (λ n. Some (with_names n account)) (let none = none_named log in omega (arith, none))

-- ---- the transition

-- what does not go by the names
unnamed_same : {X : Type 0} (f : Account → X) (n : ℕ) → ((account : Account) → f (with_names n account) ≡ f account) → (o : Option Account)
    → option_map f (option_map (with_names n) o) ≡ option_map f o
unnamed_same f n same None = refl
unnamed_same f n same (Some account) = ap Some (same account)

module _ (p : StoreParts) (keeps : StoreInvariant p) (index : Places) (may : CanReplaceIndex p.state index) (book : Book) (named : AreNamedBy index p.accounts book) where
  abbrev new : StoreParts
  new = record p { state = record p.state { index = index; job = option_map with_rebuild p.state.job }; accounts = book }

  still : {X : Type 0} (f : Account → X) → ((n : ℕ) (account : Account) → f (with_names n account) ≡ f account) → (log : ℕ)
      → option_map f (finite.get book log) ≡ option_map f (finite.get p.accounts log)
  still f same log = ap (option_map f) (named log) ∙ unnamed_same f (log_count index log) (same (log_count index log)) (finite.get p.accounts log)

  -- a log has an account exactly if it had one
  names_now : {X : Type 0} (log names : ℕ) (held : Option X) → named_in p.accounts log ≡ option_map (λ _. names) held
      → named_in book log ≡ option_map (λ _. log_count index log) held
  names_now {X} log names held was = ap (option_map (λ (account : Account). account.named)) (named log) ∙ either (finite.get p.accounts log) held was
    where
      either : (o : Option Account) (h : Option X) → option_map (λ account. account.named) o ≡ option_map (λ _. names) h
          → option_map (λ (account : Account). account.named) (option_map (with_names (log_count index log)) o) ≡ option_map (λ _. log_count index log) h
      either None None is = refl
      either None (Some x) is = cc
      either (Some account) None is = cc
      either (Some account) (Some x) is = refl

  replaced_fits : StructuralInvariant new
  replaced_fits =
      let fits = keeps.fits in
      record {
        limits = fits.limits;
        logs = fits.logs;
        sent = may.sent;
        placed = fits.placed;
        ledgers = fits.ledgers;
        accounts = record {
          named = λ id. names_now id (log_count p.state.index id) (finite.get p.state.logs id) (fits.accounts.named id);
          total = λ id log is. subst (λ n. n + header_length ≤ log.acknowledged)
              (sym (ap (λ o. unwrap_or o 0) (still (λ account. account.total) (λ n account. refl) id))) (fits.accounts.total id log is);
        };
      }

  replaced_promises : IsTrue p.state.honest → ContentInvariant p → ContentInvariant new
  replaced_promises honest reveal_invariant =
      let sums = reveal_invariant.counted in
      record {
        map = record {
          carried = reveal_invariant.map.carried;
          carries = carries_rebuilt reveal_invariant.map.carries reveal_invariant.shows (may.made honest);
          harmless = harmless_moved reveal_invariant.map.harmless index (still_named reveal_invariant.map.carries reveal_invariant.shows (may.made honest))
              (λ key was place none. goes_forward reveal_invariant.map.carries reveal_invariant.shows (may.made honest) key was place);
          recent = reveal_invariant.map.recent;
          replays = reveal_invariant.map.replays;
        };
        shows = shows_rebuilt reveal_invariant.map.carries reveal_invariant.shows (may.made honest);
        counted = record {
          total = λ log. still (λ account. account.total) (λ n account. refl) log ∙ sums.total log;
          remaining = λ log. still remaining_size (λ n account. refl) log ∙ sums.remaining log;
          by_ledger = λ log ledger. still (λ account. ledger_size account ledger) (λ n account. refl) log ∙ sums.by_ledger log ledger;
          named = λ log. names_now log (log_count p.state.index log) (acknowledged_entries p.state.files p.state.logs log) (sums.named log);
        };
        logs = reveal_invariant.logs;
        placed = reveal_invariant.placed;
      }

  pub replaced_kept : StoreInvariant new
  replaced_kept = record {
    fits = replaced_fits;
    job = rebuilt_job p.state.job keeps.job;
    fronts = keeps.fronts;
    promises = λ honest. replaced_promises honest (keeps.promises honest);
  }
    where
      rebuilt_job : (o : Option Job) → ((job : Job) → o ≡ Some job → JobInvariant p.state job) → (job : Job)
          → option_map with_rebuild o ≡ Some job → JobInvariant new.state job
      rebuilt_job None kept job is = cc
      rebuilt_job (Some old) kept job is =
          let one : with_rebuild old ≡ job = cc in
          subst (λ x. JobInvariant new.state x) one (job_rebuilt old (kept old refl))

pub keeps_replace : (p q : StoreParts) (index : Places) → StoreInvariant p → CanReplaceIndex p.state index → ReplaceIndexTransition p.state index q.state → ReplaceIndexInternals p q → StoreInvariant q
keeps_replace p q index keeps may turn beside =
    let named = subst (λ i. AreNamedBy i p.accounts q.accounts) (ap (λ (s : State). s.index) turn) beside.0 in
    subst StoreInvariant (sym (beside.1 ∙ ap (λ s. record p { state = s; accounts = q.accounts }) turn)) (replaced_kept p keeps index may q.accounts named)
