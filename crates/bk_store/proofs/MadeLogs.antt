-- A log is made: what its slot, its account and its file give the transition.
use Rattle.std.proofs.Common.{◌≡◌, inl, inr, ℕ, ◌+◌, ◌<◌, Bool, true, false, cond, IsTrue, List, length, Option, Some, None}
use Rattle.std.proofs.Common.{IsNone, is_some, option_map, Result, Ok, Err, refl, sym, ap, subst, ◌∙◌, arith}
use Rattle.std.specs.FinMap as finite
use Rattle.std.specs.Ordering.{nat_cmp}
use Rattle.std.specs.FinMap.{nat_cmp-IsAntisymmetric}
use Rattle.std.proofs.lemmas.Cmp.{nat_cmp_total}
use Rattle.std.proofs.lemmas.Bool.{false_from_ne_true}
use Rattle.bk_record.specs.Files.{Files, In}
use Rattle.bk_record.proofs.Maps.{key_cases, get-insert_else, get-remove_here, get-remove_else, insert-insert}
use Rattle.bk_record.specs.Keyed.{log_count}
use Rattle.bk_head.specs.Header.{empty_header}
use Rattle.bk_disk.specs.Disk.{FailsExactlyIf}
use Rattle.bk_disk.specs.Durable.{DurableGrows}
use Rattle.bk_log.specs.Writing.{CreateFails}
use Rattle.bk_log.specs.declared.fault.LogFault.{LogFault}
use Rattle.bk_log.specs.declared.fault.LogFault.TheVariants as log_faults
use Rattle.bk_accounts.specs.Account.{Account, fresh}
use Rattle.bk_accounts.specs.Book.{Book, IsNotOpen, after_open, after_drop}
use Rattle.bk_store.specs.Logs.{Log, Logs, made_log, log_without_records}
use Rattle.bk_store.specs.State.{State, StoreParts}
use Rattle.bk_store.specs.Invariant.{StoreInvariant}
use Rattle.bk_lease.specs.declared.slot.Slot.TheVariants.{Open}
use Rattle.bk_lease.specs.Slots.{IsFree, taken_count}
use Rattle.bk_lease.specs.Values.{SlotTable, with_state}
use Rattle.bk_store.specs.Primitives.{CreateLogTransition, CanCreateLog, CreateLogFailed, with_next, with_seat, logs_left, keeper_left}
use Rattle.bk_store.specs.Internals.{CreateLogInternals, HasSlot, HasNoSlot, ListGoesOn, make_fault_of, opened_for, writing_in, made_writing}
use Rattle.bk_store.specs.declared.log.LogState.{LogState}
use Rattle.bk_store.specs.declared.log.LogState.TheVariants.{Writing}
use Rattle.bk_store.specs.declared.answer.MakeFault.{MakeFault}
use Rattle.bk_store.proofs.ListedLogs.{unheld}
use Rattle.bk_store.proofs.LogMaps.{log-inserted}
use Rattle.bk_store.proofs.PublishTransitions.{not_failed, failed_once}

-- ---- the slot

-- a key that was not there is put in and taken out again
remove-insert : {X : Type 0} (m : finite.FinMap nat_cmp X) (k : ℕ) (v : X) → finite.get m k ≡ None → finite.remove (finite.insert m k v) k ≡ m
remove-insert {X} m k v none = finite.same_map nat_cmp_total nat_cmp-IsAntisymmetric (finite.remove (finite.insert m k v) k) m
    (λ q. elim (key_cases nat_cmp_total nat_cmp-IsAntisymmetric q k) [
      | inl e ↦ ap (finite.get (finite.remove (finite.insert m k v) k)) e ∙ get-remove_here nat_cmp_total nat_cmp-IsAntisymmetric (finite.insert m k v) k
          ∙ sym (ap (finite.get m) e ∙ none)
      | inr other ↦ get-remove_else nat_cmp_total nat_cmp-IsAntisymmetric (finite.insert m k v) k q other.1
          ∙ get-insert_else nat_cmp_total nat_cmp-IsAntisymmetric m k v q other.1
    ])

none_there : (o : Option Account) → option_map (λ account. account.named) o ≡ None → o ≡ None
none_there None is = refl
none_there (Some account) wrong = absurd (cc)

-- the next log has no account
no_account : (p : StoreParts) → StoreInvariant p → finite.get p.accounts p.state.next ≡ None
no_account p keeps = none_there (finite.get p.accounts p.state.next)
    (keeps.fits.accounts.named p.state.next ∙ ap (option_map (λ (l : Log). log_count p.state.index p.state.next)) (unheld p keeps))

pub not_open : (p : StoreParts) → StoreInvariant p → IsNotOpen p.accounts p.state.next
not_open p keeps = subst IsNone (sym (no_account p keeps)) refl

-- where there is room for a log, a slot is free
pub slot_there : (p : StoreParts) → StoreInvariant p → finite.len p.state.logs < p.state.settings.slots → taken_count p.state.keeper.slots ≡ length p.state.keeper.slots → ⊥
slot_there p keeps room full =
    let taken = keeps.fits.logs.seated.seats.taken in let many = keeps.fits.logs.seated.slots in omega (arith, room, full, taken, many)

-- an account that is opened and dropped
pub reopened : (p : StoreParts) → StoreInvariant p → (book left : Book) → book ≡ after_open p.accounts p.state.next → left ≡ after_drop book p.state.next → left ≡ p.accounts
reopened p keeps book left opened dropped =
    dropped ∙ ap (λ b. after_drop b p.state.next) opened ∙ remove-insert p.accounts p.state.next fresh (no_account p keeps)

module _ (p now : StoreParts) (here : p ≡ now) (filled : List ℕ) (book : Book) (logs : Logs) (state : LogState) (list : ListGoesOn state p.filled filled) where
  pub slot_taken : (number : ℕ) → book ≡ after_open p.accounts p.state.next
      → logs ≡ finite.insert p.state.logs p.state.next (log_without_records number)
      → (state ≡ Writing → In p.state.next filled) → IsFree p.state.keeper.slots number
      → HasSlot now state number (record p { state = record p.state { logs = logs }; accounts = book; filled = filled })
  slot_taken number opened held listed free =
      subst (λ (n : StoreParts). HasSlot n state number (record p { state = record p.state { logs = logs }; accounts = book; filled = filled })) here (record {
        free = free;
        parts = λ i. record p { state = record p.state { logs = held i }; accounts = opened i; filled = filled };
        list = list;
        listed = listed;
      })

  pub no_slot : book ≡ p.accounts → logs ≡ p.state.logs
      → HasNoSlot now state (record p { state = record p.state { logs = logs }; accounts = book; filled = filled })
  no_slot same held =
      subst (λ (n : StoreParts). HasNoSlot n state (record p { state = record p.state { logs = logs }; accounts = book; filled = filled })) here (record {
        parts = λ i. record p { state = record p.state { logs = held i }; accounts = same i; filled = filled };
        list = list;
      })

-- ---- the transition

module _ (p s : StoreParts) (state : LogState) (number : ℕ) (slot : HasSlot p state number s) where
  pub slot_held : finite.get s.state.logs s.state.next ≡ Some (log_without_records number)
  slot_held = ap (λ (q : StoreParts). finite.get q.state.logs q.state.next) slot.parts ∙ log-inserted p.state.logs p.state.next (log_without_records number) p.state.next refl

  pub slot_next : s.state.next ≡ p.state.next
  slot_next = ap (λ (q : StoreParts). q.state.next) slot.parts

  failures_now : s.state.failures ≡ p.state.failures
  failures_now = ap (λ (q : StoreParts). q.state.failures) slot.parts

  honest_now : s.state.honest ≡ p.state.honest
  honest_now = ap (λ (q : StoreParts). q.state.honest) slot.parts

  -- what the disk keeps is as it was when the slot was taken, and then goes on
  pub slot_kept : (synced gone : Files) → (IsTrue s.state.honest → DurableGrows s.synced s.gone synced gone) → IsTrue p.state.honest
      → DurableGrows p.synced p.gone synced gone
  slot_kept synced gone on honest = subst (λ (q : StoreParts). DurableGrows q.synced q.gone synced gone) slot.parts (on (honest_now ∙ honest))

  pub beside_slot : (t : State) (book : Book) (w : Option ℕ) (synced gone : Files) (result : Result ℕ MakeFault)
      → book ≡ opened_for t.logs p.accounts p.state.next → w ≡ made_writing p.writing state result
      → CreateLogInternals (record p { synced = synced; gone = gone }) state result
      (record s { state = t; accounts = book; writing = w; synced = synced; gone = gone })
  beside_slot t book w synced gone result opened writes = record {
    parts = λ i. record { state = t; accounts = opened i; writing = writes i; filled = s.filled; synced = synced; gone = gone };
    list = slot.list;
    listed = λ is _. slot.listed is;
  }

  -- the account is open where the log is held
  opened_there : (logs : Logs) (log : Log) → finite.get logs p.state.next ≡ Some log → s.accounts ≡ opened_for logs p.accounts p.state.next
  opened_there logs log held = ap (λ (q : StoreParts). q.accounts) slot.parts
      ∙ sym (ap (λ (o : Option Log). cond (is_some o) (after_open p.accounts p.state.next) p.accounts) held)

  -- the slot is given back
  pub slot_gone : StoreInvariant p → (logs : Logs) → logs ≡ finite.remove s.state.logs s.state.next → logs ≡ p.state.logs
  slot_gone keeps logs gone = gone ∙ ap (λ (q : StoreParts). finite.remove q.state.logs q.state.next) slot.parts
      ∙ remove-insert p.state.logs p.state.next (log_without_records number) (unheld p keeps)

  account_gone : StoreInvariant p → (book : Book) → book ≡ after_drop s.accounts s.state.next → book ≡ p.accounts
  account_gone keeps book gone = gone ∙ ap (λ (q : StoreParts). after_drop q.accounts q.state.next) slot.parts
      ∙ remove-insert p.accounts p.state.next fresh (no_account p keeps)

  pub gone_beside : StoreInvariant p → (t : State) (book : Book) (synced gone' : Files) (fault : MakeFault) → t.logs ≡ p.state.logs
      → book ≡ after_drop s.accounts s.state.next
      → CreateLogInternals (record p { synced = synced; gone = gone' }) state (Err fault) (record s { state = t; accounts = book; synced = synced; gone = gone' })
  gone_beside keeps t book synced gone' fault same gone = beside_slot t book s.writing synced gone' (Err fault)
      (account_gone keeps book gone ∙ sym (ap (λ (o : Option Log). cond (is_some o) (after_open p.accounts p.state.next) p.accounts)
      (ap (λ (l : Logs). finite.get l p.state.next) same ∙ unheld p keeps)))
      (ap (λ (q : StoreParts). q.writing) slot.parts)

  pub left_beside : (t : State) (synced gone : Files) (fault : MakeFault) → t.logs ≡ s.state.logs
      → CreateLogInternals (record p { synced = synced; gone = gone }) state (Err fault) (record s { state = t; synced = synced; gone = gone })
  left_beside t synced gone fault same = beside_slot t s.accounts s.writing synced gone (Err fault)
      (opened_there t.logs (log_without_records number) (ap (finite.get t.logs) (sym slot_next) ∙ ap (λ (l : Logs). finite.get l s.state.next) same ∙ slot_held))
      (ap (λ (q : StoreParts). q.writing) slot.parts)

  pub slot_left : s.state.logs ≡ finite.insert p.state.logs p.state.next (log_without_records number)
  slot_left = ap (λ (q : StoreParts). q.state.logs) slot.parts

  -- the table, where no slot was opened, and where the slot was opened for the log
  pub seat_kept : s.state.keeper ≡ p.state.keeper
  seat_kept = ap (λ (q : StoreParts). q.state.keeper) slot.parts

  pub seat_opened : (keeper : SlotTable) → keeper ≡ with_state s.state.keeper number (Open s.state.next) → keeper ≡ with_seat p.state number
  seat_opened keeper opened = opened ∙ ap (λ (q : StoreParts). with_state q.state.keeper number (Open q.state.next)) slot.parts

  pub written_slot : (w : Option ℕ) → w ≡ writing_in s.writing s.state.next state → w ≡ writing_in p.writing s.state.next state
  written_slot w is = is ∙ ap (λ (o : Option ℕ). writing_in o s.state.next state) (ap (λ (q : StoreParts). q.writing) slot.parts)

  module _ (files : Files) (honest : Bool) (failures : ℕ) (logs : Logs) (keeper : SlotTable) (same_honest : honest ≡ s.state.honest) where
    abbrev after : State
    after = record s.state { files = files; honest = honest; failures = failures; logs = logs; keeper = keeper; next = s.state.next + 1 }

    -- the file was made
    pub made_turn : {Told : Type 0} → CanCreateLog p.state → FailsExactlyIf s.state.failures failures Told → ¬ Told
        → logs ≡ finite.insert s.state.logs s.state.next (made_log state s.state.next number)
        → keeper ≡ with_state s.state.keeper number (Open s.state.next)
        → (IsTrue s.state.honest → IsNone (finite.get s.state.files s.state.next) × (files ≡ finite.insert s.state.files s.state.next empty_header))
        → CreateLogTransition p.state state (Ok s.state.next) after
    made_turn may cause never put opened create = (
      may,
      slot_next,
      record {
        slot = number;
        free = slot.free;
        files = λ h. subst (λ (q : StoreParts). IsNone (finite.get q.state.files q.state.next) × (files ≡ finite.insert q.state.files q.state.next empty_header))
            slot.parts (create (honest_now ∙ h));
        left = (λ i. record s.state {
          files = files;
          honest = same_honest i;
          failures = not_failed cause never i;
          logs = put i;
          keeper = opened i;
          next = s.state.next + 1;
        })
            ∙ ap (λ (q : StoreParts). record q.state {
              files = files;
              logs = finite.insert q.state.logs q.state.next (made_log state q.state.next number);
              keeper = with_state q.state.keeper number (Open q.state.next);
              next = q.state.next + 1;
            }) slot.parts
            ∙ ap (λ (l : Logs). with_next p.state files p.state.failures l (with_seat p.state number))
            (insert-insert nat_cmp_total nat_cmp-IsAntisymmetric p.state.logs p.state.next (log_without_records number) (made_log state p.state.next number));
      },
    )

    pub made_beside : (w : Option ℕ) (synced gone : Files) → logs ≡ finite.insert s.state.logs s.state.next (made_log state s.state.next number)
        → w ≡ made_writing p.writing state (Ok s.state.next)
        → CreateLogInternals (record p { synced = synced; gone = gone }) state (Ok s.state.next)
        (record s { state = after; writing = w; synced = synced; gone = gone })
    made_beside w synced gone put writes = beside_slot after s.accounts w synced gone (Ok s.state.next)
        (opened_there logs (made_log state s.state.next number)
        (ap (finite.get logs) (sym slot_next) ∙ ap (λ (l : Logs). finite.get l s.state.next) put
        ∙ log-inserted s.state.logs s.state.next (made_log state s.state.next number) s.state.next refl)) writes

    -- the making failed
    module _ (keeps : StoreInvariant p) (may : CanCreateLog p.state) (made : Bool) (left : logs ≡ logs_left p.state made number)
        (seat : keeper ≡ keeper_left p.state made number) where
      left_is : (n : ℕ) → failures ≡ n → after ≡ with_next p.state files n (logs_left p.state made number) (keeper_left p.state made number)
      left_is n same =
          (λ i. record s.state { files = files; honest = same_honest i; failures = same i; logs = left i; keeper = seat i; next = s.state.next + 1 })
          ∙ ap (λ (q : StoreParts). record q.state {
            files = files;
            failures = n;
            logs = logs_left p.state made number;
            keeper = keeper_left p.state made number;
            next = q.state.next + 1;
          }) slot.parts

      fails_at : (fault : LogFault) → (IsTrue s.state.honest → CreateFails s.state.files s.state.next made fault files)
          → IsTrue p.state.honest → CreateFails p.state.files p.state.next made fault files
      fails_at fault fails h = subst (λ (q : StoreParts). CreateFails q.state.files q.state.next made fault files) slot.parts (fails (honest_now ∙ h))

      unmade_is : (fault : LogFault) (n : ℕ) → failures ≡ n → (IsTrue p.state.honest → CreateFails p.state.files p.state.next made fault files)
          → CreateLogFailed p.state fault n after
      unmade_is fault n same fails = record { made = made; slot = number; free = slot.free; files = fails; left = left_is n same }

      -- no file of the next id is on an honest disk, so that nothing is odd
      never_odd : IsTrue p.state.honest → CreateFails p.state.files p.state.next made log_faults.Odd files → ⊥
      never_odd h = elim made as (λ b. CreateFails p.state.files p.state.next b log_faults.Odd files → ⊥) [
        | true ↦ λ wrong. wrong
        | false ↦ λ fails. let none = (keeps.promises h).logs.fresh p.state.next (omega arith) in let there = fails.0 in let some = sym there ∙ ap is_some none in cc
      ]

      never_failed : CreateFails p.state.files p.state.next made log_faults.Failed files → ⊥
      never_failed = elim made as (λ b. CreateFails p.state.files p.state.next b log_faults.Failed files → ⊥) [ true ↦ λ wrong. wrong | false ↦ λ wrong. wrong ]

      unmade_turn : (fault : LogFault) → FailsExactlyIf s.state.failures failures (fault ≡ log_faults.Disk)
          → (IsTrue p.state.honest → CreateFails p.state.files p.state.next made fault files) → CreateLogTransition p.state state (Err (make_fault_of fault)) after
      unmade_turn log_faults.Memory cause fails =
          (may, inr (unmade_is log_faults.Memory p.state.failures (not_failed cause (λ wrong. cc) ∙ failures_now) fails))
      unmade_turn log_faults.Disk cause fails =
          (may, unmade_is log_faults.Disk (p.state.failures + 1) (failed_once cause refl ∙ ap (λ n. n + 1) failures_now) fails)
      unmade_turn log_faults.Odd cause fails = (
        may,
        false_from_ne_true p.state.honest (λ h. never_odd h (fails h)),
        unmade_is log_faults.Odd p.state.failures (not_failed cause (λ wrong. cc) ∙ failures_now) fails,
      )
      unmade_turn log_faults.Failed cause fails = (
        may,
        false_from_ne_true p.state.honest (λ h. never_failed (fails h)),
        unmade_is log_faults.Odd p.state.failures (not_failed cause (λ wrong. cc) ∙ failures_now) (λ h. absurd (never_failed (fails h))),
      )

      pub refused_turn : (fault : LogFault) (told : MakeFault) → told ≡ make_fault_of fault → FailsExactlyIf s.state.failures failures (fault ≡ log_faults.Disk)
          → (IsTrue s.state.honest → CreateFails s.state.files s.state.next made fault files) → CreateLogTransition p.state state (Err told) after
      refused_turn fault told is cause fails =
          subst (λ t. CreateLogTransition p.state state (Err t) after) (sym is) (unmade_turn fault cause (fails_at fault fails))
