-- One log of those that are held changes: what holds of each log, of the views, and of the logs of
-- a flush.
use Rattle.std.proofs.Common.{◌≡◌, ◌≢◌, ◌⊎◌, inl, inr, ℕ, ◌+◌, ◌↔◌, true, cond, List, [], Option, Some, is_some}
use Rattle.std.proofs.Common.{option_map, take, unwrap_or, refl, sym, ap, subst, ◌∙◌}
use Rattle.std.specs.Option.{option_map_or}
use Rattle.std.specs.FinMap as finite
use Rattle.std.proofs.lemmas.Cmp.{nat_cmp_total}
use Rattle.bk_record.specs.Files.{Files}
use Rattle.bk_record.specs.Scan.{entries_of}
use Rattle.bk_store.specs.Logs.{View, Log, Logs, HasOpenView, IsFlushLog, is_open, open_parts, published_part, acknowledged_part}
use Rattle.bk_store.specs.Invariant.{acknowledged_entries}
use Rattle.bk_store.specs.declared.log.LogState.TheVariants.{Writing, Filled}
use Rattle.bk_store.proofs.Cases.{same_or_apart}
use Rattle.bk_store.proofs.LogMaps.{log-inserted, log-insert_else, log-insert_cases}

-- the running flush wrote the log
abbrev pub IsFlushed : Log → Type 0
IsFlushed log = (log.state ≡ Writing) ⊎ (log.state ≡ Filled)

module _ (logs : Logs) (id : ℕ) (log new : Log) (held : finite.get logs id ≡ Some log) where
  pub same_len : finite.len (finite.insert logs id new) ≡ finite.len logs
  same_len = finite.len-insert nat_cmp_total logs id new ∙ ap (λ (o : Option Log). cond (is_some o) (finite.len logs) (finite.len logs + 1)) held

  one_log : (q : ℕ) (l : Log) → q ≡ id → finite.get logs q ≡ Some l → log ≡ l
  one_log q l here is = let both : Some log ≡ Some l = sym held ∙ ap (finite.get logs) (sym here) ∙ is in cc

  -- what each log kept, and the changed one keeps
  pub each_log : (P : ℕ → Log → Type 0) → P id new → ((q : ℕ) (l : Log) → q ≢ id → finite.get logs q ≡ Some l → P q l)
      → (q : ℕ) (l : Log) → finite.get (finite.insert logs id new) q ≡ Some l → P q l
  each_log P changed others q l is = elim (log-insert_cases logs id new q l is) [
    | inl here ↦ subst (λ x. P q x) here.1 (subst (λ x. P x new) (sym here.0) changed)
    | inr other ↦ others q l other.0 other.1
  ]

  -- a log that had a view and was open is so still
  pub views_stay : ((view : View) → is_open log.state ≡ true → log.view ≡ Some view → (is_open new.state ≡ true) × ((v : View) × (new.view ≡ Some v)))
      → (q : ℕ) → HasOpenView logs q → HasOpenView (finite.insert logs id new) q
  views_stay still q was = elim (same_or_apart q id) [
    | inr apart ↦ record {
      log = was.log;
      view = was.view;
      held = log-insert_else logs id new q apart ∙ was.held;
      opened = was.opened;
      view_is = was.view_is;
    }
    | inl here ↦
        let same = one_log q was.log here was.held in
        let now = still was.view (ap (λ (l : Log). is_open l.state) same ∙ was.opened) (ap (λ (l : Log). l.view) same ∙ was.view_is) in
        record { log = new; view = now.1.0; held = log-inserted logs id new q here; opened = now.0; view_is = now.1.1 }
  ]

  -- if no key points to the log that changes, nothing is owed of it
  pub views_else : (q : ℕ) → q ≢ id → HasOpenView logs q → HasOpenView (finite.insert logs id new) q
  views_else q apart was = record {
    log = was.log;
    view = was.view;
    held = log-insert_else logs id new q apart ∙ was.held;
    opened = was.opened;
    view_is = was.view_is;
  }

  pub flush_logs_stay : (IsFlushed log → IsFlushed new) → (q : ℕ) → IsFlushLog logs q → IsFlushLog (finite.insert logs id new) q
  flush_logs_stay still q was = elim (same_or_apart q id) [
    | inr apart ↦ record { log = was.log; held = log-insert_else logs id new q apart ∙ was.held; flushed = was.flushed }
    | inl here ↦ record {
      log = new;
      held = log-inserted logs id new q here;
      flushed = still (subst (λ (l : Log). IsFlushed l) (sym (one_log q was.log here was.held)) was.flushed);
    }
  ]

  pub names_stay : (n : ℕ → ℕ) (q : ℕ) → option_map (λ _. n q) (finite.get logs q) ≡ option_map (λ _. n q) (finite.get (finite.insert logs id new) q)
  names_stay n q = elim (same_or_apart q id) [
    | inr apart ↦ ap (option_map (λ _. n q)) (sym (log-insert_else logs id new q apart))
    | inl here ↦ ap (option_map (λ _. n q)) (ap (finite.get logs) here ∙ held) ∙ sym (ap (option_map (λ _. n q)) (log-inserted logs id new q here))
  ]

  -- the log that is written is so still, where the changed one has the state that it had
  pub writing_same : (log.state ≡ Writing → new.state ≡ Writing) → (new.state ≡ Writing → log.state ≡ Writing) → (writing : Option ℕ)
      → ((q : ℕ) → (writing ≡ Some q) ↔ ((l : Log) × (finite.get logs q ≡ Some l) × (l.state ≡ Writing)))
      → (q : ℕ) → (writing ≡ Some q) ↔ ((l : Log) × (finite.get (finite.insert logs id new) q ≡ Some l) × (l.state ≡ Writing))
  writing_same to back writing was q = (
    (λ is.
        let old = (was q).0 is in
        elim (same_or_apart q id) [
          | inr apart ↦ (old.0, log-insert_else logs id new q apart ∙ old.1, old.2)
          | inl here ↦ (new, log-inserted logs id new q here, to (ap (λ (l : Log). l.state) (one_log q old.0 here old.1) ∙ old.2))
        ]),
    (λ now. elim (log-insert_cases logs id new q now.0 now.1) [
      | inl here ↦ (was q).1 (log, ap (finite.get logs) here.0 ∙ held, back (ap (λ (l : Log). l.state) here.1 ∙ now.2))
      | inr other ↦ (was q).1 (now.0, other.1, now.2)
    ]),
  )

  -- ---- the published parts of the logs

  pub parts_else : (q : ℕ) → q ≢ id → open_parts (finite.insert logs id new) q ≡ open_parts logs q
  parts_else q apart = ap (λ o. option_map_or (λ (l : Log). cond (is_open l.state) (published_part l) []) o []) (log-insert_else logs id new q apart)

  pub parts_here : open_parts (finite.insert logs id new) id ≡ cond (is_open new.state) (published_part new) []
  parts_here = ap (λ o. option_map_or (λ (l : Log). cond (is_open l.state) (published_part l) []) o []) (log-inserted logs id new id refl)

  -- ---- the entries that are acknowledged

  pub entries_else : (files files' : Files) → ((q : ℕ) → q ≢ id → finite.get files' q ≡ finite.get files q)
      → (q : ℕ) → q ≢ id → acknowledged_entries files' (finite.insert logs id new) q ≡ acknowledged_entries files logs q
  entries_else files files' only q apart =
      ap (option_map (λ (l : Log). entries_of (acknowledged_part files' q l))) (log-insert_else logs id new q apart)
      ∙ ap (λ (o : Option (List ℕ)). option_map (λ (l : Log). entries_of (take l.acknowledged (unwrap_or o []))) (finite.get logs q)) (only q apart)

  pub entries_here : (files' : Files) → acknowledged_entries files' (finite.insert logs id new) id ≡ Some (entries_of (acknowledged_part files' id new))
  entries_here files' = ap (option_map (λ (l : Log). entries_of (acknowledged_part files' id l))) (log-inserted logs id new id refl)

  pub entries_were : (files : Files) → acknowledged_entries files logs id ≡ Some (entries_of (acknowledged_part files id log))
  entries_were files = ap (option_map (λ (l : Log). entries_of (acknowledged_part files id l))) held

  -- the changed log has the entries that it had, and so all have
  pub entries_stay : (files files' : Files) → ((q : ℕ) → q ≢ id → finite.get files' q ≡ finite.get files q)
      → entries_of (acknowledged_part files' id new) ≡ entries_of (acknowledged_part files id log)
      → (q : ℕ) → acknowledged_entries files' (finite.insert logs id new) q ≡ acknowledged_entries files logs q
  entries_stay files files' only same q = elim (same_or_apart q id) [
    | inr apart ↦ entries_else files files' only q apart
    | inl here ↦
        ap (acknowledged_entries files' (finite.insert logs id new)) here ∙ entries_here files' ∙ ap (λ es. Some es) same ∙ sym (entries_were files)
        ∙ ap (acknowledged_entries files logs) (sym here)
  ]
