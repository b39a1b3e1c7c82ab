-- The next entry of a flush is appended: which one it is, and that the store invariant and the
-- logical contents are preserved.
use Rattle.std.proofs.Common.{◌≡◌, inr, ℕ, ◌+◌, ◌≤◌, Bool, true, false, IsTrue, List, length, Option, Some, None, IsSome, Result, Ok, Err}
use Rattle.std.proofs.Common.{refl, sym, ap, subst, ◌∙◌, arith}
use Rattle.bk_record.specs.Key.{EntryKey}
use Rattle.bk_record.specs.Location.{Place}
use Rattle.bk_record.specs.Keyed.{Places}
use Rattle.bk_record.specs.Limits.{max_added}
use Rattle.bk_record.specs.Record.{read_added}
use Rattle.bk_record.proofs.ReadKeys.{addable}
use Rattle.bk_log.specs.Writing as writers
use Rattle.bk_log.specs.declared.fault.LogFault.{LogFault}
use Rattle.bk_log.specs.declared.fault.LogFault.TheVariants as log_faults
use Rattle.bk_accounts.specs.Book.{Book, after_ready, after_count}
use Rattle.bk_cache.specs.Caches.{flush_of, first_after}
use Rattle.bk_cache.specs.Invariant.{IsSound}
use Rattle.bk_cache.specs.Recents.{Entry}
use Rattle.bk_store.specs.FlushPlaces.{last_key}
use Rattle.bk_store.specs.State.{StoreParts}
use Rattle.bk_store.specs.Contents.{SameContents}
use Rattle.bk_store.specs.Invariant.{StoreInvariant}
use Rattle.bk_store.specs.Appending.{IsPutAt}
use Rattle.bk_store.specs.Primitives.{IsNextEntry, IsFirstUnplaced, AllPlaced, NextNeedsLog, is_filled, writer_of, CanAppendFlushed, AppendFlushedTransition, AppendNextTransition}
use Rattle.bk_store.specs.Internals.{TakesWithin, AppendFlushedInternals, AppendsNextEntry, AppendNextParts, with_durable_of, unless_failed}
use Rattle.bk_store.specs.declared.answer.Appended.{Appended}
use Rattle.bk_store.specs.declared.answer.Appended.TheVariants as appends
use Rattle.bk_store.proofs.NextEntry.{next_entry}
use Rattle.bk_store.proofs.Filled.{none_writing, its_writing, written_by, has_writer, writes_into, takes_within}
use Rattle.bk_store.proofs.Written.{IsWritable, writable, refused_turn}
use Rattle.bk_store.proofs.InvariantAppendFlushed.{keeps_write}
use Rattle.bk_store.proofs.SameContents.{means_same, write_means}

-- ---- the next entry, and the log that takes it

-- the next entry of the flush, and the Writing log, which takes it
pub record TakesNext (p : StoreParts) (id : ℕ) (key : EntryKey) (payload : List ℕ) : Type 0 where
  pub next : IsFirstUnplaced p.state key payload
  pub within : TakesWithin p.state id payload
  pub most : length payload ≤ max_added
  pub kept : StoreInvariant p

module _ (p now : StoreParts) (here : p ≡ now) (keeps : StoreInvariant now) where
  kept : StoreInvariant p
  kept = subst StoreInvariant (sym here) keeps

  module _ (last : Option EntryKey) (is : last ≡ last_key p.state.places) where
    -- the first entry of the flush after the last one that has a place is its next
    next_is : (o : Option Entry) → o ≡ first_after last (flush_of p.state.caches) → IsNextEntry p.state o
    next_is o first =
        subst (λ (e : Option Entry). IsNextEntry p.state e) (sym (first ∙ ap (λ k. first_after k (flush_of p.state.caches)) is))
        (next_entry p.state kept.fits.placed)

    pub all_placed : None ≡ first_after last (flush_of p.state.caches) → AllPlaced now.state × (now ≡ with_durable_of now now)
    all_placed none = (subst (λ (x : StoreParts). AllPlaced x.state) here (next_is None none), refl)

    module _ {key : EntryKey} {payload : List ℕ} (first : Some (key, payload) ≡ first_after last (flush_of p.state.caches)) where
      next : IsFirstUnplaced p.state key payload
      next = next_is (Some (key, payload)) first

      -- no log is Writing
      pub needs_first : p.writing ≡ None → NextNeedsLog now.state × (now ≡ with_durable_of now now)
      needs_first none = (
        subst (λ (x : StoreParts). NextNeedsLog x.state) here
            (record { key = key; payload = payload; next = next; filled = None; needs = none_writing p kept none }),
        refl,
      )

      -- the Writing log is filled, or not
      module _ (id : ℕ) (writing : p.writing ≡ Some id) (size : ℕ) (long : size ≡ length payload) (full : Bool)
          (full_is : (w : writers.Writing) (bytes : List ℕ) → writer_of p.state.logs id ≡ Some w → length bytes ≡ size
          → full ≡ is_filled p.state.settings.log_limit w bytes) where
        full_so : is_filled p.state.settings.log_limit (its_writing p kept id writing) payload ≡ full
        full_so = sym (full_is (its_writing p kept id writing) payload (written_by p kept id writing) (sym long))

        pub needs_next : full ≡ true → NextNeedsLog now.state × (now ≡ with_durable_of now now)
        needs_next over = (
          subst (λ (x : StoreParts). NextNeedsLog x.state) here (record {
            key = key;
            payload = payload;
            next = next;
            filled = Some id;
            needs = writes_into p kept id writing payload true (full_so ∙ over);
          }),
          refl,
        )

        pub takes_next : read_added payload ≡ Ok key → full ≡ false → (bytes : List ℕ) → bytes ≡ payload → TakesNext p id key bytes
        takes_next read under bytes same = subst (TakesNext p id key) (sym same) (record {
          next = next;
          within = takes_within p kept id writing payload (addable payload key read).most (full_so ∙ under);
          most = (addable payload key read).most;
          kept = kept;
        })

-- the Writing log has a writer
pub is_writing : (p now : StoreParts) → p ≡ now → StoreInvariant now → (id : ℕ) → p.writing ≡ Some id → IsSome (writer_of p.state.logs id)
is_writing p now here keeps id writing = has_writer p (subst StoreInvariant (sym here) keeps) id writing

-- an entry of the flush is short
pub is_short : (key : EntryKey) (payload : List ℕ) (size : ℕ) → size ≡ length payload → read_added payload ≡ Ok key → size ≤ max_added
is_short key payload size long read = let most = (addable payload key read).most in omega (arith, long, most)

-- ---- the parts after the append

module _ {p : StoreParts} {id : ℕ} {key : EntryKey} {payload : List ℕ} (is : TakesNext p id key payload) where
  pub next_writable : IsSound p.state.caches → IsWritable p id key payload
  next_writable sound =
      writable p p refl is.kept id key payload (record { payload = payload; next = is.next; takes = is.within.takes }) is.next.flushing sound

  pub refused : (places : Places) → places ≡ p.state.places
      → AppendFlushedTransition p.state id key payload (Err log_faults.Memory) (record p.state { places = places })
  refused places same = refused_turn p p refl id key payload places same

  -- the record is counted
  pub counted : {ready new : Book} {first later size : ℕ} → ready ≡ after_ready p.accounts id first → first ≡ key.ledger
      → new ≡ after_count ready id later (size + 4) → later ≡ key.ledger → size ≡ length payload
      → new ≡ after_count (after_ready p.accounts id key.ledger) id key.ledger (4 + length payload)
  counted {ready} {new} {first} {later} {size} readied first_is counts later_is long =
      let sum : size + 4 ≡ 4 + length payload = omega (arith, long) in
      counts ∙ ap (λ b. after_count b id later (size + 4)) (readied ∙ ap (after_ready p.accounts id) first_is)
      ∙ ap (λ l. after_count (after_ready p.accounts id key.ledger) id l (size + 4)) later_is
      ∙ ap (after_count (after_ready p.accounts id key.ledger) id key.ledger) sum

  pub counted_parts : {q : StoreParts} {book : Book} → q ≡ record (with_durable_of p q) { state = q.state; accounts = q.accounts } → q.accounts ≡ book
      → q ≡ record (with_durable_of p q) { state = q.state; accounts = book }
  counted_parts {q} {book} same counted = same ∙ ap (λ a. record (with_durable_of p q) { state = q.state; accounts = a }) counted

  -- the append failed
  pub failed_parts : {q : StoreParts} (w : writers.Writing) (fault : LogFault) → IsPutAt w (Err fault) → IsSound p.state.caches
      → q ≡ record (with_durable_of p q) { state = q.state; accounts = q.accounts; writing = q.writing }
      → q.accounts ≡ after_ready p.accounts id key.ledger → q.writing ≡ unless_failed p.writing fault
      → AppendFlushedInternals (with_durable_of p q) id key payload (Err fault) q
  failed_parts {q} w log_faults.Memory at sound same accounts writing = (
    inr accounts,
    same ∙ ap (λ v. record (with_durable_of p q) { state = q.state; accounts = q.accounts; writing = v }) writing,
  )
  failed_parts {q} w log_faults.Disk at sound same accounts writing =
      (sound, same ∙ (λ i. record (with_durable_of p q) { state = q.state; accounts = accounts i; writing = writing i }))
  failed_parts {q} w log_faults.Odd at sound same accounts writing =
      (sound, same ∙ (λ i. record (with_durable_of p q) { state = q.state; accounts = accounts i; writing = writing i }))
  failed_parts {q} w log_faults.Failed never sound same accounts writing = absurd never

pub appended_entry : (p now q : StoreParts) → p ≡ now → (id : ℕ) {key : EntryKey} {payload : List ℕ} (result : Result Place LogFault)
    → TakesNext p id key payload → AppendFlushedTransition p.state id key payload result q.state
    → AppendFlushedInternals (with_durable_of p q) id key payload result q → AppendsNextEntry (with_durable_of now q) result q
appended_entry p now q here id {key} {payload} result is put beside =
    subst (λ (x : StoreParts). AppendsNextEntry (with_durable_of x q) result q) here
    (record { key = key; payload = payload; next = is.next; log = id; within = is.within; put = put; beside = beside })

-- ---- a call that appends it

may_append : (p q : StoreParts) {result : Result Place LogFault} (is : AppendsNextEntry p result q) → CanAppendFlushed p.state is.log is.key
may_append p q is = record { payload = is.payload; next = is.next; takes = is.within.takes }

entry_kept : (p q : StoreParts) (result : Result Place LogFault) → StoreInvariant p → AppendsNextEntry p result q → StoreInvariant q
entry_kept p q result keeps is = keeps_write p q is.log is.key is.payload result keeps (may_append p q is) is.next.flushing is.put is.beside

pub keeps_next : (p q : StoreParts) (result : Result Appended LogFault) → StoreInvariant p → AppendNextParts p result q → StoreInvariant q
keeps_next p q (Ok appends.AllPlaced) keeps parts = subst StoreInvariant (sym parts.1) keeps
keeps_next p q (Ok appends.NeedsLog) keeps parts = subst StoreInvariant (sym parts.1) keeps
keeps_next p q (Ok (appends.At place)) keeps parts = entry_kept p q (Ok place) keeps parts
keeps_next p q (Err fault) keeps parts = entry_kept p q (Err fault) keeps parts

pub next_turn : (p q : StoreParts) (result : Result Appended LogFault) → AppendNextParts p result q → AppendNextTransition p.state result q.state
next_turn p q (Ok appends.AllPlaced) parts = (parts.0, ap (λ (x : StoreParts). x.state) parts.1)
next_turn p q (Ok appends.NeedsLog) parts = (parts.0, ap (λ (x : StoreParts). x.state) parts.1)
next_turn p q (Ok (appends.At place)) parts =
    record { key = parts.key; payload = parts.payload; next = parts.next; log = parts.log; into = parts.within.into; put = parts.put }
next_turn p q (Err fault) parts =
    record { key = parts.key; payload = parts.payload; next = parts.next; log = parts.log; into = parts.within.into; put = parts.put }

entry_means : (p q : StoreParts) (result : Result Place LogFault) → StoreInvariant p → AppendsNextEntry p result q → IsTrue p.state.honest
    → SameContents p.state q.state
entry_means p q result keeps is = write_means p q is.log is.key is.payload result keeps (may_append p q is) is.next.flushing is.put is.beside

pub next_means : (p q : StoreParts) (result : Result Appended LogFault) → StoreInvariant p → AppendNextParts p result q → IsTrue p.state.honest
    → SameContents p.state q.state
next_means p q (Ok appends.AllPlaced) keeps parts honest = means_same p.state q.state (ap (λ (x : StoreParts). x.state) parts.1)
next_means p q (Ok appends.NeedsLog) keeps parts honest = means_same p.state q.state (ap (λ (x : StoreParts). x.state) parts.1)
next_means p q (Ok (appends.At place)) keeps parts honest = entry_means p q (Ok place) keeps parts honest
next_means p q (Err fault) keeps parts honest = entry_means p q (Err fault) keeps parts honest
