-- No primitive changes the logical contents of a store: on an honest disk each key has the payload
-- that it had.
use Rattle.std.proofs.Common.{◌≡◌, inl, inr, ℕ, ◌+◌, false, IsTrue, List, [], take, Some, None, unwrap_or, Result, Ok, Err, refl, sym, ap, subst, ◌∙◌}
use Rattle.std.specs.FinMap as finite
use Rattle.std.specs.FinSet as set
use Rattle.bk_record.specs.Key.{EntryKey}
use Rattle.bk_record.specs.Location.{Place}
use Rattle.bk_record.specs.Record.{IsPayload, key_of, read_added, record_of}
use Rattle.bk_record.specs.Files.{Files, file_of, In}
use Rattle.bk_record.specs.Scan.{Payloads}
use Rattle.bk_record.proofs.ReadKeys.{addable, addable_payload}
use Rattle.bk_disk.specs.Disk.{files_after_append}
use Rattle.bk_log.specs.Writing as writers
use Rattle.bk_log.specs.Growing.{Gains, put_record}
use Rattle.bk_log.specs.declared.fault.LogFault.{LogFault}
use Rattle.bk_log.specs.declared.fault.LogFault.TheVariants as log_faults
use Rattle.bk_log.proofs.Gains.{create_gains, put_gains}
use Rattle.bk_cache.specs.Caches as caches
use Rattle.bk_cache.specs.Invariant.{IsSound}
use Rattle.bk_store.specs.Representation.{Represents}
use Rattle.bk_store.specs.Logs.{Log}
use Rattle.bk_store.specs.State.{State, StoreParts}
use Rattle.bk_store.specs.Contents.{PreservesContents, SameContents, contents_at, written_at}
use Rattle.bk_store.specs.Invariant.{StoreInvariant, ContentInvariant}
use Rattle.bk_store.specs.Appending.{next_place}
use Rattle.bk_lease.specs.declared.answers.Leased.{Leased}
use Rattle.bk_store.specs.Leasing.{CloseLogTransition}
use Rattle.bk_store.specs.Primitives.{CreateLogTransition, CreateLogFailed, CanAppendFlushed, AppendFlushedTransition, SealLogTransition, AllIndexed, EndFlushTransition}
use Rattle.bk_store.specs.Internals.{AppendFlushedInternals}
use Rattle.bk_store.specs.declared.log.LogState.{LogState}
use Rattle.bk_store.specs.declared.answer.MakeFault.{MakeFault}
use Rattle.bk_store.specs.declared.answer.MakeFault.TheVariants as makes
use Rattle.bk_store.proofs.RepresentedContents.{carries_meaning}
use Rattle.bk_store.proofs.Growing.{grows_behind, carries_grown}
use Rattle.bk_store.proofs.CachedMoves.{carries_let_go}
use Rattle.bk_store.proofs.Closing.{none_keyed}
use Rattle.bk_store.proofs.InvariantNotePlace.{flush_written, put_mapped}
use Rattle.bk_store.proofs.InvariantFlushEnds.{let_go}

-- two states of which the same map is represented mean the same
pub same_map : (s t : State) (map : Payloads) → Represents (file_of s.files) s.index (written_at s) s.ledgers.dead map
    → Represents (file_of t.files) t.index (written_at t) t.ledgers.dead map → SameContents s t
same_map s t map was now key = sym (carries_meaning t.files now key) ∙ carries_meaning s.files was key

-- a state with the same files, caches and deleted ledgers
pub means_same : (s t : State) → t ≡ s → SameContents s t
means_same s t same = subst (SameContents s) (sym same) (λ key. refl)

pub same_files : (s : State) (files : Files) → files ≡ s.files → SameContents s (record s { files = files })
same_files s files same key = ap (λ f. contents_at (record s { files = f }) key) same

-- in one log others are after the old records, and those that have keys of live ledgers have what
-- the map has
pub gained : (p : StoreParts) (reveal_invariant : ContentInvariant p) (id : ℕ) (files : Files) (others : List (ℕ × List ℕ)) → Gains p.state.files id others files
    → ((at : ℕ) (payload : List ℕ) (key : EntryKey) → In (at, payload) others → key_of payload ≡ Some key → set.contains p.state.ledgers.dead key.ledger ≡ false
    → finite.get reveal_invariant.map.carried key ≡ Some payload)
    → SameContents p.state (record p.state { files = files })
gained p reveal_invariant id files others gains each =
    same_map p.state (record p.state { files = files }) reveal_invariant.map.carried reveal_invariant.map.carries
    (carries_grown (grows_behind p.state.ledgers.dead reveal_invariant.map.carried id (λ q apart. ap (λ o. unwrap_or o []) (gains.only q apart)) others gains.records each)
    reveal_invariant.map.carries)

-- ---- making a log

unmade_means : (p q : StoreParts) (fault : LogFault) (failures : ℕ) → StoreInvariant p → CreateLogFailed p.state fault failures q.state → IsTrue p.state.honest
    → SameContents p.state q.state
unmade_means p q fault failures keeps is honest =
    subst (SameContents p.state) (sym is.left) (gained p (keeps.promises honest) p.state.next q.state.files []
    (create_gains {W = Unit {0}} p.state.files q.state.files p.state.next (Err (record { made = is.made; fault = fault })) (is.files honest))
    (λ at payload key never. absurd never))

pub make_means : (p q : StoreParts) (state : LogState) (result : Result ℕ MakeFault) → StoreInvariant p → CreateLogTransition p.state state result q.state → IsTrue p.state.honest
    → SameContents p.state q.state
make_means p q state (Err makes.LogsFull) keeps turn honest = means_same p.state q.state turn.1
make_means p q state (Err makes.NoMoreIds) keeps turn honest = means_same p.state q.state turn.2
make_means p q state (Err makes.Memory) keeps turn honest = elim turn.1 [
  | inl same ↦ means_same p.state q.state same
  | inr is ↦ unmade_means p q log_faults.Memory p.state.failures keeps is honest
]
make_means p q state (Err makes.Disk) keeps turn honest = unmade_means p q log_faults.Disk (p.state.failures + 1) keeps turn.1 honest
make_means p q state (Err makes.Odd) keeps turn honest = absurd (let wrong = turn.1 in cc)
make_means p q state (Ok id) keeps turn honest =
    subst (SameContents p.state) (sym turn.2.left) (gained p (keeps.promises honest) p.state.next q.state.files []
    (create_gains {W = Unit {0}} p.state.files q.state.files p.state.next (Ok tt) (turn.2.files honest)) (λ at payload key never. absurd never))

-- ---- writing and sealing

-- a record is put in a log that is written, of an entry that the map has
module _ (p : StoreParts) (keeps : StoreInvariant p) (id : ℕ) (log : Log) (held : finite.get p.state.logs id ≡ Some log) (w : writers.Writing)
    (writer : log.writer ≡ Some w) (key : EntryKey) (payload : List ℕ) (legal : IsPayload payload) (keyed : key_of payload ≡ Some key)
    (honest : IsTrue p.state.honest) (mapped : finite.get (keeps.promises honest).map.carried key ≡ Some payload) (files : Files) where
  own : w.log ≡ id
  own = ((keeps.fits.logs.each id log held).by w writer).own

  writes : writers.Writes p.state.files w
  writes = ((keeps.promises honest).logs.each id log held).writes w writer

  own_grown : (bytes : List ℕ) → files ≡ files_after_append p.state.files id bytes → files ≡ files_after_append p.state.files w.log bytes
  own_grown bytes grew = grew ∙ ap (λ n. files_after_append p.state.files n bytes) (sym own)

  each : (at : ℕ) (b : List ℕ) (k : EntryKey) → In (at, b) (put_record w payload) → key_of b ≡ Some k → set.contains p.state.ledgers.dead k.ledger ≡ false
      → finite.get (keeps.promises honest).map.carried k ≡ Some b
  each at b k there is_key _ = put_mapped (keeps.promises honest).map.carried w key payload keyed mapped at b k there is_key

  pub put_means : files ≡ files_after_append p.state.files id (record_of payload) → SameContents p.state (record p.state { files = files })
  put_means grew =
      gained p (keeps.promises honest) w.log files (put_record w payload)
      (put_gains p.state.files files w payload (Ok (next_place w)) writes legal (own_grown (record_of payload) grew)) each

  pub part_means : (n : ℕ) × (files ≡ files_after_append p.state.files id (take n (record_of payload))) → SameContents p.state (record p.state { files = files })
  part_means grew = elim (put_gains p.state.files files w payload (Err log_faults.Disk) writes legal
      (grew.0, own_grown (take grew.0 (record_of payload)) grew.1)) [
        | inl all ↦ gained p (keeps.promises honest) w.log files (put_record w payload) all each
        | inr none ↦ gained p (keeps.promises honest) w.log files [] none (λ at b k never. absurd never)
      ]

-- the flush's next entry is one
module _ (p : StoreParts) (keeps : StoreInvariant p) (id : ℕ) (key : EntryKey) (payload : List ℕ) (may : CanAppendFlushed p.state id key)
    (flushing : finite.get (caches.flush_of p.state.caches) key ≡ Some payload) (sound : IsSound p.state.caches) (honest : IsTrue p.state.honest)
    (files : Files) where
  read : read_added payload ≡ Ok key
  read = sound.flush_keyed key payload flushing

  mapped_flush : finite.get (keeps.promises honest).map.carried key ≡ Some payload
  mapped_flush = (keeps.promises honest).map.carries.cached_is key payload (flush_written p.state key payload sound.apart flushing)

  written_means : files ≡ files_after_append p.state.files id (record_of payload) → SameContents p.state (record p.state { files = files })
  written_means = put_means p keeps id may.takes.log may.takes.writer.held may.takes.w may.takes.writer.writer key payload
      (addable_payload payload key read) (addable payload key read).keyed honest mapped_flush files

  unwritten_means : (n : ℕ) × (files ≡ files_after_append p.state.files id (take n (record_of payload))) → SameContents p.state (record p.state { files = files })
  unwritten_means = part_means p keeps id may.takes.log may.takes.writer.held may.takes.w may.takes.writer.writer key payload
      (addable_payload payload key read) (addable payload key read).keyed honest mapped_flush files

pub write_means : (p q : StoreParts) (id : ℕ) (key : EntryKey) (payload : List ℕ) (result : Result Place LogFault) → StoreInvariant p → CanAppendFlushed p.state id key
    → finite.get (caches.flush_of p.state.caches) key ≡ Some payload → AppendFlushedTransition p.state id key payload result q.state
    → AppendFlushedInternals p id key payload result q → IsTrue p.state.honest → SameContents p.state q.state
write_means p q id key payload (Ok place) keeps may flushing turn beside honest =
    subst (SameContents p.state) (sym turn.1.4) (written_means p keeps id key payload may flushing beside.0 honest q.state.files (turn.1.3 honest))
write_means p q id key payload (Err log_faults.Memory) keeps may flushing turn beside honest =
    subst (SameContents p.state) (sym turn.1) (same_files p.state q.state.files (turn.0 honest))
write_means p q id key payload (Err log_faults.Disk) keeps may flushing turn beside honest =
    subst (SameContents p.state) (sym turn.3) (unwritten_means p keeps id key payload may flushing beside.0 honest q.state.files (turn.2 honest))
write_means p q id key payload (Err log_faults.Odd) keeps may flushing turn beside honest = absurd (let wrong = turn.0 in cc)
write_means p q id key payload (Err log_faults.Failed) keeps may flushing never beside honest = absurd never

pub seal_means : (p q : StoreParts) (id : ℕ) (state : LogState) (result : Result (Unit {0}) LogFault) → StoreInvariant p → SealLogTransition p.state id state result q.state
    → IsTrue p.state.honest → SameContents p.state q.state
seal_means p q id state result keeps turn honest =
    let sealed = turn.sealed honest in
    subst (SameContents p.state) (sym turn.left) (gained p (keeps.promises honest) turn.w.log q.state.files sealed.gains.others sealed.gains.gains
    (λ at payload key there keyed _. absurd (none_keyed sealed.gains.others sealed.gains.foreign at payload key there keyed)))

-- ---- the end of a flush

pub end_means : (p q : StoreParts) → StoreInvariant p → AllIndexed p.state → EndFlushTransition p.state q.state → IsTrue p.state.honest → SameContents p.state q.state
end_means p q keeps named turn honest =
    let reveal_invariant = keeps.promises honest in
    let ended : State = record p.state { caches = record p.state.caches { flush = None } } in
    subst (SameContents p.state) (sym turn.left)
    (same_map p.state ended reveal_invariant.map.carried reveal_invariant.map.carries (carries_let_go reveal_invariant.map.carries (written_at ended) (let_go p.state named)))

-- ---- a log is closed

pub close_means : (s t : State) (id : ℕ) (result : Result (Unit {0}) Leased) → CloseLogTransition s id result t → SameContents s t
close_means s t id (Ok _) turn = subst (SameContents s) (sym turn.1.2) (λ key. refl)
close_means s t id (Err leased) turn = means_same s t turn.1

-- what stays in one call and in the next stays in both
pub stays_on : (s t u : State) → PreservesContents s t → PreservesContents t u → PreservesContents s u
stays_on s t u first second = record {
  honest = second.honest ∙ first.honest;
  meaning = λ honest key. second.meaning (first.honest ∙ honest) key ∙ first.meaning honest key;
}
