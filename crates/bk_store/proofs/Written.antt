-- What the writer of a log, the caches and the accounts give an entry of the flush that is written.
use Rattle.std.proofs.Common.{◌≡◌, ℕ, ◌+◌, ◌≤◌, ◌<◌, ◌^◌, Bool, false, IsTrue, List, length, take, Option, Some, None}
use Rattle.std.proofs.Common.{IfSome, is_some, unwrap_or, Result, Ok, Err, Less, Equal, Greater, refl, sym, ap, subst, ◌∙◌, arith}
use Rattle.std.specs.FinMap as finite
use Rattle.std.specs.Ordering.{ordering_reverse}
use Rattle.bk_store.proofs.Cases.{some_value}
use Rattle.std.specs.declared.cmp.Ordering.{Ordering}
use Rattle.bk_record.specs.Key.{EntryKey, key_cmp}
use Rattle.bk_record.specs.Location.{Place}
use Rattle.bk_record.specs.Record.{IsPayload, key_of, record_of}
use Rattle.bk_record.specs.Files.{Files, header_length}
use Rattle.bk_record.proofs.Keys.{key_cmp_total, key_cmp_antisymmetric}
use Rattle.bk_record.proofs.ReadKeys.{addable, addable_payload}
use Rattle.bk_disk.specs.Disk.{FailsExactlyIf, files_after_append}
use Rattle.bk_log.specs.Writing as writers
use Rattle.bk_log.specs.declared.fault.LogFault.{LogFault}
use Rattle.bk_log.specs.declared.fault.LogFault.TheVariants as log_faults
use Rattle.std.specs.Option.{SomeIff, option_or}
use Rattle.std.proofs.lemmas.Bool.{false_from_ne_true}
use Rattle.bk_cache.specs.Caches.{CacheState, flush_of, cached_payload}
use Rattle.bk_cache.specs.Invariant.{IsSound}
use Rattle.bk_cache.specs.Recents.{recent_of}
use Rattle.bk_store.proofs.InvariantNotePlace.{flush_held}
use Rattle.bk_accounts.specs.Book.{total_in, total_at, after_ready}
use Rattle.bk_accounts.proofs.BookLaws.{total_in-after_ready}
use Rattle.bk_record.specs.Keyed.{Places}
use Rattle.bk_store.specs.Logs.{Log, Logs}
use Rattle.bk_store.specs.FlushPlaces.{IsAfterPlaced}
use Rattle.bk_store.specs.State.{StoreParts}
use Rattle.bk_store.specs.Invariant.{StoreInvariant}
use Rattle.bk_store.specs.Appending.{CanAppendRecord, put_log, grown_log, next_place, IsPutAt}
use Rattle.bk_store.specs.Primitives.{CanTake, CanAppendFlushed, AppendFlushedTransition, AppendRecordTransition, IsFirstUnplaced}
use Rattle.bk_store.specs.declared.log.LogState.{LogState}
use Rattle.bk_store.specs.declared.log.LogState.TheVariants.{Writing}
use Rattle.bk_store.proofs.LogMaps.{log-same}
use Rattle.bk_store.proofs.PublishTransitions.{not_failed, failed_once}

-- what is known of a log that can take a record
pub record IsRoomy (p : StoreParts) (id : ℕ) (payload : List ℕ) : Type 0 where
  pub log : Log
  pub w : writers.Writing
  pub held : finite.get p.state.logs id ≡ Some log
  pub writer : log.writer ≡ Some w
  pub own : w.log ≡ id
  pub going : w.failed ≡ false
  pub end_is : log.acknowledged ≡ w.end
  pub headed : header_length ≤ w.end
  pub room : w.end + 4 + length payload < 2 ^ 32
  pub id_fits : id < 2 ^ 31
  pub total : total_at p.accounts id + header_length ≤ w.end
  pub writes : IsTrue p.state.honest → writers.Writes p.state.files w

pub roomy : (p : StoreParts) → StoreInvariant p → (id : ℕ) (state : LogState) (payload : List ℕ) → CanTake p.state id state payload → IsRoomy p id payload
roomy p keeps id state payload takes =
    let old = keeps.fits.logs.each id takes.log takes.writer.held in
    let by = old.by takes.w takes.writer.writer in
    let total = keeps.fits.accounts.total id takes.log takes.writer.held in
    record {
      log = takes.log;
      w = takes.w;
      held = takes.writer.held;
      writer = takes.writer.writer;
      own = by.own;
      going = by.going;
      end_is = by.long;
      headed = let long = by.long in omega (arith, total, long);
      room = takes.room;
      id_fits = let below = old.below in let ids = keeps.fits.limits.ids in omega (arith, below, ids);
      total = let long = by.long in omega (arith, total, long);
      writes = λ honest. ((keeps.promises honest).logs.each id takes.log takes.writer.held).writes takes.w takes.writer.writer;
    }

pub roomy_same : {p : StoreParts} {id : ℕ} {a b : List ℕ} → IsRoomy p id a → a ≡ b → IsRoomy p id b
roomy_same {p} {id} {a} {b} is same = subst (λ x. IsRoomy p id x) same is

-- ---- the next entry is after all that have a place

ordered : (q key : EntryKey) (o : Ordering) → key_cmp q key ≡ o → (q ≡ key → ⊥) → (key_cmp key q ≡ Less → ⊥) → o ≡ Less
ordered q key Less is apart after = refl
ordered q key Equal is apart after = absurd (apart (key_cmp_antisymmetric q key is))
ordered q key Greater is apart after = absurd (after (key_cmp_total.antisymm key q ∙ ap ordering_reverse is))

pub next_behind : (p : StoreParts) → StoreInvariant p → (key : EntryKey) (payload : List ℕ) → IsFirstUnplaced p.state key payload → IsAfterPlaced p.state.places key
next_behind p keeps key payload next other there = ordered other key (key_cmp other key) refl
    (λ same. let none = ap (finite.get p.state.places) same ∙ next.unplaced in cc)
    (λ after.
    let found = some_value (finite.get p.state.places other) there in
    let placed = keeps.fits.placed.front other key found.0 found.1 after (ap is_some next.flushing) in
    let none = next.unplaced in
    cc)

-- ---- the entry that is written

-- what is known of the flush's next entry, and of the log that takes it
pub record IsWritable (p : StoreParts) (id : ℕ) (key : EntryKey) (payload : List ℕ) : Type 0 where
  pub room : IsRoomy p id payload
  pub legal : IsPayload payload
  pub keyed : key_of payload ≡ Some key
  pub behind : IsAfterPlaced p.state.places key

pub writable : (p now : StoreParts) → p ≡ now → StoreInvariant now → (id : ℕ) (key : EntryKey) (payload : List ℕ) → CanAppendFlushed now.state id key
    → finite.get (flush_of now.state.caches) key ≡ Some payload → IsSound p.state.caches → IsWritable p id key payload
writable p now here keeps id key payload may flushing sound =
    let mine = subst (λ (q : StoreParts). CanAppendFlushed q.state id key) (sym here) may in
    let kept = subst StoreInvariant (sym here) keeps in
    let there = ap (λ (q : StoreParts). finite.get (flush_of q.state.caches) key) here ∙ flushing in
    let both : Some payload ≡ Some mine.payload = sym there ∙ mine.next.flushing in
    let same : payload ≡ mine.payload = cc in
    let read = sound.flush_keyed key payload there in
    record {
      room = roomy_same (roomy p kept id Writing mine.payload mine.takes) (sym same);
      legal = addable_payload payload key read;
      keyed = (addable payload key read).keyed;
      behind = next_behind p kept key mine.payload mine.next;
    }

-- ---- the account takes the record in

pub total_fits : (p : StoreParts) (id ledger size : ℕ) (payload : List ℕ) → IsRoomy p id payload → size ≡ length payload + 4
    → IfSome (total_in (after_ready p.accounts id ledger) id) (λ total. total + size < 2 ^ 32)
total_fits p id ledger size payload is long =
    elim (total_in p.accounts id) as (λ o. total_in p.accounts id ≡ o
    → IfSome (total_in (after_ready p.accounts id ledger) id) (λ total. total + size < 2 ^ 32)) [
      | None ↦ λ none. subst (λ o. IfSome o (λ total. total + size < 2 ^ 32)) (sym (total_in-after_ready p.accounts id ledger id ∙ none)) tt
      | Some total ↦ λ there.
          subst (λ o. IfSome o (λ total. total + size < 2 ^ 32)) (sym (total_in-after_ready p.accounts id ledger id ∙ there))
          (let sum : total_at p.accounts id ≡ total = ap (λ o. unwrap_or o 0) there in
          let most = is.total in
          let room = is.room in
          omega (arith, sum, most, room, long))
    ] refl

-- ---- the transition

module _ (p now : StoreParts) (here : p ≡ now) (id : ℕ) (key : EntryKey) (payload : List ℕ) (is : IsRoomy p id payload) (files : Files)
    (honest : Bool) (failures : ℕ)
    (logs : Logs) (same_honest : honest ≡ p.state.honest) where
  pub written_turn : (place : Place) (places : Places) → places ≡ finite.insert p.state.places key place
      → logs ≡ finite.insert p.state.logs id (grown_log is.log is.w payload) → place ≡ next_place is.w
      → FailsExactlyIf p.state.failures failures (Ok place ≡ Err log_faults.Disk)
      → (IsTrue p.state.honest → files ≡ files_after_append p.state.files is.w.log (record_of payload))
      → AppendFlushedTransition now.state id key payload (Ok place)
      (record p.state { files = files; honest = honest; failures = failures; logs = logs; places = places })
  written_turn place places noted_there put at cause grew =
      subst (λ (n : StoreParts). AppendFlushedTransition n.state id key payload (Ok place)
      (record p.state { files = files; honest = honest; failures = failures; logs = logs; places = places })) here (
        is.log,
        (
          is.w,
          record { held = is.held; writer = is.writer },
          at,
          (λ h. grew h ∙ ap (λ n. files_after_append p.state.files n (record_of payload)) is.own),
          (λ i. record p.state {
            files = files;
            honest = same_honest i;
            failures = not_failed cause (λ wrong. cc) i;
            logs = put i;
            places = noted_there i;
          }),
        ),
      )

  pub failed_inside : (fault : LogFault) → logs ≡ finite.insert p.state.logs id (put_log is.log is.w payload (Err fault)) → IsPutAt is.w (Err fault)
      → FailsExactlyIf p.state.failures failures (◌≡◌ {A = Result Place LogFault} (Err fault) (Err log_faults.Disk))
      → (IsTrue p.state.honest → writers.WriterPutTransition p.state.files is.w payload (Err fault) files)
      → AppendRecordTransition p.state id payload (Err fault) (record p.state { files = files; honest = honest; failures = failures; logs = logs })
  failed_inside log_faults.Memory put at cause turn = (
    turn,
    (λ i. record p.state {
      files = files;
      honest = same_honest i;
      failures = not_failed cause (λ wrong. cc) i;
      logs = (put ∙ log-same p.state.logs id is.log is.held) i;
    }),
  )
  failed_inside log_faults.Disk put at cause turn = (
    is.log,
    is.held,
    (λ h. let left = turn h in (left.0, left.1 ∙ ap (λ n. files_after_append p.state.files n (take left.0 (record_of payload))) is.own)),
    (λ i. record p.state { files = files; honest = same_honest i; failures = failed_once cause refl i; logs = put i }),
  )
  failed_inside log_faults.Odd put at cause turn = (
    false_from_ne_true p.state.honest turn,
    (
      is.log,
      is.held,
      (λ i. record p.state { files = files; honest = same_honest i; failures = not_failed cause (λ wrong. cc) i; logs = put i }),
    ),
  )
  failed_inside log_faults.Failed put never cause turn = absurd never

  pub failed_turn : (fault : LogFault) (places : Places) → places ≡ p.state.places
      → logs ≡ finite.insert p.state.logs id (put_log is.log is.w payload (Err fault)) → IsPutAt is.w (Err fault)
      → FailsExactlyIf p.state.failures failures (◌≡◌ {A = Result Place LogFault} (Err fault) (Err log_faults.Disk))
      → (IsTrue p.state.honest → writers.WriterPutTransition p.state.files is.w payload (Err fault) files)
      → AppendFlushedTransition now.state id key payload (Err fault) (record p.state { files = files; honest = honest; failures = failures; logs = logs; places = places })
  failed_turn fault places back put at cause turn =
      subst (λ (n : StoreParts). AppendFlushedTransition n.state id key payload (Err fault)
      (record p.state { files = files; honest = honest; failures = failures; logs = logs; places = places })) here
      (subst (λ m. AppendFlushedTransition p.state id key payload (Err fault)
      (record p.state { files = files; honest = honest; failures = failures; logs = logs; places = m })) (sym back) (failed_inside fault put at cause turn))

-- nothing was done
pub refused_turn : (p now : StoreParts) → p ≡ now → (id : ℕ) (key : EntryKey) (payload : List ℕ) (places : Places) → places ≡ p.state.places
    → AppendFlushedTransition now.state id key payload (Err log_faults.Memory) (record p.state { places = places })
refused_turn p now here id key payload places back =
    subst (λ (n : StoreParts). AppendFlushedTransition n.state id key payload (Err log_faults.Memory) (record p.state { places = places })) here
    ((λ _. refl), (λ i. record p.state { places = back i }))

-- ---- what is asked of a put

pub may_put : (p : StoreParts) (id : ℕ) (payload bytes : List ℕ) → IsRoomy p id payload → bytes ≡ payload → (log : Log)
    → finite.get p.state.logs id ≡ Some log → CanAppendRecord log bytes
may_put p id payload bytes is same log held =
    let both : Some is.log ≡ Some log = sym is.held ∙ held in
    let one : is.log ≡ log = cc in
    record {
      w = is.w;
      writer = ap (λ (l : Log). l.writer) (sym one) ∙ is.writer;
      going = is.going;
      room = let room = is.room in let long = ap length same in omega (arith, room, long);
    }

-- the payload that the caches give for a key of the flush is the flush's
pub found_payload : (held : CacheState) (key : EntryKey) (payload bytes : List ℕ) → IsSound held → finite.get (flush_of held) key ≡ Some payload
    → Some bytes ≡ cached_payload held key → bytes ≡ payload
found_payload held key payload bytes sound flushing found =
    let there = flush_held held key payload sound.apart flushing in
    let both : Some bytes ≡ Some payload = found ∙ ap (λ o. option_or o (recent_of held.recent key)) there in
    cc

pub some_iff : {T : Type 0} (o : Option T) (P : Type 0) (v : T) → SomeIff o P v → P → o ≡ Some v
some_iff None P v never holds = absurd (never holds)
some_iff (Some x) P v is holds = ap (λ y. Some y) is.1
