-- The entries of one log, added to an index as a scan returns them.
use Rattle.std.proofs.Common.{◌≡◌, ◌⊎◌, inl, inr, ℕ, zero, suc, ◌+◌, true, false, IsTrue, if◌then◌else◌, List, [], ◌∷◌, ◌++◌}
use Rattle.std.proofs.Common.{length, take, drop, Some, None, Ok, slice_get, sym, ap, ◌∙◌, arith}
use Rattle.std.proofs.lemmas.List.{take_all}
use Rattle.std.proofs.lemmas.Option.{same_Some}
use Rattle.std.specs.FinMap as finite
use Rattle.std.specs.FinSet as set
use Rattle.bk_record.specs.Key.{EntryKey}
use Rattle.bk_record.specs.Location.{Place}
use Rattle.bk_record.specs.Record.{key_of}
use Rattle.bk_record.specs.Files.{header_length, In}
use Rattle.bk_record.specs.Scan.{Ledgers, entries_of}
use Rattle.bk_disk.specs.Disk.{view_end}
use Rattle.bk_log.specs.declared.found.Found.{Found}
use Rattle.bk_log.specs.Ranges.{entries_in, part}
use Rattle.bk_log.specs.Scanning.{Scan, part_of, NextMoves, ScanNextTransition}
use Rattle.bk_log.proofs.Ranges.{entries_in-file, whole_view}
use Rattle.bk_record.specs.Keyed.{Places}
use Rattle.bk_record.proofs.Growth.{take_next}
use Rattle.bk_store.specs.Indexing.{with_key}
use Rattle.bk_store.specs.Logs.{View}
use Rattle.bk_store.proofs.KeyMaps.{inserted_cases}
use Rattle.bk_collect.specs.Rebuilding.{with_record_at, with_records, TakesIn}

-- ---- one more record

records_push : (dead : Ledgers) (log : ℕ) (index : Places) (records : List (ℕ × List ℕ)) (at : ℕ) (payload : List ℕ) (key : EntryKey)
    → key_of payload ≡ Some key
    → with_records dead log index (records ++ (at, payload) ∷ []) ≡ with_key dead (with_records dead log index records) key (record { log = log; at = at })
records_push dead log index [] at payload key keyed = ap (with_record_at dead log index at) keyed
records_push dead log index (r ∷ records) at payload key keyed =
    records_push dead log (with_record_at dead log index r.0 (key_of r.1)) records at payload key keyed

-- after one more entry a key is the entry's, or points to where it did
sent_on : (dead : Ledgers) (index : Places) (key : EntryKey) (place : Place) (k : EntryKey) (p : Place)
    → finite.get (with_key dead index key place) k ≡ Some p → (finite.get index k ≡ Some p) ⊎ (place ≡ p)
sent_on dead index key place k p is =
    elim (set.contains dead key.ledger) as (λ b. finite.get (if b then index else finite.insert index key place) k ≡ Some p
    → (finite.get index k ≡ Some p) ⊎ (place ≡ p)) [
      | true ↦ λ same. inl same
      | false ↦ λ now. elim (inserted_cases index key place k p now) [
        | inl here ↦ inr here.1
        | inr old ↦ inl old.1
      ]
    ] is

slice_get-In : {X : Type 0} (xs : List X) (n : ℕ) (x : X) → slice_get xs n ≡ Some x → In x xs
slice_get-In [] n x is = cc
slice_get-In (y ∷ ys) zero x is = inl (same_Some y x is)
slice_get-In (y ∷ ys) (suc n) x is = inr (slice_get-In ys n x is)

-- ---- the scan so far

-- The scan is one of the whole published part of this view, and the entries that it returned were
-- added.
pub record IsTaking (dead : Ledgers) (log end : ℕ) (view : View) (old : Places) (s : Scan) (now : Places) : Type 0 where
  pub sent : (key : EntryKey) (place : Place) → finite.get now key ≡ Some place → (finite.get old key ≡ Some place) ⊎ (place.log ≡ log)
  pub from : s.from ≡ header_length
  pub to : s.end ≡ end
  pub bytes : s.file ≡ view.bytes
  pub honest : s.honest ≡ view.is_honest
  pub sound : s.sound ≡ view.is_sound
  pub taken : IsTrue view.is_honest → now ≡ with_records dead log old (take s.given (entries_of view.bytes))

module _ {dead : Ledgers} {log end : ℕ} {view : View} {old : Places} {s : Scan} {now : Places} (so_far : IsTaking dead log end view old s now) where
  pub scan_part : end ≡ view_end view.bytes → part_of s ≡ drop header_length view.bytes
  scan_part whole = (λ i. part (so_far.bytes i) (so_far.from i) (so_far.to i)) ∙ whole_view view.bytes end whole

  scan_entries : end ≡ view_end view.bytes → entries_in s.from (part_of s) ≡ entries_of view.bytes
  scan_entries whole = (λ i. entries_in (so_far.from i) (scan_part whole i)) ∙ entries_in-file view.bytes

  pub scan_honest : IsTrue view.is_honest → IsTrue s.honest
  scan_honest is = so_far.honest ∙ is

  -- one more entry
  module _ (found : Found) (s' : Scan) (moves : NextMoves s (Ok (Some found)) s') where
    module _ (turn : IsTrue s.honest → ScanNextTransition s (Ok (Some found)) s') (whole : IsTrue view.is_honest → end ≡ view_end view.bytes) where
      next_listed : (is : IsTrue view.is_honest) → slice_get (entries_of view.bytes) s.given ≡ Some (found.at, (turn (scan_honest is)).payload)
      next_listed is = ap (λ (l : List (ℕ × List ℕ)). slice_get l s.given) (sym (scan_entries (whole is))) ∙ (turn (scan_honest is)).listed

      -- the entry is in the published part of the view
      pub next_stands : (is : IsTrue view.is_honest) → In (found.at, (turn (scan_honest is)).payload) (entries_of view.bytes)
      next_stands is = slice_get-In (entries_of view.bytes) s.given (found.at, (turn (scan_honest is)).payload) (next_listed is)

      pub taking_on : (now' : Places) → now' ≡ with_key dead now found.key (record { log = log; at = found.at }) → IsTaking dead log end view old s' now'
      taking_on now' added = record {
        sent = λ key place named.
            elim (sent_on dead now found.key (record { log = log; at = found.at }) key place (ap (λ (m : Places). finite.get m key) (sym added) ∙ named)) [
              | inl before ↦ so_far.sent key place before
              | inr here ↦ inr (ap (λ (p : Place). p.log) (sym here))
            ];
        from = ap (λ (x : Scan). x.from) moves.2 ∙ so_far.from;
        to = ap (λ (x : Scan). x.end) moves.2 ∙ so_far.to;
        bytes = ap (λ (x : Scan). x.file) moves.2 ∙ so_far.bytes;
        honest = ap (λ (x : Scan). x.honest) moves.2 ∙ so_far.honest;
        sound = ap (λ (x : Scan). x.sound) moves.2 ∙ so_far.sound;
        taken = λ is.
            let given = turn (scan_honest is) in
            let counted : s'.given ≡ s.given + 1 = ap (λ (x : Scan). x.given) moves.2 in
            added ∙ ap (λ (m : Places). with_key dead m found.key (record { log = log; at = found.at })) (so_far.taken is)
            ∙ sym (records_push dead log old (take s.given (entries_of view.bytes)) found.at given.payload found.key given.stands.keyed)
            ∙ ap (with_records dead log old) (sym (take_next (entries_of view.bytes) s.given (found.at, given.payload) (next_listed is)))
            ∙ ap (λ n. with_records dead log old (take n (entries_of view.bytes))) (sym counted);
      }

  -- the end
  pub taken_in : (s' : Scan) → NextMoves s (Ok None) s' → (IsTrue s.honest → ScanNextTransition s (Ok None) s') → (IsTrue view.is_honest → end ≡ view_end view.bytes)
      → TakesIn dead log view old now
  taken_in s' moves turn whole = record {
    sent = so_far.sent;
    taken = λ is.
        let same : part_of s' ≡ part_of s =
        λ i. part (ap (λ (x : Scan). x.file) moves.1 i) (ap (λ (x : Scan). x.from) moves.1 i) (ap (λ (x : Scan). x.end) moves.1 i) in
        let from : s'.from ≡ s.from = ap (λ (x : Scan). x.from) moves.1 in
        let counted : s'.given ≡ s.given = ap (λ (x : Scan). x.given) moves.1 in
        let finished = turn (scan_honest is) in
        let all : s.given ≡ length (entries_of view.bytes) =
        sym counted ∙ finished.given ∙ ap length ((λ i. entries_in (from i) (same i)) ∙ scan_entries (whole is)) in
        so_far.taken is ∙ ap (with_records dead log old) (take_all s.given (entries_of view.bytes) (omega (arith, all)));
  }
