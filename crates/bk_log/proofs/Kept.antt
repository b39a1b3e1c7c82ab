-- The invariant of a scanner, step by step.
use Rattle.std.proofs.Common.{◌≡◌, ℕ, ◌+◌, ◌-◌, ◌<◌, ◌≤◌, ◌^◌, ◌*◌, ℤ, Bool, true, false, cond, not, List, ◌++◌, length, take, drop, append_assoc, Option, Some}
use Rattle.std.proofs.Common.{None, IsTrue, is_none, is_some, refl, sym, ap, ◌∙◌, subst, arith}
use Rattle.std.proofs.lemmas.Bool.{false≢true, and_parts}
use Rattle.std.proofs.lemmas.List.{drop-drop, drop-take, take-append-drop}
use Rattle.std.proofs.lemmas.Int.{of_z-to_z}
use Rattle.std.specs.Int.{w32, from_be_bytes, cast_signed, cast_unsigned}
use Rattle.bk_record.specs.Key.{EntryKey}
use Rattle.bk_record.specs.Record.{record_of, key_of, is_foreign, length_field, signed_field}
use Rattle.bk_record.specs.Files.{header_length}
use Rattle.bk_record.specs.Piece.{BeginsWith}
use Rattle.bk_record.proofs.Records.{drop_record}
use Rattle.bk_disk.specs.Disk.{view_end, IsInView}
use Rattle.bk_log.specs.declared.fault.ScanFault.{ScanFault}
use Rattle.bk_log.specs.declared.fault.ScanFault.TheVariants.{BadLength, Disk}
use Rattle.bk_log.specs.declared.front.Front.{Front}
use Rattle.bk_log.specs.declared.front.Front.TheVariants.{Record, Rest, Bad}
use Rattle.bk_log.specs.Fronts.{IsFront, FitsIn}
use Rattle.bk_log.specs.Ahead.{Ahead}
use Rattle.bk_log.specs.Places.{HasRecordAt}
use Rattle.bk_log.specs.Ranges.{IsPassed, part}
use Rattle.bk_log.specs.Scanning.{Scan, is_going, IsGiven, ScanFails}
use Rattle.bk_log.specs.Scanned.{window_scan, KeepsScan}
use Rattle.bk_log.proofs.Aheads.{length-left}
use Rattle.bk_log.proofs.Passes.{passed_none, passed_more, entry_at, all_given, all_foreign, rest_all, rest_stops, all_spelled, bad_stops, bad_at}

pub no_fault : {X : Type 0} (o : Option X) (x : X) → o ≡ None → o ≡ Some x → ⊥
no_fault o x none some = let e : None ≡ Some x = sym none ∙ some in cc

same_some : {X : Type 0} (x y : X) → Some x ≡ Some y → x ≡ y
same_some x y is = cc

bad_is_not_disk : (at : ℕ) (value : ℤ) → Some (BadLength at value) ≡ Some Disk → ⊥
bad_is_not_disk at value is = cc

-- the bytes from the window's position to the part's end
abbrev pub here : Ahead → ℕ → List ℕ
here window end = take (end - window.at) (drop window.at window.bytes)

-- the bytes left are in the view
pub left_in_view : (window : Ahead) (from end given foreign torn : ℕ) (ended : Bool) (fault : Option ScanFault)
    → KeepsScan window from end given foreign torn ended fault → IsTrue window.honest → IsInView window.bytes window.at (end - window.at)
left_in_view window from end given foreign torn ended fault kept honest =
    (omega (arith, kept.headed, kept.placed.begun), omega (arith, kept.in_view honest, kept.placed.within))

-- a window that read its front, and advanced
pub skipped_window : (window looked moved : Ahead) (size : ℕ) → looked ≡ record window { ready = looked.ready; room = looked.room }
    → moved ≡ record looked { at = looked.at + size; ready = looked.ready - size }
    → moved ≡ record window { at = window.at + size; ready = looked.ready - size; room = looked.room }
skipped_window window looked moved size kept step = step ∙ ap (λ (w : Ahead). record w { at = w.at + size; ready = looked.ready - size }) kept

-- a scan that is going on has neither ended nor met an error
pub going_on : (window : Ahead) (s : Scan) (from end given foreign torn : ℕ) (ended : Bool) (fault : Option ScanFault)
    → window_scan window from end given foreign torn ended fault ≡ s → IsTrue (is_going s) → (ended ≡ false) × (fault ≡ None)
going_on window s from end given foreign torn ended fault is going =
    let both = and_parts (not ended) (is_none fault) (ap is_going is ∙ going) in (
      elim ended as (λ b. not b ≡ true → b ≡ false) [ true ↦ λ e. absurd (false≢true e) | false ↦ λ e. refl ] both.0,
      elim fault as (λ o. is_none o ≡ true → o ≡ None) [ None ↦ λ e. refl | Some f ↦ λ e. absurd (false≢true e) ] both.1,
    )

-- invariant of a new scan
pub kept_new : (bytes : List ℕ) (honest sound : Bool) (window : Ahead) (from end : ℕ)
    → window ≡ record { at = from; bytes = bytes; honest = honest; sound = sound; ready = 0; room = 0 } → header_length ≤ from → from ≤ end → end < 2 ^ 64
    → (IsTrue honest → end ≤ view_end bytes) → KeepsScan window from end 0 0 0 false None
kept_new bytes honest sound window from end is headed ordered fits within =
    subst (λ (w : Ahead). KeepsScan w from end 0 0 0 false None) (sym is) (record {
      placed = record { begun = omega arith; within = ordered; room = omega arith; end_fits = fits };
      told = λ e. absurd (no_fault None Disk refl e);
      fresh = λ goes calm none. (refl, (refl, refl));
      headed = headed;
      in_view = within;
      scanned = λ h. record {
        passed = passed_none from (take (end - from) (drop from bytes));
        finished = λ e. absurd (false≢true e);
        stopped = λ f e. absurd (no_fault None f refl e);
      };
    })

-- bytes left after a record
pub behind_record : (bytes payload : List ℕ) (at end : ℕ) → (b : BeginsWith (take (end - at) (drop at bytes)) payload) → 4 + length payload ≤ end - at
    → take (end - (at + (4 + length payload))) (drop (at + (4 + length payload)) bytes) ≡ b.behind
behind_record bytes payload at end b within =
    let size = 4 + length payload in
    let count : end - at ≡ size + (end - (at + size)) = omega arith in
    ap (take (end - (at + size))) (sym (drop-drop size at bytes)) ∙ sym (drop-take size (end - (at + size)) (drop at bytes))
    ∙ ap (λ n. drop size (take n (drop at bytes))) (sym count) ∙ ap (drop size) b.is ∙ drop_record payload b.behind

foreign_none : (payload : List ℕ) → None ≡ key_of payload → is_foreign payload ≡ true
foreign_none payload is = ap (λ o. not (is_some o)) (sym is)

pub foreign_some : (payload : List ℕ) (key : EntryKey) → Some key ≡ key_of payload → is_foreign payload ≡ false
foreign_some payload key is = ap (λ o. not (is_some o)) (sym is)

-- invariant after a record was passed: an entry, or a foreign record
kept_record : (window : Ahead) (from end given foreign torn size ready room : ℕ) (ended other : Bool) (fault : Option ScanFault)
    → KeepsScan window from end given foreign torn ended fault → 0 < room → ended ≡ false → fault ≡ None → 20 ≤ size → size ≤ end - window.at
    → (IsTrue window.honest → (payload : List ℕ) × (BeginsWith (here window end) payload × ((size ≡ 4 + length payload) × (is_foreign payload ≡ other))))
    → KeepsScan (record window { at = window.at + size; ready = ready; room = room }) from end (given + cond (not other) 1 0) (foreign + cond other 1 0) torn
    ended fault
kept_record window from end given foreign torn size ready room ended other fault kept made going calm least within front = record {
  placed = record {
    begun = omega (arith, kept.placed.begun);
    within = omega (arith, kept.placed.within);
    room = elim other as (λ o. from + 20 * ((given + cond (not o) 1 0) + (foreign + cond o 1 0)) ≤ window.at + size) [
      | true ↦ omega (arith, kept.placed.room)
      | false ↦ omega (arith, kept.placed.room)
    ];
    end_fits = kept.placed.end_fits;
  };
  told = kept.told;
  fresh = λ goes still none. absurd (omega (arith, made, none));
  headed = kept.headed;
  in_view = kept.in_view;
  scanned = λ h.
      let (payload, (begins, (sized, is))) = front h in
      let bytes = take (end - from) (drop from window.bytes) in
      let passed = passed_more from window.at given foreign bytes (here window end) _ payload other (kept.scanned h).passed begins
      (behind_record window.bytes payload window.at end begins (omega arith)) is in
      record {
        passed = subst (λ n. IsPassed from bytes (window.at + n) (take (end - (window.at + n)) (drop (window.at + n) window.bytes))
            (given + cond (not other) 1 0) (foreign + cond other 1 0)) (sym sized) passed;
        finished = λ e. absurd (false≢true (sym going ∙ e));
        stopped = λ f e. absurd (no_fault fault f calm e);
      };
}

-- invariant after each kind of record
pub kept_foreign : (window : Ahead) (from end given foreign torn size ready room : ℕ) (ended : Bool) (fault : Option ScanFault)
    → KeepsScan window from end given foreign torn ended fault → 0 < room → ended ≡ false → fault ≡ None → 20 ≤ size → size ≤ end - window.at
    → (IsTrue window.honest → IsFront (here window end) (Record size None))
    → KeepsScan (record window { at = window.at + size; ready = ready; room = room }) from end given (foreign + 1) torn ended fault
kept_foreign window from end given foreign torn size ready room ended fault kept made going calm least within front =
    let none : given + 0 ≡ given = omega arith in
    subst (λ n. KeepsScan (record window { at = window.at + size; ready = ready; room = room }) from end n (foreign + 1) torn ended fault) none
    (kept_record window from end given foreign torn size ready room ended true fault kept made going calm least within
    (λ h. let (payload, (begins, (sized, is))) = front h in (payload, (begins, (sized, foreign_none payload is)))))

pub kept_entry : (window : Ahead) (from end given foreign torn size ready room : ℕ) (ended : Bool) (fault : Option ScanFault) (key : EntryKey)
    → KeepsScan window from end given foreign torn ended fault → 0 < room → ended ≡ false → fault ≡ None → 20 ≤ size → size ≤ end - window.at
    → (IsTrue window.honest → IsFront (here window end) (Record size (Some key)))
    → KeepsScan (record window { at = window.at + size; ready = ready; room = room }) from end (given + 1) foreign torn ended fault
kept_entry window from end given foreign torn size ready room ended fault key kept made going calm least within front =
    let none : foreign + 0 ≡ foreign = omega arith in
    subst (λ n. KeepsScan (record window { at = window.at + size; ready = ready; room = room }) from end (given + 1) n torn ended fault) none
    (kept_record window from end given foreign torn size ready room ended false fault kept made going calm least within
    (λ h. let (payload, (begins, (sized, is))) = front h in (payload, (begins, (sized, foreign_some payload key is)))))

-- a record that begins in the part is a record of the log
pub record_stands : (bytes payload : List ℕ) (at end : ℕ) → header_length ≤ at → BeginsWith (take (end - at) (drop at bytes)) payload
    → HasRecordAt bytes (at + 4) payload
record_stands bytes payload at end headed b =
    let place : at + 4 - 4 ≡ at = omega arith in
    record {
      behind_header = omega arith;
      begins = record {
        legal = b.legal;
        behind = b.behind ++ drop (end - at) (drop at bytes);
        is = ap (λ n. drop n bytes) place ∙ sym (take-append-drop (end - at) (drop at bytes)) ∙ ap (λ x. x ++ drop (end - at) (drop at bytes)) b.is
            ∙ append_assoc (record_of payload) b.behind (drop (end - at) (drop at bytes));
      };
    }

-- the entry found is the next one of the part
pub given_next : (window : Ahead) (from end given foreign torn size : ℕ) (ended : Bool) (fault : Option ScanFault) (key : EntryKey)
    → KeepsScan window from end given foreign torn ended fault → IsTrue window.honest → size ≤ end - window.at
    → IsFront (here window end) (Record size (Some key))
    → IsGiven (window_scan window from end given foreign torn ended fault) (record { key = key; at = window.at + 4; size = size }) foreign
given_next window from end given foreign torn size ended fault key kept h within (payload, (begins, (sized, is))) =
    let bytes = part window.bytes from end in
    let entry = foreign_some payload key is in
    let place : window.at + (4 + length payload) ≡ window.at + 4 + length payload = omega arith in
    let none : foreign + 0 ≡ foreign = omega arith in
    let passed = passed_more from window.at given foreign bytes (here window end) _ payload false (kept.scanned h).passed begins
    (behind_record window.bytes payload window.at end begins (omega arith)) entry in
    record {
      payload = payload;
      listed = entry_at from window.at given foreign bytes (here window end) payload (kept.scanned h).passed begins entry;
      stands = record { here = record_stands window.bytes payload window.at end (omega (arith, kept.headed, kept.placed.begun)) begins; keyed = sym is };
      sized = sized;
      passed = subst (λ n. IsPassed from bytes n (part window.bytes n end) (given + 1) foreign) place
          (subst (λ n. IsPassed from bytes (window.at + (4 + length payload)) (part window.bytes (window.at + (4 + length payload)) end) (given + 1) n) none
          passed);
    }

-- invariant at the end of the part
pub kept_rest : (window : Ahead) (from end given foreign torn ready room : ℕ) (ended : Bool) (fault : Option ScanFault)
    → KeepsScan window from end given foreign torn ended fault → fault ≡ None → (IsTrue window.honest → IsFront (here window end) Rest)
    → KeepsScan (record window { ready = ready; room = room }) from end given foreign (end - window.at) true fault
kept_rest window from end given foreign torn ready room ended fault kept calm front = record {
  placed = kept.placed;
  told = kept.told;
  fresh = λ goes. absurd (false≢true (sym goes));
  headed = kept.headed;
  in_view = kept.in_view;
  scanned = λ h.
      let bytes = take (end - from) (drop from window.bytes) in
      let left = here window end in
      let passed = (kept.scanned h).passed in
      let stops = rest_stops left (front h) in
      let long = length-left window.bytes window.at (end - window.at) (left_in_view window from end given foreign torn ended fault kept h) in
      record {
        passed = passed;
        finished = λ e. record {
          given = all_given from window.at given foreign bytes left passed stops;
          spelled = all_spelled from window.at given foreign bytes left passed (front h);
          foreign = all_foreign from window.at given foreign bytes left passed stops;
          torn = long ∙ ap length (sym (rest_all from window.at given foreign bytes left passed stops));
        };
        stopped = λ f e. absurd (no_fault fault f calm e);
      };
}

-- a signed length survives the conversion to an unsigned number and back
back_again : (left : List ℕ) (value : ℤ) → value ≡ signed_field left → length_field left < 2 ^ 32 → cast_signed w32 (cast_unsigned w32 value) ≡ value
unfolding signed_field length_field
back_again left value is fits =
    ap (λ v. cast_signed w32 (cast_unsigned w32 v)) is ∙ ap (cast_signed w32) (of_z-to_z w32 (from_be_bytes w32 left) fits) ∙ sym is

-- invariant after a bad length
pub kept_bad : (window : Ahead) (from end given foreign torn ready room : ℕ) (value : ℤ) (ended : Bool) (fault : Option ScanFault)
    → KeepsScan window from end given foreign torn ended fault → ended ≡ false → (IsTrue window.honest → IsFront (here window end) (Bad value))
    → KeepsScan (record window { ready = ready; room = room }) from end given foreign torn ended
    (Some (BadLength window.at (cast_signed w32 (cast_unsigned w32 value))))
kept_bad window from end given foreign torn ready room value ended fault kept going front = record {
  placed = kept.placed;
  told = λ e. absurd (bad_is_not_disk window.at _ e);
  fresh = λ goes calm. absurd (no_fault _ _ calm refl);
  headed = kept.headed;
  in_view = kept.in_view;
  scanned = λ h.
      let bytes = take (end - from) (drop from window.bytes) in
      let left = here window end in
      let passed = (kept.scanned h).passed in
      let (four, (is, (below, fits))) = front h in
      let same = back_again left value is fits in
      record {
        passed = passed;
        finished = λ e. absurd (false≢true (sym going ∙ e));
        stopped = λ f e. subst (ScanFails (window_scan window from end given foreign torn ended
            (Some (BadLength window.at (cast_signed w32 (cast_unsigned w32 value)))))) (same_some _ _ e)
            (subst (λ v. ScanFails (window_scan window from end given foreign torn ended
            (Some (BadLength window.at (cast_signed w32 (cast_unsigned w32 value)))))
            (BadLength window.at v)) (sym same) (
              all_given from window.at given foreign bytes left passed (bad_stops left value is below),
              bad_at from window.at given foreign bytes left value passed four is below,
            ));
      };
}

-- the front that the window parsed is that of the position
pub front_here : (window : Ahead) (end at : ℕ) (front shown : Front) → at ≡ window.at → front ≡ shown
    → (IsTrue window.honest → IsFront (take (end - at) (drop window.at window.bytes)) front) → IsTrue window.honest → IsFront (here window end) shown
front_here window end at front shown place is said h =
    subst (IsFront (here window end)) is (subst (λ n. IsFront (take (end - n) (drop window.at window.bytes)) front) place (said h))

pub fits_here : (window : Ahead) (end at : ℕ) (front shown : Front) → at ≡ window.at → front ≡ shown → FitsIn (end - at) front → FitsIn (end - window.at) shown
fits_here window end at front shown place is fits = subst (FitsIn (end - window.at)) is (subst (λ n. FitsIn (end - n) front) place fits)
