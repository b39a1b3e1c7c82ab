-- Whether an entry is left from a position on, by what stands there.
use Rattle.std.proofs.Common.{◌≡◌, ◌⊎◌, ℕ, ℤ, pos, ◌<ℤ◌, ◌+◌, ◌-◌, ◌≤◌, Bool, true, false, IsTrue, List, [], ◌∷◌, length, take, drop, slice_get}
use Rattle.std.proofs.Common.{Option, Some, None, Result, Ok, Err, IfOk, IfErr, IsErrOf, refl, sym, ap, ◌∙◌, subst, arith}
use Rattle.std.proofs.lemmas.Bool.{false_from_ne_true}
use Rattle.std.proofs.lemmas.List.{drop-drop, drop-take}
use Rattle.bk_record.specs.Record.{is_foreign, signed_field}
use Rattle.bk_record.specs.Body.{IsTorn}
use Rattle.bk_record.specs.Piece.{BeginsWith}
use Rattle.bk_record.proofs.Records.{drop_record}
use Rattle.bk_disk.specs.Disk.{view_end}
use Rattle.bk_log.specs.Growing.{HasNoBadLength}
use Rattle.bk_log.specs.Ranges.{IsPassed, entries_in, part}
use Rattle.bk_log.proofs.Passes.{passed_none, passed_more, entry_at, all_given, rest_stops, bad_at}
use Rattle.bk_store.specs.Logs.{View, last_view, open_parts}
use Rattle.bk_store.specs.State.{State}
use Rattle.bk_store.specs.Jobs.{Job}
use Rattle.bk_store.specs.JobInvariant.{JobInvariant, IsReadTo, entries_from}
use Rattle.bk_store.specs.Abstract.{SatisfiesInvariant}
use Rattle.bk_compact.specs.declared.front.Front.{Front}
use Rattle.bk_compact.specs.declared.front.Front.TheVariants.{Entry, Foreign, Rest}
use Rattle.bk_compact.specs.declared.scanning.Unread.{Unread}
use Rattle.bk_compact.specs.declared.scanning.Unread.TheVariants.{Disk, Odd}
use Rattle.bk_compact.specs.Compacting.{SourceFails, entries_left}
use Rattle.bk_compact.specs.Fronts.{ShowsFront, FitsIn, TellsEnd}
use Rattle.bk_compact.specs.JobSteps.{IsAtEnd, fault_of_unread}
use Rattle.bk_compact.proofs.Examined.{no_entries}
use Rattle.bk_compact.proofs.Positions.{read_on, none_bad, entries_passed}
use Rattle.bk_compact.proofs.Stored.{source_bytes, source_honest, source_spelled}

-- bytes left after a record
behind_record : (bytes payload : List ℕ) (at end : ℕ) → (b : BeginsWith (take (end - at) (drop at bytes)) payload) → 4 + length payload ≤ end - at
    → take (end - (at + (4 + length payload))) (drop (at + (4 + length payload)) bytes) ≡ b.behind
behind_record bytes payload at end b within =
    let size = 4 + length payload in
    let count : end - at ≡ size + (end - (at + size)) = omega arith in
    ap (take (end - (at + size))) (sym (drop-drop size at bytes)) ∙ sym (drop-take size (end - (at + size)) (drop at bytes))
    ∙ ap (λ n. drop size (take n (drop at bytes))) (sym count) ∙ ap (drop size) b.is ∙ drop_record payload b.behind

not_there : (l : List (ℕ × List ℕ)) (e : ℕ × List ℕ) → l ≡ [] → slice_get l 0 ≡ Some e → ⊥
not_there [] e none wrong = cc
not_there (x ∷ l) e none wrong = cc

module _ (bytes : List ℕ) (at : ℕ) (read : IsReadTo bytes at) where
  abbrev left : List ℕ
  left = part bytes at (view_end bytes)

  -- fewer bytes than a record needs
  pub rest_end : IsTorn left ⊎ (left ≡ []) → entries_from bytes at ≡ []
  rest_end rest =
      no_entries (entries_from bytes at) (omega (arith, all_given at at 0 0 left left (passed_none at left) (rest_stops left rest)))

  -- an entry
  pub entry_left : (payload : List ℕ) → BeginsWith left payload → is_foreign payload ≡ false → ¬ (entries_from bytes at ≡ [])
  entry_left payload begins keyed none =
      not_there (entries_from bytes at) (at + 4, payload) none (entry_at at at 0 0 left left payload (passed_none at left) begins keyed)

  -- a foreign record: the entries behind it are the same
  pub foreign_on : (payload : List ℕ) (size : ℕ) → BeginsWith left payload → is_foreign payload ≡ true → size ≡ 4 + length payload
      → size ≤ view_end bytes - at → IsReadTo bytes (at + size) × (entries_from bytes (at + size) ≡ entries_from bytes at)
  foreign_on payload size begins foreign sized fits =
      let next = at + (4 + length payload) in
      let same : at + (4 + length payload) ≡ at + size = omega (arith, sized) in
      let passed : IsPassed at left next (part bytes next (view_end bytes)) 0 1 =
      passed_more at at 0 0 left left (part bytes next (view_end bytes)) payload true (passed_none at left) begins
      (behind_record bytes payload at (view_end bytes) begins (omega (arith, sized, fits))) foreign in
      subst (λ n. IsReadTo bytes n × (entries_from bytes n ≡ entries_from bytes at)) same
      (read_on bytes at next 0 1 read passed, entries_passed bytes at next 0 1 passed)

  -- a bad length, which a log of the store does not have
  pub never_bad_length : HasNoBadLength bytes → (value : ℤ) → 4 ≤ length left → value ≡ signed_field left → value <ℤ pos 16 → ⊥
  never_bad_length none value four is below =
      none_bad bytes at read none at value (bad_at at at 0 0 left left value (passed_none at left) four is below)

  pub tells_error : HasNoBadLength bytes → (unread : Unread) (entries : List (ℕ × List ℕ)) → ShowsFront left (Err unread) → TellsEnd entries (Err unread)
  tells_error none Disk entries shown = tt
  tells_error none Odd entries shown = never_bad_length none shown.0 shown.1 shown.2 shown.3

-- ---- one step: what stands at a position, behind foreign records from another one on

pub record StandsOn (bytes : List ℕ) (from at end : ℕ) : Type 0 where
  pub read : IsReadTo bytes at
  pub list : entries_from bytes at ≡ entries_from bytes from
  pub whole : end ≡ view_end bytes

pub stands_on : (bytes : List ℕ) (from at end : ℕ) → IsReadTo bytes at × (entries_from bytes at ≡ entries_from bytes from) → end ≡ view_end bytes
    → StandsOn bytes from at end
stands_on bytes from at end comes whole = record { read = comes.0; list = comes.1; whole = whole }

module _ {bytes : List ℕ} {from at end : ℕ} (is : StandsOn bytes from at end) where
  here : (result found : Result Front Unread) → found ≡ result → ShowsFront (take (end - at) (drop at bytes)) found
      → ShowsFront (part bytes at (view_end bytes)) result
  here result found same shown =
      subst (ShowsFront (part bytes at (view_end bytes))) same (subst (λ n. ShowsFront (take (n - at) (drop at bytes)) found) is.whole shown)

  pub tells_entry : (front : Front) → front ≡ Entry → ShowsFront (take (end - at) (drop at bytes)) (Ok front) → ¬ (entries_from bytes from ≡ [])
  tells_entry front same shown none =
      let there = here (Ok Entry) (Ok front) (ap Ok same) shown in
      entry_left bytes at is.read there.0 there.1 there.2 (is.list ∙ none)

  pub tells_rest : (front : Front) → front ≡ Rest → ShowsFront (take (end - at) (drop at bytes)) (Ok front) → entries_from bytes from ≡ []
  tells_rest front same shown = sym is.list ∙ rest_end bytes at is.read (here (Ok Rest) (Ok front) (ap Ok same) shown)

  pub tells_unread : HasNoBadLength bytes → (unread : Unread) → ShowsFront (take (end - at) (drop at bytes)) (Err unread)
      → TellsEnd (entries_from bytes from) (Err unread)
  tells_unread none unread shown =
      tells_error bytes at is.read none unread (entries_from bytes from) (here (Err unread) (Err unread) refl shown)

  pub goes_behind : (front : Front) (size : ℕ) → front ≡ Foreign size → ShowsFront (take (end - at) (drop at bytes)) (Ok front) → size ≤ end - at
      → IsReadTo bytes (at + size) × (entries_from bytes (at + size) ≡ entries_from bytes from)
  goes_behind front size same shown fits =
      let there = here (Ok (Foreign size)) (Ok front) (ap Ok same) shown in
      let on = foreign_on bytes at is.read there.0 size there.1 there.2 there.3 (omega (arith, fits, is.whole)) in
      (on.0, on.1 ∙ is.list)

pub foreign_fits : (front : Front) (size left : ℕ) → front ≡ Foreign size → FitsIn left front → (20 ≤ size) × (size ≤ left)
foreign_fits front size left same fits = subst (FitsIn left) same fits

-- ---- the source log of a job

module _ (view : View) (s : State) (kept : SatisfiesInvariant s) (job : Job) (is : JobInvariant s job) (last : last_view s.logs job.source ≡ Some view)
    (result : Result Bool Unread)
    (turn : IsTrue view.is_honest → IsReadTo view.bytes job.at → HasNoBadLength view.bytes → TellsEnd (entries_from view.bytes job.at) result) where
  pub told_end : IsTrue s.honest → TellsEnd (entries_from view.bytes job.at) result
  told_end honest =
      turn (source_honest s kept job is view last honest)
      (subst (λ (b : List ℕ). IsReadTo b job.at) (source_bytes s kept job is view last) (is.honest honest).read)
      (source_spelled s kept job is view last honest)

  pub told_left : IsTrue s.honest → TellsEnd (entries_left s job) result
  told_left honest = subst (λ (b : List ℕ). TellsEnd (entries_from b job.at) result) (sym (source_bytes s kept job is view last)) (told_end honest)

pub end_ok : (s : State) (job : Job) (result : Result Bool Unread) → (IsTrue s.honest → TellsEnd (entries_left s job) result) → IfOk result (IsAtEnd s job)
end_ok s job (Ok true) told = told
end_ok s job (Ok false) told = told
end_ok s job (Err unread) told = tt

pub end_fails : (view : View) (s : State) (job : Job) → last_view s.logs job.source ≡ Some view → (result : Result Bool Unread)
    → (IsTrue s.honest → TellsEnd (entries_left s job) result) → (IsErrOf result Disk → view.is_sound ≡ false)
    → IfErr result (λ unread. SourceFails s job (fault_of_unread unread))
end_fails view s job last (Ok answer) told cause = tt
end_fails view s job last (Err Disk) told cause = (view, last, cause refl)
end_fails view s job last (Err Odd) told cause = false_from_ne_true s.honest told
