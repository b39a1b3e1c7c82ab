-- A step of the store alone keeps `StoreRefines`, and its answer reports the failures of the
-- device.
use Rattle.std.proofs.Common.{◌≡◌, ℕ, None, Ok, IsTrue, cond, refl, sym, ap, ◌∙◌, unwrap_or, arith}
use Rattle.std.specs.Option.{option_or}
use Rattle.std.specs.FinMap as finite
use Rattle.std.specs.FinSet as set
use Rattle.bk_record.specs.Key.{EntryKey}
use Rattle.bk_record.specs.Scan.{scan_of}
use Rattle.bk_disk.specs.Disk.{FailsExactlyIf}
use Rattle.bk_store.specs.State.{State}
use Rattle.bk_store.specs.Contents.{contents_at, SameContents}
use Rattle.bk_store.specs.Abstract.{AbstractState, StoreRefines, SatisfiesInvariant, pending_payload}
use Rattle.bk_store.specs.Frame.{CoreUnchanged}
use Rattle.bk_store.specs.Fronts.{fronts_after_flush}
use Rattle.bk_flush.specs.declared.answer.PublishAnswer.TheVariants.{Published}
use Rattle.bk_drive.specs.Abstract.{abstract_after_publish, abstract_after_work}
use Rattle.bk_drive.specs.Frame.{CachesFrame, FailureCountByAnswer}
use Rattle.bk_drive.specs.Failing.{IsDiskFault, IsDeviceFault, AnswerReportsFailure}
use Rattle.bk_drive.specs.declared.step.Answer.{Answer}
use Rattle.bk_drive.specs.declared.step.Answer.TheVariants as answers
use Rattle.bk_drive.proofs.Runs.{swapped_plain}

-- ---- refinement

-- The logical contents of a key, in terms of the abstract map's caches and deleted ledgers.
meaning_told : (s : State) (p : AbstractState) → s.ledgers ≡ p.ledgers → s.caches.active ≡ p.active → s.caches.flush ≡ p.flush → (key : EntryKey)
    → contents_at s key ≡ cond (set.contains p.ledgers.dead key.ledger) None (option_or (pending_payload p key) (finite.get (scan_of s.files) key))
meaning_told s p ledgers active flush key i =
    cond (set.contains (ledgers i).dead key.ledger) None
    (option_or (option_or (finite.get (active i) key) (finite.get (unwrap_or (flush i) finite.empty) key)) (finite.get (scan_of s.files) key))

-- A state with the same logical contents refines the map again, given its caches and ledgers.
agrees_after : (s t : State) (p q : AbstractState) → StoreRefines s p → SameContents s t → q.map ≡ p.map → t.ledgers ≡ q.ledgers → t.caches.active ≡ q.active
    → t.caches.flush ≡ q.flush → t.fronts ≡ q.fronts → StoreRefines t q
agrees_after s t p q agrees means map ledgers active flush fronts = record {
  meaning = λ key. (λ i. finite.get (map i) key) ∙ agrees.meaning key ∙ sym (meaning_told s p agrees.ledgers agrees.active agrees.flush key)
      ∙ sym (means key) ∙ meaning_told t q ledgers active flush key;
  ledgers = ledgers;
  active = active;
  flush = flush;
  fronts = fronts;
}

-- A store that refines an abstract map refines it after a step, except for which entries are only
-- cached.
pub work_agrees : (s t : State) (a : Answer) → SatisfiesInvariant s → IsTrue s.honest → CoreUnchanged s t → CachesFrame s a t → (p : AbstractState) → StoreRefines s p
    → StoreRefines t (abstract_after_work a p)
work_agrees s t (answers.Swap r) kept honest stays turn p agrees = swapped_plain s t p kept honest agrees r turn
work_agrees s t (answers.Publish (Ok (Published n))) kept honest stays left p agrees =
    agrees_after s t p (abstract_after_publish (Ok (Published n)) p) agrees (left.1 honest) refl (stays.ledgers ∙ agrees.ledgers)
    (left.0.0 ∙ agrees.active) left.0.1 (left.0.2 ∙ ap fronts_after_flush agrees.fronts)
work_agrees s t (answers.Publish _) kept honest stays left p agrees =
    agrees_after s t p p agrees (left.1 honest) refl (stays.ledgers ∙ agrees.ledgers) (left.0.active ∙ agrees.active) (left.0.flush ∙ agrees.flush) (left.0.fronts ∙ agrees.fronts)
work_agrees s t _ kept honest stays left p agrees =
    agrees_after s t p p agrees (left.1 honest) refl (stays.ledgers ∙ agrees.ledgers) (left.0.active ∙ agrees.active) (left.0.flush ∙ agrees.flush) (left.0.fronts ∙ agrees.fronts)

-- ---- failures of the device

-- If the device did not fail and the step reads no view, the answer does not report a failure.
untold : (before now : ℕ) (a : Answer) → now ≡ before → ¬ (IsDeviceFault a) → AnswerReportsFailure before now a
untold before now a same never = record {
  later = omega (arith, same);
  once = omega (arith, same);
  told = λ less. absurd (omega (arith, same, less));
  failed = λ told. absurd (never told);
}

-- The device failed exactly if the answer reports it.
told_of : (before now : ℕ) (a : Answer) (Told : Type 0) → FailsExactlyIf before now Told → (Told → IsDiskFault a) → (IsDeviceFault a → Told) → AnswerReportsFailure before now a
told_of before now a Told caused disk device = record {
  later = caused.later;
  once = caused.once;
  told = λ less. disk (caused.told less);
  failed = λ is. caused.failed (device is);
}

-- The failures that each call counts are those that its answer reports.
pub work_told : (s t : State) (a : Answer) → FailureCountByAnswer s a t → AnswerReportsFailure s.failures t.failures a
work_told s t (answers.Write r) caused = told_of _ _ _ _ caused (λ is. is) (λ is. is)
work_told s t (answers.Publish r) caused = told_of _ _ _ _ caused (λ is. is) (λ is. is)
work_told s t (answers.Roll r) caused = told_of _ _ _ _ caused (λ is. is) (λ is. is)
work_told s t (answers.Remove r) caused = told_of _ _ _ _ caused (λ is. is) (λ is. is)
work_told s t (answers.Begin r) caused = told_of _ _ _ _ caused (λ is. is) (λ is. is)
work_told s t (answers.Copy r) tells = record { later = tells.later; once = tells.once; told = tells.told_so; failed = λ never. absurd never }
work_told s t (answers.EndCopy r) tells = record { later = tells.later; once = tells.once; told = tells.told_so; failed = λ never. absurd never }
work_told s t a same = untold s.failures t.failures a same (λ never. never)
