-- Why records of ledgers are refused, as replies.
use Rattle.std.proofs.Common.{◌≡◌, ◌<◌, ◌^◌, arith, inl, inr, subst, sym}
use Rattle.std.specs.Prelude.{[], ◌∷◌}
use Rattle.bk_manifest.specs.Fact.{Fact, AreFacts}
use Rattle.bk_manifest.specs.Keeping.{Kept}
use Rattle.bk_manifest.specs.declared.fault.ManifestError.{ManifestError}
use Rattle.bk_manifest.specs.declared.fault.ManifestError.TheVariants as error
use Rattle.bk_ledgers.specs.Recording.{IsRefusal}
use Rattle.bk_serve_core.specs.declared.refusal.Refusal.{Refusal}
use Rattle.bk_serve.specs.Notes.{IsNoteRefusal, IsSettleRefusal}
use Rattle.bk_serve.specs.Refusals.{of_note}

told_note : (one : Fact) (m m' : Kept) (e : ManifestError) → IsRefusal (one ∷ []) m m' e → IsNoteRefusal one m m' (of_note e)
told_note one m m' error.Memory is = tt
told_note one m m' error.Disk is = λ _. inl is
told_note one m m' error.TooLong is = λ are. inr (is are)
told_note one m m' (error.Fault fault) is = absurd is

-- no records have no bytes
none_are_facts : AreFacts []
none_are_facts = (tt, omega arith)

told_settle : (m m' : Kept) (e : ManifestError) → IsRefusal [] m m' e → IsSettleRefusal m m' (of_note e)
told_settle m m' error.Memory is = tt
told_settle m m' error.Disk is = inl is
told_settle m m' error.TooLong is = inr (is none_are_facts)
told_settle m m' (error.Fault fault) is = absurd is

-- a record that is refused, and one that is not taken back
pub refused_note : (one : Fact) (m m' : Kept) (e : ManifestError) (refusal : Refusal) → refusal ≡ of_note e → IsRefusal (one ∷ []) m m' e
    → IsNoteRefusal one m m' refusal
refused_note one m m' e refusal told is = subst (λ (r : Refusal). IsNoteRefusal one m m' r) (sym told) (told_note one m m' e is)

pub refused_settle : (m m' : Kept) (e : ManifestError) (refusal : Refusal) → refusal ≡ of_note e → IsRefusal [] m m' e
    → IsSettleRefusal m m' refusal
refused_settle m m' e refusal told is = subst (λ (r : Refusal). IsSettleRefusal m m' r) (sym told) (told_settle m m' e is)
