-- A store that has carried out what is durable of a ledger.
use Rattle.std.proofs.Common.{◌≡◌, ◌∙◌, ℕ, Bool, true, false, refl, sym, ap, subst}
use Rattle.std.proofs.lemmas.Bool.{true_from_ne_false, false≢true}
use Rattle.std.specs.Prelude.{Result, Ok, Err, is_some, IsTrue}
use Rattle.std.specs.FinSet as set
use Rattle.bk_record.specs.Scan.{Ledgers}
use Rattle.bk_manifest.specs.Keeping.{Kept, durable}
use Rattle.bk_manifest.specs.State.{last_about, said, IsStateOf}
use Rattle.bk_manifest.specs.declared.state.State as kept
use Rattle.bk_manifest.specs.declared.subject.Subject.{Subject}
use Rattle.bk_store.specs.State.{State}
use Rattle.bk_store.specs.Transitions.{DeleteTransition, FenceTransition, is_dead, is_fenced}
use Rattle.bk_store.specs.declared.answer.Fence.{Fence}
use Rattle.bk_store.specs.declared.answer.Fence.TheVariants.{Fenced, AlreadyFenced}
use Rattle.bk_store.proofs.KeyMaps.{still_lives}
use Rattle.bk_serve_core.specs.declared.refusal.Refusal.{Refusal}
use Rattle.bk_serve.specs.CatchingUp.{is_noted_deletion, is_noted_fence, Follows, IsInForce, CarriesOut, CatchesUp}
use Rattle.bk_serve.specs.CatchingUp.Follows.{deletes, fences}
use Rattle.bk_serve.specs.Notes.{IsSettleRefusal, SettleTransition}

inserted : (ledgers : Ledgers) (ledger : ℕ) → set.contains (set.insert ledgers ledger) ledger ≡ true
inserted ledgers ledger =
    true_from_ne_false (set.contains (set.insert ledgers ledger) ledger) (λ never. (still_lives ledgers ledger ledger never).0 refl)

-- what a look-up says is durable
pub noted : (m : Kept) (state : kept.State) (subject : Subject) (found : Bool) → (IsTrue m.honest → IsStateOf (durable m) state)
    → found ≡ is_some (said state subject) → IsTrue m.honest → is_some (last_about subject (durable m)) ≡ found
noted m state subject found is told honest = ap is_some (sym (is honest subject)) ∙ sym told

pub deleted : (ledger n : ℕ) (s t : State) (m : Kept) → DeleteTransition s ledger (Ok n) t → (IsTrue m.honest → is_noted_deletion m ledger ≡ true)
    → Follows ledger s m t × IsInForce ledger t m
deleted ledger n s t m turn is =
    let dead : is_dead t ledger ≡ true = ap (λ (x : State). is_dead x ledger) turn.2 ∙ inserted s.ledgers.dead ledger in
    (deletes is (Ok n) turn, record { deletion = λ _ _. dead; fence = λ _ _ lives. absurd (false≢true (sym lives ∙ dead)) })

pub fenced : (ledger : ℕ) (fence : Fence) (s t : State) (m : Kept) → FenceTransition s ledger (Ok fence) t
    → (IsTrue m.honest → is_noted_fence m ledger ≡ true) → (IsTrue m.honest → is_noted_deletion m ledger ≡ false)
    → Follows ledger s m t × IsInForce ledger t m
fenced ledger Fenced s t m turn is undeleted = (
  fences is (Ok Fenced) turn,
  record {
    deletion = λ honest there. absurd (false≢true (sym (undeleted honest) ∙ there));
    fence = λ _ _ _. ap (λ (x : State). is_fenced x ledger) turn.2 ∙ inserted s.ledgers.fenced ledger;
  },
)
fenced ledger AlreadyFenced s t m turn is undeleted = (
  fences is (Ok AlreadyFenced) turn,
  record {
    deletion = λ honest there. absurd (false≢true (sym (undeleted honest) ∙ there));
    fence = λ _ _ _. ap (λ (x : State). is_fenced x ledger) turn.2 ∙ turn.1;
  },
)

pub caught : (ledger : ℕ) (s t : State) (m m' : Kept) (result : Result (Unit {0}) Refusal) → SettleTransition m (Ok tt) m' → CarriesOut ledger s m' result t
    → CatchesUp ledger s m result t m'
caught ledger s t m m' (Ok done_) settled out = (settled.3, settled.0, out.0, out.1)
caught ledger s t m m' (Err refusal) settled out = (settled.3, subst (λ (r : Refusal). IsSettleRefusal m m' r) (sym out.0) tt, out.1)
