-- A run with a recorder of ledgers: the opening, then the steps.
use Rattle.std.proofs.Common.{◌≡◌, inl, inr, ℕ, ◌<◌, ◌^◌, Bool, true, false, IsTrue, List, [], ◌∷◌, ◌++◌, length, map, Option, Result, Ok, Err, IfOk, IfErr, OnErr, OnOk, IsErrOf, refl, sym, ap, subst, ◌∙◌, arith}
use Rattle.std.proofs.lemmas.List.{length-map}
use Rattle.std.specs.List.{list_any}
use Rattle.std.specs.Ordering.{nat_cmp, eq_by_cmp}
use Rattle.std.specs.FinSet as set
use Rattle.bk_record.specs.Files.{Files}
use Rattle.bk_manifest.specs.Keeping.{Kept, durable}
use Rattle.bk_store.specs.Ledgers.{KnownLedgers, opened_ledgers}
use Rattle.bk_store.specs.State.{State}
use Rattle.bk_store.specs.Opening.{IsOpened}
use Rattle.bk_store.specs.Transitions.{valid_ledgers}
use Rattle.bk_store.specs.declared.settings.Settings.{Settings}
use Rattle.bk_drive.specs.Abstract.{AbstractMachine}
use Rattle.bk_drive.specs.Machine.{ReaderLease, MachineState}
use Rattle.bk_drive.specs.Headline.{Run, MachineRefines, initial_machine}
use Rattle.bk_drive.specs.Headline.Run.{stop, step}
use Rattle.bk_drive.specs.Recorded.{Records, RunsRecorded}
use Rattle.bk_drive.specs.Recorded.Records.{ended, refused, allowed}
use Rattle.bk_drive.specs.declared.step.Step.{Step}
use Rattle.bk_drive.specs.declared.step.Step.TheVariants as steps
use Rattle.bk_drive.specs.declared.step.Answer.{Answer}
use Rattle.bk_drive.proofs.Runs.{run_end}
use Rattle.bk_recorded.specs.Ledgers.{is_deleted, is_fenced, AreLedgersRecorded}
use Rattle.bk_recorded.specs.Recording.{RecordsStep}
use Rattle.bk_recorded.specs.Opening.{AreOf, IsReopened, RunsKept}
use Rattle.bk_recorded.proofs.Listed.{in_valid}
use Rattle.bk_recorded.proofs.Steps.{StaysRecorded, step_ledgers, step_recorded, refusal_recorded, step_honest}
use Rattle.bk_recorded.proofs.Fences.{Fences, fences_run}

-- ---- runs

run_begin : {limit : ℕ} {d e : MachineState} {p q : AbstractMachine} {ss : List Step} {as' : List Answer} → Run limit d p ss as' e q → MachineRefines d p
run_begin (stop agrees) = agrees
run_begin (step agrees turn beside later) = agrees

-- A run in two parts.
record Parts (limit : ℕ) (d : MachineState) (p : AbstractMachine) (xs ys : List Step) (as' bs : List Answer) (e : MachineState) (q : AbstractMachine) : Type 0 where
  pub mid : MachineState
  pub plain : AbstractMachine
  pub first : Run limit d p xs as' mid plain
  pub later : Run limit mid plain ys bs e q

run_parts : (limit : ℕ) (d e : MachineState) (p q : AbstractMachine) (xs ys : List Step) (as' bs : List Answer) → length as' ≡ length xs
    → Run limit d p (xs ++ ys) (as' ++ bs) e q → Parts limit d p xs ys as' bs e q
run_parts limit d e p q [] ys [] bs same run = record { mid = d; plain = p; first = stop (run_begin run); later = run }
run_parts limit d e p q [] ys (a ∷ as') bs same run = absurd (omega (arith, same))
run_parts limit d e p q (x ∷ xs) ys [] bs same run = absurd (omega (arith, same))
run_parts limit d e p q (x ∷ xs) ys (a ∷ as') bs same (step agrees turn beside later) =
    let rest = run_parts limit _ e _ q xs ys as' bs (omega (arith, same)) later in
    record { mid = rest.mid; plain = rest.plain; first = step agrees turn beside rest.first; later = rest.later }

-- ---- the records of a run

pub records_by : {R X : Type 0} (view : R → X) (Gives : X → Step → Bool → X → Type 0) (r s : R) (ss performed : List Step)
    → Records (λ before x answer after. Gives (view before) x answer (view after)) r ss performed s → Records Gives (view r) ss performed (view s)
records_by view Gives r s [] [] ended = ended
records_by view Gives r s [] (y ∷ ys) asks = elim asks [ ]
records_by view Gives r s (x ∷ xs) [] (refused gives) = refused gives
records_by view Gives r s (x ∷ xs) (y ∷ ys) (allowed gives more) = allowed gives (records_by view Gives _ s xs ys more)

pub run_recorded : (limit : ℕ) (d e : MachineState) (p q : AbstractMachine) (m m' : Kept) (ss performed : List Step) (told : List Answer)
    → Records RecordsStep m ss performed m' → Run limit d p performed told e q → IsTrue m.honest → AreLedgersRecorded p.store.ledgers (durable m)
    → StaysRecorded m q.store.ledgers m'
run_recorded limit d e p q m m' [] [] [] ended (stop agrees) honest was = (refl, was)
run_recorded limit d e p q m m' [] [] (a ∷ told) asks run honest was = elim run [ ]
run_recorded limit d e p q m m' [] (y ∷ ys) told asks run honest was = elim asks [ ]
run_recorded limit d e p q m m' (x ∷ xs) [] (a ∷ told) asks run honest was = elim run [ ]
run_recorded limit d e p q m m' (x ∷ xs) (y ∷ ys) [] asks run honest was = elim run [ ]
run_recorded limit d e p q m m' (x ∷ xs) [] [] (refused gives) (stop agrees) honest was = refusal_recorded x m m' p.store.ledgers gives honest was
run_recorded limit d e p q m m' (x ∷ xs) (y ∷ ys) (a ∷ told) (allowed gives more) (step agrees turn beside later) honest was =
    let one = step_recorded x m _ p.store.ledgers _ gives (step_ledgers limit p _ x a beside) honest was in
    let rest = run_recorded limit _ e _ q _ m' xs ys told more later (subst (λ b. IsTrue b) (sym one.0) honest) one.1 in
    (rest.0 ∙ one.0, rest.1)

-- ---- the whole

module _ (settings : Settings) (files : Files) (dead fenced : List ℕ) (before : Kept) (lists : AreOf (durable before) dead fenced)
    (first mid : State) (opened : IsOpened true files settings dead first) (fences : Fences fenced first mid) where
  known : first.ledgers ≡ opened_ledgers (valid_ledgers dead)
  known = opened.ledgers_are

  dead_is : (ledger : ℕ) → ledger < 2 ^ 63 → set.contains first.ledgers.dead ledger ≡ is_deleted (durable before) ledger
  dead_is ledger below = ap (λ (l : KnownLedgers). set.contains l.dead ledger) known ∙ lists.deletions ledger below

  fence_is : (ledger : ℕ) → ledger < 2 ^ 63 → list_any (eq_by_cmp nat_cmp ledger) fenced ≡ is_fenced (durable before) ledger
  fence_is ledger below = sym (in_valid fenced ledger below) ∙ lists.fences ledger below

  only_fenced : (ledger : ℕ) → ledger < 2 ^ 63 → set.contains mid.ledgers.fenced ledger ≡ true → is_fenced (durable before) ledger ≡ true
  only_fenced ledger below is = elim (fences.only ledger is) [
    | inl was ↦ absurd (let none = sym was ∙ ap (λ (l : KnownLedgers). set.contains l.fenced ledger) known ∙ set.contains-empty nat_cmp ledger in cc)
    | inr there ↦ sym (fence_is ledger below) ∙ there
  ]

  pub reopened : IsReopened files settings (durable before) mid
  reopened = record {
    first = first;
    dead = dead;
    opened = opened;
    deleted = dead_is;
    same = fences.same;
    dead_are = fences.dead;
    fenced = λ ledger below is. fences.each ledger (fence_is ledger below ∙ is);
    only = only_fenced;
  }

  pub first_recorded : AreLedgersRecorded mid.ledgers (durable before)
  first_recorded = record {
    deleted = λ ledger below is. sym (dead_is ledger below) ∙ sym (ap (λ d. set.contains d ledger) fences.dead) ∙ is;
    fenced = only_fenced;
  }

pub runs_kept : {R : Type 0} (view : R → Kept) (Honest : Type 0) (settings : Settings) (files : Files) (dead fenced : List ℕ) (ss : List Step) (as' : List Answer)
    (store : State) (readers : List (Option ReaderLease)) (r s : R)
    → RunsRecorded (λ before x answer after. RecordsStep (view before) x answer (view after)) Honest settings files dead fenced ss as' store readers r s
    → Honest → IsTrue (view r).honest → AreOf (durable (view r)) dead fenced
    → RunsKept files settings (view r) (view s) ss as' store readers × AreLedgersRecorded store.ledgers (durable (view s))
runs_kept view Honest settings files dead fenced ss as' store readers r s run is_honest honest lists =
    let main = run.headline is_honest in
    let parts = run_parts settings.cache_limit (initial_machine main.first) (record { store = store; readers = readers }) _ main.plain (map steps.Fence fenced) run.performed
    run.fences run.told (run.each_fence ∙ sym (length-map fenced steps.Fence)) main.run in
    let fenced_all = fences_run settings.cache_limit (initial_machine main.first) parts.mid _ parts.plain fenced run.fences parts.first run.stand in
    let asked = records_by view RecordsStep r s ss run.performed run.recorded in
    let mid_is : parts.mid ≡ initial_machine parts.mid.store = ap (λ rs. record { store = parts.mid.store; readers = rs }) fenced_all.1 in
    let begins = (run_begin parts.later).store.ledgers in
    let was = first_recorded settings files dead fenced (view r) lists main.first parts.mid.store main.opened fenced_all.0 in
    let ends = run_recorded settings.cache_limit parts.mid (record { store = store; readers = readers }) parts.plain main.plain (view r) (view s) ss run.performed run.told
    asked parts.later honest (subst (λ (k : KnownLedgers). AreLedgersRecorded k (durable (view r))) begins was) in (
      record {
        first = parts.mid.store;
        reopened = reopened settings files dead fenced (view r) lists main.first parts.mid.store main.opened fenced_all.0;
        performed = run.performed;
        told = run.told;
        recorded = asked;
        answered = run.answered;
        plain = parts.plain;
        plain' = main.plain;
        run = subst (λ (d : MachineState). Run settings.cache_limit d parts.plain run.performed run.told (record { store = store; readers = readers }) main.plain) mid_is parts.later;
      },
      subst (λ (k : KnownLedgers). AreLedgersRecorded k (durable (view s))) (sym (run_end parts.later).store.ledgers) ends.1,
    )

-- ---- honesty

pub records_honest : (m m' : Kept) (ss performed : List Step) → Records RecordsStep m ss performed m' → m'.honest ≡ m.honest
records_honest m m' [] [] ended = refl
records_honest m m' [] (y ∷ ys) asks = elim asks [ ]
records_honest m m' (x ∷ xs) [] (refused gives) = step_honest x m m' false gives
records_honest m m' (x ∷ xs) (y ∷ ys) (allowed gives more) = records_honest _ m' xs ys more ∙ step_honest x m _ true gives

pub kept_honest : {X E : Type 0} (result : Result X E) (P : X → Type 0) (Q Y : Type 0) → IfOk result P → OnErr result Q → ((x : X) → P x → Y) → (Q → Y) → Y
kept_honest (Ok x) P Q Y ok err of_ok of_err = of_ok x ok
kept_honest (Err e) P Q Y ok err of_ok of_err = of_err err

pub err_weaker : {X E : Type 0} (result : Result X E) (P Q : E → Type 0) → ((e : E) → P e → Q e) → IfErr result P → IfErr result Q
err_weaker (Ok x) P Q weaker is = is
err_weaker (Err e) P Q weaker is = weaker e is

pub on_err_weaker : {X E : Type 0} (result : Result X E) (P Q : Type 0) → (P → Q) → OnErr result P → OnErr result Q
on_err_weaker (Ok x) P Q weaker is = is
on_err_weaker (Err e) P Q weaker is = weaker is

pub not_ok : {X E : Type 0} (result : Result X E) (e : E) → IsErrOf result e → OnOk result ⊥
not_ok (Ok x) e is = absurd (let same = is in cc)
not_ok (Err x) e is = tt
