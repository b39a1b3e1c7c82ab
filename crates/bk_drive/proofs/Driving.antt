-- Lists of steps that the machine takes (`Performs`): none, one, one list after another, and what
-- such a list gives from an opened store.
use Rattle.std.proofs.Common.{◌≡◌, ◌⊎◌, inl, inr, ℕ, ◌<◌, ◌≤◌, List, [], ◌∷◌, ◌++◌, length, take, replicate, Bool, true}
use Rattle.std.proofs.Common.{Option, None, IsTrue, get_or, ◌+◌, add-one, refl, sym, ap, ◌∙◌, subst, arith}
use Rattle.std.specs.List.{All}
use Rattle.std.proofs.lemmas.List.Elements.{All-nil, All-cons, All-append, All-weaker}
use Rattle.std.proofs.lemmas.List.{length-append}
use Rattle.std.proofs.Math.Seq.{take-suc}
use Rattle.bk_record.specs.Files.{Files}
use Rattle.bk_store.specs.State.{State}
use Rattle.bk_store.specs.Limits.{IsAllowed}
use Rattle.bk_store.specs.Opening.{IsOpened}
use Rattle.bk_store.specs.declared.settings.Settings.{Settings}
use Rattle.bk_store.specs.Transitions.{valid_ledgers}
use Rattle.bk_store.specs.Abstract.{SatisfiesInvariant}
use Rattle.bk_drive.specs.Machine.{ReaderLease, MachineTransition, ClosesOrRemoves}
use Rattle.bk_drive.specs.ReaderLeases.{AreOpenLeases, IsClosedOrRemoved, WasClosedOrRemoved}
use Rattle.bk_drive.specs.Headline.{reader_count, Headline, Run, initial_machine, initial_abstract}
use Rattle.bk_drive.specs.Headline.Run.{stop, step}
use Rattle.bk_drive.specs.Recorded.{Performs}
use Rattle.bk_drive.specs.declared.step.Step.{Step}
use Rattle.bk_drive.specs.declared.step.Answer.{Answer}
use Rattle.bk_drive.specs.Failing.{IsDiskFault, NoneIsDiskFault}
use Rattle.bk_drive.proofs.Runs.{run_append, run_end, first_agrees}
use Rattle.bk_drive.proofs.Simulation.{GoesOn}
use Rattle.bk_drive.proofs.Leases.{shut_unread}

-- A device fault among the answers has been counted.
abbrev AreCounted : ℕ → ℕ → List Answer → Type 0
AreCounted before now = All (λ answer. IsDiskFault answer → before < now)

counted_none : (before now : ℕ) → AreCounted before now []
counted_none before now = All-nil (λ answer. IsDiskFault answer → before < now)

counted_one : (before now : ℕ) (a : Answer) → (IsDiskFault a → before < now) → AreCounted before now (a ∷ [])
counted_one before now a told = All-cons (λ x. IsDiskFault x → before < now) a [] told (counted_none before now)

counted_both : (first middle last : ℕ) (as' bs : List Answer) → first ≤ middle → middle ≤ last → AreCounted first middle as' → AreCounted middle last bs
    → AreCounted first last (as' ++ bs)
counted_both first middle last as' bs early late one two =
    let one_on : AreCounted first last as' = All-weaker (λ x. IsDiskFault x → first < middle) (λ x. IsDiskFault x → first < last)
    (λ x h is. omega (arith, h is)) as' one in
    let two_on : AreCounted first last bs = All-weaker (λ x. IsDiskFault x → middle < last) (λ x. IsDiskFault x → first < last)
    (λ x h is. omega (arith, h is)) bs two in
    All-append (λ x. IsDiskFault x → first < last) as' bs one_on two_on

pub counted_never : (before now : ℕ) (answers : List Answer) → AreCounted before now answers → now ≡ 0 → NoneIsDiskFault answers
counted_never before now answers counted never =
    All-weaker (λ x. IsDiskFault x → before < now) (λ x. ¬ (IsDiskFault x)) (λ x h is. absurd (omega (arith, h is))) answers counted

-- ---- closed and removed logs

shut_both : (ss ts : List Step) (as' bs : List Answer) (log : ℕ) → length as' ≡ length ss → WasClosedOrRemoved (ss ++ ts) (as' ++ bs) log
    → WasClosedOrRemoved ss as' log ⊎ WasClosedOrRemoved ts bs log
shut_both [] ts [] bs log same was = inr was
shut_both [] ts (a ∷ as') bs log same was = absurd (omega (arith, same))
shut_both (s ∷ ss) ts [] bs log same was = absurd (omega (arith, same))
shut_both (s ∷ ss) ts (a ∷ as') bs log same was = elim was [
  | inl here ↦ inl (inl here)
  | inr later ↦ elim (shut_both ss ts as' bs log (omega (arith, same)) later) [ inl before ↦ inl (inr before) | inr behind ↦ inr behind ]
]

-- ---- lists of steps

pub performs_none : (Sound : Type 0) (store : State) (readers : List (Option ReaderLease)) → AreOpenLeases store.keeper readers
    → Performs Sound store readers [] [] store readers
performs_none Sound store readers leases = record {
  each = refl;
  honest_is = refl;
  settings_are = refl;
  later = omega arith;
  counted = λ sound. counted_none store.failures store.failures;
  leases = leases;
  shut = λ log was. absurd was;
  stays = λ log shut. shut;
  plain = λ honest p agrees. (p, stop agrees);
}

-- What one step ensures (`turn`).
pub record Turns (Sound : Type 0) (s : State) (readers : List (Option ReaderLease)) (x : Step) (a : Answer) (t : State) (readers' : List (Option ReaderLease)) : Type 0 where
  pub honest : t.honest ≡ s.honest
  pub settings : t.settings ≡ s.settings
  pub later : s.failures ≤ t.failures
  pub disk : Sound → IsDiskFault a → s.failures < t.failures
  pub leases : AreOpenLeases t.keeper readers'
  pub closes : (log : ℕ) → ClosesOrRemoves x a log → IsClosedOrRemoved t log
  pub closed : (log : ℕ) → IsClosedOrRemoved s log → IsClosedOrRemoved t log
  pub transition : MachineTransition (record { store = s; readers = readers }) x a (record { store = t; readers = readers' })
  pub plain : IsTrue s.honest → GoesOn s readers x a t readers'

pub performs_one : (Sound : Type 0) (s t : State) (readers readers' : List (Option ReaderLease)) (x : Step) (a : Answer) → Turns Sound s readers x a t readers'
    → Performs Sound s readers (x ∷ []) (a ∷ []) t readers'
performs_one Sound s t readers readers' x a turn = record {
  each = refl;
  honest_is = turn.honest;
  settings_are = turn.settings;
  later = turn.later;
  counted = λ sound. counted_one s.failures t.failures a (turn.disk sound);
  leases = turn.leases;
  shut = λ log was. elim was [ inl here ↦ turn.closes log here | inr never ↦ absurd never ];
  stays = turn.closed;
  plain = λ honest p agrees. let next = turn.plain honest p agrees in (next.0, step agrees turn.transition next.1 (stop next.2));
}

module _ (Sound : Type 0) (s t u : State) (rs rs' rs'' : List (Option ReaderLease)) (ss ts : List Step) (as' bs : List Answer) where
  pub performs_both : Performs Sound s rs ss as' t rs' → Performs Sound t rs' ts bs u rs'' → Performs Sound s rs (ss ++ ts) (as' ++ bs) u rs''
  performs_both one two =
      let count : length (as' ++ bs) ≡ length (ss ++ ts) = omega (arith, one.each, two.each, length-append as' bs, length-append ss ts) in
      record {
        each = count;
        honest_is = two.honest_is ∙ one.honest_is;
        settings_are = two.settings_are ∙ one.settings_are;
        later = (let early = one.later in let late = two.later in omega (arith, early, late));
        counted = λ sound. counted_both s.failures t.failures u.failures as' bs one.later two.later (one.counted sound) (two.counted sound);
        leases = two.leases;
        shut = λ log was. elim (shut_both ss ts as' bs log one.each was) [
          | inl before ↦ two.stays log (one.shut log before)
          | inr behind ↦ two.shut log behind
        ];
        stays = λ log shut. two.stays log (one.stays log shut);
        plain = λ honest p agrees.
            let first = one.plain honest p agrees in
            let honest_on = subst (λ b. IsTrue b) (sym one.honest_is) honest in
            let last = two.plain honest_on first.0 (run_end first.1) in
            let run = subst (λ (z : Settings). Run z.cache_limit (record { store = t; readers = rs' }) first.0 ts bs (record { store = u; readers = rs'' }) last.0)
            one.settings_are last.1 in
            (last.0, run_append first.1 run);
      }

-- The settings of an opened store are in range.
pub settings_allowed : (s : State) (settings : Settings) → SatisfiesInvariant s → s.settings ≡ settings → IsAllowed settings
settings_allowed s settings kept is = subst (λ (z : Settings). IsAllowed z) (ap (λ (x : State). x.settings) kept.seen ∙ is) kept.keeps.fits.limits.allowed

-- The main theorem, for the steps that the machine took from an opened store.
module _ (settings : Settings) (files : Files) (dead : List ℕ) (first store : State) (free readers : List (Option ReaderLease)) (steps : List Step)
    (answers : List Answer) where
  pub headline_from : (Sound : Type 0) (honest : Bool) → IsTrue honest → first.honest ≡ honest → IsOpened honest files settings dead first
      → free ≡ replicate reader_count None → Performs Sound first free steps answers store readers → SatisfiesInvariant store
      → Headline settings files dead steps answers store readers
  headline_from Sound honest is same opened none made kept =
      let opened_so : IsOpened true files settings dead first = subst (λ (b : Bool). IsOpened b files settings dead first) is opened in
      let from_none : Performs Sound first (replicate reader_count None) steps answers store readers =
      subst (λ (rs : List (Option ReaderLease)). Performs Sound first rs steps answers store readers) none made in
      let last = from_none.plain (same ∙ is) (initial_abstract files (valid_ledgers dead)) (first_agrees settings files dead first opened_so) in
      record {
        first = first;
        opened = opened_so;
        plain = last.0;
        run = subst (λ (z : Settings). Run z.cache_limit (initial_machine first) (initial_abstract files (valid_ledgers dead)) steps answers
            (record { store = store; readers = readers }) last.0) opened_so.settings_are last.1;
        unread = λ log was. shut_unread store readers log kept from_none.leases (from_none.shut log was);
      }

-- One more step of the list has been taken.
pub one_more : {X : Type 0} (xs : List X) (i : ℕ) (x : X) → i < length xs → x ≡ get_or xs i x → take (i + 1) xs ≡ take i xs ++ x ∷ []
one_more xs i x within is = ap (λ n. take n xs) (add-one i) ∙ take-suc xs i x within ∙ ap (λ y. take i xs ++ y ∷ []) (sym is)
