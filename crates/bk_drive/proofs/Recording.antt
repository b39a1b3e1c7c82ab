-- The recorder is asked for one step more, and the machine takes it.
use Rattle.std.proofs.Common.{◌≡◌, ℕ, ◌+◌, ◌-◌, ◌<◌, ◌≤◌, Bool, true, false, List, [], ◌∷◌, ◌++◌, length, take, drop, map, replicate, get_or}
use Rattle.std.proofs.Common.{Option, refl, sym, ap, subst, ◌∙◌, arith, append_assoc, length-append}
use Rattle.std.proofs.lemmas.List.{append-nil, map-append, take-append-drop, take_all, take_more, length-replicate, length-take-le}
use Rattle.std.proofs.lemmas.List.Elements.{All-nil, All-cons, All-append, All-replicate}
use Rattle.bk_record.specs.Files.{Files}
use Rattle.bk_store.specs.State.{State}
use Rattle.bk_store.specs.declared.settings.Settings.{Settings}
use Rattle.bk_drive.specs.Machine.{ReaderLease}
use Rattle.bk_drive.specs.Failing.{IsDiskFault, NoneIsDiskFault}
use Rattle.bk_drive.specs.Headline.{Headline}
use Rattle.bk_drive.specs.Recorded.{Records, AreAnswersTo, AreFenced, IsFenced, Performs, RunsRecorded}
use Rattle.bk_drive.specs.Recorded.Records.{ended, refused, allowed}
use Rattle.bk_drive.specs.declared.step.Step.{Step}
use Rattle.bk_drive.specs.declared.step.Step.TheVariants as steps
use Rattle.bk_drive.specs.declared.step.Answer.{Answer}
use Rattle.bk_drive.specs.declared.step.Answer.TheVariants as answers
use Rattle.bk_drive.proofs.Driving.{Turns, performs_one, performs_both, one_more}

-- ---- what the recorder was asked

-- The recorder allowed the first `i` steps. Whatever it gives for others is given behind them.
abbrev pub Asked : {R : Type 0} → (R → Step → Bool → R → Type 0) → R → List Step → ℕ → R → Type 0
Asked {R} Gives first ss i now = (rest performed : List Step) (last : R) → Records Gives now rest performed last
    → Records Gives first (take i ss ++ rest) (take i ss ++ performed) last

module _ {R : Type 0} (Gives : R → Step → Bool → R → Type 0) (first now next : R) (ss : List Step) (i : ℕ) (x : Step) where
  pub asked_on : i < length ss → x ≡ get_or ss i x → Gives now x true next → Asked Gives first ss i now → Asked Gives first ss (i + 1) next
  asked_on within is gives before = λ rest performed last asks.
      let grown : (ys : List Step) → take i ss ++ x ∷ ys ≡ take (i + 1) ss ++ ys =
      λ ys. sym (append_assoc (take i ss) (x ∷ []) ys) ∙ ap (λ l. l ++ ys) (sym (one_more ss i x within is)) in
      let told : Records Gives first (take i ss ++ x ∷ rest) (take i ss ++ x ∷ performed) last =
      before (x ∷ rest) (x ∷ performed) last (allowed gives asks) in
      subst (λ l. Records Gives first l (take (i + 1) ss ++ performed) last) (grown rest)
      (subst (λ l. Records Gives first (take i ss ++ x ∷ rest) l last) (grown performed) told)

  pub asked_refused : i < length ss → x ≡ get_or ss i x → Gives now x false next → Asked Gives first ss i now → Records Gives first ss (take i ss) next
  asked_refused within is gives before =
      let rest = drop (i + 1) ss in
      let whole : take i ss ++ x ∷ rest ≡ ss = sym (append_assoc (take i ss) (x ∷ []) rest)
      ∙ ap (λ l. l ++ rest) (sym (one_more ss i x within is)) ∙ take-append-drop (i + 1) ss in
      let told : Records Gives first (take i ss ++ x ∷ rest) (take i ss ++ []) next = before (x ∷ rest) [] next (refused gives) in
      subst (λ l. Records Gives first l (take i ss) next) whole
      (subst (λ l. Records Gives first (take i ss ++ x ∷ rest) l next) (append-nil (take i ss)) told)

pub asked_none : {R : Type 0} (Gives : R → Step → Bool → R → Type 0) (first : R) (ss : List Step) → Asked Gives first ss 0 first
asked_none Gives first ss = λ rest performed last asks. asks

pub asked_all : {R : Type 0} (Gives : R → Step → Bool → R → Type 0) (first now : R) (ss : List Step) (i : ℕ) → length ss ≤ i → Asked Gives first ss i now
    → Records Gives first ss ss now
asked_all Gives first now ss i all before =
    let whole : take i ss ++ [] ≡ ss = append-nil (take i ss) ∙ take_all i ss all in
    subst (λ l. Records Gives first l l now) whole (before [] [] now ended)

-- A recorder that refuses none allowed all steps.
pub all_allowed : {R : Type 0} (before after : R) (ss performed : List Step) → Records (λ _ _ (answer : Bool) _. answer ≡ true) before ss performed after → performed ≡ ss
all_allowed r s [] [] ended = refl
all_allowed r s [] (y ∷ ys) asks = elim asks [ ]
all_allowed r s (x ∷ xs) [] (refused never) = let no : false ≡ true = never in cc
all_allowed r s (x ∷ xs) (y ∷ ys) (allowed gives more) = ap (λ l. x ∷ l) (all_allowed _ s xs ys more)

-- ---- the answers

-- Each step has one answer.
pub one_each : (ss : List Step) (told as' : List Answer) → length told ≤ length ss → AreAnswersTo ss told as' → length as' ≡ length ss
one_each ss told as' few is =
    let count = ap length is in
    let rest = length-append told (replicate (length ss - length told) answers.Unrecorded) in
    let many = length-replicate (length ss - length told) answers.Unrecorded in
    omega (arith, few, count, rest, many)

-- `Unrecorded` is no fault of the device.
rest_not_disk : (n : ℕ) → NoneIsDiskFault (replicate n answers.Unrecorded)
rest_not_disk n = All-replicate (λ a. ¬ (IsDiskFault a)) n answers.Unrecorded (λ never. never)

pub none_is_disk : (ss : List Step) (told as' : List Answer) → NoneIsDiskFault told → AreAnswersTo ss told as' → NoneIsDiskFault as'
none_is_disk ss told as' none is = subst (λ l. NoneIsDiskFault l) (sym is)
    (All-append (λ a. ¬ (IsDiskFault a)) told _ none (rest_not_disk (length ss - length told)))

-- All steps were performed.
pub all_told : (ss : List Step) (told : List Answer) → length told ≡ length ss → AreAnswersTo ss told told
all_told ss told same =
    let none : length ss - length told ≡ 0 = omega (arith, same) in
    sym (append-nil told) ∙ ap (λ n. told ++ replicate n answers.Unrecorded) (sym none)

pub told_all : (ss : List Step) (told as' : List Answer) → length told ≡ length ss → AreAnswersTo ss told as' → as' ≡ told
told_all ss told as' same is = is ∙ sym (all_told ss told same)

none_of : {X : Type 0} (xs : List X) → length xs ≡ 0 → xs ≡ []
none_of [] none = refl
none_of (x ∷ xs) none = absurd (omega (arith, none))

-- ---- fences

pub fenced_on : (told : List Answer) (a : Answer) → AreFenced told → IsFenced a → AreFenced (told ++ a ∷ [])
fenced_on told a all one = All-append IsFenced told (a ∷ []) all (All-cons IsFenced a [] one (All-nil IsFenced))

module _ (Sound : Type 0) (s t u : State) (rs rs' rs'' : List (Option ReaderLease)) (told : List Answer) (a : Answer) where
  pub fences_on : (fenced : List ℕ) (i : ℕ) → i < length fenced → Performs Sound s rs (map steps.Fence (take i fenced)) told t rs'
      → Turns Sound t rs' (steps.Fence (get_or fenced i 0)) a u rs''
      → Performs Sound s rs (map steps.Fence (take (i + 1) fenced)) (told ++ a ∷ []) u rs''
  fences_on fenced i within before turn =
      let more : map steps.Fence (take (i + 1) fenced) ≡ map steps.Fence (take i fenced) ++ steps.Fence (get_or fenced i 0) ∷ [] =
      ap (map steps.Fence) (take_more fenced i 0 within) ∙ map-append steps.Fence (take i fenced) (get_or fenced i 0 ∷ []) in
      subst (λ (ss : List Step). Performs Sound s rs ss (told ++ a ∷ []) u rs'') (sym more)
      (performs_both Sound s t u rs rs' rs'' _ _ _ _ before (performs_one Sound t u rs' rs'' _ a turn))

  pub steps_on : (ss : List Step) (i : ℕ) (x : Step) → i < length ss → x ≡ get_or ss i x → Performs Sound s rs (take i ss) told t rs'
      → Turns Sound t rs' x a u rs'' → Performs Sound s rs (take (i + 1) ss) (told ++ a ∷ []) u rs''
  steps_on ss i x within is before turn =
      subst (λ (l : List Step). Performs Sound s rs l (told ++ a ∷ []) u rs'') (sym (one_more ss i x within is))
      (performs_both Sound s t u rs rs' rs'' _ _ _ _ before (performs_one Sound t u rs' rs'' x a turn))

-- ---- counts

pub records_few : {R : Type 0} (Gives : R → Step → Bool → R → Type 0) (r s : R) (ss performed : List Step) → Records Gives r ss performed s
    → length performed ≤ length ss
records_few Gives r s [] [] ended = omega arith
records_few Gives r s [] (y ∷ ys) asks = elim asks [ ]
records_few Gives r s (x ∷ xs) [] asks = omega arith
records_few Gives r s (x ∷ xs) (y ∷ ys) (allowed gives more) = omega (arith, records_few Gives _ s xs ys more)

-- The answers after a refusal: those of the steps before it, and `Unrecorded` for the others.
pub refused_told : (ss : List Step) (i count : ℕ) (told as' : List Answer) → i < length ss → length told ≡ length (take i ss) → count ≡ length ss - i
    → as' ≡ told ++ replicate count answers.Unrecorded → AreAnswersTo ss told as'
refused_told ss i count told as' within each is items =
    let few = length-take-le i ss (omega (arith, within)) in
    let same : count ≡ length ss - length told = omega (arith, within, each, is, few) in
    items ∙ ap (λ n. told ++ replicate n answers.Unrecorded) same

-- ---- a recorder that refuses no step

-- The main theorem, if no ledger is fenced first and all steps are allowed.
pub all_recorded : {R : Type 0} (Honest : Type 0) (settings : Settings) (files : Files) (dead : List ℕ) (ss : List Step) (as' : List Answer) (store : State)
    (readers : List (Option ReaderLease)) (r s : R) → RunsRecorded (λ _ _ (answer : Bool) _. answer ≡ true) Honest settings files dead [] ss as' store readers r s
    → Honest → Headline settings files dead ss as' store readers
all_recorded Honest settings files dead ss as' store readers r s run honest =
    let all = all_allowed r s ss run.performed run.recorded in
    let each : length run.told ≡ length ss = run.each ∙ ap length all in
    let no_fence : run.fences ≡ [] = none_of run.fences run.each_fence in
    subst (λ l. Headline settings files dead ss l store readers) (sym (told_all ss run.told as' each run.answered))
    (subst (λ l. Headline settings files dead l run.told store readers) all
    (subst (λ l. Headline settings files dead run.performed (l ++ run.told) store readers) no_fence (run.headline honest)))
