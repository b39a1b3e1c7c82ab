-- Lists of examined entries: one more, none, and at most as many copied as examined.
use Rattle.std.proofs.Common.{◌≡◌, ℕ, ◌+◌, ◌-◌, ◌≤◌, Bool, true, false}
use Rattle.std.proofs.Common.{if◌then◌else◌, List, [], ◌∷◌, ◌++◌, length, take}
use Rattle.std.proofs.Common.{None, refl, ap, subst, arith}
use Rattle.bk_log.specs.declared.found.Found.{Found}
use Rattle.bk_store.specs.State.{State}
use Rattle.bk_store.specs.Jobs.{Job}
use Rattle.bk_store.specs.Contents.{PreservesContents}
use Rattle.bk_compact.specs.Compacting.{AreFound, Examines, ExaminesAll, IsFound}
use Rattle.bk_compact.specs.Compacting.{with_job}

-- ---- one more entry

pub found_push : (entries : List (ℕ × List ℕ)) (founds : List Found) (entry : ℕ × List ℕ) (found : Found) → AreFound entries founds → IsFound entry found
    → AreFound (entries ++ entry ∷ []) (founds ++ found ∷ [])
found_push [] [] entry found all is = (is, tt)
found_push [] (f ∷ founds) entry found all is = absurd all
found_push (e ∷ entries) [] entry found all is = absurd all
found_push (e ∷ entries) (f ∷ founds) entry found all is = (all.0, found_push entries founds entry found all.1 is)

abbrev pub one : Bool → ℕ
one is_copied = if is_copied then 1 else 0

pub examined_push : (s : State) (job : Job) (founds : List Found) (copied : ℕ) (mid : State) (next : Job) (found : Found) (is_copied : Bool)
    (t : State) (after : Job)
    → ExaminesAll s job founds copied mid next → Examines mid next found is_copied t after
    → ExaminesAll s job (founds ++ found ∷ []) (copied + one is_copied) t after
examined_push s job [] copied mid next found is_copied t after all last =
    let here : Examines s job found is_copied t after =
    subst (λ (j : Job). Examines s j found is_copied t after) all.2 (subst (λ (u : State). Examines u next found is_copied t after) all.1 last) in
    (is_copied, (t, (after, here, (0, omega (arith, all.0), (refl, refl, refl)))))
examined_push s job (f ∷ founds) copied mid next found is_copied t after all last =
    let rest = all.1.1.2 in (
      all.0,
      (
        all.1.0,
        (
          all.1.1.0,
          all.1.1.1,
          (
            rest.0 + one is_copied,
            omega (arith, rest.1),
            examined_push all.1.0 all.1.1.0 founds rest.0 mid next found is_copied t after rest.2 last,
          ),
        ),
      ),
    )

-- at most as many are copied as were examined
pub copied_few : (s : State) (job : Job) (founds : List Found) (copied : ℕ) (t : State) (after : Job) → ExaminesAll s job founds copied t after
    → copied ≤ length founds
copied_few s job [] copied t after all = omega (arith, all.0)
copied_few s job (f ∷ founds) copied t after all =
    let rest = all.1.1.2 in
    let few = copied_few all.1.0 all.1.1.0 founds rest.0 t after rest.2 in
    omega (arith, rest.1, few, at_most all.0)
  where
    at_most : (b : Bool) → one b ≤ 1
    at_most true = omega arith
    at_most false = omega arith

-- ---- whether any was examined

-- if some were examined, some were left
pub some_left : (l : List (ℕ × List ℕ)) (founds : List Found) → AreFound (take (length founds) l) founds → 1 ≤ length founds → ¬ (l ≡ [])
some_left [] [] found some none = absurd (omega (arith, some))
some_left [] (f ∷ founds) found some none = found
some_left (e ∷ l) founds found some none = cc

pub no_entries : (l : List (ℕ × List ℕ)) → length l ≤ 0 → l ≡ []
no_entries [] few = refl
no_entries (e ∷ l) few = absurd (omega (arith, few))

pub none_examined : (s : State) (job : Job) (founds : List Found) (copied : ℕ) (t : State) (after : Job) → ExaminesAll s job founds copied t after
    → length founds ≡ 0 → (t ≡ s) × (after ≡ job)
none_examined s job [] copied t after all none = (all.1, all.2)
none_examined s job (f ∷ founds) copied t after all none = absurd (omega (arith, none))

pub out_same : (s : State) → s.job ≡ None → s ≡ with_job s None
out_same s none = ap (λ j. with_job s j) none

pub stays_itself : (s : State) → PreservesContents s s
stays_itself s = record { honest = refl; meaning = λ _ key. refl }

-- ---- the copying so far
