-- The choice among the logs visited so far, and with one more.
use Rattle.std.proofs.Common.{◌≡◌, ◌⊎◌, inl, inr, ℕ, zero, suc, ◌+◌, ◌*◌, ◌<◌, ◌≤◌, List, [], ◌∷◌, ◌++◌, length, get_or, take, Some, None, Option, true, false}
use Rattle.std.proofs.Common.{◌||◌, ◌&&◌, ◌==◌, nat_lt, if◌then◌else◌, refl, sym, ap, subst, ◌∙◌, ⊎_elim, le_refl, le_of_eq, le_of_lt, arith}
use Rattle.std.proofs.lemmas.Bool.{cases_lt}
use Rattle.std.proofs.lemmas.Bool.Decides.{nat_tests}
use Rattle.bk_accounts.specs.Usage.{is_before, first_of}
use Rattle.std.specs.List.{Contains}
use Rattle.std.proofs.lemmas.List.{take_more}
use Rattle.std.proofs.lemmas.List.Elements.{Contains-append_left, Contains-append_right, Contains-append_cases}
use Rattle.bk_accounts.specs.declared.usage.Usage.{Usage}
use Rattle.bk_accounts.specs.Choice.{IsBelow, IsChoice, NoneBelow, HasOneChoice}
use Rattle.bk_accounts.proofs.Ratios.{total_pos, ratio_trans, ratio_lt_trans, ratio_same}

-- the lowest usage so far is that of the choice among the logs seen, or none if no such log is
-- below the threshold
abbrev pub IsLowest : (ℕ → ℕ) → (ℕ → ℕ) → ℕ → List ℕ → Option Usage → Type 0
IsLowest total remaining threshold seen None = NoneBelow total remaining threshold seen
IsLowest total remaining threshold seen (Some usage) =
    IsChoice total remaining threshold seen usage.log × (usage.total ≡ total usage.log) × (usage.remaining ≡ remaining usage.log)

pub only : (log other : ℕ) → Contains (log ∷ []) other → log ≡ other
only log other (zero, within, is) = is
only log other (suc k, within, is) = absurd (omega arith)

-- a log among those seen and one more is one of those seen, or the new one
seen_more : (seen : List ℕ) (log other : ℕ) → Contains (seen ++ log ∷ []) other → Contains seen other ⊎ (log ≡ other)
seen_more seen log other contains = ⊎_elim inl (λ last. inr (only log other last)) (Contains-append_cases seen (log ∷ []) other contains)

last_seen : (seen : List ℕ) (log : ℕ) → Contains (seen ++ log ∷ []) log
last_seen seen log = Contains-append_right seen (log ∷ []) log (0, omega arith, refl)

-- a log that is not below the threshold does not change the choice
pub spared : (total remaining : ℕ → ℕ) (threshold : ℕ) (seen : List ℕ) (log : ℕ) (lowest : Option Usage)
    → IsLowest total remaining threshold seen lowest → threshold * total log ≤ remaining log * 1000
    → IsLowest total remaining threshold (seen ++ log ∷ []) lowest
spared total remaining threshold seen log None none above = λ other contains.
    ⊎_elim (none other) (λ same. subst (λ l. threshold * total l ≤ remaining l * 1000) same above) (seen_more seen log other contains)
spared total remaining threshold seen log (Some usage) (choice, total_is, remaining_is) above = (
  record {
    allowed_log = Contains-append_left seen (log ∷ []) usage.log choice.allowed_log;
    below = choice.below;
    least = λ other contains below. ⊎_elim (λ old. choice.least other old below) (λ same. absurd (not_below other same below))
        (seen_more seen log other contains);
    lowest = λ other contains below tie. ⊎_elim (λ old. choice.lowest other old below tie) (λ same. absurd (not_below other same below))
        (seen_more seen log other contains);
  },
  total_is,
  remaining_is,
)
  where
    not_below : (other : ℕ) → log ≡ other → IsBelow threshold (total other) (remaining other) → ⊥
    not_below other same below = let here : threshold * total other ≤ remaining other * 1000 =
        subst (λ l. threshold * total l ≤ remaining l * 1000) same above in omega arith

-- the first log below the threshold is the choice
pub taken_first : (total remaining : ℕ → ℕ) (threshold : ℕ) (seen : List ℕ) (log : ℕ)
    → NoneBelow total remaining threshold seen → IsBelow threshold (total log) (remaining log)
    → IsChoice total remaining threshold (seen ++ log ∷ []) log
taken_first total remaining threshold seen log none below = record {
  allowed_log = last_seen seen log;
  below = below;
  least = λ other contains also. ⊎_elim (λ old. absurd (no_old other old also))
      (λ same. subst (λ l. remaining log * total l ≤ remaining l * total log) same (le_refl _)) (seen_more seen log other contains);
  lowest = λ other contains also tie. ⊎_elim (λ old. absurd (no_old other old also)) (λ same. le_of_eq same) (seen_more seen log other contains);
}
  where
    no_old : (other : ℕ) → Contains seen other → IsBelow threshold (total other) (remaining other) → ⊥
    no_old other old also = omega (arith, none other old)

-- a log that is before the choice becomes the choice
pub taken : (total remaining : ℕ → ℕ) (threshold : ℕ) (seen : List ℕ) (log chosen : ℕ)
    → IsChoice total remaining threshold seen chosen → IsBelow threshold (total log) (remaining log)
    → (remaining log * total chosen < remaining chosen * total log) ⊎ ((remaining log * total chosen ≡ remaining chosen * total log) × (log < chosen))
    → IsChoice total remaining threshold (seen ++ log ∷ []) log
taken total remaining threshold seen log chosen choice below before = record {
  allowed_log = last_seen seen log;
  below = below;
  least = λ other contains also. ⊎_elim
      (λ old. ratio_trans (remaining log) (total log) (remaining chosen) (total chosen) (remaining other) (total other) (pos chosen choice.below)
      at_most (choice.least other old also))
      (λ same. subst (λ l. remaining log * total l ≤ remaining l * total log) same (le_refl _)) (seen_more seen log other contains);
  lowest = λ other contains also tie. ⊎_elim (λ old. lower other old also tie before) (λ same. le_of_eq same) (seen_more seen log other contains);
}
  where
    pos : (l : ℕ) → IsBelow threshold (total l) (remaining l) → 0 < total l
    pos l h = total_pos threshold (total l) (remaining l) h

    at_most : remaining log * total chosen ≤ remaining chosen * total log
    at_most = ⊎_elim (λ less. le_of_lt less) (λ tie. le_of_eq tie.0) before

    lower : (other : ℕ) → Contains seen other → IsBelow threshold (total other) (remaining other) → remaining log * total other ≡ remaining other * total log
        → (remaining log * total chosen < remaining chosen * total log)
        ⊎ ((remaining log * total chosen ≡ remaining chosen * total log) × (log < chosen)) → log ≤ other
    lower other old also tie (inl less) =
        absurd (omega (
          arith,
          tie,
          ratio_lt_trans (remaining log) (total log) (remaining chosen) (total chosen) (remaining other) (total other)
              (pos chosen choice.below) (pos other also) less (choice.least other old also),
        ))
    lower other old also tie (inr (same, first)) =
        omega (
          arith,
          first,
          choice.lowest other old also
              (ratio_same (remaining log) (total log) (remaining chosen) (total chosen) (remaining other) (total other) (pos log below) same tie),
        )

-- a log that is not before the choice does not change it
pub kept : (total remaining : ℕ → ℕ) (threshold : ℕ) (seen : List ℕ) (log chosen : ℕ)
    → IsChoice total remaining threshold seen chosen
    → ((remaining log * total chosen < remaining chosen * total log) ⊎ ((remaining log * total chosen ≡ remaining chosen * total log) × (log < chosen)) → ⊥)
    → IsChoice total remaining threshold (seen ++ log ∷ []) chosen
kept total remaining threshold seen log chosen choice not_before = record {
  allowed_log = Contains-append_left seen (log ∷ []) chosen choice.allowed_log;
  below = choice.below;
  least = λ other contains also. ⊎_elim (λ old. choice.least other old also)
      (λ same. subst (λ l. remaining chosen * total l ≤ remaining l * total chosen) same at_most) (seen_more seen log other contains);
  lowest = λ other contains also tie. ⊎_elim (λ old. choice.lowest other old also tie) (λ same. later other same tie) (seen_more seen log other contains);
}
  where
    at_most : remaining chosen * total log ≤ remaining log * total chosen
    at_most = ⊎_elim (λ less. absurd (not_before (inl less))) (λ le. le) (cases_lt (remaining log * total chosen) (remaining chosen * total log))

    later : (other : ℕ) → log ≡ other → remaining chosen * total other ≡ remaining other * total chosen → chosen ≤ other
    later other same tie =
        let tie' : remaining log * total chosen ≡ remaining chosen * total log =
        subst (λ l. remaining l * total chosen ≡ remaining chosen * total l) (sym same) (sym tie) in
        ⊎_elim (λ less. absurd (not_before (inr (tie', less)))) (λ le. subst (λ l. chosen ≤ l) same le) (cases_lt log chosen)

-- comparison of two usages, in terms of two products and two ids
before_is : (a b l k : ℕ) → (nat_lt a b || (a == b && nat_lt l k)) ≡ true → (a < b) ⊎ ((a ≡ b) × (l < k))
before_is a b l k h = ⊎_elim (λ less. inl less) (λ at_least. inr (grind (arith, nat_tests, h, at_least), grind (arith, nat_tests, h, at_least))) (cases_lt a b)

not_before_is : (a b l k : ℕ) → (nat_lt a b || (a == b && nat_lt l k)) ≡ false → (a < b) ⊎ ((a ≡ b) × (l < k)) → ⊥
not_before_is a b l k h (inl less) = grind (arith, nat_tests, h, less)
not_before_is a b l k h (inr (same, lower)) = grind (arith, nat_tests, h, same, lower)

-- the usage of one more log below the threshold
pub lowest_more : (total remaining : ℕ → ℕ) (threshold : ℕ) (seen : List ℕ) (usage : Usage) (lowest : Option Usage)
    → usage.total ≡ total usage.log → usage.remaining ≡ remaining usage.log → IsBelow threshold usage.total usage.remaining
    → IsLowest total remaining threshold seen lowest → IsLowest total remaining threshold (seen ++ usage.log ∷ []) (Some (first_of usage lowest))
lowest_more total remaining threshold seen usage None total_is remaining_is below none =
    (taken_first total remaining threshold seen usage.log none (rw (← total_is, ← remaining_is) below), total_is, remaining_is)
lowest_more total remaining threshold seen usage (Some other) total_is remaining_is below (choice, total_was, remaining_was) =
    elim (is_before usage other)
    as (λ b. is_before usage other ≡ b → IsLowest total remaining threshold (seen ++ usage.log ∷ []) (Some (if b then usage else other))) [
      | true ↦ λ h. (
        taken total remaining threshold seen usage.log other.log choice (rw (← total_is, ← remaining_is) below)
            (rw (← total_is, ← remaining_is, ← total_was, ← remaining_was) (before_is _ _ _ _ h)),
        total_is,
        remaining_is,
      )
      | false ↦ λ h. (
        kept total remaining threshold seen usage.log other.log choice
            (λ before. not_before_is (usage.remaining * other.total) (other.remaining * usage.total) usage.log other.log h
            (rw (total_is, remaining_is, total_was, remaining_was) before)),
        total_was,
        remaining_was,
      )
    ] refl

-- one iteration of the loop, at a log below the threshold
pub turn_below : (total remaining : ℕ → ℕ) (threshold : ℕ) (all : List ℕ) (i : ℕ) (usage first : Usage) (lowest new : Option Usage) → i < length all
    → usage.log ≡ get_or all i 0 → usage.total ≡ total (get_or all i 0) → usage.remaining ≡ remaining (get_or all i 0)
    → IsBelow threshold usage.total usage.remaining
    → IsLowest total remaining threshold (take i all) lowest → first ≡ first_of usage lowest → new ≡ Some first
    → IsLowest total remaining threshold (take (i + 1) all) new
turn_below total remaining threshold all i usage first lowest new within log_is total_is remaining_is below so_far first_is new_is =
    let seen : take (i + 1) all ≡ take i all ++ usage.log ∷ [] = take_more all i 0 within ∙ ap (λ log. take i all ++ log ∷ []) (sym log_is) in
    rw (seen, new_is, first_is)
    (lowest_more total remaining threshold (take i all) usage lowest (total_is ∙ ap total (sym log_is)) (remaining_is ∙ ap remaining (sym log_is)) below so_far)

-- one iteration at any other log
pub turn_above : (total remaining : ℕ → ℕ) (threshold : ℕ) (all : List ℕ) (i : ℕ) (usage : Usage) (lowest new : Option Usage) → i < length all
    → usage.total ≡ total (get_or all i 0) → usage.remaining ≡ remaining (get_or all i 0) → (IsBelow threshold usage.total usage.remaining → false ≡ true)
    → IsLowest total remaining threshold (take i all) lowest → new ≡ lowest
    → IsLowest total remaining threshold (take (i + 1) all) new
turn_above total remaining threshold all i usage lowest new within total_is remaining_is above so_far new_is =
    let at_least : threshold * usage.total ≤ usage.remaining * 1000 =
    ⊎_elim (λ less. let wrong = above less in cc) (λ le. le) (cases_lt (usage.remaining * 1000) (threshold * usage.total)) in
    rw (take_more all i 0 within, new_is)
    (spared total remaining threshold (take i all) (get_or all i 0) lowest so_far (rw (← total_is, ← remaining_is) at_least))

-- two choices among the same logs are equal
pub one_choice : HasOneChoice
one_choice total remaining threshold allowed one other first second =
    let at_most : remaining one * total other ≤ remaining other * total one = first.least other second.allowed_log second.below in
    let at_least : remaining other * total one ≤ remaining one * total other = second.least one first.allowed_log first.below in
    let below : one ≤ other = first.lowest other second.allowed_log second.below (omega arith) in
    let above : other ≤ one = second.lowest one first.allowed_log first.below (omega arith) in
    omega arith
