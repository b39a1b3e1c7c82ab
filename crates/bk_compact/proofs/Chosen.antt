-- The choice among the logs considered so far, and with one more.
use Rattle.std.proofs.Common.{◌≡◌, ◌⊎◌, inl, inr, ℕ, zero, suc, ◌+◌, ◌*◌, ◌<◌, ◌≤◌, true, false, IsTrue, List, []}
use Rattle.std.proofs.Common.{◌∷◌, ◌++◌, Option, Some, None, IsSome, IfSome, is_some, refl, sym, ap, subst, ◌∙◌, arith}
use Rattle.std.proofs.lemmas.Bool.{cases_lt}
use Rattle.std.proofs.lemmas.Option.{same_Some}
use Rattle.std.proofs.Math.Decide.{dec_le}
use Rattle.std.specs.List.{Contains}
use Rattle.std.proofs.lemmas.List.Elements.{Contains-append_left, Contains-append_right, Contains-append_cases}
use Rattle.std.specs.FinMap as finite
use Rattle.bk_accounts.specs.Choice.{IsBelow, IsChoice, NoneBelow}
use Rattle.bk_accounts.proofs.Choices.{only, taken_first, taken, kept}
use Rattle.bk_record.specs.Keyed.{log_count}
use Rattle.bk_store.specs.Logs.{IsNextHeld, Log}
use Rattle.bk_store.specs.declared.log.LogState.{LogState}
use Rattle.bk_store.specs.declared.log.LogState.TheVariants.{Writing, Filled, Copying, Readable, Retired, Closed}
use Rattle.bk_store.specs.State.{State}
use Rattle.bk_store.specs.CompactionPrimitives.{IsLeastUsed, log_bytes, live_log_bytes}
use Rattle.bk_compact.specs.Compacting.{Chooses, IsCandidate}
use Rattle.bk_compact.specs.JobSteps.{IsBetter, IsChoosing}

-- ---- lists of one or two

either : (best log other : ℕ) → Contains (best ∷ log ∷ []) other → (best ≡ other) ⊎ (log ≡ other)
either best log other (zero, within, is) = inl is
either best log other (suc zero, within, is) = inr is
either best log other (suc (suc k), within, is) = absurd (omega arith)

-- ---- one more log

-- the choice among some logs, none if no log is below the threshold
abbrev least_of : (ℕ → ℕ) → (ℕ → ℕ) → ℕ → List ℕ → Option ℕ → Type 0
least_of total remaining threshold allowed None = NoneBelow total remaining threshold allowed
least_of total remaining threshold allowed (Some id) = IsChoice total remaining threshold allowed id

module _ (total remaining : ℕ → ℕ) (threshold : ℕ) (seen : List ℕ) (log : ℕ) where
  abbrev least : List ℕ → Option ℕ → Type 0
  least allowed chosen = least_of total remaining threshold allowed chosen

  -- the first log below the threshold
  first_taken : least seen None → IsChoice total remaining threshold (log ∷ []) log → least (seen ++ log ∷ []) (Some log)
  first_taken none choice = taken_first total remaining threshold seen log none choice.below

  first_spared : least seen None → (chosen : Option ℕ) → least (log ∷ []) chosen → ¬ (chosen ≡ Some log) → least (seen ++ log ∷ []) None
  first_spared none None alone not = λ other contains. elim (Contains-append_cases seen (log ∷ []) other contains) [
    | inl old ↦ none other old
    | inr last ↦ subst (λ l. threshold * total l ≤ remaining l * 1000) (only log other last) (alone log (0, omega arith, refl))
  ]
  first_spared none (Some id) alone not = absurd (not (ap Some (sym (only log id alone.allowed_log))))

  -- there is a choice so far, with a lower id
  module _ (best : ℕ) (below : best < log) (choice : least seen (Some best)) where
    next_taken : IsChoice total remaining threshold (best ∷ log ∷ []) log → least (seen ++ log ∷ []) (Some log)
    next_taken now =
        let at_most = now.least best (0, omega arith, refl) choice.below in
        elim (cases_lt (remaining log * total best) (remaining best * total log)) [
          | inl less ↦ taken total remaining threshold seen log best choice now.below (inl less)
          | inr least ↦
              let tie : remaining log * total best ≡ remaining best * total log = omega (arith, at_most, least) in
              let lower = now.lowest best (0, omega arith, refl) choice.below tie in
              absurd (omega (arith, lower, below))
        ]

    above_spared : threshold * total log ≤ remaining log * 1000 → IsChoice total remaining threshold (seen ++ log ∷ []) best
    above_spared above = record {
      allowed_log = Contains-append_left seen (log ∷ []) best choice.allowed_log;
      below = choice.below;
      least = λ other contains under. elim (Contains-append_cases seen (log ∷ []) other contains) [
        | inl old ↦ choice.least other old under
        | inr last ↦ absurd (not_under other (only log other last) under)
      ];
      lowest = λ other contains under tie. elim (Contains-append_cases seen (log ∷ []) other contains) [
        | inl old ↦ choice.lowest other old under tie
        | inr last ↦ absurd (not_under other (only log other last) under)
      ];
    }
      where
        not_under : (other : ℕ) → log ≡ other → IsBelow threshold (total other) (remaining other) → ⊥
        not_under other same under =
            let here : threshold * total other ≤ remaining other * 1000 = subst (λ l. threshold * total l ≤ remaining l * 1000) same above in
            omega (arith, here, under)

    next_spared : (chosen : Option ℕ) → least (best ∷ log ∷ []) chosen → ¬ (chosen ≡ Some log) → least (seen ++ log ∷ []) (Some best)
    next_spared None pair not = let none = pair best (0, omega arith, refl) in absurd (omega (arith, none, choice.below))
    next_spared (Some id) pair not = elim (either best log id pair.allowed_log) [
      | inr wrong ↦ absurd (not (ap Some (sym wrong)))
      | inl here ↦
          let now : IsChoice total remaining threshold (best ∷ log ∷ []) best =
          subst (IsChoice total remaining threshold (best ∷ log ∷ [])) (sym here) pair in
          elim (cases_lt (remaining log * 1000) (threshold * total log)) [
            | inr above ↦ above_spared above
            | inl under ↦ kept total remaining threshold seen log best choice (λ before. elim before [
              | inl less ↦ let at_most = now.least log (1, omega arith, refl) under in omega (arith, at_most, less)
              | inr tie ↦ omega (arith, tie.1, below)
            ])
          ]
    ]

-- ---- the logs considered so far

least_is : (s : State) (threshold : ℕ) (chosen : Option ℕ) (allowed : List ℕ) → IsLeastUsed s threshold allowed chosen
    → least_of (log_bytes s) (live_log_bytes s) threshold allowed chosen
least_is s threshold None allowed is = is
least_is s threshold (Some id) allowed is = is

-- whether a log is a candidate is decidable
candidate_or_not : (s : State) (id : ℕ) → IsCandidate s id ⊎ (¬ (IsCandidate s id))
candidate_or_not s id = of_log (finite.get s.logs id) refl
  where
    other : (log : Log) (state : LogState) → finite.get s.logs id ≡ Some log → log.state ≡ state → ¬ (state ≡ Readable) → ¬ (IsCandidate s id)
    other log state held is not candidate =
        let same = same_Some candidate.state.log log (sym candidate.state.held ∙ held) in
        not (sym is ∙ ap (λ (l : Log). l.state) (sym same) ∙ candidate.state.state_is)

    of_state : (log : Log) (state : LogState) → finite.get s.logs id ≡ Some log → log.state ≡ state → IsCandidate s id ⊎ (¬ (IsCandidate s id))
    of_state log Writing held is = inr (other log Writing held is (λ wrong. cc))
    of_state log Filled held is = inr (other log Filled held is (λ wrong. cc))
    of_state log Copying held is = inr (other log Copying held is (λ wrong. cc))
    of_state log Retired held is = inr (other log Retired held is (λ wrong. cc))
    of_state log Closed held is = inr (other log Closed held is (λ wrong. cc))
    of_state log Readable held is = elim (dec_le 1 (log_count s.index id)) [
      | yes named ↦ inl (record { state = record { log = log; held = held; state_is = is }; named = named })
      | no none ↦ inr (λ candidate. omega (arith, none, candidate.named))
    ]

    of_log : (o : Option Log) → finite.get s.logs id ≡ o → IsCandidate s id ⊎ (¬ (IsCandidate s id))
    of_log (Some log) held = of_state log log.state held refl
    of_log None none = inr (λ candidate. not_held candidate.state.log (sym none ∙ candidate.state.held))
      where
        not_held : (log : Log) → None ≡ Some log → ⊥
        not_held log wrong = cc

pub candidate_held : (s : State) (best : Option ℕ) → IfSome best (IsCandidate s) → IfSome best (λ id. IsSome (finite.get s.logs id))
candidate_held s None is = tt
candidate_held s (Some id) is = ap is_some is.state.held

module _ (s : State) (threshold : ℕ) where
  pub choosing_starts : IsChoosing s threshold 0 None
  choosing_starts = record {
    allowed = [];
    all = λ id. ((λ there. absurd (omega (arith, there.1))), (λ is. absurd (omega (arith, is.1))));
    choice = λ _ log there. absurd (omega (arith, there.1));
    candidate = tt;
  }

  pub choosing_ends : (from : ℕ) (best : Option ℕ) → IsNextHeld s.logs from None → IsChoosing s threshold from best → IsTrue s.honest → Chooses s threshold best
  choosing_ends from best past so_far honest = (
    so_far.allowed,
    (λ id. (
      (λ there. ((so_far.all id).0 there).0),
      (λ is. (so_far.all id).1 (is, past id (ap is_some is.state.held))),
    )),
    so_far.choice honest,
  )

  pub chosen_candidate : (from : ℕ) (best : Option ℕ) → IsChoosing s threshold from best → IfSome best (IsCandidate s)
  chosen_candidate from None so_far = tt
  chosen_candidate from (Some id) so_far = so_far.candidate.0

  module _ (from log : ℕ) (next : IsNextHeld s.logs from (Some log)) where
    -- a candidate below the next position was considered or is the next log
    here : (id : ℕ) → IsCandidate s id → id < log + 1 → (id < from) ⊎ (id ≡ log)
    here id is within = elim (dec_le from id) [
      | no less ↦ inl (omega (arith, less))
      | yes above ↦ let least = next.2 id (ap is_some is.state.held) above in inr (omega (arith, least, within))
    ]

    -- the next log is not a candidate
    pub choosing_past : (best : Option ℕ) → IsChoosing s threshold from best → ¬ (IsCandidate s log) → IsChoosing s threshold (log + 1) best
    choosing_past best so_far not = record {
      allowed = so_far.allowed;
      all = λ id. (
        (λ there. let is = (so_far.all id).0 there in (is.0, omega (arith, is.1, next.1))),
        (λ is. elim (here id is.0 is.1) [
          | inl before ↦ (so_far.all id).1 (is.0, before)
          | inr own ↦ absurd (not (subst (IsCandidate s) own is.0))
        ]),
      );
      choice = so_far.choice;
      candidate = still best so_far.candidate;
    }
      where
        still : (best : Option ℕ) → IfSome best (λ id. IsCandidate s id × (id < from)) → IfSome best (λ id. IsCandidate s id × (id < log + 1))
        still None old = tt
        still (Some id) old = (old.0, omega (arith, old.1, next.1))

    -- the next log is a candidate
    module _ (is : IsCandidate s log) where
      more : (best now : Option ℕ) → (so_far : IsChoosing s threshold from best)
          → (IsTrue s.honest → IsLeastUsed s threshold (so_far.allowed ++ log ∷ []) now) → IfSome now (λ id. IsCandidate s id × (id < log + 1))
          → IsChoosing s threshold (log + 1) now
      more best now so_far choice candidate = record {
        allowed = so_far.allowed ++ log ∷ [];
        all = λ id. (
          (λ there. elim (Contains-append_cases so_far.allowed (log ∷ []) id there) [
            | inl old ↦ let was = (so_far.all id).0 old in (was.0, omega (arith, was.1, next.1))
            | inr last ↦ let own = only log id last in (subst (IsCandidate s) own is, omega (arith, own))
          ]),
          (λ now. elim (here id now.0 now.1) [
            | inl before ↦ Contains-append_left so_far.allowed (log ∷ []) id ((so_far.all id).1 (now.0, before))
            | inr own ↦ Contains-append_right so_far.allowed (log ∷ []) id (0, omega arith, sym own)
          ]),
        );
        choice = choice;
        candidate = candidate;
      }

      pub choosing_taken : (best : Option ℕ) → IsChoosing s threshold from best → (IsTrue s.honest → IsBetter s threshold best log true)
          → IsChoosing s threshold (log + 1) (Some log)
      choosing_taken None so_far better = more None (Some log) so_far
          (λ honest. first_taken (log_bytes s) (live_log_bytes s) threshold so_far.allowed log (so_far.choice honest) (better honest))
          (is, omega arith)
      choosing_taken (Some best) so_far better = more (Some best) (Some log) so_far
          (λ honest. next_taken (log_bytes s) (live_log_bytes s) threshold so_far.allowed log best (omega (arith, so_far.candidate.1, next.1))
          (so_far.choice honest) (better honest))
          (is, omega arith)

      choosing_kept : (best : Option ℕ) → IsChoosing s threshold from best → (IsTrue s.honest → IsBetter s threshold best log false)
          → IsChoosing s threshold (log + 1) best
      choosing_kept None so_far better = more None None so_far
          (λ honest. first_spared (log_bytes s) (live_log_bytes s) threshold so_far.allowed log (so_far.choice honest) (better honest).0
          (least_is s threshold (better honest).0 (log ∷ []) (better honest).1) (better honest).2)
          tt
      choosing_kept (Some best) so_far better = more (Some best) (Some best) so_far
          (λ honest. next_spared (log_bytes s) (live_log_bytes s) threshold so_far.allowed log best (omega (arith, so_far.candidate.1, next.1))
          (so_far.choice honest) (better honest).0 (least_is s threshold (better honest).0 (best ∷ log ∷ []) (better honest).1) (better honest).2)
          (so_far.candidate.0, omega (arith, so_far.candidate.1, next.1))

    -- the next log is not better, whether or not it is a candidate
    pub choosing_spared : (best : Option ℕ) → IsChoosing s threshold from best → (IsTrue s.honest → IsBetter s threshold best log false)
        → IsChoosing s threshold (log + 1) best
    choosing_spared best so_far better = elim (candidate_or_not s log) [
      | inl is ↦ choosing_kept is best so_far better
      | inr not ↦ choosing_past best so_far not
    ]
