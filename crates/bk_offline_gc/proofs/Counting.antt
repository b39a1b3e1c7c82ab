-- Counting the logs that are kept.
use Rattle.std.proofs.Common.{◌≡◌, ◌⊎◌, inl, inr, ℕ, zero, suc, Bool, true, false, ◌+◌, ◌<◌, List, [], ◌∷◌, Option, Some, None, option_map, is_some, refl, sym, ap, subst, ◌∙◌, arith}
use Rattle.std.proofs.Math.Decide.{dec_le}
use Rattle.std.proofs.lemmas.Option.{same_Some}
use Rattle.std.specs.List.{Contains}
use Rattle.std.specs.FinMap as finite
use Rattle.bk_store.specs.State.{State}
use Rattle.bk_store.specs.Logs.{Log, IsNextHeld}
use Rattle.bk_store.specs.Primitives.{IsIn}
use Rattle.bk_store.specs.declared.log.LogState.{LogState}
use Rattle.bk_store.specs.declared.log.LogState.TheVariants.{Writing, Filled, Copying, Readable, Retired, Closed}
use Rattle.bk_offline_gc.specs.Stages.{HasKeptTo}
use Rattle.bk_offline_gc.specs.Sweeping.{HasKept, is_retired}

-- ---- one more element

cons_cases : (x : ℕ) (xs : List ℕ) (y : ℕ) → Contains (x ∷ xs) y → (x ≡ y) ⊎ Contains xs y
cons_cases x xs y (zero, within, is) = inl is
cons_cases x xs y (suc k, within, is) = inr (k, omega (arith, within), is)

cons_here : (x : ℕ) (xs : List ℕ) → Contains (x ∷ xs) x
cons_here x xs = (0, omega arith, refl)

cons_later : (x : ℕ) (xs : List ℕ) (y : ℕ) → Contains xs y → Contains (x ∷ xs) y
cons_later x xs y there = (suc there.0, (let within = there.1 in omega (arith, within)), there.2)

-- ---- the logs below an id

module _ (s : State) where
  pub counting_starts : HasKeptTo s 0 0
  counting_starts = record {
    logs = [];
    all = λ log. ((λ there. absurd (let within = there.1 in omega (arith, within))), (λ is. absurd (let below = is.1 in omega (arith, below))));
    falling = tt;
    counted = refl;
    few = omega arith;
  }

  held_is : (log : ℕ) (is : IsIn s log Retired) → option_map (λ (l : Log). l.state) (finite.get s.logs log) ≡ Some Retired
  held_is log is = ap (option_map (λ (l : Log). l.state)) is.held ∙ ap Some is.state_is

  retired_in : (log : ℕ) (o : Option Log) → finite.get s.logs log ≡ o → option_map (λ (l : Log). l.state) o ≡ Some Retired → IsIn s log Retired
  retired_in log None held is = absurd (never is)
    where
      never : {X : Type 0} {x : X} → None ≡ Some x → ⊥
      never wrong = cc
  retired_in log (Some l) held is = record { log = l; held = held; state_is = same_Some l.state Retired is }

  retired_state : (o : Option LogState) → is_retired o ≡ true → o ≡ Some Retired
  retired_state None is = cc
  retired_state (Some Writing) is = cc
  retired_state (Some Filled) is = cc
  retired_state (Some Copying) is = cc
  retired_state (Some Readable) is = cc
  retired_state (Some Retired) is = refl
  retired_state (Some Closed) is = cc

  other_state : (o : Option LogState) → is_retired o ≡ false → ¬ (o ≡ Some Retired)
  other_state o is same = let e : false ≡ true = sym is ∙ ap is_retired same in cc

  module _ (from count log : ℕ) (so_far : HasKeptTo s from count) (next : IsNextHeld s.logs from (Some log)) where
    -- a log below the next position was counted or is the next one
    here : (id : ℕ) → IsIn s id Retired → id < log + 1 → (id < from) ⊎ (id ≡ log)
    here id is within = elim (dec_le from id) [
      | no below ↦ inl (omega (arith, below))
      | yes above ↦ inr (let least = next.2 id (ap is_some is.held) above in omega (arith, least, within))
    ]

    pub counting_more : option_map (λ (l : Log). l.state) (finite.get s.logs log) ≡ Some Retired → HasKeptTo s (log + 1) (count + 1)
    counting_more is =
        let own : IsIn s log Retired = retired_in log (finite.get s.logs log) refl is in
        let above = next.1 in
        let few = so_far.few in
        let counted = so_far.counted in
        record {
          logs = log ∷ so_far.logs;
          all = λ id. (
            (λ there. elim (cons_cases log so_far.logs id there) [
              | inl same ↦ (subst (λ n. IsIn s n Retired) same own, omega (arith, same))
              | inr old ↦ let was = (so_far.all id).0 old in (was.0, (let below = was.1 in omega (arith, below, above)))
            ]),
            (λ now. elim (here id now.0 now.1) [
              | inl below ↦ cons_later log so_far.logs id ((so_far.all id).1 (now.0, below))
              | inr same ↦ subst (Contains (log ∷ so_far.logs)) (sym same) (cons_here log so_far.logs)
            ]),
          );
          falling = ((λ other there. let below = ((so_far.all other).0 there).1 in omega (arith, below, above)), so_far.falling);
          counted = omega (arith, counted);
          few = omega (arith, few, above);
        }

    pub counting_past : ¬ (option_map (λ (l : Log). l.state) (finite.get s.logs log) ≡ Some Retired) → HasKeptTo s (log + 1) count
    counting_past not =
        let above = next.1 in
        let few = so_far.few in
        record {
          logs = so_far.logs;
          all = λ id. (
            (λ there. let was = (so_far.all id).0 there in (was.0, (let below = was.1 in omega (arith, below, above)))),
            (λ now. elim (here id now.0 now.1) [
              | inl below ↦ (so_far.all id).1 (now.0, below)
              | inr same ↦ absurd (not (held_is log (subst (λ n. IsIn s n Retired) same now.0)))
            ]),
          );
          falling = so_far.falling;
          counted = so_far.counted;
          few = omega (arith, few, above);
        }

    -- whether it is Retired was asked of its state
    pub counting_on : (state : Option LogState) → state ≡ option_map (λ (l : Log). l.state) (finite.get s.logs log) → (is : Bool) → is ≡ is_retired state
        → (is ≡ true → HasKeptTo s (log + 1) (count + 1)) × (is ≡ false → HasKeptTo s (log + 1) count)
    counting_on state found is asked = (
      (λ yes. counting_more (sym found ∙ retired_state state (sym asked ∙ yes))),
      (λ no. counting_past (λ same. other_state state (sym asked ∙ no) (found ∙ same))),
    )

  pub counting_ends : (from count : ℕ) → HasKeptTo s from count → IsNextHeld s.logs from None → HasKept s count
  counting_ends from count so_far past = record {
    logs = so_far.logs;
    all = λ id. ((λ there. ((so_far.all id).0 there).0), (λ is. (so_far.all id).1 (is, past id (ap is_some is.held))));
    falling = so_far.falling;
    counted = so_far.counted;
  }
