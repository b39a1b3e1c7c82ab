-- A log that is held no more, and whose id is used up, never comes back.
use Rattle.std.proofs.Common.{◌≡◌, ◌≢◌, ℕ, ◌+◌, ◌<◌, inl, inr, Some, None, option_map, sym, ap, subst, ◌∙◌, arith}
use Rattle.std.specs.FinMap as finite
use Rattle.std.specs.FinMap.{nat_cmp-IsAntisymmetric}
use Rattle.std.proofs.lemmas.Cmp.{nat_cmp_total}
use Rattle.bk_record.proofs.Maps.{get-remove_here, get-remove_else}
use Rattle.bk_store.specs.Logs.{Log, Logs, AllChanged}
use Rattle.bk_store.specs.State.{State}
use Rattle.bk_store.specs.declared.log.LogState.{LogState}
use Rattle.bk_store.proofs.Cases.{same_or_apart}
use Rattle.bk_store.proofs.LogMaps.{log-insert_else}
use Rattle.bk_store.specs.Frame.{IsRemovedLog}

-- what is gone stays so
abbrev pub GoneStays : State → State → Type 0
GoneStays s t = (log : ℕ) → IsRemovedLog s log → IsRemovedLog t log

module _ (s t : State) where
  -- the logs are as before, and no id was used up
  pub gone_same : t.logs ≡ s.logs → t.next ≡ s.next → GoneStays s t
  gone_same logs next = λ log is. (ap (λ (m : Logs). finite.get m log) logs ∙ is.0, subst (λ n. log < n) (sym next) is.1)

  -- an id was used up, and no log made
  pub gone_unmade : t.logs ≡ s.logs → t.next ≡ s.next + 1 → GoneStays s t
  gone_unmade logs next = λ log is. let below = is.1 in (ap (λ (m : Logs). finite.get m log) logs ∙ is.0, omega (arith, next, below))

  -- a log was made
  pub gone_made : (now : Log) → t.logs ≡ finite.insert s.logs s.next now → t.next ≡ s.next + 1 → GoneStays s t
  gone_made now logs next = λ log is.
      let below = is.1 in
      let apart : log ≢ s.next = λ same. omega (arith, same, below) in
      (ap (λ (m : Logs). finite.get m log) logs ∙ log-insert_else s.logs s.next now log apart ∙ is.0, omega (arith, next, below))

  -- a log that is held changed
  pub gone_changed : (id : ℕ) (was now : Log) → finite.get s.logs id ≡ Some was → t.logs ≡ finite.insert s.logs id now → t.next ≡ s.next → GoneStays s t
  gone_changed id was now held logs next = λ log is.
      let apart : log ≢ id = λ same. (let e : Some was ≡ None = sym held ∙ ap (finite.get s.logs) (sym same) ∙ is.0 in cc) in
      (ap (λ (m : Logs). finite.get m log) logs ∙ log-insert_else s.logs id now log apart ∙ is.0, subst (λ n. log < n) (sym next) is.1)

  -- each log changed by a rule
  pub gone_ruled : (rule : LogState → Log → Log) → AllChanged rule s.logs t.logs → t.next ≡ s.next → GoneStays s t
  gone_ruled rule changed next = λ log is.
      (changed log ∙ ap (option_map (λ (l : Log). rule l.state l)) is.0, subst (λ n. log < n) (sym next) is.1)

  -- a log went
  pub gone_removed : (id : ℕ) → t.logs ≡ finite.remove s.logs id → t.next ≡ s.next → GoneStays s t
  gone_removed id logs next = λ log is. (
    ap (λ (m : Logs). finite.get m log) logs ∙ elim (same_or_apart log id) [
      | inl same ↦ ap (finite.get (finite.remove s.logs id)) same ∙ get-remove_here nat_cmp_total nat_cmp-IsAntisymmetric s.logs id
      | inr apart ↦ get-remove_else nat_cmp_total nat_cmp-IsAntisymmetric s.logs id log apart ∙ is.0
    ],
    subst (λ n. log < n) (sym next) is.1,
  )
