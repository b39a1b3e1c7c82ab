-- What stays over a change of the state, by the fields that it names.
use Rattle.std.proofs.Common.{◌≡◌, ℕ, Option, Some, refl, sym, ap, subst, ◌∙◌}
use Rattle.std.specs.FinMap as finite
use Rattle.bk_record.specs.Files.{Files}
use Rattle.bk_record.specs.Keyed.{Places}
use Rattle.bk_lease.specs.declared.slot.Slot.{Slot}
use Rattle.bk_lease.specs.declared.slot.Slot.TheVariants.{Free}
use Rattle.bk_lease.specs.Leases.{state_at}
use Rattle.bk_lease.specs.Values.{SlotTable, with_state}
use Rattle.bk_lease.proofs.Slots.{state_at-set_else}
use Rattle.bk_store.specs.Logs.{Log, AllChanged}
use Rattle.bk_store.specs.State.{State}
use Rattle.bk_store.specs.Jobs.{Job}
use Rattle.bk_store.specs.declared.log.LogState.{LogState}
use Rattle.bk_store.specs.Frame.{CoreUnchanged, SlotsUnchanged, FrameUnchanged}
use Rattle.bk_store.proofs.RemovedLogs.{gone_same, gone_changed, gone_ruled}

-- ---- slots

pub slots_same : (old new : SlotTable) → new ≡ old → SlotsUnchanged old new
slots_same old new same = record { table = ap (λ (k : SlotTable). k.table) same; stay = λ slot _. ap (λ (k : SlotTable). state_at k.slots slot) same }

pub slots_then : {a b c : SlotTable} → SlotsUnchanged a b → SlotsUnchanged b c → SlotsUnchanged a c
slots_then {a = a} {b = b} first second = record {
  table = second.table ∙ first.table;
  stay = λ slot full. second.stay slot (λ free. full (sym (first.stay slot full) ∙ free)) ∙ first.stay slot full;
}

-- a log comes into a slot that was free
pub slots_opened : (keeper : SlotTable) (slot : ℕ) (state : Slot) → state_at keeper.slots slot ≡ Free → SlotsUnchanged keeper (with_state keeper slot state)
slots_opened keeper slot state free = record {
  table = refl;
  stay = λ other full. state_at-set_else keeper.slots slot other state (λ same. full (ap (state_at keeper.slots) same ∙ free));
}

-- ---- the whole

pub still_all : (s : State) → FrameUnchanged s s
still_all s = (
  record { settings = refl; ledgers = refl; gone = gone_same s s refl refl },
  record { active = refl; flush = refl; fronts = refl },
  slots_same s.keeper s.keeper refl,
)

pub still_as : {s u : State} → FrameUnchanged s u → (t : State) → t ≡ u → FrameUnchanged s t
still_as {s = s} still t is = subst (λ (x : State). FrameUnchanged s x) (sym is) still

pub still_same : (s t : State) → t ≡ s → FrameUnchanged s t
still_same s t is = still_as (still_all s) t is

pub stays_then : {s t u : State} → CoreUnchanged s t → CoreUnchanged t u → CoreUnchanged s u
stays_then first second = record {
  settings = second.settings ∙ first.settings;
  ledgers = second.ledgers ∙ first.ledgers;
  gone = λ log is. second.gone log (first.gone log is);
}

pub then : {s t u : State} → FrameUnchanged s t → FrameUnchanged t u → FrameUnchanged s u
then first second = (
  stays_then first.0 second.0,
  record { active = second.1.active ∙ first.1.active; flush = second.1.flush ∙ first.1.flush; fronts = second.1.fronts ∙ first.1.fronts },
  slots_then first.2 second.2,
)

-- ---- by what changed

-- files, the count of failures, places of the flush, the index or the job
pub still_beside : (s t : State) (files : Files) (failures : ℕ) (places index : Places) (job : Option Job)
    → t ≡ record s { files = files; failures = failures; places = places; index = index; job = job } → FrameUnchanged s t
still_beside s t files failures places index job is =
    let u : State = record s { files = files; failures = failures; places = places; index = index; job = job } in
    still_as {s = s} {u = u} ((
      record { settings = refl; ledgers = refl; gone = gone_same s u refl refl },
      record { active = refl; flush = refl; fronts = refl },
      slots_same s.keeper u.keeper refl,
    )) t is

-- beside those a log that is held
pub still_log : (s t : State) (files : Files) (failures : ℕ) (id : ℕ) (was now : Log) → finite.get s.logs id ≡ Some was
    → t ≡ record s { files = files; failures = failures; logs = finite.insert s.logs id now } → FrameUnchanged s t
still_log s t files failures id was now held is =
    let u : State = record s { files = files; failures = failures; logs = finite.insert s.logs id now } in
    still_as {s = s} {u = u} ((
      record { settings = refl; ledgers = refl; gone = gone_changed s u id was now held refl refl },
      record { active = refl; flush = refl; fronts = refl },
      slots_same s.keeper u.keeper refl,
    )) t is

-- each log, by a rule
pub still_ruled : (s t : State) (places : Places) (rule : LogState → Log → Log) → AllChanged rule s.logs t.logs
    → t ≡ record s { logs = t.logs; places = places } → FrameUnchanged s t
still_ruled s t places rule changed is =
    let u : State = record s { logs = t.logs; places = places } in
    still_as {s = s} {u = u} ((
      record { settings = refl; ledgers = refl; gone = gone_ruled s u rule changed refl },
      record { active = refl; flush = refl; fronts = refl },
      slots_same s.keeper u.keeper refl,
    )) t is
