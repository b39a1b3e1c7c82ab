-- A log that is made preserves the store invariant, and so does one whose making fails.
use Rattle.std.proofs.Common.{◌≡◌, inl, inr, ℕ, ◌+◌, ◌≤◌, ◌<◌, ◌^◌, ◌↔◌, true, false, cond, IsTrue, List}
use Rattle.std.proofs.Common.{[], length, take, Option, Some, IsSome, is_some, unwrap_or}
use Rattle.std.proofs.Common.{Result, Ok, Err, refl, sym, ap, subst, ◌∙◌, arith, length-take}
use Rattle.std.specs.FinMap as finite
use Rattle.bk_record.specs.Files.{Files, file_of, header_length}
use Rattle.bk_head.specs.Header.{empty_header}
use Rattle.bk_log.specs.Writing.{CreateFails, new_writing}
use Rattle.bk_log.specs.declared.fault.LogFault.{LogFault}
use Rattle.bk_log.specs.declared.fault.LogFault.TheVariants as log_faults
use Rattle.bk_log.proofs.Gains.{create_gains, spelled_short}
use Rattle.bk_log.proofs.Makes.{writes_new, length-empty_header}
use Rattle.bk_accounts.specs.Book.{after_open}
use Rattle.bk_store.specs.Logs.{Log, is_written, made_log, log_without_records}
use Rattle.bk_store.specs.State.{State, StoreParts}
use Rattle.bk_store.specs.Invariant.{StoreInvariant, HeldLogInvariant, IsWrittenBy}
use Rattle.bk_lease.specs.Values.{SlotTable}
use Rattle.bk_store.specs.Primitives.{CreateLogTransition, CanCreateLog, CreateLogFailed, HasNoWriting, with_next, with_seat, logs_left, keeper_left}
use Rattle.bk_store.specs.Internals.{CreateLogInternals, opened_for, made_writing}
use Rattle.bk_store.specs.declared.log.LogState.{LogState}
use Rattle.bk_store.specs.declared.log.LogState.TheVariants.{Writing, Filled, Copying, Readable, Retired, Closed}
use Rattle.bk_store.specs.declared.answer.MakeFault.{MakeFault}
use Rattle.bk_store.specs.declared.answer.MakeFault.TheVariants as makes
use Rattle.bk_store.proofs.Seats.{slot_state-written}
use Rattle.bk_store.proofs.LogMaps.{log-inserted, log-insert_else, log-insert_cases}
use Rattle.bk_store.proofs.ListedLogs.{unheld, apart, keeps_listed, keeps_used, kept_new}

-- ---- which log is Writing then

module _ (p : StoreParts) (keeps : StoreInvariant p) (new : Log) where
  -- the new one is not
  writing_as_before : ¬ (new.state ≡ Writing) → (id : ℕ)
      → (p.writing ≡ Some id) ↔ ((log : Log) × (finite.get (finite.insert p.state.logs p.state.next new) id ≡ Some log) × (log.state ≡ Writing))
  writing_as_before other id = (
    (λ is. let old = (keeps.fits.logs.writing id).0 is in (old.0, log-insert_else p.state.logs p.state.next new id (apart p keeps id old.0 old.1) ∙ old.1, old.2)),
    (λ now. elim (log-insert_cases p.state.logs p.state.next new id now.0 now.1) [
      | inl here ↦ absurd (other (ap (λ (l : Log). l.state) here.1 ∙ now.2))
      | inr old ↦ (keeps.fits.logs.writing id).1 (now.0, old.1, now.2)
    ]),
  )

  -- the new one is, and no other
  writing_now : new.state ≡ Writing → HasNoWriting p.state → (id : ℕ)
      → (Some p.state.next ≡ Some id) ↔ ((log : Log) × (finite.get (finite.insert p.state.logs p.state.next new) id ≡ Some log) × (log.state ≡ Writing))
  writing_now is none id = (
    (λ same. let here : p.state.next ≡ id = cc in (new, log-inserted p.state.logs p.state.next new id (sym here), is)),
    (λ now. elim (log-insert_cases p.state.logs p.state.next new id now.0 now.1) [
      | inl here ↦ ap (λ n. Some n) (sym here.0)
      | inr old ↦ absurd (none id (record { log = now.0; held = old.1; state_is = now.2 }))
    ]),
  )

held_made : (state : LogState) (id slot : ℕ) → is_written state ≡ true → HeldLogInvariant (id + 1) id (made_log state id slot)
held_made state id slot written = record {
  below = omega arith;
  written = λ _. refl;
  by = λ w is.
      let same : new_writing id ≡ w = cc in
      subst (λ x. IsWrittenBy id (made_log state id slot) x) same (record { state = written; own = refl; going = refl; long = refl; empty = λ _. refl });
}

held_unmade : (id slot : ℕ) → HeldLogInvariant (id + 1) id (log_without_records slot)
held_unmade id slot = record { below = omega arith; written = λ wrong. absurd (cc); by = λ w wrong. absurd (cc) }

file_now : (files files' : Files) (id : ℕ) (bytes : List ℕ) → files' ≡ finite.insert files id bytes → finite.get files' id ≡ Some bytes
file_now files files' id bytes is = ap (λ m. finite.get m id) is ∙ log-inserted files id bytes id refl

short_now : (files files' : Files) (id : ℕ) (bytes : List ℕ) → files' ≡ finite.insert files id bytes → length bytes ≤ header_length
    → length (file_of files' id) ≤ header_length
short_now files files' id bytes is short =
    let same = ap (λ (o : Option (List ℕ)). length (unwrap_or o [])) (file_now files files' id bytes is) in omega (arith, same, short)

-- what a failed making left, where the file is
left_made : (files files' : Files) (id : ℕ) (fault : LogFault) → CreateFails files id true fault files'
    → (length (file_of files' id) ≤ header_length) × IsSome (finite.get files' id)
left_made files files' id log_faults.Disk fails =
    let n = fails.1.0 in
    let short = length-take n empty_header in
    let whole = length-empty_header in (
      short_now files files' id (take n empty_header) fails.1.1 (omega (arith, short, whole)),
      ap is_some (file_now files files' id (take n empty_header) fails.1.1),
    )
left_made files files' id log_faults.Memory fails = (short_now files files' id [] fails.1 (omega arith), ap is_some (file_now files files' id [] fails.1))
left_made files files' id log_faults.Odd never = absurd never
left_made files files' id log_faults.Failed never = absurd never

left_unmade : (files files' : Files) (id : ℕ) (fault : LogFault) → CreateFails files id false fault files' → files' ≡ files
left_unmade files files' id log_faults.Disk is = is
left_unmade files files' id log_faults.Memory is = is.1
left_unmade files files' id log_faults.Odd is = is.1
left_unmade files files' id log_faults.Failed never = absurd never

module _ (p q : StoreParts) (keeps : StoreInvariant p) (state : LogState) (result : Result ℕ MakeFault) (beside : CreateLogInternals p state result q) where
  abbrev beside_of : State → StoreParts
  beside_of s = record p {
    state = s;
    accounts = opened_for s.logs p.accounts p.state.next;
    writing = made_writing p.writing state result;
    filled = q.filled;
  }

  -- the next log is held, and its account is open
  opened_now : (files : Files) (failures : ℕ) (new : Log) (keeper : SlotTable)
      → StoreInvariant (record p {
        state = with_next p.state files failures (finite.insert p.state.logs p.state.next new) keeper;
        accounts = after_open p.accounts p.state.next;
        writing = made_writing p.writing state result;
        filled = q.filled;
      })
      → q.state ≡ with_next p.state files failures (finite.insert p.state.logs p.state.next new) keeper → StoreInvariant q
  opened_now files failures new keeper kept is =
      let there : opened_for (finite.insert p.state.logs p.state.next new) p.accounts p.state.next ≡ after_open p.accounts p.state.next =
      ap (λ (o : Option Log). cond (is_some o) (after_open p.accounts p.state.next) p.accounts)
      (log-inserted p.state.logs p.state.next new p.state.next refl) in
      subst StoreInvariant (sym (beside.parts ∙ ap beside_of is)) (subst (λ a. StoreInvariant (record p {
        state = with_next p.state files failures (finite.insert p.state.logs p.state.next new) keeper;
        accounts = a;
        writing = made_writing p.writing state result;
        filled = q.filled;
      })) (sym there) kept)

  -- it is not, and the accounts are as they were
  unopened : opened_for p.state.logs p.accounts p.state.next ≡ p.accounts
  unopened = ap (λ (o : Option Log). cond (is_some o) (after_open p.accounts p.state.next) p.accounts) (unheld p keeps)

module _ (p q : StoreParts) (keeps : StoreInvariant p) (state : LogState) (fault : MakeFault) (beside : CreateLogInternals p state (Err fault) q) where
  refused : q.state ≡ p.state → StoreInvariant q
  refused same =
      subst StoreInvariant (sym (beside.parts ∙ ap (beside_of p q keeps state (Err fault) beside) same))
      (subst (λ a. StoreInvariant (record p { accounts = a; filled = q.filled })) (sym (unopened p q keeps state (Err fault) beside))
      (keeps_listed p keeps q.filled beside.list.still))

  -- a making that failed when the device was asked
  unmade : (told : LogFault) (failures : ℕ) → p.state.next < 2 ^ 31 → CanCreateLog p.state → CreateLogFailed p.state told failures q.state → StoreInvariant q
  unmade told failures room may is =
      elim (is.made) as (λ b. is.made ≡ b → StoreInvariant q) [
        | true ↦ λ made.
            let fails = λ (honest : IsTrue p.state.honest).
            subst (λ b. CreateFails p.state.files p.state.next b told q.state.files) made (is.files honest) in
            opened_now p q keeps state (Err fault) beside q.state.files failures (log_without_records is.slot) (with_seat p.state is.slot)
            (kept_new p keeps (log_without_records is.slot) refl refl is.slot is.free refl refl q.state.files failures p.writing q.filled may
            (held_unmade p.state.next is.slot) (writing_as_before p keeps (log_without_records is.slot) (λ wrong. cc)) beside.list.still
            (λ wrong. elim wrong [ inl w ↦ cc | inr w ↦ cc ])
            (λ honest.
            let left = left_made p.state.files q.state.files p.state.next told (fails honest) in (
              create_gains {W = Unit {0}} p.state.files q.state.files p.state.next (Err (record { made = is.made; fault = told })) (is.files honest),
              left.0,
              record {
                stands = left.1;
                writes = λ w wrong. absurd (cc);
                honest = λ v wrong. absurd (cc);
                spelled = spelled_short (file_of q.state.files p.state.next) left.0;
                shown = λ v wrong. absurd (cc);
                kept = λ v wrong _. absurd (cc);
              },
            )))
            (is.left ∙ ap (λ b. with_next p.state q.state.files failures (logs_left p.state b is.slot) (keeper_left p.state b is.slot)) made)
        | false ↦ λ made.
            let fails = λ (honest : IsTrue p.state.honest).
            subst (λ b. CreateFails p.state.files p.state.next b told q.state.files) made (is.files honest) in
            let left : q.state ≡ with_next p.state q.state.files failures p.state.logs p.state.keeper =
            is.left ∙ ap (λ b. with_next p.state q.state.files failures (logs_left p.state b is.slot) (keeper_left p.state b is.slot)) made in
            subst StoreInvariant (sym (beside.parts ∙ ap (beside_of p q keeps state (Err fault) beside) left))
            (subst (λ a. StoreInvariant (record p {
              state = with_next p.state q.state.files failures p.state.logs p.state.keeper;
              accounts = a;
              filled = q.filled;
            }))
            (sym (unopened p q keeps state (Err fault) beside))
            (keeps_used p keeps q.state.files failures q.filled beside.list.still room
            (λ honest. left_unmade p.state.files q.state.files p.state.next told (fails honest))))
      ] refl

made : (p q : StoreParts) (state : LogState) (id : ℕ) → StoreInvariant p → is_written state ≡ true → (state ≡ Writing → HasNoWriting p.state)
    → (turn : CreateLogTransition p.state state (Ok id) q.state) → CreateLogInternals p state (Ok id) q
    → ((n : ℕ) → (made_writing p.writing state (Ok id) ≡ Some n)
    ↔ ((log : Log) × (finite.get (finite.insert p.state.logs p.state.next (made_log state p.state.next turn.2.slot)) n ≡ Some log) × (log.state ≡ Writing)))
    → ¬ (state ≡ Filled) → StoreInvariant q
made p q state id keeps written none turn beside writes unfilled =
    let is = turn.2 in
    opened_now p q keeps state (Ok id) beside q.state.files p.state.failures (made_log state p.state.next is.slot) (with_seat p.state is.slot)
    (kept_new p keeps (made_log state p.state.next is.slot) refl refl is.slot is.free refl (slot_state-written p.state.next state written)
    q.state.files p.state.failures (made_writing p.writing state (Ok id)) q.filled turn.0
    (held_made state p.state.next is.slot written) writes beside.list.still
    (λ flushed. elim flushed [ inl w ↦ beside.listed w refl | inr wrong ↦ absurd (unfilled wrong) ])
    (λ honest.
    let create = is.files honest in
    let header = length-empty_header in
    let short = short_now p.state.files q.state.files p.state.next empty_header create.1 (omega (arith, header)) in (
      create_gains {W = Unit {0}} p.state.files q.state.files p.state.next (Ok tt) create,
      short,
      record {
        stands = ap is_some (file_now p.state.files q.state.files p.state.next empty_header create.1);
        writes = λ w is. let same : new_writing p.state.next ≡ w = cc in
            writes_new p.state.files q.state.files p.state.next w create.1 (sym same);
        honest = λ v wrong. absurd (cc);
        spelled = spelled_short (file_of q.state.files p.state.next) short;
        shown = λ v wrong. absurd (cc);
        kept = λ v wrong _. absurd (cc);
      },
    )))
    is.left

pub keeps_make : (p q : StoreParts) (state : LogState) (result : Result ℕ MakeFault) → StoreInvariant p → is_written state ≡ true → (state ≡ Writing → HasNoWriting p.state)
    → CreateLogTransition p.state state result q.state → CreateLogInternals p state result q → StoreInvariant q
keeps_make p q state (Err makes.LogsFull) keeps written none turn beside = refused p q keeps state makes.LogsFull beside turn.1
keeps_make p q state (Err makes.NoMoreIds) keeps written none turn beside = refused p q keeps state makes.NoMoreIds beside turn.2
keeps_make p q state (Err makes.Memory) keeps written none turn beside = elim turn.1 [
  | inl same ↦ refused p q keeps state makes.Memory beside same
  | inr is ↦ unmade p q keeps state makes.Memory beside log_faults.Memory p.state.failures turn.0.id turn.0 is
]
keeps_make p q state (Err makes.Disk) keeps written none turn beside =
    unmade p q keeps state makes.Disk beside log_faults.Disk (p.state.failures + 1) turn.0.id turn.0 turn.1
keeps_make p q state (Err makes.Odd) keeps written none turn beside =
    unmade p q keeps state makes.Odd beside log_faults.Odd p.state.failures turn.0.id turn.0 turn.2
keeps_make p q Writing (Ok id) keeps written none turn beside =
    made p q Writing id keeps written none turn beside
    (λ n. subst (λ m. (Some m ≡ Some n)
    ↔ ((log : Log) × (finite.get (finite.insert p.state.logs p.state.next (made_log Writing p.state.next turn.2.slot)) n ≡ Some log)
    × (log.state ≡ Writing))) (sym turn.1) (writing_now p keeps (made_log Writing p.state.next turn.2.slot) refl (none refl) n)) (λ wrong. cc)
keeps_make p q Copying (Ok id) keeps written none turn beside =
    made p q Copying id keeps written none turn beside (writing_as_before p keeps (made_log Copying p.state.next turn.2.slot) (λ wrong. cc)) (λ wrong. cc)
keeps_make p q Filled (Ok id) keeps wrong none turn beside = absurd (cc)
keeps_make p q Readable (Ok id) keeps wrong none turn beside = absurd (cc)
keeps_make p q Retired (Ok id) keeps wrong none turn beside = absurd (cc)
keeps_make p q Closed (Ok id) keeps wrong none turn beside = absurd (cc)
