-- A store that is opened after a crash with its manifests.
use Rattle.std.proofs.Common.{◌≡◌, ◌⊎◌, inl, inr, ℕ, ◌<◌, ◌^◌, Bool, true, false, ◌&&◌, cond, IsTrue, List, ◌++◌, take, Option, Some, None, IsSome, refl, sym, ap, subst, ◌∙◌}
use Rattle.std.specs.Option.{option_or}
use Rattle.std.specs.FinMap as finite
use Rattle.std.specs.FinSet as set
use Rattle.bk_record.specs.Key.{EntryKey}
use Rattle.bk_record.specs.Files.{Files}
use Rattle.bk_record.specs.Scan.{Payloads, Ledgers, scan_of}
use Rattle.bk_manifest.specs.Fact.{Fact}
use Rattle.bk_manifest.specs.Keeping.{Kept, durable}
use Rattle.bk_manifest_disk.specs.Limiting.{shown_files}
use Rattle.bk_manifest_disk.specs.Recording.{Recording, AreRecorded, durable_fronts}
use Rattle.bk_store.specs.State.{State}
use Rattle.bk_store.specs.Abstract.{SatisfiesInvariant}
use Rattle.bk_store.specs.Contents.{IsContents, contents_at, written_at}
use Rattle.bk_store.specs.Crash.{MayLeave, StayDead}
use Rattle.bk_store.specs.CrashSafety.{SurvivesCrash}
use Rattle.bk_store.specs.declared.settings.Settings.{Settings}
use Rattle.bk_store.proofs.EntryIds.{published_id}
use Rattle.bk_store.proofs.Cases.{some_or_none}
use Rattle.bk_recorded.specs.Ledgers.{is_deleted, AreLedgersRecorded}
use Rattle.bk_recorded.specs.Opening.{IsReopened}
use Rattle.bk_recorded.proofs.Ledgers.{more_recorded}
use Rattle.bk_crash.specs.Recovered.{HasRecovered, SurvivesWithLedgers, SurvivesDamage}
use Rattle.bk_crash.proofs.Remaining.{opened_leaves}

not_true : (b : Bool) → (b ≡ true → ⊥) → b ≡ false
not_true true none = absurd (none refl)
not_true false none = refl

-- fences change no contents
contents_same : (first t : State) → t ≡ record first { ledgers = t.ledgers } → t.ledgers.dead ≡ first.ledgers.dead → (key : EntryKey) → contents_at first key ≡ contents_at t key
contents_same first t same dead key =
    sym (ap (λ (d : Ledgers). cond (set.contains d key.ledger) None (option_or (written_at first key) (finite.get (scan_of first.files) key))) dead)
    ∙ sym (ap (λ (x : State). contents_at x key) same)

none_in : (dead : Bool) (found map contents : Option (List ℕ)) → dead ≡ true → map ≡ cond dead None contents
    → ((payload : List ℕ) → found ≡ Some payload → map ≡ Some payload) → found ≡ None
none_in true found map contents is means accepted = elim (some_or_none found) [
  | inl none ↦ none
  | inr there ↦ absurd (let e : None ≡ Some there.0 = sym means ∙ accepted there.0 there.1 in cc)
]
none_in false found map contents is means accepted = absurd (let e = is in cc)

module _ (synced gone : Files) (s : State) (m : Kept) (kept : SatisfiesInvariant s) (honest : IsTrue s.honest) (safe : SurvivesCrash synced gone s)
    (recorded : AreLedgersRecorded s.ledgers (durable m)) where
  module _ (left : Files) (k : ℕ) (settings : Settings) (t : State) (leaves : MayLeave s.files gone synced left)
      (again : IsReopened left settings (durable m ++ take k m.pending) t) where
    abbrev records : List Fact
    records = durable m ++ take k m.pending

    still : AreLedgersRecorded s.ledgers records
    still = more_recorded s.ledgers (durable m) (take k m.pending) recorded

    stay : StayDead s.ledgers.dead again.first.ledgers.dead
    stay = λ ledger below live. not_true (set.contains s.ledgers.dead ledger) (λ is.
        let e : true ≡ false = sym (still.deleted ledger below is) ∙ sym (again.deleted ledger below) ∙ live in cc)

    recovered_one : (found : Payloads) × (IsContents found t × HasRecovered s safe.0 records t found)
    recovered_one =
        let done = safe.2 left settings again.dead again.first leaves again.opened stay in (
          done.0,
          (
            (λ key. done.1.0 key ∙ contents_same again.first t again.same again.dead_are key),
            record {
              published = λ key there live. done.1.1.published key there (again.deleted key.ledger (published_id s kept honest key there) ∙ live);
              accepted = done.1.1.accepted;
              none = λ key dead. none_in (set.contains s.ledgers.dead key.ledger) (finite.get done.0 key) (finite.get safe.0 key)
                  (option_or (written_at s key) (finite.get (scan_of s.files) key)) dead (safe.1 key) (done.1.1.accepted key);
              deleted = λ ledger below dead. ap (λ (d : Ledgers). set.contains d ledger) again.dead_are ∙ again.deleted ledger below ∙ still.deleted ledger below dead;
              fenced = λ ledger below fence. elim (again.fenced ledger below (still.fenced ledger below fence)) [
                | inl is ↦ inl is
                | inr dead ↦ inr (sym (again.deleted ledger below) ∙ sym (ap (λ (d : Ledgers). set.contains d ledger) again.dead_are) ∙ dead)
              ];
            },
          ),
        )

  pub recovered : SurvivesWithLedgers synced gone s m
  recovered = (safe.0, safe.1, λ left k settings t leaves again. recovered_one left k settings t leaves again)

pub recovered_damage : (disk : Recording) (s : State) (m : Kept) → s.files ≡ disk.files
    → AreRecorded disk.files disk.kept disk.gone (durable disk.manifest) disk.manifest.pending
    → SurvivesWithLedgers (durable_fronts disk.files (durable disk.manifest) disk.kept) disk.gone s m → SurvivesDamage disk s m
recovered_damage disk s m same was safe = (
  safe.0,
  safe.1,
  λ limits files kept left seen j k settings t shows shows_kept damage opens again.
      let recorded : AreRecorded (shown_files limits files) (shown_files limits kept) disk.gone (durable disk.manifest) disk.manifest.pending =
      subst (λ (x : Files). AreRecorded x (shown_files limits kept) disk.gone (durable disk.manifest) disk.manifest.pending) (sym shows)
      (subst (λ (x : Files). AreRecorded disk.files x disk.gone (durable disk.manifest) disk.manifest.pending) (sym shows_kept) was) in
      let cut = opened_leaves files disk.gone kept left limits (durable disk.manifest) disk.manifest.pending j recorded damage seen opens in
      let fronts : MayLeave s.files disk.gone (durable_fronts disk.files (durable disk.manifest) disk.kept) seen =
      subst (λ (x : Files). MayLeave x disk.gone (durable_fronts disk.files (durable disk.manifest) disk.kept) seen) (sym same)
      (subst (λ (x : Files). MayLeave disk.files disk.gone (durable_fronts disk.files (durable disk.manifest) x) seen) shows_kept
      (subst (λ (x : Files). MayLeave x disk.gone (durable_fronts x (durable disk.manifest) (shown_files limits kept)) seen) shows cut)) in
      safe.2 seen k settings t fronts again,
)

pub left_of : (a b : Bool) → IsTrue (a && b) → IsTrue a
left_of true b is = refl
left_of false b is = is

pub right_of : (a b : Bool) → IsTrue (a && b) → IsTrue b
right_of true b is = is
right_of false b is = absurd (let e = is in cc)
