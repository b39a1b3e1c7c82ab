-- The logical contents survive a crash: the invariant has all premises of the theorem.
use Rattle.std.proofs.Common.{◌≡◌, ◌⊎◌, inl, inr, ℕ, Bool, true, false, cond, is_some, IsTrue, List, [], Option, Some, refl, sym, ap, subst, ◌∙◌}
use Rattle.std.specs.Option.{option_map_or}
use Rattle.std.specs.FinMap as finite
use Rattle.bk_record.specs.Files.{Files}
use Rattle.bk_record.specs.Longer.{IsLonger}
use Rattle.bk_disk.specs.Durable.{IsDurable}
use Rattle.sha2.specs.Sha256.{sha256}
use Rattle.bk_store.specs.Logs.{View, Log, is_open, open_parts, published_part}
use Rattle.bk_store.specs.State.{StoreParts}
use Rattle.bk_store.specs.Invariant.{StoreInvariant, ContentInvariant}
use Rattle.bk_store.specs.Crash.{AreSynced}
use Rattle.bk_store.specs.CrashSafety.{SurvivesCrash, DurableMarksSurvive}
use Rattle.bk_store.proofs.Cases.{some_or_none}
use Rattle.bk_store.proofs.RepresentedContents.{carries_meaning}
use Rattle.bk_store.proofs.CrashOpened.{reopened}
use Rattle.bk_store.proofs.DurableMarks.{marked_entry, durable_entry}

-- what a log shows, where keys may point into it
abbrev shown_part : Log → List ℕ
shown_part log = cond (is_open log.state) (published_part log) []

-- there is nothing of it, or something longer is kept
abbrev IsSafe : Files → ℕ → List ℕ → Type 0
IsSafe synced id part = (part ≡ []) ⊎ ((file : List ℕ) × (finite.get synced id ≡ Some file) × IsLonger part file)

nothing_open : (b : Bool) (part : List ℕ) → part ≡ [] → cond b part [] ≡ []
nothing_open true part is = is
nothing_open false part is = refl

open_safe : (synced : Files) (id : ℕ) (b : Bool) (part : List ℕ) → (b ≡ true → IsDurable synced id part) → IsSafe synced id (cond b part [])
open_safe synced id true part kept = inr (kept refl)
open_safe synced id false part kept = inl refl

part_safe : (synced : Files) (id : ℕ) (log : Log) → ((view : View) → log.view ≡ Some view → is_open log.state ≡ true → IsDurable synced id view.bytes)
    → IsSafe synced id (shown_part log)
part_safe synced id log kept = elim (some_or_none log.view) [
  | inl none ↦ inl (nothing_open (is_open log.state) (published_part log) (ap (λ (o : Option View). option_map_or (λ (v : View). v.bytes) o []) none))
  | inr there ↦
      let same : there.0.bytes ≡ published_part log = sym (ap (λ (o : Option View). option_map_or (λ (v : View). v.bytes) o []) there.1) in
      open_safe synced id (is_open log.state) (published_part log) (λ opened. subst (IsDurable synced id) same (kept there.0 there.1 opened))
]

synced_parts : (p : StoreParts) → ContentInvariant p → AreSynced p.synced (open_parts p.state.logs)
synced_parts p reveal_invariant = record {
  each = λ id. elim (some_or_none (finite.get p.state.logs id)) [
    | inl none ↦ inl (ap (λ (o : Option Log). option_map_or shown_part o []) none)
    | inr there ↦
        subst (IsSafe p.synced id) (sym (ap (λ (o : Option Log). option_map_or shown_part o []) there.1))
        (part_safe p.synced id there.0 (reveal_invariant.logs.each id there.0 there.1).kept)
  ];
}

pub survives_crash : (p : StoreParts) → StoreInvariant p → IsTrue p.state.honest → SurvivesCrash p.synced p.gone p.state
survives_crash p keeps honest =
    let reveal_invariant = keeps.promises honest in (
      reveal_invariant.map.carried,
      (λ key. carries_meaning p.state.files reveal_invariant.map.carries key),
      (λ left settings dead t leaves opened stay.
          reopened p.state t reveal_invariant.map.carried p.gone p.synced left settings dead reveal_invariant.map.carries reveal_invariant.shows reveal_invariant.map.harmless
          (synced_parts p reveal_invariant) leaves opened stay),
    )

pub durable_survive : (p : StoreParts) → StoreInvariant p → IsTrue p.state.honest → DurableMarksSurvive p.synced p.gone p.state
durable_survive p keeps honest left settings dead t leaves opened stay =
    let reveal_invariant = keeps.promises honest in
    let again = reopened p.state t reveal_invariant.map.carried p.gone p.synced left settings dead reveal_invariant.map.carries reveal_invariant.shows
    reveal_invariant.map.harmless (synced_parts p reveal_invariant) leaves opened stay in (
      again.0,
      again.1.0,
      (λ number key digest below at alive lives.
          let had = marked_entry p keeps honest number key digest at alive in
          let entry = durable_entry p keeps honest number key digest below at alive in
          let kept = again.1.1.published key (ap is_some entry.sent) lives in
          let both : Some had.0 ≡ Some kept.0 = sym had.1 ∙ kept.1 in
          let one : had.0 ≡ kept.0 = cc in
          (kept.0, kept.2, had.2 ∙ ap sha256 one)),
    )
