-- A log that is written no more: what it keeps, and which log is Writing then.
use Rattle.std.proofs.Common.{◌≡◌, ◌≢◌, inl, inr, ℕ, ◌↔◌, true, false, cond, eqb, List, [], ◌∷◌, not, Option, Some, None, is_some, refl, sym, ap, ◌∙◌}
use Rattle.std.specs.Option.{option_map_or}
use Rattle.std.specs.List.{filter}
use Rattle.std.specs.FinMap as finite
use Rattle.std.proofs.lemmas.Bool.{eqb-true, eq-eqb}
use Rattle.bk_record.specs.Key.{EntryKey}
use Rattle.bk_record.specs.Record.{key_of, is_foreign}
use Rattle.bk_record.specs.Files.{In}
use Rattle.bk_store.specs.Logs.{Log, Logs, is_open, is_written, unwritten_log, published_part, open_parts}
use Rattle.bk_store.specs.Invariant.{HeldLogInvariant}
use Rattle.bk_store.specs.Internals.{unless_log}
use Rattle.bk_store.specs.declared.log.LogState.{LogState}
use Rattle.bk_store.specs.declared.log.LogState.TheVariants.{Writing}
use Rattle.bk_store.proofs.Cases.{same_or_apart}
use Rattle.bk_store.proofs.LogMaps.{log-inserted, log-insert_else, log-insert_cases}

-- what is kept of a log that is closed
pub held_closed : (next id : ℕ) (state : LogState) (log : Log) → is_written state ≡ false → HeldLogInvariant next id log → HeldLogInvariant next id (unwritten_log state log)
held_closed next id state log closed was = record {
  below = was.below;
  written = λ wrong. absurd (let both : true ≡ false = sym wrong ∙ closed in cc);
  by = λ w wrong. absurd (cc);
}

-- if a log is Writing no more, the others are Writing as before
pub writing_closed : (logs : Logs) (id : ℕ) (new : Log) (writing : Option ℕ) → ¬ (new.state ≡ Writing)
    → ((q : ℕ) → (writing ≡ Some q) ↔ ((l : Log) × (finite.get logs q ≡ Some l) × (l.state ≡ Writing)))
    → (q : ℕ) → (unless_log writing id ≡ Some q) ↔ ((l : Log) × (finite.get (finite.insert logs id new) q ≡ Some l) × (l.state ≡ Writing))
writing_closed logs id new writing closed was q = (
  (λ is.
      let other = left writing is in
      let old = (was q).0 other.1 in
      (old.0, log-insert_else logs id new q other.0 ∙ old.1, old.2)),
  (λ now. elim (log-insert_cases logs id new q now.0 now.1) [
    | inl here ↦ absurd (closed (ap (λ (l : Log). l.state) here.1 ∙ now.2))
    | inr other ↦ kept writing other.0 ((was q).1 (now.0, other.1, now.2))
  ]),
)
  where
    left : (o : Option ℕ) → unless_log o id ≡ Some q → (q ≢ id) × (o ≡ Some q)
    left None is = cc
    left (Some n) is = elim (eqb n id) as (λ b. eqb n id ≡ b → cond b None (Some n) ≡ Some q → (q ≢ id) × (Some n ≡ Some q)) [
      | true ↦ λ _ wrong. cc
      | false ↦ λ apart same. ((λ here. let one : n ≡ q = cc in let tied = eq-eqb n id (one ∙ here) in cc), same)
    ] refl is

    kept : (o : Option ℕ) → q ≢ id → o ≡ Some q → unless_log o id ≡ Some q
    kept None apart is = cc
    kept (Some n) apart is = elim (eqb n id) as (λ b. eqb n id ≡ b → cond b None (Some n) ≡ Some q) [
      | true ↦ λ tied. absurd (apart (let one : n ≡ q = cc in sym one ∙ eqb-true n id tied))
      | false ↦ λ _. is
    ] refl

-- foreign records have no key
pub none_keyed : (others : List (ℕ × List ℕ)) → filter (λ r. not (is_foreign r.1)) others ≡ [] → (at : ℕ) (payload : List ℕ) (key : EntryKey)
    → In (at, payload) others → key_of payload ≡ Some key → ⊥
none_keyed [] none at payload key there keyed = absurd there
none_keyed (r ∷ others) none at payload key there keyed =
    elim (key_of r.1) as (λ o. key_of r.1 ≡ o
    → cond (not (not (is_some o))) (r ∷ filter (λ r. not (is_foreign r.1)) others) (filter (λ r. not (is_foreign r.1)) others) ≡ [] → ⊥) [
      | Some k ↦ λ _ wrong. cc
      | None ↦ λ foreign rest. elim there [
        | inl here ↦
            let same : key_of r.1 ≡ key_of payload = ap (λ (x : ℕ × List ℕ). key_of x.1) here in
            let wrong : None ≡ Some key = sym foreign ∙ same ∙ keyed in cc
        | inr later ↦ none_keyed others rest at payload key later keyed
      ]
    ] refl none

-- a log that is open as before, or hidden as before, with the same view, shows the same
pub parts_same : (logs : Logs) (id : ℕ) (log new : Log) → finite.get logs id ≡ Some log → is_open new.state ≡ is_open log.state → new.view ≡ log.view
    → (q : ℕ) → open_parts (finite.insert logs id new) q ≡ open_parts logs q
parts_same logs id log new held opened view q =
    let part : Option Log → List ℕ = λ o. option_map_or (λ (l : Log). cond (is_open l.state) (published_part l) []) o [] in
    elim (same_or_apart q id) [
      | inr apart ↦ ap part (log-insert_else logs id new q apart)
      | inl here ↦
          ap part (log-inserted logs id new q here)
          ∙ (λ i. cond (opened i) (option_map_or (λ v. v.bytes) (view i) []) [])
          ∙ sym (ap part (ap (finite.get logs) here ∙ held))
    ]
