-- A read of a store that refines an abstract map answers as the map does.
use Rattle.std.proofs.Common.{◌≡◌, ℕ, ◌≤◌, List, true, false, cond, is_some, IsSome, IsTrue, Option, Some, None, Ok, Err}
use Rattle.std.proofs.Common.{refl, sym, ap, subst, ◌∙◌}
use Rattle.std.specs.Prelude.{◌↔◌}
use Rattle.std.specs.Option.{option_or}
use Rattle.std.specs.FinMap as finite
use Rattle.std.specs.FinSet as set
use Rattle.std.proofs.lemmas.List.Elements.{All-weaker}
use Rattle.bk_record.specs.Key.{EntryKey}
use Rattle.bk_record.specs.Scan.{scan_of}
use Rattle.bk_store.specs.State.{State}
use Rattle.bk_store.specs.Contents.{holds}
use Rattle.bk_store.specs.Transitions.{is_dead}
use Rattle.bk_store.specs.Ledgers.{KnownLedgers}
use Rattle.bk_store.specs.LedgerReads.{HasLiveEntry, HasLiveLedger, IsGreatest, IsPage}
use Rattle.bk_store.specs.Abstract.{AbstractState, StoreRefines, SatisfiesInvariant, pending_payload}
use Rattle.bk_store.proofs.Refinement.{plain_carries}
use Rattle.bk_store.proofs.RepresentedContents.{held_exactly}
use Rattle.bk_drive.specs.LedgerReads.{LedgerReadOf, AbstractLedgerRead, HasEntry, HasLedger}
use Rattle.bk_drive.specs.declared.ledger_reads.LedgerRead.{LedgerRead}
use Rattle.bk_drive.specs.declared.ledger_reads.LedgerRead.TheVariants as reads
use Rattle.bk_drive.specs.declared.ledger_reads.LedgerReadAnswer.{LedgerReadAnswer}
use Rattle.bk_drive.specs.declared.ledger_reads.LedgerReadAnswer.TheVariants as told

-- ---- numbers with one property have another one

greatest_as : (P Q : ℕ → Type 0) → ((n : ℕ) → P n ↔ Q n) → (o : Option ℕ) → IsGreatest P o → IsGreatest Q o
greatest_as P Q same None none = λ n has. none n ((same n).1 has)
greatest_as P Q same (Some last) is = ((same last).0 is.0, λ n has. is.1 n ((same n).1 has))

page_as : (P Q : ℕ → Type 0) → ((n : ℕ) → P n ↔ Q n) → (from most : ℕ) (page : List ℕ) → IsPage P from most page → IsPage Q from most page
page_as P Q same from most page is = record {
  within = is.within;
  rising = is.rising;
  each = All-weaker (λ n. (from ≤ n) × P n) (λ n. (from ≤ n) × Q n) (λ n has. (has.0, (same n).0 has.1)) page is.each;
  complete = λ n low has. is.complete n low ((same n).1 has);
}

-- ---- the store and the map have the same entries

module _ (s : State) (p : AbstractState) (kept : SatisfiesInvariant s) (honest : IsTrue s.honest) (agrees : StoreRefines s p) where
  agrees_seen : StoreRefines kept.parts.state p
  agrees_seen = subst (λ (x : State). StoreRefines x p) (sym kept.seen) agrees

  mapped : (key : EntryKey) → is_some (finite.get p.map key) ≡ holds s key
  mapped key =
      let promises = kept.keeps.promises (subst (λ (x : State). IsTrue x.honest) (sym kept.seen) honest) in
      held_exactly (plain_carries kept.parts.state p agrees_seen promises.map.carried promises.map.carries) key
      ∙ ap (λ (x : State). holds x key) kept.seen

  -- The map has no entry of a deleted ledger.
  lives : (key : EntryKey) → IsSome (finite.get p.map key) → is_dead s key.ledger ≡ false
  lives key has = elim (set.contains p.ledgers.dead key.ledger) as (λ b. set.contains p.ledgers.dead key.ledger ≡ b → is_dead s key.ledger ≡ false) [
    | true ↦ λ dead.
        let none : finite.get p.map key ≡ None = agrees.meaning key
        ∙ ap (λ b. cond b None (option_or (pending_payload p key) (finite.get (scan_of s.files) key))) dead in
        absurd (let no : false ≡ true = sym (ap is_some none) ∙ has in cc)
    | false ↦ λ alive. ap (λ (l : KnownLedgers). set.contains l.dead key.ledger) agrees.ledgers ∙ alive
  ] refl

  same_entry : (ledger entry : ℕ) → HasLiveEntry s ledger entry ↔ HasEntry p ledger entry
  same_entry ledger entry =
      let key : EntryKey = record { ledger = ledger; entry = entry } in
      (λ has. mapped key ∙ has.1, λ has. (lives key has, sym (mapped key) ∙ has))

  same_ledger : (ledger : ℕ) → HasLiveLedger s ledger ↔ HasLedger p ledger
  same_ledger ledger = (
    λ has. (has.1.0, (same_entry ledger has.1.0).0 (has.0, has.1.1)),
    λ has. let live = (same_entry ledger has.0).1 has.1 in (live.0, (has.0, live.1)),
  )

  pub reads_plain : (read : LedgerRead) (a : LedgerReadAnswer) → LedgerReadOf s read a → AbstractLedgerRead p read a
  reads_plain (reads.Holds key) (told.Holds is) r = (λ yes. (same_entry key.ledger key.entry).0 (r.0 yes), λ has. r.1 ((same_entry key.ledger key.entry).1 has))
  reads_plain (reads.IsFenced ledger) (told.IsFenced is) r = r ∙ ap (λ (l : KnownLedgers). set.contains l.fenced ledger) agrees.ledgers
  reads_plain (reads.LastEntry ledger) (told.LastEntry last) r = greatest_as (HasLiveEntry s ledger) (HasEntry p ledger) (same_entry ledger) last r
  reads_plain (reads.Entries ledger from most) (told.Entries (Ok page)) r =
      page_as (HasLiveEntry s ledger) (HasEntry p ledger) (same_entry ledger) from most page.items r
  reads_plain (reads.Entries ledger from most) (told.Entries (Err fault)) r = tt
  reads_plain (reads.Ledgers from most) (told.Ledgers (Ok page)) r = page_as (HasLiveLedger s) (HasLedger p) same_ledger from most page.items r
  reads_plain (reads.Ledgers from most) (told.Ledgers (Err fault)) r = tt
  reads_plain read a r = absurd r
