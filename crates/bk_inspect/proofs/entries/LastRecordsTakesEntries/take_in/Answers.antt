use Rattle.std.proofs.Common.{◌≡◌, ℕ, IsTrue, [], ◌∷◌, ◌++◌, Option, Some, refl, sym, ap, ap₂, ◌∙◌, subst, arith}
use Rattle.bk_record.specs.Key.{EntryKey}
use Rattle.bk_record.specs.Record.{key_of}
use Rattle.bk_inspect.specs.declared.command.EntryRange.{EntryRange}
use Rattle.bk_inspect.specs.LastRecords.{HasLast, Notes, IsInRange, key_in}
use Rattle.bk_inspect.proofs.LastTaken.{last_skipped, last_noted}
use Rattle.bk_inspect.proofs.entries.LastRecordsTakesEntries.take_in.Goals as goal
use Rattle.bk_inspect.proofs.entries.LastRecordsTakesEntries.take_in.Goals.{else-ledger-self-via-then-ledger-self+else-has, else-ledger-self-via-else-ledger-self}

pub returns-in_ok-note : goal.returns-in_ok-note
returns-in_ok-note c = λ first taken payload keyed sized has.
    let range = c.args.self.now.range in
    let ledger : c.args.found.key.ledger ≡ range.ledger = omega (arith, c.ledger.ensures.value, c.if-ledger-self.true) in
    let key : c.args.found.key ≡ key_in range c.entry-entry.result =
    ap₂ (λ (l e : ℕ). record { ledger = l; entry = e }) ledger (sym c.entry-entry.ensures.value) in (
      c.in_ok-note.ensures.0 ∙ has.0,
      subst (λ (r : EntryRange). HasLast r c.note.new.self.records
          (taken ++ (record { log = c.args.log; at = c.args.found.at }, payload) ∷ [])) (sym c.in_ok-note.ensures.0)
          (last_noted range c.args.self.now.records c.note.new.self.records taken payload c.entry-entry.result
          (record { log = c.args.log; found = c.args.found }) (keyed ∙ ap (λ (k : EntryKey). Some k) key) (c.if-has.ensures.0 refl) sized c.in_ok-note.ensures.1 has.1),
    )

pub returns-else-ledger-self : goal.returns-else-ledger-self
returns-else-ledger-self c = λ first taken payload keyed sized has. (
  has.0,
  last_skipped c.args.self.now.range c.args.self.now.records taken _ payload c.args.found.key keyed (λ ledger asked.
      elim c.else-ledger-self.branch [
        | else-ledger-self-via-then-ledger-self+else-has w ↦
            let never = w.if-has.ensures.1 (subst (IsInRange c.args.self.now.range) (sym c.entry-entry.ensures.value) asked) in cc
        | else-ledger-self-via-else-ledger-self w ↦ omega (arith, w.if-ledger-self.false, c.ledger.ensures.value, ledger)
      ]) has.1,
)
