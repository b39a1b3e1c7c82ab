use Rattle.std.proofs.Common.{◌≡◌, inl, inr, Some, sym, ap, subst, ◌∙◌, arith, option_map}
use Rattle.bk_store.proofs.Cases.{same_or_apart}
use Rattle.bk_drive.specs.Abstract.{HasAt}
use Rattle.bk_drive.specs.Held.{reader_lease_of}
use Rattle.bk_drive.proofs.Seats.{item_at, item_unread, one_item, within_seats}
use Rattle.bk_drive.proofs.readers.Readers.reader_of.Goals as goal
use Rattle.bk_drive.proofs.readers.Readers.reader_of.Goals.{in-None, in-Some+else-log}

pub returns-then-log-clause-some : goal.returns-then-log-clause-some
returns-then-log-clause-some g c =
    let f = reader_lease_of g.V.LogView.bytes g.V.LogView.honest g.V.LogView.sound in (
      f c.in-Some.reading,
      item_at f c.self.inside.holds _ _ _ c.self.view_is (omega (arith, c.loop-reader-test.true, c.self.invariant))
          ∙ ap (λ o. Some (option_map f o)) c.in-Some.is,
      sym c.log.ensures ∙ c.if-log.true,
    )

pub loop-reader-preserved : goal.loop-reader-preserved
loop-reader-preserved g c = λ i hold below has same.
    let f = reader_lease_of g.V.LogView.bytes g.V.LogView.honest g.V.LogView.sound in
    elim (same_or_apart i c.loop-reader.reader) [
      | inr apart ↦ c.loop-reader.invariant i hold (omega (arith, below, apart)) has same
      | inl here ↦ item_unread f c.self.inside.holds _ c.loop-reader.reader _ c.hold-item.result c.self.view_is
          (omega (arith, c.loop-reader-test.true, c.self.invariant))
          (λ x is. elim c.match-hold.branch [
            | in-None w ↦ let none = w.in-None.is in λ by. absurd (let e : _ ≡ Some x = sym none ∙ is in cc)
            | in-Some+else-log w ↦ one_item f _ _ x _ _ w.in-Some.is is w.log.ensures w.if-log.false
          ]) hold (subst (λ n. HasAt c.args.self.now n hold) here has) same
    ]

pub returns-clause-none : goal.returns-clause-none
returns-clause-none g c = λ reader hold has same.
    let f = reader_lease_of g.V.LogView.bytes g.V.LogView.honest g.V.LogView.sound in
    let there = within_seats f c.self.inside.holds _ reader _ c.self.view_is has in
    c.loop-reader.invariant reader hold (omega (arith, there, c.loop-reader-test.false, c.self.invariant)) has same
