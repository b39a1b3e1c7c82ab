use Rattle.std.proofs.Common.{List, length, ◌-◌, option_map, slice_get, sym, ap, ◌∙◌, arith}
use Rattle.bk_record.specs.Key.{EntryKey}
use Rattle.bk_record.specs.Location.{Place}
use Rattle.bk_index.proofs.PackedPairs.{upto_all, upto_none}
use Rattle.bk_index.proofs.PackedPlaces.{cells_last}
use Rattle.bk_index.proofs.page.packed.Packed.last_upto.Goals as goal

pub returns-then-self-ledger : goal.returns-then-self-ledger
returns-then-self-ledger c =
    let page = c.self.inside in
    let none = upto_none page.ledger page.base page.cells.items c.args.ledger (omega (arith, c.if-self-ledger.true)) in
    rw (← c.self.view_is) (sym (ap (λ (es : List (EntryKey × Place)). option_map (λ e. e.0) (slice_get es (length es - 1))) none))

pub returns : goal.returns
returns c =
    let page = c.self.inside in
    let all = upto_all page.ledger page.base page.cells.items c.args.ledger (omega (arith, c.if-self-ledger.false)) in
    let last = sym (c.in_ok-offset.ensures.value ∙ ap (λ (es : List _). slice_get es (length es - 1)) c.deref.ensures.value) in
    rw (c.key_at.ensures.value, ← c.self.view_is)
    (cells_last page.ledger page.base page.cells.items c.self.invariant.2 c.in_ok-offset.field-0.now last
    ∙ sym (ap (λ (es : List (EntryKey × Place)). option_map (λ e. e.0) (slice_get es (length es - 1))) all))
