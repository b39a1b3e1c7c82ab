use Rattle.std.proofs.Common.{is_some, sym, ap, ◌∙◌, arith}
use Rattle.std.proofs.lemmas.Option.{none-some, same_Some}
use Rattle.bk_store.proofs.Written.{some_iff}
use Rattle.bk_compact.proofs.CopyWriter.{copy_writer, place_next, writer_is}
use Rattle.bk_compact.proofs.entries.place_in.Goals as goal

pub unreachable-requires : goal.unreachable-requires
unreachable-requires g c =
    let s = c.args.store.now in
    let has = copy_writer s c.reveal_invariant.ensures c.args.copy c.requires.copying in
    let none = rw c.in_default.is at c.writer.ensures.value in
    none-some has.w (none ∙ writer_is s.logs c.args.copy has.log has.held ∙ has.writer)

pub unwrap-requires : goal.unwrap-requires
unwrap-requires g c =
    let s = c.args.store.now in
    let has = copy_writer s c.reveal_invariant.ensures c.args.copy c.requires.copying in
    let some = rw c.in-Some.is at c.writer.ensures.value in
    let one = same_Some _ has.w (some ∙ writer_is s.logs c.args.copy has.log has.held ∙ has.writer) in
    let end = ap (λ w. w.end) one in
    ap is_some (some_iff _ _ _ c.pack.ensures (omega (arith, has.id_fits), omega (arith, has.headed, end, c.length.ensures.value)))

pub returns : goal.returns
returns g c =
    let s = c.args.store.now in
    let has = copy_writer s c.reveal_invariant.ensures c.args.copy c.requires.copying in
    let some = rw c.in-Some.is at c.writer.ensures.value in
    let there = writer_is s.logs c.args.copy has.log has.held ∙ has.writer in
    let one = same_Some _ has.w (some ∙ there) in
    let end = ap (λ w. w.end) one in
    let place = some_iff _ _ _ c.pack.ensures (omega (arith, has.id_fits), omega (arith, has.headed, end, c.length.ensures.value)) in
    place_next s c.args.copy has c.in-Some.writer.now (sym some) c.unwrap.result c.length.result c.length.ensures.value
    (same_Some _ _ (sym c.unwrap.ensures ∙ place))
