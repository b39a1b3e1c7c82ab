use Rattle.std.proofs.Common.{sym, ap, ◌∙◌}
use Rattle.std.specs.Int.{w32, w64, from_be_bytes}
use Rattle.std.proofs.lemmas.List.{drop-drop}
use Rattle.bk_hint.proofs.reading.read_head.Goals as goal

pub returns : goal.returns
returns c =
    let bytes = c.args.bytes.now in
    let at = c.args.at in
    let ledger = c.u64_at.ensures in
    let entry = c.u64_at-2.ensures ∙ ap (from_be_bytes w64) (sym (drop-drop 8 at bytes)) in
    let place = c.u32_at.ensures ∙ ap (from_be_bytes w32) (sym (drop-drop 16 at bytes)) in
    let size = c.u32_at-2.ensures ∙ ap (from_be_bytes w32) (sym (drop-drop 20 at bytes)) in
    λ i. record { ledger = ledger i; entry = entry i; at = place i; size = size i }
