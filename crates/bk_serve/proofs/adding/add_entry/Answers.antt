use Rattle.std.proofs.Common.{◌∙◌, sym}
use Rattle.bk_serve.specs.Adds.AddsEntry.{added, flushes}
use Rattle.bk_serve.proofs.adding.add_entry.Goals as goal

pub returns-then-is_full : goal.returns-then-is_full
returns-then-is_full g c =
    flushes c.add_payload-answer.result c.add_payload-answer.new.store c.add_payload-answer.ensures (sym c.is_full.ensures ∙ c.if-is_full.true) c.add_after_flush.ensures

pub returns-else-is_full : goal.returns-else-is_full
returns-else-is_full g c = added c.add_payload-answer.result c.add_payload-answer.ensures (sym c.is_full.ensures ∙ c.if-is_full.false) c.reply_of.ensures
