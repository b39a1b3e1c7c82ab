use Rattle.std.proofs.Common.{◌∙◌, sym}
use Rattle.bk_hint_disk.proofs.Sampling.{noted}
use Rattle.bk_hint_disk.proofs.sample.note.Goals as goal

pub returns-in_ok-push-clause-noted : goal.returns-in_ok-push-clause-noted
returns-in_ok-push-clause-noted c =
    noted c.args.cursor.now c.args.place c.saturating_sub-at.result c.args.probes.now.items c.push.new.self.items c.in-Some.entry
    (sym c.nth.ensures.found ∙ c.in-Some.is) c.saturating_sub-at.ensures c.in_ok-push.ensures.items
