use Rattle.bk_hint.proofs.Reaching.{begins_at}
use Rattle.bk_hint.proofs.cursor.EntryCursor.over.Goals as goal

pub invariant_of-result : goal.invariant_of-result
invariant_of-result c = begins_at c.args.contents.now c.runs.result c.runs.ensures.list c.runs.ensures.in_order
