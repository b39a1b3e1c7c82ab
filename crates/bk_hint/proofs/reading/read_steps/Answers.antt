use Rattle.std.proofs.Common.{◌+◌, ◌*◌, arith}
use Rattle.bk_hint.proofs.Decodings.{steps_start, steps_more, steps_end}
use Rattle.bk_hint.proofs.reading.read_steps.Goals as goal

pub loop-k-init : goal.loop-k-init
loop-k-init c = steps_start c.args.steps (32 + 24 * c.args.heads) c.args.bytes.now c.in_ok-read.read.items c.in_ok-read.ensures.items

pub loop-k-preserved : goal.loop-k-preserved
loop-k-preserved c =
    steps_more c.args.steps c.loop-k.k (32 + 24 * c.args.heads) c.args.bytes.now c.loop-k.read.items c.push.new.self.items c.u32_at.result (omega arith) c.loop-k.invariant
    c.in_ok-push.ensures.items c.u32_at.ensures

pub returns : goal.returns
returns c = steps_end c.args.steps c.loop-k.k (32 + 24 * c.args.heads) c.args.bytes.now c.loop-k.read.items (omega arith) c.loop-k.invariant
