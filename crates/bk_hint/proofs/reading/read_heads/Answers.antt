use Rattle.std.proofs.Common.{arith}
use Rattle.bk_hint.proofs.Decodings.{heads_start, heads_more, heads_end}
use Rattle.bk_hint.proofs.reading.read_heads.Goals as goal

pub loop-k-init : goal.loop-k-init
loop-k-init c = heads_start c.args.heads c.args.bytes.now c.in_ok-read.read.items c.in_ok-read.ensures.items

pub loop-k-preserved : goal.loop-k-preserved
loop-k-preserved c =
    heads_more c.args.heads c.loop-k.k c.args.bytes.now c.loop-k.read.items c.push.new.self.items c.read_head.result (omega arith) c.loop-k.invariant
    c.in_ok-push.ensures.items c.read_head.ensures

pub returns : goal.returns
returns c = heads_end c.args.heads c.loop-k.k c.args.bytes.now c.loop-k.read.items (omega arith) c.loop-k.invariant
