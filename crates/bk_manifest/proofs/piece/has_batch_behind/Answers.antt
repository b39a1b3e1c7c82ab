use Rattle.bk_manifest.proofs.Behind.{found_here, not_here, none_left}
use Rattle.bk_manifest.proofs.piece.has_batch_behind.Goals as goal

pub returns-then-is_whole : goal.returns-then-is_whole
returns-then-is_whole c =
    found_here c.args.generation c.loop-behind.behind c.args.file.now c.read_piece.result c.is_whole.result _ c.loop-behind-test.true
    c.read_piece.ensures.value c.is_whole.ensures c.if-is_whole.true c.loop-behind.invariant

pub loop-behind-preserved : goal.loop-behind-preserved
loop-behind-preserved c =
    not_here c.args.generation c.loop-behind.behind c.args.file.now c.read_piece.result c.is_whole.result _ c.loop-behind-test.true
    c.read_piece.ensures.value c.is_whole.ensures c.if-is_whole.false c.loop-behind.invariant

pub returns : goal.returns
returns c = none_left c.args.generation c.loop-behind.behind c.args.file.now _ c.loop-behind-test.false c.loop-behind.invariant
