use Rattle.bk_hint.proofs.Decodings.{gives}
use Rattle.bk_hint.proofs.reading.decode.Goals as goal

pub returns-clause-only : goal.returns-clause-only
returns-clause-only c = λ facts entries is. gives c.args.bytes.now c.read_hint.result facts entries c.read_hint.ensures.found c.read_hint.ensures.err is
