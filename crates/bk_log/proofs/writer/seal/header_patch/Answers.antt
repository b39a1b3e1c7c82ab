use Rattle.std.proofs.Common.{sym, ◌∙◌, ap, arith}
use Rattle.bk_head.specs.Header.{patch_of}
use Rattle.bk_head.proofs.MapViews.{len-map_of}
use Rattle.bk_log.proofs.writer.seal.header_patch.Goals as goal

pub overflow_cast-len : goal.overflow_cast-len
overflow_cast-len c = omega (arith, c.len.ensures.len, len-map_of c.args.sizes.now c.len.ensures.ordered, c.requires.few)

pub returns : goal.returns
returns c = c.patch_bytes.ensures ∙ ap (patch_of c.args.offset) (c.len.ensures.len ∙ sym (len-map_of c.args.sizes.now c.len.ensures.ordered))
