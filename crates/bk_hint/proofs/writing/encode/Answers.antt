use Rattle.std.proofs.Common.{arith}
use Rattle.bk_hint.proofs.Counts.{sound_few_heads, sound_few_steps}
use Rattle.bk_hint.proofs.Hints.{encoded}
use Rattle.bk_hint.proofs.writing.encode.Goals as goal

pub overflow_cast-heads : goal.overflow_cast-heads
overflow_cast-heads c = omega (arith, sound_few_heads c.parts.result.0.now c.parts.result.1.now c.parts.ensures.sound)

pub overflow_cast-steps : goal.overflow_cast-steps
overflow_cast-steps c = omega (arith, sound_few_steps c.parts.result.0.now c.parts.result.1.now c.parts.ensures.sound)

pub returns : goal.returns
returns c =
    encoded c.args.facts.now c.parts.result.0.now c.parts.result.1.now c.args.contents.now c.checksum_of-checksum.result c.new-out.result.items
    c.put_front.new.out.items c.put_heads.new.out.items c.put_steps.new.out.items c.put_u32.new.out.items c.deref.result.now
    c.new-out.ensures.items c.in_ok-put_front.ensures.ok c.in_ok-put_heads.ensures c.in_ok-put_steps.ensures.ok c.in_ok-put_u32.ensures c.deref.ensures.value
    c.checksum_of-checksum.ensures c.in_ok-put_front.ensures.fit c.in_ok-put_steps.ensures.fit (omega (arith, c.checksum_of-checksum.type_inv)) c.parts.ensures.sound
    c.parts.ensures.list
