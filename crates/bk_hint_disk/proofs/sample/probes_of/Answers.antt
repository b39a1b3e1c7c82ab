use Rattle.std.proofs.Common.{◌+◌, ◌/◌, List, ◌∙◌, subst, arith}
use Rattle.bk_hint.specs.declared.listed.Listed.{Listed}
use Rattle.bk_hint_disk.specs.Usable.{IsNoted}
use Rattle.bk_hint_disk.proofs.Sampling.{samples_more, samples_all}
use Rattle.bk_hint_disk.proofs.sample.probes_of.Goals as goal

pub loop-place-preserved : goal.loop-place-preserved
loop-place-preserved c =
    let noted = subst (λ (all : List Listed). IsNoted all c.loop-place.place c.loop-place.probes.items c.note.new.probes.items) c.loop-place.invariant.same
    c.in_ok-note.ensures.noted in
    record {
      same = c.in_ok-note.ensures.same ∙ c.loop-place.invariant.same;
      samples = samples_more c.args.contents.now (c.in-Some.last / 15 + 1) c.in-Some.last c.loop-place.place c.saturating_add-place.result
          c.loop-place.probes.items c.note.new.probes.items c.loop-place-test.true (omega arith) c.saturating_add-place.ensures noted
          c.loop-place.invariant.samples;
    }

pub returns : goal.returns
returns c =
    let noted = subst (λ (all : List Listed). IsNoted all c.in-Some.last c.loop-place.probes.items c.note-2.new.probes.items) c.loop-place.invariant.same
    c.in_ok-note-2.ensures.noted in
    samples_all c.args.contents.now c.in-Some.last c.loop-place.place c.loop-place.probes.items c.note-2.new.probes.items (omega arith) c.loop-place-test.false
    noted c.loop-place.invariant.samples
