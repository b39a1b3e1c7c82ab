use Rattle.std.proofs.Common.{◌≡◌, ◌∙◌, arith, rules}
use Rattle.bk_index.specs.Runs.{key_of_run, place_of_run, with_run}
use Rattle.bk_index.proofs.Runs.{with_more, at_of_rest}
use Rattle.bk_index.proofs.index.Index.insert_run.Goals as goal

pub insert_some-requires-clause-places : goal.insert_some-requires-clause-places
insert_some-requires-clause-places c =
    let location : c.unwrap-location.result ≡ place_of_run c.args.place c.args.size c.loop-done.done = search rules in
    rw location (at_of_rest c.args.place.at c.args.size c.args.count c.loop-done.done c.loop-done.invariant.within c.requires.places)

pub loop-done-preserved : goal.loop-done-preserved
loop-done-preserved c =
    let done = c.loop-done.done in
    let key : c.unwrap-key.result ≡ key_of_run c.args.first done = search rules in
    let location : c.unwrap-location.result ≡ place_of_run c.args.place c.args.size done = search rules in
    record {
      within = omega (arith, c.in_ok-number.ensures.bound);
      set =
          c.in_ok-number.ensures.ok ∙ (λ i. with_run (c.loop-done.invariant.set i) (key i) (location i) c.args.size c.in_ok-number.number)
          ∙ with_more c.args.self.now c.args.first c.args.place c.args.size done c.in_ok-number.number;
    }
