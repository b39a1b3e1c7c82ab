use Rattle.std.proofs.Common.{◌≡◌, ℕ, List, ◌++◌, take, drop, ap, ◌∙◌, subst, arith}
use Rattle.bk_crc.specs.Holds.{Holds}
use Rattle.bk_inspect.proofs.Fits.{piece_more}
use Rattle.bk_inspect.proofs.fitting.add_part.Goals as goal

pub loop-done-preserved : goal.loop-done-preserved
loop-done-preserved g c = record {
  within = omega (arith, c.min-some.ensures);
  holds = λ honest polynomial message held.
      let file = g.V.LogView.bytes c.args.view.now in
      let done : ℕ = c.loop-done.done in
      let some : ℕ = c.min-some.result in
      let before = c.loop-done.invariant.holds honest polynomial message held in
      let so_far = message ++ take done (drop c.args.from file) in
      let read = c.in_ok-bytes.ensures.ok honest in
      subst (λ (z : List ℕ). Holds polynomial c.update.new.self z)
      (ap (λ (z : List ℕ). so_far ++ z) (c.deref.ensures.value ∙ read.1) ∙ piece_more message file c.args.from done some)
      (c.update.ensures polynomial so_far before);
}

pub returns : goal.returns
returns g c = λ honest polynomial message held.
    let file = g.V.LogView.bytes c.args.view.now in
    let same : c.loop-done.done ≡ c.args.size = omega arith in
    subst (λ (n : ℕ). Holds polynomial c.loop-done.checksum (message ++ take n (drop c.args.from file))) same
    (c.loop-done.invariant.holds honest polynomial message held)
