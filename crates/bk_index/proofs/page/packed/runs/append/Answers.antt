use Rattle.std.proofs.Common.{◌≡◌, ◌+◌, [], ◌∷◌, ◌++◌, sym, ap, ◌∙◌, arith, rules, append_assoc}
use Rattle.std.proofs.lemmas.List.{append-nil}
use Rattle.bk_index.specs.Runs.{place_of_run, cells_of_run}
use Rattle.bk_index.proofs.RunPairs.{cells_one_more}
use Rattle.bk_index.proofs.page.packed.runs.append.Goals as goal

pub loop-done-init : goal.loop-done-init
loop-done-init c = record {
  items = c.in_ok-reserve.ensures.items ∙ sym (append-nil c.args.cells.now.items);
  room = omega (arith, c.in_ok-reserve.ensures.ok);
}

pub loop-done-preserved : goal.loop-done-preserved
loop-done-preserved c =
    let done = c.loop-done.done in
    let old = c.args.cells.now.items in
    let front = cells_of_run c.args.offset c.args.place c.args.size done in
    let location : c.unwrap-location.result ≡ place_of_run c.args.place c.args.size done = search rules in
    record {
      items =
          c.in_ok-push.ensures.items ∙ (λ i. c.loop-done.invariant.items i ++ (c.args.offset + done, location i) ∷ [])
          ∙ append_assoc old front ((c.args.offset + done, place_of_run c.args.place c.args.size done) ∷ [])
          ∙ ap (λ run. old ++ run) (sym (cells_one_more c.args.offset c.args.place c.args.size done));
      room = omega (arith, c.loop-done.invariant.room, c.in_ok-push.ensures.len, c.in_ok-push.ensures.capacity);
    }
