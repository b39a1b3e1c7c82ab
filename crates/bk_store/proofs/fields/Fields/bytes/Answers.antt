use Rattle.std.proofs.Common.{Some, None, sym, subst, ◌∙◌, arith}
use Rattle.bk_accounts.specs.Book.{total_at, remaining_at}
use Rattle.bk_store.specs.Logs.{IsNextHeld}
use Rattle.bk_store.specs.State.{StoreParts}
use Rattle.bk_store.proofs.HeldIds.{held_id}
use Rattle.bk_store.proofs.LogSums.{sum_start, sum_step, sum_end}
use Rattle.bk_store.proofs.fields.Fields.bytes.Goals as goal

pub loop-id-init : goal.loop-id-init
loop-id-init g c =
    let p = c.args.self.now in
    record {
      ids = omega arith;
      small = omega arith;
      small_live = omega arith;
      total = sym (sum_start p.state.logs (total_at p.accounts));
      live = sym (sum_start p.state.logs (remaining_at p.accounts));
    }

pub overflow_add-from : goal.overflow_add-from
overflow_add-from g c =
    let next = subst (λ (p : StoreParts). IsNextHeld p.state.logs c.loop-id.from (Some c.in-Some.id)) c.self.view_is c.in-Some.ensures in
    let bound = held_id c.args.self.now c.requires.fits c.in-Some.id next.0 in
    omega (arith, bound)

pub loop-id-smaller : goal.loop-id-smaller
loop-id-smaller g c =
    let next = subst (λ (p : StoreParts). IsNextHeld p.state.logs c.loop-id.from (Some c.in-Some.id)) c.self.view_is c.in-Some.ensures in
    let bound = held_id c.args.self.now c.requires.fits c.in-Some.id next.0 in
    omega (arith, bound, next.1)

pub loop-id-preserved : goal.loop-id-preserved
loop-id-preserved g c =
    let p = c.args.self.now in
    let next = subst (λ (p : StoreParts). IsNextHeld p.state.logs c.loop-id.from (Some c.in-Some.id)) c.self.view_is c.in-Some.ensures in
    let bound = held_id p c.requires.fits c.in-Some.id next.0 in
    let inv = c.loop-id.invariant in
    record {
      ids = omega (arith, bound);
      small = omega (arith, next.1, inv.small, c.from-total.ensures);
      small_live = omega (arith, next.1, inv.small_live, c.from-live.ensures);
      total = omega (
        arith,
        sum_step p.state.logs (total_at p.accounts) c.loop-id.from c.in-Some.id next.0 next.1 next.2,
        inv.total,
        c.from-total.ensures,
        c.counted-counted.ensures.total,
      );
      live = omega (
        arith,
        sum_step p.state.logs (remaining_at p.accounts) c.loop-id.from c.in-Some.id next.0 next.1 next.2,
        inv.live,
        c.from-live.ensures,
        c.counted-counted.ensures.live,
      );
    }

pub returns-clause-total : goal.returns-clause-total
returns-clause-total g c =
    let p = c.args.self.now in
    let past = subst (λ (p : StoreParts). IsNextHeld p.state.logs c.loop-id.from None) c.self.view_is c.in_default.ensures in
    c.loop-id.invariant.total ∙ sum_end p.state.logs (total_at p.accounts) c.loop-id.from past

pub returns-clause-live : goal.returns-clause-live
returns-clause-live g c =
    let p = c.args.self.now in
    let past = subst (λ (p : StoreParts). IsNextHeld p.state.logs c.loop-id.from None) c.self.view_is c.in_default.ensures in
    c.loop-id.invariant.live ∙ sum_end p.state.logs (remaining_at p.accounts) c.loop-id.from past
