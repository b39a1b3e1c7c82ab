use Rattle.std.proofs.Common.{◌≡◌, rules, arith}
use Rattle.bk_bookie.specs.Adds.{accepted_count, payload_of}
use Rattle.bk_bookie.proofs.Counts.{add_leaves, desk_on}
use Rattle.bk_bookie.proofs.guarded.Guarded.add.Goals as goal

pub invariant_of-self : goal.invariant_of-self
invariant_of-self g c =
    let one : accepted_count c.add_as-answer.result ≡ 1 = search rules in
    desk_on _ c.add_as-answer.new.store _ _ _ _ _ c.audit.new.self.total (accepted_count c.add_as-answer.result) c.self.invariant
    (add_leaves c.self.inside.store c.add_as-answer.new.store c.args.kind (payload_of c.args.offered) c.add_as-answer.result c.add_as-answer.ensures)
    (omega (arith, one, c.audit.ensures.total, c.add.ensures.total))
