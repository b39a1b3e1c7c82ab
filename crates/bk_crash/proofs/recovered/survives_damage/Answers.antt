use Rattle.std.proofs.Common.{Bool, IsTrue, sym, subst}
use Rattle.bk_crash.proofs.Reopened.{recovered_damage, left_of, right_of}
use Rattle.bk_crash.proofs.recovered.survives_damage.Goals as goal

pub returns-clause-survives : goal.returns-clause-survives
returns-clause-survives g c = λ honest records.
    let disk = c.survives_with_ledgers-disk.result.now in
    let both = subst (λ b. IsTrue b) (sym c.survives_with_ledgers-disk.ensures.honest) honest in
    recovered_damage disk c.args.store.now c.args.ledgers.now (sym c.survives_with_ledgers-disk.ensures.files)
    (c.reveal_invariant.ensures (left_of disk.honest disk.manifest.honest both) (right_of disk.honest disk.manifest.honest both))
    (c.survives_with_ledgers-disk.ensures.survives honest records)
