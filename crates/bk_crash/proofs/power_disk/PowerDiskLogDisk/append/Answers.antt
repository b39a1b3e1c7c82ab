use Rattle.std.proofs.Common.{refl, sym}
use Rattle.bk_disk.proofs.Failures.{grown-nil, grown_by_prefix}
use Rattle.bk_crash.proofs.Front.{writes_none, refused_none, refused_writes}
use Rattle.bk_crash.proofs.power_disk.PowerDiskLogDisk.append.Goals as goal

pub returns-else-not-was_dead-clause-transition : goal.returns-else-not-was_dead-clause-transition
returns-else-not-was_dead-clause-transition g c = λ _. (0, sym (grown-nil (g.D.LogDisk.files c.args.self.now.inner) c.args.log))

pub returns-else-not-was_dead-clause-front : goal.returns-else-not-was_dead-clause-front
returns-else-not-was_dead-clause-front g c = λ _ _ _. writes_none _ _ _ _ c.args.log c.args.bytes.now refl refl

pub returns-else-is_ok-clause-front : goal.returns-else-is_ok-clause-front
returns-else-is_ok-clause-front g c = λ honest _ quiet.
    refused_none _ _ _ _ _ _ c.args.log c.args.bytes.now c.args.bytes.now c.append-appended.result (c.append-appended.ensures.transition honest)
    c.append-appended.ensures.cause quiet refl

pub returns-else-eq-clause-transition : goal.returns-else-eq-clause-transition
returns-else-eq-clause-transition g c = λ honest. grown_by_prefix _ _ c.args.log c.args.bytes.now _ c.append.result (c.append.ensures.transition honest)

pub returns-else-eq-clause-front : goal.returns-else-eq-clause-front
returns-else-eq-clause-front g c = λ honest _ quiet.
    refused_writes _ _ _ _ _ c.args.log _ c.args.bytes.now c.append.result c.in-Err.fault c.in-Err.is (c.append.ensures.transition honest) c.append.ensures.cause quiet
