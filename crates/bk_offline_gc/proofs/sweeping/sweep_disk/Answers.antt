use Rattle.std.proofs.Common.{ap, ◌∙◌}
use Rattle.bk_store.specs.Ledgers.{KnownLedgers}
use Rattle.bk_offline_gc.proofs.Leaving.{opened_means}
use Rattle.bk_offline_gc.proofs.sweeping.sweep_disk.Goals as goal

pub returns-clause-same : goal.returns-clause-same
returns-clause-same g c = λ honest.
    opened_means (g.D.LogDisk.honest c.args.disk) (g.D.LogDisk.files c.args.disk) c.args.settings c.args.dead.now
    c.in_ok-store.store c.sweep.new.store honest c.in_ok-store.ensures.honest c.in_ok-store.ensures.opened c.in_ok-swept.ensures.leaves

pub returns-clause-settings : goal.returns-clause-settings
returns-clause-settings g c = c.in_ok-swept.ensures.leaves.stays.settings ∙ c.in_ok-store.ensures.opened.settings_are

pub returns-clause-dead : goal.returns-clause-dead
returns-clause-dead g c =
    ap (λ (l : KnownLedgers). l.dead) (c.in_ok-swept.ensures.leaves.stays.ledgers ∙ c.in_ok-store.ensures.opened.ledgers_are)
