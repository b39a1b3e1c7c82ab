use Rattle.std.proofs.Common.{subst}
use Rattle.bk_store.specs.State.{State}
use Rattle.bk_store.specs.Ledgers.{LedgersMatchTrail}
use Rattle.bk_store.proofs.Replaying.{replay_has, kept_replays}
use Rattle.bk_store.proofs.laws.trail_is_kept.Goals as goal

pub returns-clause-follows : goal.returns-clause-follows
returns-clause-follows c = λ s kept. subst (λ (x : State). LedgersMatchTrail x.ledgers) kept.seen kept.keeps.fits.ledgers

pub returns-clause-replays : goal.returns-clause-replays
returns-clause-replays c = kept_replays

pub returns-clause-has : goal.returns-clause-has
returns-clause-has c = λ s map kept honest means. replay_has map s.ledgers.trail (kept_replays s map kept honest means)
