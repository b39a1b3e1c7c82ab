use Rattle.bk_bookie.proofs.Leases.{fetches_seen}
use Rattle.bk_bookie.proofs.fetching.fetch_leased.Goals as goal

pub returns : goal.returns
returns g c = λ payload is.
    fetches_seen g.V.LogView.bytes g.V.LogView.honest c.args.lease.now c.args.location c.args.key payload is c.view-view.result.now
    c.view-view.ensures c.bounds.ensures (λ v. v.items) c.fetch.result c.fetch.ensures.transition
