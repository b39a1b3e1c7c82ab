use Rattle.bk_serve.proofs.figures.figures.Goals as goal

pub returns-clause-says : goal.returns-clause-says
returns-clause-says g c = record {
  bytes = c.bytes-bytes.result.total;
  live = c.bytes-bytes.result.live;
  all = c.bytes-bytes.ensures.total;
  living = c.bytes-bytes.ensures.live;
  leases = c.count_leases-leases.result;
  out = c.count_leases-leases.ensures.counts;
  says = cc;
}
