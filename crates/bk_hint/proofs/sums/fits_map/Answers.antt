use Rattle.std.proofs.Common.{ap, length, arith}
use Rattle.bk_hint.proofs.Adding.{same_entries, map_decides}
use Rattle.bk_hint.proofs.sums.fits_map.Goals as goal

pub returns-then-found-wanted : goal.returns-then-found-wanted
returns-then-found-wanted c = (
  λ yes. absurd cc,
  λ fits.
      let entries = same_entries c.in_ok-sums.sums c.args.map.now c.args.contents.now c.len-found.ensures.ordered c.len-wanted.ensures.ordered c.in_ok-sums.ensures fits in
      absurd (omega (arith, ap length entries, c.len-found.ensures.len, c.len-wanted.ensures.len)),
)

pub returns : goal.returns
returns c =
    map_decides c.in_ok-sums.sums c.args.map.now c.args.contents.now c.eq-same.result c.len-found.ensures.ordered c.len-wanted.ensures.ordered c.in_ok-sums.ensures
    c.eq-same.ensures
