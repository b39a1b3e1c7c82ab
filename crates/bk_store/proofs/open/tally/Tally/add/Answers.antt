use Rattle.std.proofs.Common.{◌≡◌, false, is_err}
use Rattle.bk_store.proofs.OpenedSums.{when_ok, still_fits}
use Rattle.bk_store.proofs.open.tally.Tally.add.Goals as goal

pub count-requires-clause-fits : goal.count-requires-clause-fits
count-requires-clause-fits c =
    let told = c.is_err.ensures.value in
    let passed = c.if-is_err.false in
    let made : is_err c.ready.result ≡ false = cc in
    still_fits _ _ _ _ _ (when_ok c.ready.result made c.ready.ensures.ok) c.requires.fits
