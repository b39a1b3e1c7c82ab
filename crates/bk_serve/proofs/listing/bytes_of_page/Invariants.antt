use Rattle.std.proofs.Common.{◌≡◌, take}
use Rattle.bk_serve.specs.Listings.{bytes_of_ids}
use Rattle.bk_serve.proofs.listing.bytes_of_page.Given as goal

abbrev pub invariant-loop-id : goal.invariant-loop-id
invariant-loop-id l = l.bytes.items ≡ bytes_of_ids (take l.id-index l.ids)
