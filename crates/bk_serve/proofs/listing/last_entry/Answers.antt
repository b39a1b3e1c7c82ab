use Rattle.std.proofs.Common.{refl}
use Rattle.std.specs.Prelude.{Some, None}
use Rattle.bk_serve.specs.Listings.LastEntryAnswers.{tells}
use Rattle.bk_serve.proofs.listing.last_entry.Goals as goal

pub returns-in-Some : goal.returns-in-Some
returns-in-Some g c = tells (Some c.in-Some.entry) (cc) c.in-Some.ensures refl

pub returns-in-None : goal.returns-in-None
returns-in-None g c = tells None (cc) c.in-None.ensures refl
