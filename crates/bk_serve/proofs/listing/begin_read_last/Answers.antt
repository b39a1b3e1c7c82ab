use Rattle.std.proofs.Common.{refl, rules}
use Rattle.bk_serve.specs.Listings.ReadLastAnswers.{bad, gone, none, reads}
use Rattle.bk_serve.proofs.listing.begin_read_last.Goals as goal

pub returns-then-is_negative : goal.returns-then-is_negative
returns-then-is_negative g c = λ t is. bad (record { negative = search rules; says = is }) refl

pub returns-then-is_dead : goal.returns-then-is_dead
returns-then-is_dead g c = λ t is. gone (record { dead = cc; says = is }) refl

pub returns-in-Some : goal.returns-in-Some
returns-in-Some g c = λ t is. reads c.in-Some.entry (cc) c.in-Some.ensures (c.begin_read.ensures t is)

pub returns-in-None : goal.returns-in-None
returns-in-None g c = λ t is. none (cc) c.in-None.ensures is refl
