use Rattle.std.proofs.Common.{ap, arith}
use Rattle.bk_store.specs.FlushPlaces.{HeldPlaces}
use Rattle.bk_store.proofs.Noted.{noted, noted_sorted}
use Rattle.bk_store.proofs.places.FlushPlaces.note.Goals as goal

pub push_reserved-requires : goal.push_reserved-requires
push_reserved-requires c = let left = ap (λ (p : HeldPlaces). p.room) c.self.view_is in let room = c.requires.room in omega (arith, left, room)

pub invariant_of-self : goal.invariant_of-self
invariant_of-self c =
    rw c.push_reserved.ensures.items (noted_sorted c.self.inside.pairs.items c.args.self.now.places c.args.key c.args.place c.self.invariant
    (ap (λ (p : HeldPlaces). p.places) c.self.view_is) c.requires.behind)

pub returns : goal.returns
returns c =
    rw c.push_reserved.ensures.items (noted c.self.inside.pairs.items c.args.self.now.places c.args.key c.args.place c.self.invariant
    (ap (λ (p : HeldPlaces). p.places) c.self.view_is) c.requires.behind)
