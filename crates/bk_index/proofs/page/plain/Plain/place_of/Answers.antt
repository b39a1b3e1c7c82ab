use Rattle.std.proofs.Common.{rules}
use Rattle.std.proofs.lemmas.List.Sorted.{answers_always}
use Rattle.bk_index.proofs.KeyPlaces.{searched}
use Rattle.bk_index.proofs.PagePairs.{searched_none}
use Rattle.bk_index.proofs.page.plain.Plain.place_of.Goals as goal

-- the closure gives a pair's key
pub returns : goal.returns
returns c =
    let pairs = c.self.inside.pairs.items in
    let facts = c.binary_search_by_key.ensures in
    let by_key = facts.position (λ pair. pair.0) (answers_always _ _ _ (λ f a r g called. search rules)) in
    let is = searched pairs c.self.invariant c.args.key.now _ (rw c.deref.ensures.value at facts.bound) (rw c.deref.ensures.value at by_key) in
    record {
      found = rw (← c.self.view_is) is.found;
      absent = rw (← c.self.view_is) is.absent;
      none = rw (← c.self.view_is) (searched_none pairs c.self.invariant c.args.key.now _ is.absent);
    }
