use Rattle.std.proofs.Common.{Option, option_map, sym, ap, subst, ◌∙◌}
use Rattle.bk_record.proofs.ReadKeys.{addable}
use Rattle.bk_cache.specs.Caches.{flush_of, first_after}
use Rattle.bk_cache.specs.Recents.{Entry}
use Rattle.bk_store.specs.Primitives.{IsNextEntry}
use Rattle.bk_store.specs.FlushPlaces.{last_key}
use Rattle.std.proofs.lemmas.Option.{IfSome_then}
use Rattle.bk_store.proofs.NextEntry.{next_entry}
use Rattle.bk_store.proofs.store.Store.next_entry.Goals as goal

pub returns-clause-next : goal.returns-clause-next
returns-clause-next g c =
    let s = c.self.inside.fields.state in
    let first = c.flushing_after.ensures.value ∙ ap (λ k. first_after k (flush_of c.self-inside.inside.0.0.caches)) c.last.ensures
    ∙ ap (λ p. first_after (last_key p.fields.state.places) (flush_of p.fields.state.caches)) c.self-inside.view_is in
    subst (λ t. IsNextEntry t (option_map (λ e. (e.0, e.1.now.value.items)) c.flushing_after.result)) c.self.view_is
    (subst (λ (o : Option Entry). IsNextEntry s o) (sym first) (next_entry s c.self.invariant.fits.placed))

pub returns-clause-least : goal.returns-clause-least
returns-clause-least g c = IfSome_then c.flushing_after.result c.flushing_after.ensures.keyed (λ e keyed. (addable e.1.now.value.items e.0 keyed).least)

pub returns-clause-most : goal.returns-clause-most
returns-clause-most g c = IfSome_then c.flushing_after.result c.flushing_after.ensures.keyed (λ e keyed. (addable e.1.now.value.items e.0 keyed).most)
