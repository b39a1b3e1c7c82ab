use Rattle.std.proofs.Common.{◌-◌, length, slice_get, ap, ◌∙◌}
use Rattle.std.specs.Option.{option_map}
use Rattle.bk_store.specs.FlushPlaces.{HeldPlaces}
use Rattle.bk_store.proofs.Noted.{last_of}
use Rattle.bk_store.proofs.places.FlushPlaces.last.Goals as goal

pub returns-in_err-key : goal.returns-in_err-key
returns-in_err-key c =
    c.from_residual.ensures ∙ ap (option_map (λ e. e.0)) (c.in_err-key.ensures.value ∙ ap (λ es. slice_get es (length es - 1)) c.deref.ensures.value)
    ∙ last_of c.self.inside.pairs.items c.args.self.now.places c.self.invariant (ap (λ (p : HeldPlaces). p.places) c.self.view_is)

pub returns : goal.returns
returns c =
    ap (option_map (λ e. e.0)) (c.in_ok-key.ensures.value ∙ ap (λ es. slice_get es (length es - 1)) c.deref.ensures.value)
    ∙ last_of c.self.inside.pairs.items c.args.self.now.places c.self.invariant (ap (λ (p : HeldPlaces). p.places) c.self.view_is)
