use Rattle.std.proofs.Common.{Some, sym, ap, subst, ◌∙◌}
use Rattle.std.specs.Option.{option_map}
use Rattle.bk_store.specs.Logs.{view_of}
use Rattle.bk_store.specs.Leasing.{IsLeaseOf}
use Rattle.bk_store.proofs.Leased.{pin_open, lease_given}
use Rattle.bk_store.proofs.fields.Fields.lease.Goals as goal

pub pin-requires : goal.pin-requires
pin-requires g c =
    pin_open _ c.args.self.now c.self.view_is c.requires.keeps c.args.log _ (sym c.in-Some.ensures ∙ ap (λ l. Some l) (sym c.held.view_is)) c.requires.shown

pub returns-in-Ok-pin-clause-transition : goal.returns-in-Ok-pin-clause-transition
returns-in-Ok-pin-clause-transition g c =
    let seen = view_of g.D.View.LogView.bytes g.D.View.LogView.honest g.D.View.LogView.sound in
    let given = lease_given _ c.args.self.now c.self.view_is c.requires.keeps c.args.log _
    (sym c.in-Some.ensures ∙ ap (λ l. Some l) (sym c.held.view_is)) c.requires.shown c.pin.new.self c.in-Ok-pin.seat (seen c.in-Ok.view.value)
    c.in-Ok-pin.ensures.given c.in-Ok-pin.ensures.ok c.in-Ok-pin.ensures.room
    (ap (option_map (λ v. seen v.value)) c.in-Some-view.is ∙ ap (λ v. Some (seen v)) (sym c.in-Ok.ensures.cases)) in (
      subst (λ r. IsLeaseOf c.args.self.now.state.keeper c.args.self.now.state.logs c.args.log r.ticket (seen r.view)) (sym c.of.ensures) given.0,
      given.1,
    )
