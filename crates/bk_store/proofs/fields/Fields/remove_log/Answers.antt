use Rattle.std.proofs.Common.{Some, sym, ap, ◌∙◌}
use Rattle.bk_store.proofs.Leased.{remove_closed}
use Rattle.bk_store.proofs.fields.Fields.remove_log.Goals as goal

pub free-requires : goal.free-requires
free-requires g c =
    remove_closed _ c.args.self.now c.self.view_is c.requires.keeps c.args.log _
    (sym c.in-Some.ensures ∙ ap (λ l. Some l) (sym c.held.view_is)) c.requires.closed
