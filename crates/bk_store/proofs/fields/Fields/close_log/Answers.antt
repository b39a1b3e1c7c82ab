use Rattle.std.proofs.Common.{Some, sym, ap, ◌∙◌}
use Rattle.bk_store.proofs.Leased.{close_open, log_closed}
use Rattle.bk_store.proofs.fields.Fields.close_log.Goals as goal

pub close-requires : goal.close-requires
close-requires g c =
    close_open _ c.args.self.now c.self.view_is c.requires.keeps c.args.log _ (sym c.in-Some.ensures ∙ ap (λ l. Some l) (sym c.held.view_is)) c.requires.retired

pub returns-clause-transition : goal.returns-clause-transition
returns-clause-transition g c =
    let held = sym c.in-Some.ensures ∙ ap (λ l. Some l) (sym c.held.view_is) in
    log_closed _ c.args.self.now c.self.view_is c.requires.keeps c.args.log _ held c.requires.retired c.end_writing.new.self c.close.new.self
    (c.end_writing.ensures.logs _ held) c.in_ok-close.ensures.closed c.in_ok-close.ensures.unleased
