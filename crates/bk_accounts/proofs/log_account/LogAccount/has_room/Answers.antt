use Rattle.std.proofs.Common.{◌≡◌, Some, is_some, ap, sym, ◌∙◌}
use Rattle.std.specs.FinMap.{get, from_entries, contains_key}
use Rattle.bk_accounts.specs.Parts.{with_last}
use Rattle.bk_accounts.proofs.Maps.{get-entries}
use Rattle.bk_accounts.proofs.LastCounts.{room_of_last, room_of_other}
use Rattle.bk_accounts.proofs.log_account.LogAccount.has_room.Goals as goal
use Rattle.bk_accounts.proofs.log_account.LogAccount.has_room.Goals.{in_default-via-in-Some+else-held-ledger, in_default-via-in_default}

pub returns-in-Some : goal.returns-in-Some
returns-in-Some c =
    let parts = from_entries c.self.inside.parts.entries in
    let last : c.self.inside.last ≡ Some (c.args.ledger, c.in-Some.field-0-1) = c.in-Some.is ∙ ap (λ n. Some (n, c.in-Some.field-0-1)) c.if-held-ledger.true in
    sym (ap (λ l. contains_key (with_last parts l) c.args.ledger) last ∙ room_of_last parts c.args.ledger c.in-Some.field-0-1)
    ∙ ap (λ a. is_some (get a.live c.args.ledger)) c.self.view_is

pub returns-in_default : goal.returns-in_default
returns-in_default c =
    let parts = from_entries c.self.inside.parts.entries in
    let same : contains_key (with_last parts c.self.inside.last) c.args.ledger ≡ contains_key parts c.args.ledger = elim c.in_default.branch [
      | in_default-via-in-Some+else-held-ledger w ↦
          ap (λ l. contains_key (with_last parts l) c.args.ledger) w.in-Some.is
          ∙ room_of_other parts w.in-Some.held w.in-Some.field-0-1 c.args.ledger w.if-held-ledger.false
      | in_default-via-in_default w ↦ ap (λ l. contains_key (with_last parts l) c.args.ledger) w.in_default.is
    ] in
    c.contains_key.ensures ∙ ap is_some (sym (get-entries c.self.inside.parts.entries c.args.ledger)) ∙ sym same
    ∙ ap (λ a. is_some (get a.live c.args.ledger)) c.self.view_is
