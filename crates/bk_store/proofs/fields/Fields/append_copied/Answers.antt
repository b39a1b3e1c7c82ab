use Rattle.std.proofs.Common.{◌+◌, ◌<◌, ◌^◌, IfSome, length, refl, sym, subst}
use Rattle.bk_accounts.specs.Book.{total_in}
use Rattle.bk_store.proofs.Written.{total_fits, may_put}
use Rattle.bk_store.proofs.CopyTransitions.{copy_roomy, copied_turn, uncopied_turn}
use Rattle.bk_store.proofs.fields.Fields.append_copied.Goals as goal

pub put-requires-clause-may : goal.put-requires-clause-may
put-requires-clause-may g c = λ κs lives.
    may_put _ c.args.log c.args.payload.now c.args.payload.now
    (copy_roomy _ c.args.self.now c.self.view_is c.requires.keeps c.args.log c.args.key c.args.payload.now c.requires.may) refl

pub count-requires-clause-fits : goal.count-requires-clause-fits
count-requires-clause-fits g c =
    let is = copy_roomy _ c.args.self.now c.self.view_is c.requires.keeps c.args.log c.args.key c.args.payload.now c.requires.may in
    subst (λ b. IfSome (total_in b c.args.log) (λ total. total + (length c.args.payload.now + 4) < 2 ^ 32)) (sym c.in-Ok.ensures.ok)
    (total_fits _ c.args.log c.ledger.result (length c.args.payload.now + 4) c.args.payload.now is refl)

pub returns-in-Ok-put-clause-transition : goal.returns-in-Ok-put-clause-transition
returns-in-Ok-put-clause-transition g c =
    let is = copy_roomy _ c.args.self.now c.self.view_is c.requires.keeps c.args.log c.args.key c.args.payload.now c.requires.may in
    copied_turn _ c.args.self.now c.self.view_is c.args.log c.args.key c.args.payload.now is _ _ _ _ c.put.ensures.honest c.in-Ok-put.location
    (c.in-Ok-put.ensures.logs is.log is.w is.held is.writer) (c.in-Ok-put.ensures.place is.log is.w is.held is.writer)
    c.in-Ok-put.ensures.cause (λ honest. c.in-Ok-put.ensures.transition is.log is.w is.held is.writer honest)

pub returns-in-Err-clause-transition : goal.returns-in-Err-clause-transition
returns-in-Err-clause-transition g c =
    let is = copy_roomy _ c.args.self.now c.self.view_is c.requires.keeps c.args.log c.args.key c.args.payload.now c.requires.may in
    uncopied_turn _ c.args.self.now c.self.view_is c.args.log c.args.key c.args.payload.now is _ _ _ _ c.put.ensures.honest c.in-Err.fault
    (c.in-Err.ensures.logs is.log is.w is.held is.writer) (c.in-Err.ensures.place is.log is.w is.held is.writer)
    c.in-Err.ensures.cause (λ honest. c.in-Err.ensures.transition is.log is.w is.held is.writer honest)
