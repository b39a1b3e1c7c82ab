use Rattle.std.proofs.Common.{sym, ap, ◌∙◌}
use Rattle.std.specs.FinMap.{get}
use Rattle.bk_accounts.proofs.Maps.{get-found}
use Rattle.bk_accounts.proofs.Books.{answered}
use Rattle.bk_accounts.proofs.accounts.Accounts.account.Goals as goal

pub returns : goal.returns
returns c =
    let found = ap (λ b. get b c.args.log) (sym c.self.view_is) ∙ get-found c.self.inside.logs.entries c.args.log _ c.get.ensures.value in
    let answers = answered c.args.self.now c.args.log c.get.result c.ok_or.result found c.ok_or.ensures.value in
    record { «open» = answers.«open»; closed = answers.closed }
