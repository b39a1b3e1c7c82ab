use Rattle.std.proofs.Common.{◌<◌, ◌^◌, length, subst, sym, arith}
use Rattle.std.specs.FinMap as map
use Rattle.bk_accounts.specs.Book.{Book}
use Rattle.bk_store.proofs.OpenedSums.{IsNaming, naming_many, naming_passed}
use Rattle.bk_store.proofs.open.tally.name_each.Goals as goal

pub name_many-requires : goal.name_many-requires
name_many-requires c =
    let few : length (map.entries c.args.index.now) < 2 ^ 64 = omega (arith, map.len-entries c.args.index.now, c.len-keys.ensures) in
    naming_many c.loop-log.accounts c.in-Some.log c.in-Some.count c.in-Some.ensures.some c.loop-log.invariant few

pub loop-log-preserved : goal.loop-log-preserved
loop-log-preserved c =
    subst (λ (now : Book). IsNaming (map.entries c.args.index.now) c.args.accounts.now c.pass_log.new.self now) (sym c.name_many.ensures)
    (naming_passed c.loop-log.accounts c.in-Some.log c.in-Some.count c.in-Some.ensures.some c.loop-log.invariant)
