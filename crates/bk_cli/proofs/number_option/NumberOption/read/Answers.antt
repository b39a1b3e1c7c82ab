use Rattle.std.proofs.Common.{Option, refl, sym, subst}
use Rattle.clap.specs.Matches.{found_of}
use Rattle.clap.specs.Walk.{Text}
use Rattle.bk_cli.specs.CommandLine.{AsksNumber}
use Rattle.bk_cli.proofs.CommandLines.{row_none, row_some}
use Rattle.bk_cli.proofs.number_option.NumberOption.read.Goals as goal

pub returns-in_default-clause-ok : goal.returns-in_default-clause-ok
returns-in_default-clause-ok c =
    let option = c.args.self.now in
    let none = row_none (found_of c.args.matches.now) option.name.now _ c.get_str.ensures c.in_default.is in
    subst (λ (value : Option Text). AsksNumber option.default option.least option.most value option.default) (sym none) refl

pub returns-in-Some-number_between-clause-ok : goal.returns-in-Some-number_between-clause-ok
returns-in-Some-number_between-clause-ok c =
    let option = c.args.self.now in
    let some = row_some (found_of c.args.matches.now) option.name.now _ c.in-Some.text c.get_str.ensures c.in-Some.is in
    subst (λ (value : Option Text). AsksNumber option.default option.least option.most value c.in-Some-number_between.number)
    (sym some) c.in-Some-number_between.ensures.value

pub returns-in-None-clause-err : goal.returns-in-None-clause-err
returns-in-None-clause-err c = λ n asks.
    let option = c.args.self.now in
    let some = row_some (found_of c.args.matches.now) option.name.now _ c.in-Some.text c.get_str.ensures c.in-Some.is in
    c.in-None.ensures.none n (subst (λ (value : Option Text). AsksNumber option.default option.least option.most value n) some asks)
