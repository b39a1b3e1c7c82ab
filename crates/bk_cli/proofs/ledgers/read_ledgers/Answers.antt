use Rattle.std.proofs.Common.{ℕ, List, Option, IfOk, MatchResult, codes, sym, subst}
use Rattle.clap.specs.Matches.{found_of}
use Rattle.clap.specs.Walk.{Text}
use Rattle.bk_cli.specs.CommandLine.{AsksLedgers}
use Rattle.bk_cli.proofs.CommandLines.{words_none, words_some}
use Rattle.bk_cli.proofs.ledgers.read_ledgers.Goals as goal

pub returns-in-Some : goal.returns-in-Some
returns-in-Some c =
    let some = words_some (found_of c.args.matches.now) (codes "LEDGER") _ c.in-Some.words c.get_strs.ensures c.in-Some.is in
    subst (λ (words : Option (List Text)). IfOk c.ledgers_of.result (λ r. MatchResult r (λ dead. AsksLedgers words dead.items)
    (λ x. (dead : List ℕ) → ¬ (AsksLedgers words dead)))) (sym some) c.ledgers_of.ensures

pub returns-in-None : goal.returns-in-None
returns-in-None c =
    let none = words_none (found_of c.args.matches.now) (codes "LEDGER") _ c.get_strs.ensures c.in-None.is in
    subst (λ (words : Option (List Text)). AsksLedgers words c.new.result.items) (sym none) c.new.ensures.items
