use Rattle.std.proofs.Common.{◌≡◌, List, Option, Some, None, arith, codes, map, option_map, sym, subst, ◌∙◌}
use Rattle.clap.specs.Walk.{Text}
use Rattle.bk_cli.specs.CommandLine.{Asks}
use Rattle.bk_cli.proofs.CommandLines.{one_folder}
use Rattle.bk_commands.proofs.program.run_words.Goals as goal

none_is_none : {path : Text} {A : Type 0} → None ≡ Some path → A
none_is_none e = cc

pub returns-in-None-clause-done : goal.returns-in-None-clause-done
returns-in-None-clause-done g c = λ asked named asks ended.
    (c.in-Ok.call.settings, c.in-Ok.call.dead.items, rw c.in-None.is at c.in-Ok.ensures.asked, c.run_in_memory.ensures.done ended)

pub returns-in-None-clause-folder : goal.returns-in-None-clause-folder
returns-in-None-clause-folder g c = λ path asked named asks ended.
    none_is_none (one_folder (rw c.in-None.is at c.in-Ok.ensures.asked) asks)

pub returns-in-Ok-clause-done : goal.returns-in-Ok-clause-done
returns-in-Ok-clause-done g c = λ asked named asks ended.
    none_is_none (sym (one_folder (rw c.in-Some.is at c.in-Ok.ensures.asked) asks))

pub returns-in-Ok-clause-folder : goal.returns-in-Ok-clause-folder
returns-in-Ok-clause-folder g c = λ path asked named asks ended.
    let found = rw c.in-Some.is at c.in-Ok.ensures.asked in (
      c.in-Ok.call.settings,
      c.in-Ok.call.dead.items,
      subst (λ (over : Option Text). Asks (map g.S.AsStr.text c.args.words.now) over c.in-Ok.call.settings c.in-Ok.call.dead.items)
          (one_folder found asks) found,
      c.run_over_folder.ensures.done ended,
    )

pub returns-clause-done : goal.returns-clause-done
returns-clause-done g c = λ asked named asks ended. absurd (omega (arith, ended, c.run_other.ensures (c.in-Err.ensures.refused None asked named asks)))

pub returns-clause-folder : goal.returns-clause-folder
returns-clause-folder g c = λ path asked named asks ended.
    absurd (omega (arith, ended, c.run_other.ensures (c.in-Err.ensures.refused (Some path) asked named asks)))

pub returns-clause-right : goal.returns-clause-right
returns-clause-right g c = λ over asked named asks. omega (arith, c.run_other.ensures (c.in-Err.ensures.refused over asked named asks))
