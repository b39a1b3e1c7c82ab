use Rattle.std.proofs.Common.{rules, map, codes, sym, ◌∙◌}
use Rattle.std.proofs.lemmas.Bool.{false≢true}
use Rattle.clap.specs.Matches.{found_of}
use Rattle.clap.specs.Simple.{app_of}
use Rattle.clap.specs.Walk.{rows_of}
use Rattle.bk_cli.proofs.CommandLines.{taken, rows_met, pair_in, name_in, asked_by, unrecorded_by, unhinted_by, refused_by, refused_by_parse, refused_for_memory}
use Rattle.bk_cli.proofs.script.script_call.Goals as goal

pub returns-in_err-matches-clause-refused : goal.returns-in_err-matches-clause-refused
returns-in_err-matches-clause-refused g c =
    refused_by_parse _ (map g.S.AsStr.text c.args.words.now) (app_of c.in_ok-command.command) c.in_err-matches.field-0.0 c.in_ok-command.ensures
    c.from_residual-in_err-matches.ensures.1 c.in_err-matches.ensures.kinds

pub returns-in_err-error-clause-refused : goal.returns-in_err-error-clause-refused
returns-in_err-error-clause-refused g c = refused_for_memory _ (map g.S.AsStr.text c.args.words.now) c.from_residual-in_err-error.ensures.1

pub returns-in_default-clause-refused : goal.returns-in_default-clause-refused
returns-in_default-clause-refused g c = λ over settings dead asks.
    let words = map g.S.AsStr.text c.args.words.now in
    let met = rows_met (app_of c.in_ok-command.command) words c.in_ok-matches.matches c.in_ok-command.ensures c.in_ok-matches.ensures.ok.2 in
    absurd (false≢true (c.in_default.ensures.found.1 (name_in _ (codes "script") asks.rows (met ∙ asks.called))))

pub returns-clause-asked : goal.returns-clause-asked
returns-clause-asked g c =
    let words = map g.S.AsStr.text c.args.words.now in
    let app = app_of c.in_ok-command.command in
    let rows = rows_of (found_of c.in-Some.script.now) in
    let met = rows_met app words c.in_ok-matches.matches c.in_ok-command.ensures c.in_ok-matches.ensures.ok.2 in
    let called = sym met ∙ pair_in _ (codes "script") rows (c.in-Some.ensures.found.0 (search rules)) c.in-Some.ensures.rows in
    asked_by words rows called (taken app words c.in_ok-command.ensures c.in_ok-matches.ensures.kinds) c.read_script.result
    c.read_script.ensures.asked c.read_script.ensures.over c.read_script.ensures.ledgers

pub returns-clause-unrecorded : goal.returns-clause-unrecorded
returns-clause-unrecorded g c =
    let words = map g.S.AsStr.text c.args.words.now in
    let rows = rows_of (found_of c.in-Some.script.now) in
    let met = rows_met (app_of c.in_ok-command.command) words c.in_ok-matches.matches c.in_ok-command.ensures c.in_ok-matches.ensures.ok.2 in
    let called = sym met ∙ pair_in _ (codes "script") rows (c.in-Some.ensures.found.0 (search rules)) c.in-Some.ensures.rows in
    unrecorded_by words rows called c.read_script.result c.read_script.ensures.unrecorded

pub returns-clause-unhinted : goal.returns-clause-unhinted
returns-clause-unhinted g c =
    let words = map g.S.AsStr.text c.args.words.now in
    let rows = rows_of (found_of c.in-Some.script.now) in
    let met = rows_met (app_of c.in_ok-command.command) words c.in_ok-matches.matches c.in_ok-command.ensures c.in_ok-matches.ensures.ok.2 in
    let called = sym met ∙ pair_in _ (codes "script") rows (c.in-Some.ensures.found.0 (search rules)) c.in-Some.ensures.rows in
    unhinted_by words rows called c.read_script.result c.read_script.ensures.unhinted

pub returns-clause-refused : goal.returns-clause-refused
returns-clause-refused g c =
    let words = map g.S.AsStr.text c.args.words.now in
    let rows = rows_of (found_of c.in-Some.script.now) in
    let met = rows_met (app_of c.in_ok-command.command) words c.in_ok-matches.matches c.in_ok-command.ensures c.in_ok-matches.ensures.ok.2 in
    let called = sym met ∙ pair_in _ (codes "script") rows (c.in-Some.ensures.found.0 (search rules)) c.in-Some.ensures.rows in
    refused_by words rows called c.read_script.result c.read_script.ensures.refused
