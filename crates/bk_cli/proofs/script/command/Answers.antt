use Rattle.std.proofs.Common.{◌≡◌, true, codes, ap, ap₂, ◌∙◌}
use Rattle.std.proofs.lemmas.Result.{IfOk-weaker}
use Rattle.clap.specs.Walk.{rule_of}
use Rattle.clap.specs.declared.builder.command.Command.{Command}
use Rattle.clap.specs.declared.builder.command.Command.TheOpen.{Command-F}
use Rattle.clap.specs.Simple.{App, app_of, app_of_fields, new_app, on_top, with_rule, with_subcommand}
use Rattle.bk_cli.specs.CommandLine.{flag_rule, option_rule, words_rule, script}
use Rattle.bk_cli.proofs.CommandLines.{still_local}
use Rattle.bk_cli.proofs.script.command.Goals as goal

pub returns : goal.returns
returns c =
    let log_limit_is : rule_of c.arg.result ≡ option_rule (codes "log-limit") = c.arg.ensures.rule in
    let cache_limit_is : rule_of c.arg-3.result ≡ option_rule (codes "cache-limit") = c.arg-3.ensures.rule in
    let recent_is : rule_of c.arg-5.result ≡ option_rule (codes "recent") = c.arg-5.ensures.rule in
    let slots_is : rule_of c.arg-7.result ≡ option_rule (codes "slots") = c.arg-7.ensures.rule in
    let leases_is : rule_of c.arg-9.result ≡ option_rule (codes "leases") = c.arg-9.ensures.rule in
    let minor_is : rule_of c.arg-11.result ≡ option_rule (codes "minor") = c.arg-11.ensures.rule in
    let major_is : rule_of c.arg-13.result ≡ option_rule (codes "major") = c.arg-13.ensures.rule in
    let folder_is : rule_of c.folder_arg.result ≡ option_rule (codes "folder") = c.folder_arg.ensures.rule in
    let no_manifest_is : rule_of c.no_manifest_arg.result ≡ flag_rule (codes "no-manifest") = c.no_manifest_arg.ensures.rule in
    let no_hints_is : rule_of c.no_hints_arg.result ≡ flag_rule (codes "no-hints") = c.no_hints_arg.ensures.rule in
    let ledgers_is : rule_of c.ledgers_arg.result ≡ words_rule (codes "LEDGER") = c.ledgers_arg.ensures.rule in
    let new_is : app_of c.after_help.result ≡ new_app (codes "script") =
    ap app_of_fields c.after_help.ensures ∙ (ap app_of_fields c.about.ensures ∙ c.new.ensures.app) in
    let script_is : app_of c.in_ok-script.script ≡ script = c.in_ok-script.ensures.shape c.ledgers_arg.ensures.local
    ∙ ap₂ with_rule (c.in_ok-arg-10.ensures.shape c.no_hints_arg.ensures.local
    ∙ ap₂ with_rule (c.in_ok-arg-9.ensures.shape c.no_manifest_arg.ensures.local
    ∙ ap₂ with_rule (c.in_ok-arg-8.ensures.shape c.folder_arg.ensures.local
    ∙ ap₂ with_rule (c.in_ok-arg-7.ensures.shape c.arg-13.ensures.local
    ∙ ap₂ with_rule (c.in_ok-arg-6.ensures.shape c.arg-11.ensures.local
    ∙ ap₂ with_rule (c.in_ok-arg-5.ensures.shape c.arg-9.ensures.local
    ∙ ap₂ with_rule (c.in_ok-arg-4.ensures.shape c.arg-7.ensures.local
    ∙ ap₂ with_rule (c.in_ok-arg-3.ensures.shape c.arg-5.ensures.local
    ∙ ap₂ with_rule (c.in_ok-arg-2.ensures.shape c.arg-3.ensures.local
    ∙ ap₂ with_rule (c.in_ok-arg.ensures.shape c.arg.ensures.local ∙ ap₂ with_rule new_is log_limit_is) cache_limit_is) recent_is) slots_is)
    leases_is) minor_is) major_is) folder_is) no_manifest_is) no_hints_is) ledgers_is in
    let top_is : app_of c.subcommand_required.result ≡ on_top (λ shape. record shape { subcommand_required = true }) (new_app (codes "bookie")) =
    ap app_of_fields c.subcommand_required.ensures ∙ ap (on_top (λ shape. record shape { subcommand_required = true }))
    (ap app_of_fields c.after_help-2.ensures ∙ (ap app_of_fields c.about-2.ensures ∙ (ap app_of_fields c.in_ok-bin_name.ensures.0 ∙ c.new-2.ensures.app))) in
    let local = λ (fields : Command-F Command). fields.has_globals in
    let script_local = still_local c.in_ok-script.ensures.globals (still_local c.in_ok-arg-10.ensures.globals (still_local c.in_ok-arg-9.ensures.globals (still_local c.in_ok-arg-8.ensures.globals
    (still_local c.in_ok-arg-7.ensures.globals
    (still_local c.in_ok-arg-6.ensures.globals (still_local c.in_ok-arg-5.ensures.globals (still_local c.in_ok-arg-4.ensures.globals
    (still_local c.in_ok-arg-3.ensures.globals (still_local c.in_ok-arg-2.ensures.globals (still_local c.in_ok-arg.ensures.globals
    (ap local c.after_help.ensures ∙ (ap local c.about.ensures ∙ c.new.ensures.local))
    c.arg.ensures.local) c.arg-3.ensures.local) c.arg-5.ensures.local) c.arg-7.ensures.local) c.arg-9.ensures.local) c.arg-11.ensures.local)
    c.arg-13.ensures.local) c.folder_arg.ensures.local) c.no_manifest_arg.ensures.local) c.no_hints_arg.ensures.local) c.ledgers_arg.ensures.local in
    IfOk-weaker c.subcommand.result _ _ (λ command added.
    added.shape script_local ∙ ap₂ with_subcommand top_is (ap (λ (app : App). app.top) script_is)) c.subcommand.ensures
