use Rattle.std.proofs.Common.{codes, sym, ◌∙◌}
use Rattle.clap.specs.Matches.{found_of}
use Rattle.clap.proofs.WalkLemmas.{one_text-rows}
use Rattle.bk_cli.proofs.CommandLines.{flag_read}
use Rattle.bk_cli.proofs.folder_option.read_no_hints.Goals as goal

pub returns : goal.returns
returns c =
    let same = one_text-rows (found_of c.args.matches.now) (codes "no-hints") in
    flag_read _ _ (λ none. c.get_flag.ensures.none (same ∙ none)) (λ is. c.get_flag.ensures.value (same ∙ is)) (λ is. c.get_flag.ensures.other (same ∙ is))
