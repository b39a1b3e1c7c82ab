use Rattle.std.proofs.Common.{codes, sym, ◌∙◌}
use Rattle.clap.specs.Matches.{found_of}
use Rattle.clap.proofs.WalkLemmas.{first_value-rows}
use Rattle.bk_cli.proofs.folder_option.read_folder.Goals as goal

pub returns : goal.returns
returns c = sym (c.get_str.ensures ∙ first_value-rows (found_of c.args.matches.now) (codes "folder"))
