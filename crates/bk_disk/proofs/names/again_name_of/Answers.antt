use Rattle.std.proofs.Common.{append_assoc, codes, rules}
use Rattle.bk_disk.specs.Names.{id_text}
use Rattle.bk_disk.proofs.names.again_name_of.Goals as goal

pub returns : goal.returns
returns c = rw (append_assoc (id_text c.args.log) (codes ".log") (codes ".again")) (search rules)
