use Rattle.std.proofs.Common.{rules}
use Rattle.bk_offline_gc.proofs.NoKeys.{no_key_names}
use Rattle.bk_offline_gc.proofs.planning.verdict_of.Goals as goal

pub returns-then-named-eq0 : goal.returns-then-named-eq0
returns-then-named-eq0 g c = (search rules, no_key_names c.args.store.now c.args.log (search rules))
