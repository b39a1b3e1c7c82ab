use Rattle.std.proofs.Common.{ℕ, BTreeMap, Option, option_map, sym, subst}
use Rattle.bk_head.specs.Ledgers.{map_of}
use Rattle.bk_inspect.specs.Maps.{IsMapIn}
use Rattle.bk_inspect.proofs.quick.outline_in.Goals as goal

pub returns-in-Ok-Some : goal.returns-in-Ok-Some
returns-in-Ok-Some g c = λ honest. (
  map_of c.in-Ok-Some.field-0-0,
  subst (λ (o : Option (BTreeMap ℕ ℕ)). IsMapIn (g.V.LogView.bytes c.args.view.now) c.args.header.now (option_map map_of o)) c.in-Ok-Some.field-0-is
      (c.in-Ok-Some.ensures.ok honest),
)
