use Rattle.std.proofs.Common.{sym, ◌∙◌}
use Rattle.bk_store.proofs.IndexedEntry.{can_index}
use Rattle.bk_store.proofs.fields.Fields.index_placed.Goals as goal

pub unreachable-requires : goal.unreachable-requires
unreachable-requires g c = let wrong = c.in_default.ensures ∙ c.requires.may.at in cc

pub index_entry-requires-clause-may : goal.index_entry-requires-clause-may
index_entry-requires-clause-may g c κs within = can_index c.args.self.now.state c.args.number c.requires.may _ _ (sym c.in-Some.ensures)

pub returns : goal.returns
returns g c = record {
  turn = record { key = _; place = _; at = sym c.in-Some.ensures; indexed = c.index_entry.ensures.transition };
  beside = c.index_entry.ensures.internals;
}
