use Rattle.std.proofs.Common.{◌≡◌, ap, ◌∙◌}
use Rattle.bk_record.specs.Files.{header_length}
use Rattle.bk_log.specs.Writing.{Writing}
use Rattle.bk_cache.proofs.Options.{IfSome-from_map}
use Rattle.bk_store.specs.Primitives.{writer_of}
use Rattle.bk_store.proofs.HeldWriters.{empty_writer}
use Rattle.bk_store.proofs.store.Store.writer.Goals as goal

pub returns-clause-empty : goal.returns-clause-empty
returns-clause-empty g c =
    IfSome-from_map (λ b. b.now) (λ (w : Writing). w.count ≡ 0 → w.end ≡ header_length) c.writer.result _
    (c.writer.ensures ∙ ap (λ p. writer_of p.fields.state.logs c.args.id) c.self-inside.view_is)
    (λ w is. empty_writer c.self.inside.fields c.self.invariant.fits c.args.id w is)
