use Rattle.std.proofs.Common.{List, ℕ, refl, subst}
use Rattle.std.specs.Prelude.{Err}
use Rattle.bk_manifest.specs.Fact.{attribute}
use Rattle.bk_serve.specs.Ledgers.SetAnswers.{unnoted}
use Rattle.bk_serve.specs.Notes.{NoteTransition}
use Rattle.bk_serve.proofs.attributes.set_attribute.Goals as goal

pub returns-in_default : goal.returns-in_default
returns-in_default g c = unnoted refl (tt, record { honest = refl; same = λ _. refl; sure = λ is. is })

pub returns-in-Err : goal.returns-in-Err
returns-in-Err g c =
    unnoted refl (subst (λ (v : List ℕ). NoteTransition (attribute c.args.ledger c.args.kind v) c.args.notes.now (Err c.in-Err.refusal) c.note.new.notes) c.in-Ok.ensures.items c.in-Err.ensures)
