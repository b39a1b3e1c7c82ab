use Rattle.std.proofs.Common.{inl, sym, ap, subst, take, ◌∙◌}
use Rattle.bk_crash.specs.Leaving.{IsBegun, IsSpoiled}
use Rattle.bk_crash.proofs.Leaving.{spoiled_in_place}
use Rattle.bk_crash.proofs.written_log.WrittenLog.begun.Goals as goal
use Rattle.bk_crash.proofs.written_log.WrittenLog.begun.Goals.{then-self, else-self}

pub returns : goal.returns
returns g c =
    let log = c.args.self.now in
    let least = c.args.least in
    let first = c.in_ok-bytes.ensures in
    let same = first.2 ∙ ap (take first.0) (c.deref.ensures.value ∙ ap (λ l. l.bytes) c.self.view_is) in
    elim c.if-self.branch [
      | then-self w ↦ subst (λ v. IsBegun log least v.items) (sym w.bytes-is)
          (spoiled_in_place log least first.0 c.in_ok-bytes.bytes w.spoil.new.file first.1 same
          (subst (λ file. IsSpoiled file w.spoil.new.file) w.deref_mut.ensures.value w.spoil.ensures))
      | else-self w ↦ subst (λ v. IsBegun log least v.items) (sym w.bytes-is) (first.0, first.1, inl same)
    ]
