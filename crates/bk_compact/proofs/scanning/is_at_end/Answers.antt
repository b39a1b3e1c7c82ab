use Rattle.std.proofs.Common.{◌≡◌, ℕ, Some, IsTrue, sym, ap, subst, ◌∙◌}
use Rattle.bk_store.specs.Logs.{View, view_of, last_view}
use Rattle.bk_compact.specs.Fronts.{TellsEnd}
use Rattle.bk_log.specs.Growing.{HasNoBadLength}
use Rattle.bk_store.specs.JobInvariant.{IsReadTo, entries_from}
use Rattle.bk_compact.proofs.Ends.{told_left, end_ok, end_fails}
use Rattle.bk_compact.proofs.scanning.is_at_end.Goals as goal

pub returns-clause-ok : goal.returns-clause-ok
returns-clause-ok g c =
    let s = c.args.store.now in
    let job = c.args.job.now in
    let view : View = view_of g.D.View.LogView.bytes g.D.View.LogView.honest g.D.View.LogView.sound c.deref.result.now in
    let last : last_view s.logs job.source ≡ Some view =
    subst (λ (n : ℕ). last_view s.logs n ≡ Some view) c.source.ensures
    (sym c.in-Some.ensures ∙ ap (λ v. Some (view_of g.D.View.LogView.bytes g.D.View.LogView.honest g.D.View.LogView.sound v)) (sym c.deref.ensures)) in
    let turn = subst (λ (n : ℕ). IsTrue view.is_honest → IsReadTo view.bytes n → HasNoBadLength view.bytes → TellsEnd (entries_from view.bytes n) c.is_end.result)
    c.at.ensures c.is_end.ensures.transition in
    end_ok s job c.is_end.result (told_left view s c.reveal_invariant.ensures job c.requires last c.is_end.result turn)

pub returns-clause-fails : goal.returns-clause-fails
returns-clause-fails g c =
    let s = c.args.store.now in
    let job = c.args.job.now in
    let view : View = view_of g.D.View.LogView.bytes g.D.View.LogView.honest g.D.View.LogView.sound c.deref.result.now in
    let last : last_view s.logs job.source ≡ Some view =
    subst (λ (n : ℕ). last_view s.logs n ≡ Some view) c.source.ensures
    (sym c.in-Some.ensures ∙ ap (λ v. Some (view_of g.D.View.LogView.bytes g.D.View.LogView.honest g.D.View.LogView.sound v)) (sym c.deref.ensures)) in
    let turn = subst (λ (n : ℕ). IsTrue view.is_honest → IsReadTo view.bytes n → HasNoBadLength view.bytes → TellsEnd (entries_from view.bytes n) c.is_end.result)
    c.at.ensures c.is_end.ensures.transition in
    end_fails view s job last c.is_end.result (told_left view s c.reveal_invariant.ensures job c.requires last c.is_end.result turn) c.is_end.ensures.cause
