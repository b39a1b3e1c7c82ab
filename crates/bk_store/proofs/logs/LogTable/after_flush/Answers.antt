use Rattle.std.proofs.Common.{is_some, take, get_or, sym, ap, subst, refl, ◌∙◌, [], ◌∷◌, ◌++◌}
use Rattle.std.specs.Option.{option_copied_mut}
use Rattle.std.specs.FinMap as map
use Rattle.bk_accounts.proofs.Maps.{get-found}
use Rattle.bk_store.specs.Logs.{Logs, state_after_flush}
use Rattle.bk_store.proofs.Ledgers.{one_more}
use Rattle.bk_store.proofs.Tables.{lent_at, changed_at}
use Rattle.bk_store.proofs.FlushLogs.{ChangedSoFar, unfilling, log_met, none_there, all_over}
use Rattle.bk_store.proofs.logs.LogTable.after_flush.Goals as goal
use Rattle.bk_store.proofs.logs.LogTable.after_flush.Goals.{in-Some, in_default}

pub loop-id-preserved : goal.loop-id-preserved
loop-id-preserved g c =
    let old : Logs = map.from_entries c.self.inside.logs.entries in
    let table : Logs = map.from_entries c.loop-id.self-inside.logs.entries in
    let front = take c.loop-id.id-index c.args.ids.now in
    let key = get_or c.args.ids.now c.loop-id.id-index 0 in
    let more = one_more c.args.ids.now c.loop-id.id-index c.loop-id-test.true in
    elim c.match-get_mut.branch [
      | in-Some w ↦
          let found = lent_at c.loop-id.self-inside.logs table key refl c.get_mut.result w.in-Some.log c.get_mut.ensures.value w.in-Some.is in
          let now = ap (λ s. map.from_entries s.logs.entries) w.self-inside-is
          ∙ changed_at c.loop-id.self-inside.logs table key refl (c.get_mut.follows.lender w.after_flush.new.self) w.after_flush.new.self
          (c.get_mut.follows.holds w.after_flush.new.self) (ap is_some found)
          ∙ ap (map.insert table key) w.after_flush.ensures in
          subst (λ ids. ChangedSoFar state_after_flush old (map.from_entries c.match-get_mut.self-inside.logs.entries) ids) (sym more)
          (subst (λ m. ChangedSoFar state_after_flush old m (front ++ key ∷ [])) (sym now)
          (log_met state_after_flush unfilling old table front c.loop-id.invariant key w.in-Some.log.now found))
      | in_default w ↦
          let none = get-found c.loop-id.self-inside.logs.entries key _ c.get_mut.ensures.value ∙ ap option_copied_mut w.in_default.is in
          let now = ap (λ s. map.from_entries s.logs.entries) w.self-inside-is ∙ ap (λ m. map.from_entries m.entries) c.get_mut.follows.holds-at-none in
          subst (λ ids. ChangedSoFar state_after_flush old (map.from_entries c.match-get_mut.self-inside.logs.entries) ids) (sym more)
          (subst (λ m. ChangedSoFar state_after_flush old m (front ++ key ∷ [])) (sym now)
          (none_there state_after_flush unfilling old table front c.loop-id.invariant key none))
    ]

pub returns : goal.returns
returns g c =
    all_over state_after_flush unfilling (map.from_entries c.self.inside.logs.entries) c.args.self.now
    (map.from_entries c.loop-id.self-inside.logs.entries) c.args.ids.now
    c.loop-id.id-index c.self.view_is c.loop-id-test.false c.loop-id.invariant c.requires
