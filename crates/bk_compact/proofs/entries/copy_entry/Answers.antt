use Rattle.std.proofs.Common.{List, ℕ, IsTrue, inl, inr, sym, subst}
use Rattle.bk_log.specs.Places.{HasEntryAt}
use Rattle.bk_store.specs.Logs.{View, view_of, open_parts}
use Rattle.bk_compact.proofs.CopyWriter.{fetched_there, lent_there, never_missing, stops_odd}
use Rattle.bk_compact.proofs.entries.copy_entry.Goals as goal

pub put_entry-requires-clause-stands : goal.put_entry-requires-clause-stands
put_entry-requires-clause-stands g c κs within =
    let view : View = view_of g.D.View.LogView.bytes g.D.View.LogView.honest g.D.View.LogView.sound c.args.view.now in
    lent_there c.args.store.now c.reveal_invariant.ensures c.args.job.now c.requires.copying c.args.found.now c.requires.ahead view c.requires.view c.args.from
    c.requires.place c.args.scanner.now c.requires.scans c.in-Some.payload.now c.in-Some.ensures.entry

pub put_entry-requires-2-clause-stands : goal.put_entry-requires-2-clause-stands
put_entry-requires-2-clause-stands g c κs within =
    let s = c.args.store.now in
    let job = c.args.job.now in
    let found = c.args.found.now in
    let view : View = view_of g.D.View.LogView.bytes g.D.View.LogView.honest g.D.View.LogView.sound c.args.view.now in
    subst (λ (p : List ℕ). IsTrue s.honest → HasEntryAt (open_parts s.logs job.source) found.at found.key p) (sym c.deref.ensures.value)
    (fetched_there s c.reveal_invariant.ensures job c.requires.copying found c.requires.ahead view c.requires.view c.args.from c.requires.place
    c.in-Ok.payload.items c.in-Ok.ensures.transition)

pub returns-in-Err-NotThere-clause-transition : goal.returns-in-Err-NotThere-clause-transition
returns-in-Err-NotThere-clause-transition g c =
    let s = c.args.store.now in
    let view : View = view_of g.D.View.LogView.bytes g.D.View.LogView.honest g.D.View.LogView.sound c.args.view.now in
    stops_odd s c.odd.new.store c.args.job.now c.args.found.now c.odd.result c.odd.ensures.value
    (never_missing s c.reveal_invariant.ensures c.args.job.now c.requires.copying c.args.found.now c.requires.ahead view c.requires.view c.args.from c.requires.place
    c.in-Err-NotThere.field-0 c.in-Err-NotThere.ensures.transition (inl c.in-Err-NotThere.field-0-is))
    c.odd.ensures.transition

pub returns-in-Err-Odd-clause-transition : goal.returns-in-Err-Odd-clause-transition
returns-in-Err-Odd-clause-transition g c =
    let s = c.args.store.now in
    let view : View = view_of g.D.View.LogView.bytes g.D.View.LogView.honest g.D.View.LogView.sound c.args.view.now in
    stops_odd s c.odd-in-Err-Odd.new.store c.args.job.now c.args.found.now c.odd-in-Err-Odd.result c.odd-in-Err-Odd.ensures.value
    (never_missing s c.reveal_invariant.ensures c.args.job.now c.requires.copying c.args.found.now c.requires.ahead view c.requires.view c.args.from c.requires.place
    c.in-Err-Odd.field-0 c.in-Err-Odd.ensures.transition (inr c.in-Err-Odd.field-0-is))
    c.odd-in-Err-Odd.ensures.transition
