use Rattle.std.proofs.Common.{◌≡◌, ◌+◌, ◌<◌, ◌≤◌, ◌^◌, IfSome, inl, length, is_some, IsSome, Ok, Err, refl, sym, ap, subst, ◌∙◌, arith}
use Rattle.std.specs.FinMap as finite
use Rattle.bk_record.specs.Keyed.{Places}
use Rattle.bk_accounts.specs.Book.{total_in, after_ready}
use Rattle.bk_log.specs.declared.fault.LogFault.TheVariants.{Memory}
use Rattle.bk_store.specs.Internals.{AppendNextParts, with_durable_of}
use Rattle.bk_store.specs.declared.answer.Appended.TheVariants.{AllPlaced, NeedsLog}
use Rattle.bk_store.proofs.Written.{total_fits, written_turn, failed_turn, may_put}
use Rattle.bk_store.proofs.AppendedEntry.{all_placed, needs_first, needs_next, takes_next, is_writing, is_short, next_writable}
use Rattle.bk_store.proofs.AppendedEntry.{refused, counted, counted_parts, failed_parts, appended_entry}
use Rattle.bk_store.proofs.fields.Fields.append_next.Goals as goal

pub returns-in_default-clause-parts : goal.returns-in_default-clause-parts
returns-in_default-clause-parts g c =
    subst (λ now. AppendNextParts (with_durable_of c.args.self.now now) (Ok AllPlaced) now) (sym c.self.view_is)
    (all_placed _ c.args.self.now c.self.view_is c.requires _ c.last.ensures c.in_default.ensures.value)

pub returns-in_default-writing-clause-parts : goal.returns-in_default-writing-clause-parts
returns-in_default-writing-clause-parts g c =
    subst (λ now. AppendNextParts (with_durable_of c.args.self.now now) (Ok NeedsLog) now) (sym c.self.view_is)
    (needs_first _ c.args.self.now c.self.view_is c.requires _ c.last.ensures c.in-Some.ensures.value c.in_default-writing.is)

pub is_filled-requires-clause-written : goal.is_filled-requires-clause-written
is_filled-requires-clause-written g c κs within = is_writing _ c.args.self.now c.self.view_is c.requires c.in-Some-writing.log c.in-Some-writing.is

pub is_filled-requires-clause-size : goal.is_filled-requires-clause-size
is_filled-requires-clause-size g c κs within =
    let size : c.len.result ≡ length c.in-Some.next.1.now.value.items =
    c.len.ensures ∙ c.deref.result.now.ok.0 ∙ ap (λ v. length v.items) c.deref.ensures in
    is_short _ c.in-Some.next.1.now.value.items c.len.result size c.in-Some.ensures.keyed

pub returns-then-is_filled-clause-parts : goal.returns-then-is_filled-clause-parts
returns-then-is_filled-clause-parts g c =
    let size : c.len.result ≡ length c.in-Some.next.1.now.value.items =
    c.len.ensures ∙ c.deref.result.now.ok.0 ∙ ap (λ v. length v.items) c.deref.ensures in
    subst (λ now. AppendNextParts (with_durable_of c.args.self.now now) (Ok NeedsLog) now) (sym c.self.view_is)
    (needs_next _ c.args.self.now c.self.view_is c.requires _ c.last.ensures c.in-Some.ensures.value c.in-Some-writing.log c.in-Some-writing.is c.len.result
    size c.is_filled.result c.is_filled.ensures c.if-is_filled.true)

pub returns-in_default-make_room-clause-parts : goal.returns-in_default-make_room-clause-parts
returns-in_default-make_room-clause-parts g c =
    let size : c.len.result ≡ length c.in-Some.next.1.now.value.items =
    c.len.ensures ∙ c.deref.result.now.ok.0 ∙ ap (λ v. length v.items) c.deref.ensures in
    let is = takes_next _ c.args.self.now c.self.view_is c.requires _ c.last.ensures c.in-Some.ensures.value c.in-Some-writing.log c.in-Some-writing.is c.len.result
    size c.is_filled.result c.is_filled.ensures c.in-Some.ensures.keyed c.if-is_filled.false _ refl in
    appended_entry _ c.args.self.now _ c.self.view_is c.in-Some-writing.log (Err Memory) is
    (refused is c.make_room.new.self.places c.make_room.ensures.same) (inl refl, refl)

pub returns-in_default-ready-clause-parts : goal.returns-in_default-ready-clause-parts
returns-in_default-ready-clause-parts g c =
    let size : c.len.result ≡ length c.in-Some.next.1.now.value.items =
    c.len.ensures ∙ c.deref.result.now.ok.0 ∙ ap (λ v. length v.items) c.deref.ensures in
    let is = takes_next _ c.args.self.now c.self.view_is c.requires _ c.last.ensures c.in-Some.ensures.value c.in-Some-writing.log c.in-Some-writing.is c.len.result
    size c.is_filled.result c.is_filled.ensures c.in-Some.ensures.keyed c.if-is_filled.false _ refl in
    appended_entry _ c.args.self.now _ c.self.view_is c.in-Some-writing.log (Err Memory) is
    (refused is c.make_room.new.self.places c.make_room.ensures.same) (inl c.in_default-ready.ensures.err, refl)

pub put-requires-clause-payload : goal.put-requires-clause-payload
put-requires-clause-payload g c κs within =
    let size : c.len.result ≡ length c.in-Some.next.1.now.value.items =
    c.len.ensures ∙ c.deref.result.now.ok.0 ∙ ap (λ v. length v.items) c.deref.ensures in
    let bytes : c.deref-3.result.now ≡ c.in-Some.next.1.now.value.items =
    c.deref-3.ensures.value ∙ ap (λ v. v.items) c.deref-2.ensures in
    let is = takes_next _ c.args.self.now c.self.view_is c.requires _ c.last.ensures c.in-Some.ensures.value c.in-Some-writing.log c.in-Some-writing.is c.len.result
    size c.is_filled.result c.is_filled.ensures c.in-Some.ensures.keyed c.if-is_filled.false c.deref-3.result.now bytes in
    (next_writable is c.flushing_after_near.ensures.sound).legal

pub put-requires-clause-keyed : goal.put-requires-clause-keyed
put-requires-clause-keyed g c κs within =
    let size : c.len.result ≡ length c.in-Some.next.1.now.value.items =
    c.len.ensures ∙ c.deref.result.now.ok.0 ∙ ap (λ v. length v.items) c.deref.ensures in
    let bytes : c.deref-3.result.now ≡ c.in-Some.next.1.now.value.items =
    c.deref-3.ensures.value ∙ ap (λ v. v.items) c.deref-2.ensures in
    let is = takes_next _ c.args.self.now c.self.view_is c.requires _ c.last.ensures c.in-Some.ensures.value c.in-Some-writing.log c.in-Some-writing.is c.len.result
    size c.is_filled.result c.is_filled.ensures c.in-Some.ensures.keyed c.if-is_filled.false c.deref-3.result.now bytes in
    ap is_some (next_writable is c.flushing_after_near.ensures.sound).keyed

pub put-requires-clause-may : goal.put-requires-clause-may
put-requires-clause-may g c κs within = λ log held.
    let size : c.len.result ≡ length c.in-Some.next.1.now.value.items =
    c.len.ensures ∙ c.deref.result.now.ok.0 ∙ ap (λ v. length v.items) c.deref.ensures in
    let bytes : c.deref-3.result.now ≡ c.in-Some.next.1.now.value.items =
    c.deref-3.ensures.value ∙ ap (λ v. v.items) c.deref-2.ensures in
    let is = takes_next _ c.args.self.now c.self.view_is c.requires _ c.last.ensures c.in-Some.ensures.value c.in-Some-writing.log c.in-Some-writing.is c.len.result
    size c.is_filled.result c.is_filled.ensures c.in-Some.ensures.keyed c.if-is_filled.false c.deref-3.result.now bytes in
    may_put _ c.in-Some-writing.log c.deref-3.result.now c.deref-3.result.now (next_writable is c.flushing_after_near.ensures.sound).room refl log held

pub overflow_cast-size : goal.overflow_cast-size
overflow_cast-size g c =
    let long : c.len-in-Ok-put.result ≡ length c.in-Some.next.1.now.value.items =
    c.len-in-Ok-put.ensures ∙ c.deref-in-Ok-put.result.now.ok.0 ∙ ap (λ v. length v.items) c.deref-in-Ok-put.ensures in
    let most : c.len-in-Ok-put.result ≤ 5000000 = is_short _ c.in-Some.next.1.now.value.items c.len-in-Ok-put.result long c.in-Some.ensures.keyed in
    omega (arith, most)

pub overflow_add-size : goal.overflow_add-size
overflow_add-size g c =
    let long : c.len-in-Ok-put.result ≡ length c.in-Some.next.1.now.value.items =
    c.len-in-Ok-put.ensures ∙ c.deref-in-Ok-put.result.now.ok.0 ∙ ap (λ v. length v.items) c.deref-in-Ok-put.ensures in
    let most : c.len-in-Ok-put.result ≤ 5000000 = is_short _ c.in-Some.next.1.now.value.items c.len-in-Ok-put.result long c.in-Some.ensures.keyed in
    omega (arith, most)

pub note-requires-clause-behind : goal.note-requires-clause-behind
note-requires-clause-behind g c = λ other there.
    let size : c.len.result ≡ length c.in-Some.next.1.now.value.items =
    c.len.ensures ∙ c.deref.result.now.ok.0 ∙ ap (λ v. length v.items) c.deref.ensures in
    let bytes : c.deref-3.result.now ≡ c.in-Some.next.1.now.value.items =
    c.deref-3.ensures.value ∙ ap (λ v. v.items) c.deref-2.ensures in
    let is = takes_next _ c.args.self.now c.self.view_is c.requires _ c.last.ensures c.in-Some.ensures.value c.in-Some-writing.log c.in-Some-writing.is c.len.result
    size c.is_filled.result c.is_filled.ensures c.in-Some.ensures.keyed c.if-is_filled.false c.deref-3.result.now bytes in
    (next_writable is c.flushing_after_near.ensures.sound).behind other (subst (λ m. IsSome (finite.get m other)) c.make_room.ensures.same there)

pub count-requires-clause-fits : goal.count-requires-clause-fits
count-requires-clause-fits g c =
    let size : c.len.result ≡ length c.in-Some.next.1.now.value.items =
    c.len.ensures ∙ c.deref.result.now.ok.0 ∙ ap (λ v. length v.items) c.deref.ensures in
    let bytes : c.deref-3.result.now ≡ c.in-Some.next.1.now.value.items =
    c.deref-3.ensures.value ∙ ap (λ v. v.items) c.deref-2.ensures in
    let long : c.len-in-Ok-put.result ≡ length c.in-Some.next.1.now.value.items =
    c.len-in-Ok-put.ensures ∙ c.deref-in-Ok-put.result.now.ok.0 ∙ ap (λ v. length v.items) c.deref-in-Ok-put.ensures in
    let is = takes_next _ c.args.self.now c.self.view_is c.requires _ c.last.ensures c.in-Some.ensures.value c.in-Some-writing.log c.in-Some-writing.is c.len.result
    size c.is_filled.result c.is_filled.ensures c.in-Some.ensures.keyed c.if-is_filled.false c.deref-3.result.now bytes in
    subst (λ b. IfSome (total_in b c.in-Some-writing.log) (λ total. total + (c.len-in-Ok-put.result + 4) < 2 ^ 32)) (sym c.in-Ok-ready.ensures.ok)
    (total_fits _ c.in-Some-writing.log c.ledger.result (c.len-in-Ok-put.result + 4) c.deref-3.result.now
    (next_writable is c.flushing_after_near.ensures.sound).room (ap (λ n. n + 4) (long ∙ ap length (sym bytes))))

pub returns-in-Ok-put-clause-parts : goal.returns-in-Ok-put-clause-parts
returns-in-Ok-put-clause-parts g c =
    let size : c.len.result ≡ length c.in-Some.next.1.now.value.items =
    c.len.ensures ∙ c.deref.result.now.ok.0 ∙ ap (λ v. length v.items) c.deref.ensures in
    let bytes : c.deref-3.result.now ≡ c.in-Some.next.1.now.value.items =
    c.deref-3.ensures.value ∙ ap (λ v. v.items) c.deref-2.ensures in
    let long : c.len-in-Ok-put.result ≡ length c.in-Some.next.1.now.value.items =
    c.len-in-Ok-put.ensures ∙ c.deref-in-Ok-put.result.now.ok.0 ∙ ap (λ v. length v.items) c.deref-in-Ok-put.ensures in
    let is = takes_next _ c.args.self.now c.self.view_is c.requires _ c.last.ensures c.in-Some.ensures.value c.in-Some-writing.log c.in-Some-writing.is c.len.result
    size c.is_filled.result c.is_filled.ensures c.in-Some.ensures.keyed c.if-is_filled.false c.deref-3.result.now bytes in
    let mine = (next_writable is c.flushing_after_near.ensures.sound).room in
    let noted : c.note.new.self.places ≡ finite.insert c.self.inside.places.places c.in-Some.next.0 c.in-Ok-put.place =
    c.note.ensures ∙ ap (λ (m : Places). finite.insert m c.in-Some.next.0 c.in-Ok-put.place) c.make_room.ensures.same in
    appended_entry _ c.args.self.now _ c.self.view_is c.in-Some-writing.log (Ok c.in-Ok-put.place) is
    (written_turn _ _ refl c.in-Some-writing.log c.in-Some.next.0 c.deref-3.result.now mine _ _ _ _ c.put.ensures.honest c.in-Ok-put.place
    c.note.new.self.places noted
    (c.in-Ok-put.ensures.logs mine.log mine.w mine.held mine.writer) (c.in-Ok-put.ensures.place mine.log mine.w mine.held mine.writer)
    c.in-Ok-put.ensures.cause (λ honest. c.in-Ok-put.ensures.transition mine.log mine.w mine.held mine.writer honest)) (
      c.flushing_after_near.ensures.sound,
      counted_parts is refl (counted is c.in-Ok-ready.ensures.ok c.ledger.ensures.value c.count.ensures c.ledger-in-Ok-put.ensures.value
          (long ∙ ap length (sym bytes))),
    )

pub returns-in-Err-clause-parts : goal.returns-in-Err-clause-parts
returns-in-Err-clause-parts g c =
    let size : c.len.result ≡ length c.in-Some.next.1.now.value.items =
    c.len.ensures ∙ c.deref.result.now.ok.0 ∙ ap (λ v. length v.items) c.deref.ensures in
    let bytes : c.deref-3.result.now ≡ c.in-Some.next.1.now.value.items =
    c.deref-3.ensures.value ∙ ap (λ v. v.items) c.deref-2.ensures in
    let is = takes_next _ c.args.self.now c.self.view_is c.requires _ c.last.ensures c.in-Some.ensures.value c.in-Some-writing.log c.in-Some-writing.is c.len.result
    size c.is_filled.result c.is_filled.ensures c.in-Some.ensures.keyed c.if-is_filled.false c.deref-3.result.now bytes in
    let mine = (next_writable is c.flushing_after_near.ensures.sound).room in
    let at = c.in-Err.ensures.place mine.log mine.w mine.held mine.writer in
    appended_entry _ c.args.self.now _ c.self.view_is c.in-Some-writing.log (Err c.in-Err.fault) is
    (failed_turn _ _ refl c.in-Some-writing.log c.in-Some.next.0 c.deref-3.result.now mine _ _ _ _ c.put.ensures.honest c.in-Err.fault
    c.make_room.new.self.places c.make_room.ensures.same (c.in-Err.ensures.logs mine.log mine.w mine.held mine.writer) at
    c.in-Err.ensures.cause (λ honest. c.in-Err.ensures.transition mine.log mine.w mine.held mine.writer honest))
    (failed_parts is mine.w c.in-Err.fault at c.flushing_after_near.ensures.sound refl
    (c.in-Ok-ready.ensures.ok ∙ ap (after_ready c.self.inside.accounts c.in-Some-writing.log) c.ledger.ensures.value) c.stop.ensures)
