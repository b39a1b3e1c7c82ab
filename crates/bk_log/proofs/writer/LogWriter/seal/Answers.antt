use Rattle.std.proofs.Common.{sym, ◌∙◌, ap, arith, Err}
use Rattle.std.specs.FinMap as map
use Rattle.bk_head.specs.Header.{patch_of}
use Rattle.bk_head.specs.Written.{written_map}
use Rattle.bk_head.specs.Ledgers.{map_of}
use Rattle.bk_log.proofs.Sums.{counted_is_writable}
use Rattle.bk_log.proofs.Sealed.{seal_keeps}
use Rattle.bk_log.proofs.MapStands.{seal_map}
use Rattle.bk_log.proofs.SealGains.{seal_gains_of}
use Rattle.bk_log.proofs.Seals.{seal_room, header_there, seal_append, seal_patch}
use Rattle.bk_disk.proofs.DurableGrows.{keeps_trans}
use Rattle.bk_log.proofs.writer.LogWriter.seal.Goals as goal

pub append_any-requires-after_bounds : goal.append_any-requires-after_bounds
append_any-requires-after_bounds g c = λ ls bounds h.
    let whole = sym (ap (λ w. w.failed) c.self.view_is) ∙ c.if-self.false in
    seal_room _ _ _ _ c.self.view_is (c.requires h whole) (omega (
      arith,
      c.deref.ensures.len,
      c.len.ensures,
      c.length-end.ensures.value,
      c.from.ensures,
      c.if-end-len.false,
      ap (λ w. w.end) c.self.view_is,
    ))

pub returns-in-Err-clause-transition : goal.returns-in-Err-clause-transition
returns-in-Err-clause-transition g c = λ h.
    seal_append _ _ _ _ _ _ c.self.view_is (c.deref.ensures.value ∙ c.in-Ok-map_bytes.ensures ∙ ap written_map c.in-Ok.ensures)
    (omega (arith, c.deref.ensures.len, c.len.ensures, c.length-end.ensures.value, c.from.ensures, c.if-end-len.false, ap (λ w. w.end) c.self.view_is))
    (c.in-Err.ensures.transition h)

pub patch-requires-after_bounds : goal.patch-requires-after_bounds
patch-requires-after_bounds g c = λ ls bounds h.
    let whole = sym (ap (λ w. w.failed) c.self.view_is) ∙ c.if-self.false in
    let honest = sym c.in_default-append_any.ensures.honest ∙ h in
    header_there _ _ _ _ _ c.self.view_is (c.requires honest whole) (c.in_default-append_any.ensures.transition honest)

pub returns-clause-transition : goal.returns-clause-transition
returns-clause-transition g c = λ h.
    seal_patch _ _ _ _ _ _ _ _ c.self.view_is (c.deref.ensures.value ∙ c.in-Ok-map_bytes.ensures ∙ ap written_map c.in-Ok.ensures)
    (omega (arith, c.deref.ensures.len, c.len.ensures, c.length-end.ensures.value, c.from.ensures, c.if-end-len.false, ap (λ w. w.end) c.self.view_is))
    (c.in_default-append_any.ensures.transition h)
    (c.header_patch-header.ensures ∙ ap (λ n. patch_of n (map.len (map_of c.in-Ok.sizes))) (c.length-end.ensures.value ∙ sym (ap (λ w. w.end) c.self.view_is))
    ∙ ap (λ m. patch_of c.self.inside.end (map.len m)) c.in-Ok.ensures) (c.patch.ensures.transition (c.in_default-append_any.ensures.honest ∙ h))

pub returns-in-Err-clause-entries : goal.returns-in-Err-clause-entries
returns-in-Err-clause-entries g c = λ h.
    let whole = sym (ap (λ w. w.failed) c.self.view_is) ∙ c.if-self.false in
    let writable = counted_is_writable _ _ _ _ c.self.invariant (omega (
      arith,
      c.length-end.ensures.value,
      c.length-end.ensures.bound,
      ap (λ w. w.end) c.self.view_is,
    )) in
    seal_keeps _ _ _ _ (Err c.in-Err.fault) c.self.view_is (c.requires h whole) writable (returns-in-Err-clause-transition g c h)

pub returns-clause-entries : goal.returns-clause-entries
returns-clause-entries g c = λ h.
    let whole = sym (ap (λ w. w.failed) c.self.view_is) ∙ c.if-self.false in
    let writable = counted_is_writable _ _ _ _ c.self.invariant (omega (
      arith,
      c.length-end.ensures.value,
      c.length-end.ensures.bound,
      ap (λ w. w.end) c.self.view_is,
    )) in
    seal_keeps _ _ _ _ c.patch.result c.self.view_is (c.requires h whole) writable (returns-clause-transition g c h)

pub returns-clause-map : goal.returns-clause-map
returns-clause-map g c = λ h fits.
    let whole = sym (ap (λ w. w.failed) c.self.view_is) ∙ c.if-self.false in
    let writable = counted_is_writable _ _ _ _ c.self.invariant (omega (
      arith,
      c.length-end.ensures.value,
      c.length-end.ensures.bound,
      ap (λ w. w.end) c.self.view_is,
    )) in
    seal_map _ _ _ _ _ c.self.view_is (c.requires h whole) writable (returns-clause-transition g c h) fits

pub returns-in-Err-clause-gains : goal.returns-in-Err-clause-gains
returns-in-Err-clause-gains g c = λ h.
    let whole = sym (ap (λ w. w.failed) c.self.view_is) ∙ c.if-self.false in
    let writable = counted_is_writable _ _ _ _ c.self.invariant (omega (
      arith,
      c.length-end.ensures.value,
      c.length-end.ensures.bound,
      ap (λ w. w.end) c.self.view_is,
    )) in
    seal_gains_of _ _ _ _ (Err c.in-Err.fault) c.self.view_is (c.requires h whole) writable (returns-in-Err-clause-transition g c h)

pub returns-clause-gains : goal.returns-clause-gains
returns-clause-gains g c = λ h.
    let whole = sym (ap (λ w. w.failed) c.self.view_is) ∙ c.if-self.false in
    let writable = counted_is_writable _ _ _ _ c.self.invariant (omega (
      arith,
      c.length-end.ensures.value,
      c.length-end.ensures.bound,
      ap (λ w. w.end) c.self.view_is,
    )) in
    seal_gains_of _ _ _ _ c.patch.result c.self.view_is (c.requires h whole) writable (returns-clause-transition g c h)

pub returns-clause-durable : goal.returns-clause-durable
returns-clause-durable g c = λ h.
    keeps_trans _ _ _ _ _ _ (c.in_default-append_any.ensures.durable h) (c.patch.ensures.durable (c.in_default-append_any.ensures.honest ∙ h))
