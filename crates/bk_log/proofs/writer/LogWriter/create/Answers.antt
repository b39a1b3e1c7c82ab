use Rattle.std.proofs.Common.{sym, ◌∙◌, ap, arith, refl, length}
use Rattle.bk_log.proofs.Files.{room_new}
use Rattle.bk_log.proofs.Makes.{length-empty_header, create_fails, create_ok, writes_new}
use Rattle.bk_log.proofs.Sums.{counted_none}
use Rattle.bk_disk.proofs.DurableGrows.{keeps_trans}
use Rattle.bk_log.proofs.writer.LogWriter.create.Goals as goal

pub append-requires-after_bounds : goal.append-requires-after_bounds
append-requires-after_bounds g c = λ ls bounds h.
    let made = c.in_default.ensures.transition (sym c.in_default.ensures.honest ∙ h) in
    room_new _ _ _ _ made.1 (omega (arith, ap length c.header_bytes.ensures, length-empty_header))

pub returns-in-Err-append-clause-transition : goal.returns-in-Err-append-clause-transition
returns-in-Err-append-clause-transition g c = λ h.
    let made = c.in_default.ensures.transition h in
    create_fails _ _ _ _ _ _ made.0 made.1 c.header_bytes.ensures (c.in-Err-append.ensures.transition (c.in_default.ensures.honest ∙ h))

pub invariant_of-result : goal.invariant_of-result
invariant_of-result g c = counted_none _ _ _ c.requires (omega arith) (ap (λ t. t.sizes) c.new.ensures)

pub returns-clause-transition : goal.returns-clause-transition
returns-clause-transition g c = λ h.
    let made = c.in_default.ensures.transition h in
    (made.0, create_ok _ _ _ _ _ made.1 c.header_bytes.ensures (c.in_default-append.ensures.transition (c.in_default.ensures.honest ∙ h)))

pub returns-clause-writes : goal.returns-clause-writes
returns-clause-writes g c = λ h.
    let made = c.in_default.ensures.transition h in
    let grew = c.in_default-append.ensures.transition (c.in_default.ensures.honest ∙ h) in
    writes_new _ _ _ _ (create_ok _ _ _ _ _ made.1 c.header_bytes.ensures grew) (rw c.new.ensures refl)

pub returns-in-Err-append-clause-durable : goal.returns-in-Err-append-clause-durable
returns-in-Err-append-clause-durable g c = λ h.
    keeps_trans _ _ _ _ _ _ (c.in_default.ensures.durable h) (c.in-Err-append.ensures.durable (c.in_default.ensures.honest ∙ h))

pub returns-clause-durable : goal.returns-clause-durable
returns-clause-durable g c = λ h. keeps_trans _ _ _ _ _ _ (c.in_default.ensures.durable h) (c.in_default-append.ensures.durable (c.in_default.ensures.honest ∙ h))
