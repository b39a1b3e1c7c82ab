use Rattle.std.proofs.Common.{◌≡◌, take, refl, subst, arith}
use Rattle.bk_record.specs.Files.{header_length}
use Rattle.bk_head.specs.Header.{HeaderFault}
use Rattle.bk_store.proofs.OpenedHeads.{read_front}
use Rattle.bk_store.proofs.open.header.check_header.Goals as goal

pub returns-then-len-ne-HEADER_LENGTH-clause-err : goal.returns-then-len-ne-HEADER_LENGTH-clause-err
returns-then-len-ne-HEADER_LENGTH-clause-err g c = λ file honest stands long short.
    let turn = c.in_ok-bytes.ensures.transition honest in
    let front = read_front (g.D.LogDisk.files c.args.disk.now) c.args.id file turn.0 c.in_ok-bytes.bytes.items stands turn.1 turn.2 turn.3 in
    omega (arith, front.1, c.len.ensures, c.if-len-ne-HEADER_LENGTH.true, c.in_ok-bytes.bytes.ok.0)

pub returns-clause-err : goal.returns-clause-err
returns-clause-err g c = λ file honest stands long short.
    let turn = c.in_ok-bytes.ensures.transition honest in
    let front = read_front (g.D.LogDisk.files c.args.disk.now) c.args.id file turn.0 c.in_ok-bytes.bytes.items stands turn.1 turn.2 turn.3 in
    let read = front.0 in
    let after = c.copy_from_slice.ensures.after in
    let value = c.deref.ensures.value in
    let same : c.copy_from_slice.new.self ≡ take header_length file = cc in
    (refl, short, (long, subst (λ bytes. HeaderFault bytes c.in-Err.fault) same c.in-Err.ensures.err))
