use Rattle.std.proofs.Common.{◌+◌, ◌<◌, ◌^◌, ◌++◌, length, ◌∙◌, ap, arith, rules}
use Rattle.std.proofs.Math.Facts.{Fits-lt-pow}
use Rattle.std.specs.FinMap as files
use Rattle.bk_disk.specs.Disk.{Appends, IsLogFile}
use Rattle.bk_disk.specs.declared.fault.DiskFault.TheVariants.{Memory}
use Rattle.bk_disk.specs.Logs.{files_of}
use Rattle.bk_disk.proofs.Answered.{answer_of-map_err}
use Rattle.bk_record.proofs.NumberMaps.{insert_same}
use Rattle.bk_disk.proofs.FileMaps.{written, grown_there}
use Rattle.bk_disk.proofs.DurableGrows.{equal_keeps, appends_keep}
use Rattle.bk_disk.proofs.Bounds.{AreLogFiles-same, AreLogFiles-written, IsLogFile-append, each_byte, on_answer}
use Rattle.bk_disk.proofs.mem_disk.MemDiskLogDisk.append.Goals as goal

pub returns-then-bytes-len-clause-transition : goal.returns-then-bytes-len-clause-transition
returns-then-bytes-len-clause-transition c = λ _.
    let file = c.in-Some.file.now in
    let wrote = written c.self.inside.logs (c.get_mut.follows.lender file) c.args.log file file c.self.view_is c.in-Some.ensures.value
    (c.get_mut.follows.holds file) in
    (file, wrote.0, omega (arith, c.len.ensures.value), wrote.1 ∙ insert_same _ _ _ wrote.0)

pub returns-clause-transition : goal.returns-clause-transition
returns-clause-transition c = λ _.
    let file = c.in-Some.file.now in
    let now = c.append.new.self in
    let old = c.args.self.now in
    let put = files.insert old c.args.log in
    let wrote = written c.self.inside.logs (c.get_mut.follows.lender now) c.args.log file now c.self.view_is c.in-Some.ensures.value
    (c.get_mut.follows.holds now) in
    answer_of-map_err (λ r. Appends old c.args.log c.args.bytes.now r (files_of (c.get_mut.follows.lender now))) _ Memory c.append.result c.map_err.result
    c.map_err.ensures.cases
    (λ e f post. search rules) c.append.ensures.ok c.append.ensures.err
    (λ _ ok. (file, wrote.0, omega (arith, c.len.ensures.value), wrote.1 ∙ ap put ok ∙ grown_there _ _ _ _ wrote.0))
    (λ err. (file, wrote.0, omega (arith, c.len.ensures.value), wrote.1 ∙ ap put err ∙ insert_same _ _ _ wrote.0))

pub invariant_of-self : goal.invariant_of-self
invariant_of-self c = AreLogFiles-same c.self.inside.logs c.get_mut.follows.lender-at-none
    (ap (λ logs. logs.entries) c.get_mut.follows.holds-at-none) c.self.invariant

pub invariant_of-self-then-bytes-len : goal.invariant_of-self-then-bytes-len
invariant_of-self-then-bytes-len c =
    let file = c.in-Some.file.now in
    AreLogFiles-written c.self.inside.logs (c.get_mut.follows.lender file) c.args.log file file c.in-Some.ensures.value (c.get_mut.follows.holds file)
    (λ one. one) c.self.invariant

pub invariant_of-self-2 : goal.invariant_of-self-2
invariant_of-self-2 c =
    let file = c.in-Some.file.now in
    let now = c.append.new.self in
    let bytes = c.args.bytes.now in
    let short : length file + length bytes < 2 ^ 32 = omega (arith, c.len.ensures.value, c.len.ensures.bound) in
    AreLogFiles-written c.self.inside.logs (c.get_mut.follows.lender now) c.args.log file now c.in-Some.ensures.value (c.get_mut.follows.holds now)
    (λ one. on_answer (IsLogFile c.args.log) now (file ++ bytes) file c.append.result c.append.ensures.ok c.append.ensures.err
    (IsLogFile-append c.args.log file bytes one (each_byte bytes (λ i. Fits-lt-pow (c.type_inv.bytes i))) short) one) c.self.invariant

pub returns-then-bytes-len-clause-durable : goal.returns-then-bytes-len-clause-durable
returns-then-bytes-len-clause-durable c = λ h. equal_keeps _ _ (returns-then-bytes-len-clause-transition c h).3

pub returns-clause-durable : goal.returns-clause-durable
returns-clause-durable c = λ h. appends_keep _ _ _ _ _ (returns-clause-transition c h)
