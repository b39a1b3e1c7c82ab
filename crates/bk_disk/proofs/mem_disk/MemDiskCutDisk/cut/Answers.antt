use Rattle.std.proofs.Common.{◌≡◌, ◌∙◌, refl, ap, sym, subst, arith, rules, ◌≤◌, take, length, IsSome, Option, List, ℕ}
use Rattle.std.specs.FinMap as files
use Rattle.std.proofs.lemmas.List.{take_all}
use Rattle.bk_disk.specs.Disk.{IsLogFile}
use Rattle.bk_disk.specs.Cutting.{Cuts}
use Rattle.bk_disk.specs.declared.fault.DiskFault.TheVariants.{Memory}
use Rattle.bk_disk.specs.Logs.{files_of}
use Rattle.bk_disk.proofs.Cutting.{cuts_keep, cut_files, IsLogFile-take}
use Rattle.bk_disk.proofs.Answered.{answer_of-map_err}
use Rattle.bk_record.proofs.NumberMaps.{insert_same}
use Rattle.bk_disk.proofs.FileMaps.{written}
use Rattle.bk_disk.proofs.Bounds.{AreLogFiles-written, on_answer}
use Rattle.bk_disk.proofs.mem_disk.MemDiskCutDisk.cut.Goals as goal

pub returns-then-len-length-clause-transition : goal.returns-then-len-length-clause-transition
returns-then-len-length-clause-transition c = λ _.
    let file = c.in-Some.file.now in
    let wrote = written c.self.inside.logs (c.get_mut.follows.lender file) c.args.log file file c.self.view_is c.in-Some.ensures.value
    (c.get_mut.follows.holds file) in
    let short : length file ≤ c.args.length = omega (arith, c.len.ensures.value) in
    (file, wrote.0, wrote.1 ∙ ap (files.insert c.args.self.now c.args.log) (sym (take_all c.args.length file short)))

pub returns-clause-transition : goal.returns-clause-transition
returns-clause-transition c = λ _.
    let file = c.in-Some.file.now in
    let now = c.truncate.new.self in
    let old = c.args.self.now in
    let put = files.insert old c.args.log in
    let wrote = written c.self.inside.logs (c.get_mut.follows.lender now) c.args.log file now c.self.view_is c.in-Some.ensures.value
    (c.get_mut.follows.holds now) in
    answer_of-map_err (λ r. Cuts old c.args.log c.args.length r (files_of (c.get_mut.follows.lender now))) _ Memory c.truncate.result c.map_err.result
    c.map_err.ensures.cases
    (λ e f post. search rules) c.truncate.ensures.ok c.truncate.ensures.err
    (λ _ ok. (file, wrote.0, wrote.1 ∙ ap put ok))
    (λ err. (subst (λ (o : Option (List ℕ)). IsSome o) (sym wrote.0) refl, wrote.1 ∙ ap put err ∙ insert_same _ _ _ wrote.0))

pub invariant_of-self-then-len-length : goal.invariant_of-self-then-len-length
invariant_of-self-then-len-length c =
    let file = c.in-Some.file.now in
    AreLogFiles-written c.self.inside.logs (c.get_mut.follows.lender file) c.args.log file file c.in-Some.ensures.value (c.get_mut.follows.holds file)
    (λ one. one) c.self.invariant

pub invariant_of-self-2 : goal.invariant_of-self-2
invariant_of-self-2 c =
    let file = c.in-Some.file.now in
    let now = c.truncate.new.self in
    AreLogFiles-written c.self.inside.logs (c.get_mut.follows.lender now) c.args.log file now c.in-Some.ensures.value (c.get_mut.follows.holds now)
    (λ one. on_answer (IsLogFile c.args.log) now (take c.args.length file) file c.truncate.result c.truncate.ensures.ok c.truncate.ensures.err
    (IsLogFile-take c.args.log c.args.length file one) one) c.self.invariant

pub returns-then-len-length-clause-durable : goal.returns-then-len-length-clause-durable
returns-then-len-length-clause-durable c = λ h. cut_files _ _ _ _ (returns-then-len-length-clause-transition c h)

pub returns-clause-durable : goal.returns-clause-durable
returns-clause-durable c = λ h. cuts_keep _ _ _ _ _ (returns-clause-transition c h)
