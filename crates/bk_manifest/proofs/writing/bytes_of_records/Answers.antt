use Rattle.std.proofs.Common.{List, [], ◌∷◌}
use Rattle.std.specs.List.{AllByRecursion}
use Rattle.std.proofs.lemmas.Result.{err_from_is_err_and}
use Rattle.std.proofs.lemmas.List.Elements.{All-from_recursion}
use Rattle.bk_manifest.specs.declared.record.Record.{Record}
use Rattle.bk_manifest.specs.Fact.{fact, facts, Fits}
use Rattle.bk_manifest.proofs.writing.bytes_of_records.Goals as goal

each_fits : (records : List Record) → AllByRecursion Fits (facts records) → AllByRecursion (λ one. Fits (fact one)) records
each_fits [] all = tt
each_fits (one ∷ records) all = (all.0, each_fits records all.1)

pub returns-in_err-put_record-clause-too_long : goal.returns-in_err-put_record-clause-too_long
returns-in_err-put_record-clause-too_long c = λ is all.
    let p = err_from_is_err_and c.from_residual.result c.from_residual.ensures.1 in
    let records = c.args.records.now in
    let legal : Fits (fact c.record-item.result) =
    rw c.record-item.is (All-from_recursion (λ one. Fits (fact one)) records (each_fits records all.0) c.loop-record.record-index _ c.loop-record-test.true) in
    c.in_err-put_record.ensures.too_long (cc (p.1, p.2, is)) legal
