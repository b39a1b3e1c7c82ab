use Rattle.std.proofs.Common.{◌≡◌, ◌<◌, length, ◌++◌, ◌∷◌, [], arith}
use Rattle.std.proofs.lemmas.Bool.Decides.{nat_tests}
use Rattle.std.proofs.lemmas.Result.{err_from_is_err_and}
use Rattle.std.proofs.lemmas.List.{map_push}
use Rattle.bk_manifest.specs.Fact.{fact, facts}
use Rattle.bk_manifest.proofs.Loops.{facts_go_on, facts_fail, facts_end}
use Rattle.bk_manifest.proofs.reading.records_of.Goals as goal

pub returns-in_err-record : goal.returns-in_err-record
returns-in_err-record c =
    let p = err_from_is_err_and c.from_residual.result c.from_residual.ensures.1 in
    let some : 0 < length c.loop-rest.rest.now = grind (arith, nat_tests) in
    rw (p.1, p.2) (facts_fail c.in_err-record.field-0.0 c.args.batch (facts c.loop-rest.records.items) c.loop-rest.rest.now _ some
    c.in_err-record.ensures.value c.loop-rest.invariant)

pub loop-rest-preserved : goal.loop-rest-preserved
loop-rest-preserved c =
    let one = c.in_ok-record.record in
    let some : 0 < length c.loop-rest.rest.now = grind (arith, nat_tests) in
    let more : facts c.push.new.self.items ≡ facts c.loop-rest.records.items ++ fact one ∷ [] =
    rw c.in_ok-push.ensures.items (map_push fact c.loop-rest.records.items one) in
    rw more (facts_go_on c.args.batch (facts c.loop-rest.records.items) c.loop-rest.rest.now (fact one) c.in_ok-record.after.now _ some
    c.in_ok-record.ensures.value c.in_ok-record.ensures.shorter c.loop-rest.invariant)

pub returns : goal.returns
returns c =
    let none : length c.loop-rest.rest.now ≡ 0 = grind (arith, nat_tests) in
    facts_end c.args.batch (facts c.loop-rest.records.items) c.loop-rest.rest.now _ none c.loop-rest.invariant
