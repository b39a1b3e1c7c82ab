use Rattle.std.proofs.Common.{◌∷◌, ◌++◌, ◌%◌, ◌<◌, ◌/◌, arith}
use Rattle.std.proofs.KnownBytes.{Appends-trans}
use Rattle.std.proofs.lemmas.Result.{on_ok_weaker}
use Rattle.std.specs.Fmt.{decimal}
use Rattle.bk_report.specs.Numbers.{three_digits}
use Rattle.bk_report.specs.Numbers.IsGrouped.{short, long}
use Rattle.bk_report.proofs.number.+write_number.Goals as goal

pub returns-then-number-lt1000 : goal.returns-then-number-lt1000
returns-then-number-lt1000 g t c =
    let n = c.args.number in
    on_ok_weaker c.write.result (λ appended. (decimal n, short c.if-number-lt1000.true, appended)) c.write.ensures.bytes

pub returns : goal.returns
returns g t c =
    let n = c.args.number in
    let front = c.in_ok-write_number.ensures in
    let large : 0 < n / 1000 = omega (arith, c.if-number-lt1000.false) in
    on_ok_weaker c.write_group.result
    (λ group. (front.0 ++ 44 ∷ three_digits (n % 1000), long large front.1, Appends-trans _ _ _ _ _ front.2 group))
    c.write_group.ensures
