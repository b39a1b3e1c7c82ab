use Rattle.std.proofs.Common.{◌≡◌, ◌-◌, length, take, drop, ap, ◌∙◌, arith}
use Rattle.std.proofs.lemmas.Option.{IfSome_then}
use Rattle.bk_log.specs.Scanning.{Scan}
use Rattle.bk_log.proofs.Fetches.{payload_of}
use Rattle.bk_log.proofs.scanner.Scanner.payload.Goals as goal

pub returns-clause-entry : goal.returns-clause-entry
returns-clause-entry g c = λ h payload here sized.
    let honest = ap (λ (v : Scan). v.honest) c.self.view_is ∙ h in
    let file = c.args.self.now.file in
    let count : c.args.found.now.size - 4 ≡ length payload = omega (arith, sized) in
    let seen : take (c.args.found.now.size - 4) (drop c.args.found.now.at c.self.inside.window.bytes) ≡ payload =
    ap (λ (v : Scan). take (c.args.found.now.size - 4) (drop c.args.found.now.at v.file)) c.self.view_is
    ∙ ap (λ n. take n (drop c.args.found.now.at file)) count ∙ payload_of file payload c.args.found.now.at here.here in
    IfSome_then c.lend.result (c.lend.ensures.value honest) (λ lent is. is ∙ seen)
