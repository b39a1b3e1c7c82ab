use Rattle.std.proofs.Common.{◌≡◌, ℕ, List, Result, Ok, Err, arith}
use Rattle.std.specs.Prelude.{IfOk}
use Rattle.bk_serve_core.specs.declared.fault.Fault.{Fault}
use Rattle.bk_serve_core.specs.declared.request.Request.{Request}
use Rattle.bk_serve_core.specs.Fields.{IsBytes}
use Rattle.bk_serve_core.specs.Requests.{ask, ask_bytes, asked, Fits}
use Rattle.bk_serve_core.proofs.Requests.{one}
use Rattle.bk_serve_core.proofs.request.Request.decode.Goals as goal

is_same : (bytes : List ℕ) (r : Result Request Fault) → IsBytes bytes → IfOk r (λ x. asked bytes ≡ Ok (ask x)) → IfOk r (λ x. bytes ≡ ask_bytes (ask x))
is_same bytes (Ok x) each is = (one bytes (ask x) each is).0
is_same bytes (Err e) each is = tt

do_fit : (bytes : List ℕ) (r : Result Request Fault) → IsBytes bytes → IfOk r (λ x. asked bytes ≡ Ok (ask x)) → IfOk r (λ x. Fits (ask x))
do_fit bytes (Ok x) each is = (one bytes (ask x) each is).1
do_fit bytes (Err e) each is = tt

pub returns-clause-same : goal.returns-clause-same
returns-clause-same c = is_same c.args.bytes.now c.read_request.result (λ i. omega (arith, c.type_inv.bytes i)) c.read_request.ensures.value

pub returns-clause-fits : goal.returns-clause-fits
returns-clause-fits c = do_fit c.args.bytes.now c.read_request.result (λ i. omega (arith, c.type_inv.bytes i)) c.read_request.ensures.value
