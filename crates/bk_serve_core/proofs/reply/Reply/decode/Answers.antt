use Rattle.std.proofs.Common.{◌≡◌, ℕ, List, Result, Ok, Err, arith}
use Rattle.std.specs.Prelude.{IfOk}
use Rattle.bk_serve_core.specs.declared.fault.Fault.{Fault}
use Rattle.bk_serve_core.specs.declared.reply.Reply.{Reply}
use Rattle.bk_serve_core.specs.Fields.{IsBytes}
use Rattle.bk_serve_core.specs.Replies.{told, told_bytes, replied, Fits}
use Rattle.bk_serve_core.proofs.Replies.{one}
use Rattle.bk_serve_core.proofs.reply.Reply.decode.Goals as goal

is_same : (bytes : List ℕ) (r : Result Reply Fault) → IsBytes bytes → IfOk r (λ x. replied bytes ≡ Ok (told x)) → IfOk r (λ x. bytes ≡ told_bytes (told x))
is_same bytes (Ok x) each is = (one bytes (told x) each is).0
is_same bytes (Err e) each is = tt

do_fit : (bytes : List ℕ) (r : Result Reply Fault) → IsBytes bytes → IfOk r (λ x. replied bytes ≡ Ok (told x)) → IfOk r (λ x. Fits (told x))
do_fit bytes (Ok x) each is = (one bytes (told x) each is).1
do_fit bytes (Err e) each is = tt

pub returns-clause-same : goal.returns-clause-same
returns-clause-same c = is_same c.args.bytes.now c.read_reply.result (λ i. omega (arith, c.type_inv.bytes i)) c.read_reply.ensures.value

pub returns-clause-fits : goal.returns-clause-fits
returns-clause-fits c = do_fit c.args.bytes.now c.read_reply.result (λ i. omega (arith, c.type_inv.bytes i)) c.read_reply.ensures.value
