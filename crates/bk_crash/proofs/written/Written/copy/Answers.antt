use Rattle.std.proofs.Common.{ℕ, List, ap}
use Rattle.std.specs.Ordering.{nat_cmp}
use Rattle.std.specs.FinMap as finite
use Rattle.bk_crash.proofs.Copies.{cloned_files}
use Rattle.bk_crash.proofs.written.Written.copy.Goals as goal

pub returns-clause-gone : goal.returns-clause-gone
returns-clause-gone c =
    ap (λ (es : List (ℕ × List ℕ)). finite.from_entries {R = nat_cmp} es)
    (cloned_files c.args.self.now.gone.entries c.in_ok-clone-2.field-0.entries c.in_ok-clone-2.ensures.cases)
