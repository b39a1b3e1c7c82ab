-- Lists that grow.
use Rattle.std.proofs.Common.{ℕ, List, ◌++◌, ap, ◌∙◌, append_assoc}
use Rattle.bk_deleted.specs.Deleting.{Extends}

pub longer_still : (a b c : List ℕ) → Extends a b → Extends b c → Extends a c
longer_still a b c first then = (first.0 ++ then.0, then.1 ∙ ap (λ t. t ++ then.0) first.1 ∙ append_assoc a first.0 then.0)
