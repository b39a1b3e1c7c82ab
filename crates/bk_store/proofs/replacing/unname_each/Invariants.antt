use Rattle.bk_store.proofs.Unnaming.{IsUnnaming}
use Rattle.bk_store.proofs.replacing.unname_each.Given as goal

abbrev pub invariant-loop-place : goal.invariant-loop-place
invariant-loop-place l = IsUnnaming (λ _. 0) l.fn.accounts l.accounts l.place-iterator
