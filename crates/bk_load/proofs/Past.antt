-- Ledgers that are all below a number.
use Rattle.std.proofs.Common.{ℕ, ◌<◌, ◌+◌, List, [], ◌∷◌, ◌++◌, length, take, subst, sym}
use Rattle.std.proofs.Math.ListN.{get_or}
use Rattle.std.proofs.lemmas.List.{take_more}
use Rattle.std.proofs.lemmas.List.Elements.{All-push}
use Rattle.std.specs.List.{All}

pub one_more : (m : ℕ) (ledgers : List ℕ) (i d : ℕ) → i < length ledgers → All (λ x. x < m) (take i ledgers) → get_or ledgers i d < m
    → All (λ x. x < m) (take (i + 1) ledgers)
one_more m ledgers i d inside all here =
    subst (λ (xs : List ℕ). All (λ x. x < m) xs) (sym (take_more ledgers i d inside)) (All-push (λ x. x < m) (take i ledgers) (get_or ledgers i d) all here)
