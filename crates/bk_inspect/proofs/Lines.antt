-- What a writer got, piece by piece and line by line.
use Rattle.std.proofs.Common.{◌≡◌, ℕ, ◌+◌, ◌<◌, List, [], ◌∷◌, ◌++◌, length, take, get_or, Option, Some, None, sym, ap, ◌∙◌, subst, append_assoc}
use Rattle.std.proofs.lemmas.List.{append-nil, take_more}
use Rattle.std.specs.Io.KnownBytes.{Appends}
use Rattle.bk_inspect.specs.Shown.{WritesText, AreLines}
use Rattle.bk_inspect.specs.Shown.AreLines.{more}

pub appends_none : (before : Option (List ℕ)) → Appends before before []
appends_none None = tt
appends_none (Some xs) = sym (append-nil xs)

pub appends_then : (before mid after : Option (List ℕ)) (a b : List ℕ) → Appends before mid a → Appends mid after b → Appends before after (a ++ b)
appends_then None mid after a b x y = tt
appends_then (Some xs) None after a b x y = absurd x
appends_then (Some xs) (Some ys) None a b x y = absurd y
appends_then (Some xs) (Some ys) (Some zs) a b x y = y ∙ ap (λ (t : List ℕ). t ++ b) x ∙ append_assoc xs a b

taken_none : (xs : List ℕ) → take 0 xs ≡ []
taken_none [] = ap (λ (l : List ℕ). l) (append-nil [])
taken_none (x ∷ xs) = append-nil []

-- one line more for one log more
pub line_more : (IsLine : ℕ → List ℕ → Type 0) (logs : List ℕ) (i : ℕ) (before mid after : Option (List ℕ)) → i < length logs
    → WritesText (AreLines IsLine (take i logs)) before mid → WritesText (IsLine (get_or logs i 0)) mid after
    → WritesText (AreLines IsLine (take (i + 1) logs)) before after
line_more IsLine logs i before mid after inside first next = (
  first.0 ++ next.0,
  subst (λ l. AreLines IsLine l (first.0 ++ next.0)) (sym (take_more logs i 0 inside)) (more first.1 next.1),
  appends_then before mid after first.0 next.0 first.2 next.2,
)
