-- The lines of the stock shell.
use Rattle.std.proofs.Common.{◌≡◌, ℕ, ◌<◌, arith, List, [], ◌∷◌, ◌++◌, All, drop, refl, sym, ap, ◌∙◌, append_assoc}
use Rattle.std.specs.Prelude.{codes}
use Rattle.std.specs.Fmt.{decimal}
use Rattle.std.specs.Str.Pattern.{CutsPrefixes, FindsCharPrefix}
use Rattle.std.proofs.lemmas.List.Elements.{All-append, All-nil, All-cons}
use Rattle.std.proofs.lemmas.Str.Pattern.{drop_at_char}
use Rattle.bk_deleted.specs.Lines.{IsListing}

-- what is cut off the front of a text, one space after another, are spaces
abbrev Leads : List ℕ → List ℕ → Type 0
Leads text rest = (spaces : List ℕ) × All (λ byte. byte ≡ 32) spaces × (text ≡ spaces ++ rest)

leads : (lengths text rest : List ℕ) → CutsPrefixes (FindsCharPrefix 32) text lengths rest → Leads text rest
leads [] text rest same = ([], All-nil (λ byte. byte ≡ 32), sym same)
leads (n ∷ lengths) text rest cut =
    let found = leads lengths text cut.0 cut.1 in
    let ascii : 32 < 128 = omega arith in
    let space : cut.0 ≡ 32 ∷ rest = drop_at_char 32 cut.0 0 n cut.2 ascii ∙ ap (λ t. 32 ∷ t) (sym cut.3) in (
      found.0 ++ 32 ∷ [],
      All-append (λ byte. byte ≡ 32) found.0 (32 ∷ []) found.1 (All-cons (λ byte. byte ≡ 32) 32 [] refl (All-nil (λ byte. byte ≡ 32))),
      found.2 ∙ ap (λ t. found.0 ++ t) space ∙ sym (append_assoc found.0 (32 ∷ []) rest),
    )

-- a line of the word, spaces and digits
pub listing : (line rest digits : List ℕ) (n ledger : ℕ) → line ≡ codes "ledgerID:" ++ drop n line → rest ≡ drop n line
    → (lengths : List ℕ) → CutsPrefixes (FindsCharPrefix 32) rest lengths digits → digits ≡ decimal ledger → IsListing line ledger
listing line rest digits n ledger begins is lengths cuts number =
    let found = leads lengths rest digits cuts in
    (found.0, found.1, begins ∙ ap (λ t. codes "ledgerID:" ++ t) (sym is ∙ found.2 ∙ ap (λ t. found.0 ++ t) number))
