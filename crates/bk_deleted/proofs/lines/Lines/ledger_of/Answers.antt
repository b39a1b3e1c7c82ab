use Rattle.std.proofs.Common.{◌≡◌, ℕ, List, ◌≤◌, ◌++◌, drop, inl, inr, Option, Some, None, IfSome, sym, ap, subst, ◌∙◌}
use Rattle.std.specs.Prelude.{codes}
use Rattle.std.specs.Str.Pattern.{CutsPrefixes, FindsCharPrefix}
use Rattle.std.specs.Fmt.{decimal}
use Rattle.bk_deleted.specs.declared.lines.Lines.{Lines}
use Rattle.bk_deleted.specs.declared.lines.Lines.TheVariants.{Plain, Listed}
use Rattle.bk_deleted.specs.Lines.{Names}
use Rattle.bk_deleted.proofs.Listings.{listing}
use Rattle.bk_deleted.proofs.lines.Lines.ledger_of.Goals as goal
use Rattle.bk_deleted.proofs.lines.Lines.ledger_of.Goals.{in-Plain, in-Listed+in-Some, in-Listed+in-None}

plain : (lines : Lines) (line : List ℕ) (found : Option ℕ) (digits : List ℕ) → lines ≡ Plain → digits ≡ line
    → IfSome found (λ n. (n ≤ 9223372036854775807) × (digits ≡ decimal n)) → IfSome found (λ n. Names lines line n)
plain lines line None digits is same value = value
plain lines line (Some n) digits is same value = subst (λ (l : Lines). Names l line n) (sym is) (sym same ∙ value.1)

bare : (lines : Lines) (line : List ℕ) (found : Option ℕ) (digits : List ℕ) → lines ≡ Listed → digits ≡ line
    → IfSome found (λ n. (n ≤ 9223372036854775807) × (digits ≡ decimal n)) → IfSome found (λ n. Names lines line n)
bare lines line None digits is same value = value
bare lines line (Some n) digits is same value = subst (λ (l : Lines). Names l line n) (sym is) (inl (sym same ∙ value.1))

spaced : (lines : Lines) (line : List ℕ) (found : Option ℕ) (rest digits : List ℕ) (n : ℕ) → lines ≡ Listed
    → line ≡ codes "ledgerID:" ++ drop n line → rest ≡ drop n line
    → (lengths : List ℕ) → CutsPrefixes (FindsCharPrefix 32) rest lengths digits
    → IfSome found (λ n. (n ≤ 9223372036854775807) × (digits ≡ decimal n)) → IfSome found (λ n. Names lines line n)
spaced lines line None rest digits n is begins left lengths cuts value = value
spaced lines line (Some ledger) rest digits n is begins left lengths cuts value = subst (λ (l : Lines). Names l line ledger) (sym is) (inr (listing line rest digits n ledger begins left lengths cuts value.1))

pub returns-clause-value : goal.returns-clause-value
returns-clause-value c = elim c.match-self.branch [
  | in-Plain w ↦ plain c.args.self c.args.line.now c.number.result c.match-self.digits.now w.in-Plain.is (ap (λ t. t.now) w.digits-is) c.number.ensures.value
  | in-Listed+in-Some w ↦ let cases = w.in-Some.ensures.cases in let cuts = w.trim_start_matches.ensures.matches.0 in
      spaced c.args.self c.args.line.now c.number.result w.in-Some.rest.now c.match-self.digits.now cases.0 w.in-Listed.is cases.1.1 cases.2 cuts.0
      (subst (λ (digits : List ℕ). CutsPrefixes (FindsCharPrefix 32) w.in-Some.rest.now cuts.0 digits) (sym (ap (λ t. t.now) w.digits-is)) cuts.1)
      c.number.ensures.value
  | in-Listed+in-None w ↦ bare c.args.self c.args.line.now c.number.result c.match-self.digits.now w.in-Listed.is (ap (λ t. t.now) w.digits-is) c.number.ensures.value
]
