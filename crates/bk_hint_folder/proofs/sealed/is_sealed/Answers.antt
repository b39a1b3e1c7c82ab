use Rattle.std.proofs.Common.{inl, inr, ℕ, List, subst}
use Rattle.std.proofs.lemmas.Bool.{false≢true}
use Rattle.bk_head.specs.Header.{HasHeader, IsHeader}
use Rattle.bk_hint_folder.proofs.sealed.is_sealed.Goals as goal

pub returns-in-Ok-clause-sealed : goal.returns-in-Ok-clause-sealed
returns-in-Ok-clause-sealed c = λ is.
    let found = c.names_map.ensures.some is in (
      c.in-Some.ensures.cases.enough,
      (
        found.0,
        record {
          said = c.in-Ok.header;
          is = subst (λ (b : List ℕ). IsHeader b c.in-Ok.header) c.in-Some.ensures.cases.same c.in-Ok.ensures.value;
          count = found.1.0;
          place = found.1.1;
        },
      ),
    )

pub returns-in-Ok-clause-unsealed : goal.returns-in-Ok-clause-unsealed
returns-in-Ok-clause-unsealed c = λ is.
    inr (inr (
      c.in-Ok.header,
      subst (λ (b : List ℕ). IsHeader b c.in-Ok.header) c.in-Some.ensures.cases.same c.in-Ok.ensures.value,
      c.names_map.ensures.none is,
    ))

pub returns-in-Err-clause-unsealed : goal.returns-in-Err-clause-unsealed
returns-in-Err-clause-unsealed c = λ _.
    inr (inl (subst (λ (b : List ℕ). ¬ (HasHeader b)) c.in-Some.ensures.cases.same (λ has. absurd (false≢true (c.in-Err.ensures.ok.1 has)))))
