-- Places are equal if log and position are.
use Rattle.std.proofs.Common.{◌≡◌, ◌&&◌, eqb, ap}
use Rattle.std.specs.Bool.{Decides}
use Rattle.std.proofs.lemmas.Bool.{and_parts, eq-eqb, eqb-true}
use Rattle.bk_record.specs.Location.{Place}

pub place_eq_decides : (a b : Place) → Decides (eqb a.log b.log && eqb a.at b.at) (a ≡ b)
place_eq_decides a b = (
  λ same. let parts = and_parts _ _ same in
      let log : a.log ≡ b.log = eqb-true a.log b.log parts.0 in
      let at : a.at ≡ b.at = eqb-true a.at b.at parts.1 in
      λ i. record { log = log i; at = at i },
  λ same. rw (eq-eqb a.log b.log (ap (λ p. p.log) same), eq-eqb a.at b.at (ap (λ p. p.at) same)),
)
