-- A disk whose views have hints. Its type invariant is `AreTrue`, while hints are believed.
use Rattle.std.specs.Prelude.{ℕ, Bool}
use Rattle.std.proofs.Common.{refl}
use Rattle.std.specs.Coded.{Coded, code_by, coded×, coded_ℕ, coded_bool, coded_list}
use Rattle.std.specs.FinMap as map
use Rattle.bk_record.specs.Files.{Files}

-- Specification value: the state of the inner disk; the hints, and whether their store is honest; and
-- whether hints are believed.
pub record Hinting : Type 0 where
  pub files : Files
  pub kept : Files
  pub gone : Files
  pub honest : Bool
  pub failures : ℕ
  pub hints : Files
  pub sure : Bool
  pub believed : Bool

abbrev pub hinting_code : Coded Hinting
hinting_code =
    code_by (Files × (Files × (Files × (Bool × (ℕ × (Files × (Bool × Bool)))))))
    (coded× (map.code coded_ℕ (coded_list coded_ℕ)) (coded× (map.code coded_ℕ (coded_list coded_ℕ)) (coded× (map.code coded_ℕ (coded_list coded_ℕ)) (coded× coded_bool (coded× coded_ℕ (coded× (map.code coded_ℕ (coded_list coded_ℕ)) (coded× coded_bool coded_bool)))))))
    (λ d. (d.files, (d.kept, (d.gone, (d.honest, (d.failures, (d.hints, (d.sure, d.believed))))))))
    (λ p. record {
      files = p.0;
      kept = p.1.0;
      gone = p.1.1.0;
      honest = p.1.1.1.0;
      failures = p.1.1.1.1.0;
      hints = p.1.1.1.1.1.0;
      sure = p.1.1.1.1.1.1.0;
      believed = p.1.1.1.1.1.1.1;
    }) (λ _. refl)
