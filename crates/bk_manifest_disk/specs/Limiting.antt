-- Logs of which only the first bytes are shown. Read `shown` and `AreWithin` first.
use Rattle.std.specs.Prelude.{◌≡◌, ℕ, ◌≤◌, Bool, true, nat_le, min, List, [], ◌∷◌, length, take, Option, None, Some}
use Rattle.std.proofs.Common.{refl}
use Rattle.std.specs.Ordering.{nat_cmp}
use Rattle.std.specs.Coded.{Coded, code_by, coded×, coded_ℕ, coded_bool, coded_list, coded_option}
use Rattle.std.specs.FinMap as map
use Rattle.bk_record.specs.Files.{Files}

-- limit of each log that has one, in bytes
abbrev pub LogLimits : Type 0
LogLimits = map.FinMap nat_cmp ℕ

-- bytes before a limit; all bytes if there is none
abbrev pub shown : Option ℕ → List ℕ → List ℕ
shown None file = file
shown (Some limit) file = take limit file

-- the bytes before this position are shown
abbrev pub reaches : Option ℕ → ℕ → Bool
reaches None end = true
reaches (Some limit) end = nat_le end limit

-- a length up to a limit
abbrev pub capped : Option ℕ → ℕ → ℕ
capped None n = n
capped (Some limit) n = min n limit

-- logs, each with the bytes before its limit
abbrev pub each_shown : LogLimits → List (ℕ × List ℕ) → List (ℕ × List ℕ)
each_shown limits [] = []
each_shown limits (log ∷ logs) = (log.0, shown (map.get limits log.0) log.1) ∷ each_shown limits logs

-- files of the logs, each up to its limit
unfoldable pub shown_files : LogLimits → Files → Files
shown_files limits files = map.from_entries (each_shown limits (map.entries files))

-- each limited log has a file that is not shorter than its limit
abbrev pub AreWithin : LogLimits → Files → Type 0
AreWithin limits files = (log limit : ℕ) → map.get limits log ≡ Some limit → (file : List ℕ) × (map.get files log ≡ Some file) × (limit ≤ length file)

-- specification value of a limited view: the inner view, and the limit
pub record ShownView : Type 0 where
  pub bytes : List ℕ
  pub honest : Bool
  pub sound : Bool
  pub limit : Option ℕ

abbrev pub shown_view_code : Coded ShownView
shown_view_code =
    code_by (List ℕ × (Bool × (Bool × Option ℕ))) (coded× (coded_list coded_ℕ) (coded× coded_bool (coded× coded_bool (coded_option coded_ℕ))))
    (λ v. (v.bytes, (v.honest, (v.sound, v.limit)))) (λ p. record { bytes = p.0; honest = p.1.0; sound = p.1.1.0; limit = p.1.1.1 }) (λ _. refl)

-- specification value of a limited disk: the state of the inner disk, and the limits
pub record Limiting : Type 0 where
  pub files : Files
  pub kept : Files
  pub gone : Files
  pub honest : Bool
  pub failures : ℕ
  pub limits : LogLimits

abbrev pub limiting_code : Coded Limiting
limiting_code =
    code_by (Files × (Files × (Files × (Bool × (ℕ × LogLimits)))))
    (coded× (map.code coded_ℕ (coded_list coded_ℕ)) (coded× (map.code coded_ℕ (coded_list coded_ℕ)) (coded× (map.code coded_ℕ (coded_list coded_ℕ)) (coded× coded_bool (coded× coded_ℕ (map.code coded_ℕ coded_ℕ))))))
    (λ d. (d.files, (d.kept, (d.gone, (d.honest, (d.failures, d.limits))))))
    (λ p. record { files = p.0; kept = p.1.0; gone = p.1.1.0; honest = p.1.1.1.0; failures = p.1.1.1.1.0; limits = p.1.1.1.1.1 }) (λ _. refl)
