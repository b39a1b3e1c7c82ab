-- The entries that a scan has found so far.
use Rattle.std.proofs.Common.{◌≡◌, ◌∙◌, ℕ, ◌-◌, ◌<◌, ◌^◌, Bool, IsTrue, List, [], ◌∷◌, ◌++◌, length, drop, sym, ap, subst, arith}
use Rattle.std.specs.List.{All}
use Rattle.std.proofs.lemmas.List.Elements.{All-push}
use Rattle.bk_record.proofs.Records.{each_byte}
use Rattle.bk_disk.specs.Blocks.{HasPrefix}
use Rattle.bk_log.specs.declared.found.Found.{Found}
use Rattle.bk_log.specs.Scanning.{Scan, IsGiven}
use Rattle.bk_hint.specs.declared.facts.LogFacts.{LogFacts}
use Rattle.bk_hint.specs.declared.listed.Listed.{Listed}
use Rattle.bk_hint.specs.Hint.{IsHint}
use Rattle.bk_hint.proofs.Decodings.{one_hint}
use Rattle.bk_hint_view.specs.Rows.{head_of, AreRecords}
use Rattle.bk_hint_disk.specs.Truth.{IsTrueHint}
use Rattle.bk_hint_disk.proofs.Heads.{record_head}

-- the scan is of these bytes, and the entries so far are records of them
pub record Collects (scan : Scan) (honest : Bool) (file : List ℕ) (entries : List Listed) : Type 0 where
  pub file_is : scan.file ≡ file
  pub honest_is : scan.honest ≡ honest
  pub records : IsTrue honest → AreRecords file entries

pub collects_none : (scan : Scan) (honest : Bool) (file : List ℕ) (entries : List Listed) → scan.file ≡ file → scan.honest ≡ honest → entries ≡ []
    → Collects scan honest file entries
collects_none scan honest file entries of truly none = record {
  file_is = of;
  honest_is = truly;
  records = λ _ k d within. absurd (omega (arith, ap length none));
}

pub collects_more : (scan now : Scan) (honest : Bool) (file : List ℕ) (entries more : List Listed) (found : Found) (foreign : ℕ) → Collects scan honest file entries
    → (IsTrue honest → All (λ b. b < 2 ^ 8) file) → now.file ≡ scan.file → now.honest ≡ scan.honest
    → (IsTrue honest → IsGiven scan found foreign)
    → more ≡ entries ++ (record { key = found.key; at = found.at; size = found.size }) ∷ []
    → Collects now honest file more
collects_more scan now honest file entries more found foreign so_far bytes of truly given pushed = record {
  file_is = of ∙ so_far.file_is;
  honest_is = truly ∙ so_far.honest_is;
  records = λ h.
      let is = given h in
      let entry : Listed = record { key = found.key; at = found.at; size = found.size } in
      let head : HasPrefix (drop (found.at - 4) scan.file) (head_of entry) =
      record_head scan.file is.payload found.at found.size found.key (each_byte scan.file (subst (All (λ b. b < 2 ^ 8)) (sym so_far.file_is) (bytes h))) is.stands is.sized in
      subst (AreRecords file) (sym pushed) (All-push (λ (e : Listed). HasPrefix (drop (e.at - 4) file) (head_of e)) entries entry (so_far.records h)
      (subst (λ (f : List ℕ). HasPrefix (drop (found.at - 4) f) (head_of entry)) so_far.file_is head));
}

-- a hint of entries that are records is true
pub made_true : (file hint : List ℕ) (facts : LogFacts) (entries : List Listed) → IsHint hint facts entries → AreRecords file entries → IsTrueHint file hint
made_true file hint facts entries is are others list also = subst (AreRecords file) (one_hint hint facts others entries list is also).0 are
