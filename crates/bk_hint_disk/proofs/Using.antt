-- A hint that is put, dropped or used.
use Rattle.std.proofs.Common.{◌≡◌, ◌∙◌, inl, inr, ℕ, List, Option, Some, None, Result, Ok, Err, IfSome, Vec, true, refl, sym, ap, subst}
use mathlib.Core.Bool.{false≢true}
use Rattle.std.specs.Global.{Global}
use Rattle.std.specs.Prelude.{is_ok}
use Rattle.std.specs.Cmp.{nat_cmp_total}
use Rattle.std.specs.FinMap as map
use Rattle.std.specs.FinMap.{nat_cmp-IsAntisymmetric}
use Rattle.std.proofs.lemmas.Option.{same_Some}
use Rattle.bk_record.specs.Files.{Files}
use Rattle.bk_record.proofs.Maps.{get-insert_cases}
use Rattle.bk_hint.specs.declared.listed.Listed.{Listed}
use Rattle.bk_hint.specs.declared.runs.ListedRun.{ListedRun}
use Rattle.bk_hint.specs.Runs.{entries_of_runs}
use Rattle.bk_hint_view.specs.Rows.{are_records, AreRecords}
use Rattle.bk_hint_view.specs.Showing.{has_true_table}
use Rattle.bk_hint_view.proofs.Truths.{true_test}
use Rattle.bk_hint_disk.specs.declared.fault.HintStoreFault.{HintStoreFault}
use Rattle.bk_hint_disk.specs.Hints.{bytes_in, Drops, Gets, Puts}
use Rattle.bk_hint_disk.specs.Truth.{AreTrue, HasHint, IsTrueHint}
use Rattle.bk_hint_disk.proofs.Truths.{true_fewer}

true_put : (hints files : Files) (log : ℕ) (hint file : List ℕ) → AreTrue hints files → map.get files log ≡ Some file → IsTrueHint file hint → AreTrue (map.insert hints log hint) files
true_put hints files log hint file holds is fact q other now has there =
    elim (get-insert_cases nat_cmp_total nat_cmp-IsAntisymmetric hints log hint q other has) [
      | inl here ↦
          let same : file ≡ now = same_Some file now (sym is ∙ ap (map.get files) (sym here.0) ∙ there) in
          subst (λ (h : List ℕ). IsTrueHint now h) here.1 (subst (λ (f : List ℕ). IsTrueHint f hint) same fact)
      | inr apart ↦ holds q other now apart.1 there
    ]

pub puts_true : {T : Type 0} (hints new files : Files) (log : ℕ) (hint file : List ℕ) (result : Result T HintStoreFault) → Puts hints log hint result new
    → AreTrue hints files → map.get files log ≡ Some file → IsTrueHint file hint → AreTrue new files
puts_true hints new files log hint file (Ok x) turn holds is fact = subst (λ (h : Files). AreTrue h files) (sym turn) (true_put hints files log hint file holds is fact)
puts_true hints new files log hint file (Err fault) turn holds is fact = elim turn [
  | inl same ↦ subst (λ (h : Files). AreTrue h files) (sym same) holds
  | inr more ↦ elim more [
    | inl put ↦ subst (λ (h : Files). AreTrue h files) (sym put) (true_put hints files log hint file holds is fact)
    | inr gone ↦ subst (λ (h : Files). AreTrue h files) (sym gone) (true_fewer hints files log holds)
  ]
]

pub gets_same : {T : Type 0} (bytes : T → List ℕ) (old new : Files) (log : ℕ) (result : Result (Option T) HintStoreFault) → Gets bytes old log result new → new ≡ old
gets_same bytes old new log (Ok found) turn = turn.1
gets_same bytes old new log (Err fault) turn = turn

pub dropped : {T : Type 0} (hints now : Files) (log : ℕ) (result : Result T HintStoreFault) → Drops hints log result now → is_ok result ≡ true → now ≡ map.remove hints log
dropped hints now log (Ok x) turn is = turn
dropped hints now log (Err fault) turn is = absurd (false≢true is)

pub table_holds : (hints files new : Files) (log : ℕ) (file : List ℕ) (found : Result (Option (Vec ℕ Global)) HintStoreFault) (entries : List Listed) (table : Option (List ListedRun))
    → AreTrue hints files → map.get files log ≡ Some file → Gets bytes_in hints log found new → HasHint found log entries
    → IfSome table (λ t. entries_of_runs t ≡ entries) → has_true_table table file ≡ true
table_holds hints files new log file found entries None holds is gets has made = refl
table_holds hints files new log file (Ok (Some hint)) entries (Some rows) holds is gets has made =
    let are : AreRecords file entries = holds log hint.items file (sym gets.0) is has.facts entries has.is in
    ap (are_records file) made ∙ true_test file entries are
table_holds hints files new log file (Ok None) entries (Some rows) holds is gets has made = absurd has
table_holds hints files new log file (Err fault) entries (Some rows) holds is gets has made = absurd has
