-- One more record in the rows of a page.
use Rattle.std.proofs.Common.{◌≡◌, ℕ, ◌+◌, ◌<◌, List, [], ◌∷◌, ◌++◌, length, take, get_or, ap, sym, ◌∙◌}
use Rattle.std.specs.Prelude.{Option, Some, None}
use Rattle.std.specs.List.{cons_option}
use Rattle.std.proofs.lemmas.List.{append-nil, map-append, take_more}
use Rattle.std.proofs.lemmas.List.Elements.{filter_map-append}
use Rattle.bk_manifest.specs.Fact.{fact, facts}
use Rattle.bk_manifest.specs.declared.record.Record.{Record}
use Rattle.bk_report.specs.declared.report.ManifestRow.{ManifestRow}
use Rattle.bk_survey.specs.Pages.{row_of, rows_of}

module _ (records : List Record) (i : ℕ) (one : Record) (here : i < length records) (is : one ≡ get_or records i one) where
  with_next : rows_of (facts (take (i + 1) records)) ≡ rows_of (facts (take i records)) ++ cons_option (row_of (fact one)) []
  with_next =
      ap (λ (xs : List Record). rows_of (facts xs)) (take_more records i one here)
      ∙ ap rows_of (map-append fact (take i records) (get_or records i one ∷ []))
      ∙ filter_map-append row_of (facts (take i records)) (fact (get_or records i one) ∷ [])
      ∙ ap (λ (r : Record). rows_of (facts (take i records)) ++ cons_option (row_of (fact r)) []) (sym is)

  pub one_row : (row : ManifestRow) → row_of (fact one) ≡ Some row
      → rows_of (facts (take (i + 1) records)) ≡ rows_of (facts (take i records)) ++ row ∷ []
  one_row row shown = with_next ∙ ap (λ (o : Option ManifestRow). rows_of (facts (take i records)) ++ cons_option o []) shown

  pub no_row : row_of (fact one) ≡ None → rows_of (facts (take (i + 1) records)) ≡ rows_of (facts (take i records))
  no_row none = with_next ∙ ap (λ (o : Option ManifestRow). rows_of (facts (take i records)) ++ cons_option o []) none
      ∙ append-nil (rows_of (facts (take i records)))
