-- A run that goes on behind another: as one, they have the same entries.
use Rattle.std.proofs.Common.{◌≡◌, ℕ, zero, suc, ◌+◌, ◌*◌, ◌<◌, List, [], ◌∷◌, ◌++◌, length, get_or, set, take, sym, ap, ◌∙◌, arith}
use Rattle.std.proofs.lemmas.List.{append-nil, take_all, take_more, take_more_set, length-set}
use Rattle.std.proofs.lemmas.List.Concat.{flat_map-append}
use Rattle.std.proofs.Common.{append_assoc}
use Rattle.bk_hint.specs.declared.listed.Listed.{Listed}
use Rattle.bk_hint.specs.declared.runs.ListedRun.{ListedRun}
use Rattle.bk_hint.specs.Entries.{next_of, repeats}
use Rattle.bk_hint.specs.Checking.{repeated_by}
use Rattle.bk_hint.specs.Runs.{entries_of_run, entries_of_runs}
use Rattle.bk_hint_view.specs.Rows.{IsNextRun}

one_behind : (first : Listed) → next_of first first.size ≡ repeated_by 1 first
one_behind first =
    let at : first.at + first.size ≡ first.at + 1 * first.size = omega arith in
    (λ i. record { key = record { ledger = first.key.ledger; entry = first.key.entry + 1 }; at = at i; size = first.size })

further_behind : (count : ℕ) (first : Listed) → repeated_by (count + 1) (next_of first first.size) ≡ repeated_by (suc count + 1) first
further_behind count first =
    let entry : (first.key.entry + 1) + (count + 1) ≡ first.key.entry + (suc count + 1) = omega arith in
    let at : (first.at + first.size) + (count + 1) * first.size ≡ first.at + (suc count + 1) * first.size = omega arith in
    (λ i. record { key = record { ledger = first.key.ledger; entry = entry i }; at = at i; size = first.size })

repeats_on : (count more : ℕ) (first : Listed)
    → repeats (count + suc more) first ≡ repeats count first ++ repeated_by (count + 1) first ∷ repeats more (repeated_by (count + 1) first)
repeats_on zero more first =
    let none : 0 + suc more ≡ suc more = omega arith in
    ap (λ n. repeats n first) none ∙ ap (λ (next : Listed). next ∷ repeats more next) (one_behind first)
repeats_on (suc count) more first =
    let next = next_of first first.size in
    let many : suc count + suc more ≡ suc (count + suc more) = omega arith in
    ap (λ n. repeats n first) many ∙ ap (λ (rest : List Listed). next ∷ rest) (repeats_on count more next
    ∙ ap (λ (e : Listed). repeats count next ++ e ∷ repeats more e) (further_behind count first))

-- two runs as one
abbrev pub longer : ListedRun → ListedRun → ListedRun
longer last run = record last { again = last.again + (run.again + 1) }

entries_joined : (last run : ListedRun) → IsNextRun last run → entries_of_run (longer last run) ≡ entries_of_run last ++ entries_of_run run
entries_joined last run next =
    let many : last.again + (run.again + 1) ≡ last.again + suc run.again = omega arith in
    ap (λ (rest : List Listed). last.first ∷ rest)
    (ap (λ n. repeats n last.first) many ∙ repeats_on last.again run.again last.first
    ∙ ap (λ (e : Listed). repeats last.again last.first ++ e ∷ repeats run.again e) (sym next.first_is))

one_run : (run : ListedRun) → entries_of_runs (run ∷ []) ≡ entries_of_run run
one_run run = append-nil (entries_of_run run)

with_one : (rows : List ListedRun) (run : ListedRun) → entries_of_runs (rows ++ run ∷ []) ≡ entries_of_runs rows ++ entries_of_run run
with_one rows run = flat_map-append entries_of_run rows (run ∷ []) ∙ ap (λ (rest : List Listed). entries_of_runs rows ++ rest) (one_run run)

-- the last row becomes longer
pub last_joined : (rows : List ListedRun) (n : ℕ) (last run : ListedRun) → length rows ≡ n + 1 → last ≡ get_or rows n last → IsNextRun last run
    → entries_of_runs (set rows n (longer last run)) ≡ entries_of_runs (rows ++ run ∷ [])
last_joined rows n last run many is next =
    let front = take n rows in
    let set_is : set rows n (longer last run) ≡ front ++ longer last run ∷ [] =
    sym (take_all (n + 1) (set rows n (longer last run)) (omega (arith, length-set rows n (longer last run))))
    ∙ take_more_set rows n (longer last run) (omega arith) in
    let rows_is : rows ≡ front ++ last ∷ [] =
    sym (take_all (n + 1) rows (omega arith)) ∙ take_more rows n last (omega arith) ∙ ap (λ (r : ListedRun). front ++ r ∷ []) (sym is) in
    ap entries_of_runs set_is ∙ with_one front (longer last run)
    ∙ ap (λ (rest : List Listed). entries_of_runs front ++ rest) (entries_joined last run next)
    ∙ sym (append_assoc (entries_of_runs front) (entries_of_run last) (entries_of_run run))
    ∙ ap (λ (all : List Listed). all ++ entries_of_run run) (sym (with_one front last) ∙ ap entries_of_runs (sym rows_is))
    ∙ sym (with_one rows run)

-- rows with the same entries have the same with others behind
pub same_behind : (rows others behind : List ListedRun) → entries_of_runs rows ≡ entries_of_runs others
    → entries_of_runs (rows ++ behind) ≡ entries_of_runs (others ++ behind)
same_behind rows others behind is =
    flat_map-append entries_of_run rows behind ∙ ap (λ (front : List Listed). front ++ entries_of_runs behind) is
    ∙ sym (flat_map-append entries_of_run others behind)
