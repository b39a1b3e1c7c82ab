-- The lines of a scan of chosen entries: one for each that was given and taken, and the counts at the end.
use Rattle.std.proofs.Common.{◌≡◌, ℕ, ◌+◌, ◌*◌, ◌≤◌, true, false, cond, Bool, IsTrue, List, [], ◌∷◌, ◌++◌, length, take, drop, Option}
use Rattle.std.proofs.Common.{Some, None, Ok, slice_get, sym, ap, ap₂, ◌∙◌, subst, arith}
use Rattle.std.specs.Prelude.{flat_map}
use Rattle.std.specs.Io.KnownBytes.{Appends}
use Rattle.std.proofs.lemmas.List.{take_all, append-nil, length_push, flat_map_more}
use Rattle.std.proofs.lemmas.List.Elements.{filter_more}
use Rattle.std.proofs.lemmas.Option.{slice_get_within, get_or_from_slice_get}
use Rattle.bk_record.specs.Record.{ledger_field}
use Rattle.bk_record.specs.Body.{Body}
use Rattle.bk_record.specs.Files.{header_length, rest_of}
use Rattle.bk_record.specs.Scan.{entries_of, foreign_of, torn_of}
use Rattle.bk_record.specs.Spelling.{all_pieces, all_leftover}
use Rattle.bk_log.specs.declared.found.Found.{Found}
use Rattle.bk_log.specs.Ranges.{entries_in, foreign_in}
use Rattle.bk_log.specs.Scanning.{Scan, part_of, IsGiven, IsFinished, NextMoves}
use Rattle.bk_log.proofs.Ranges.{all_pieces-file, all_leftover-file, entries_in-file, foreign_in-file}
use Rattle.bk_inspect.specs.declared.command.ScanChoice.{ScanChoice}
use Rattle.bk_inspect.specs.Texts.{found_line, entry_line, counts_line}
use Rattle.bk_inspect.specs.Parts.{is_taken, taken_of, IsPartText}
use Rattle.bk_inspect.specs.Shown.{WritesText}
use Rattle.bk_inspect.proofs.Lines.{appends_then}
use Rattle.bk_inspect.proofs.Scans.{keyed_fields, line_is}

-- the entries that were given and taken
abbrev taken_to : ScanChoice → Scan → ℕ → List (ℕ × List ℕ)
taken_to choice first given = taken_of choice (take given (entries_in first.from (part_of first)))

-- how far a scan has come of which so many entries were taken, each with its line
pub record PartShown (choice : ScanChoice) (first now : Scan) (entries : ℕ) (before after : Option (List ℕ)) : Type 0 where
  pub moved : now ≡ record first { left = now.left; given = now.given; foreign = now.foreign }
  pub room : now.left + 20 * entries ≤ first.left
  pub counted : IsTrue first.honest → entries ≡ length (taken_to choice first now.given)
  pub written : IsTrue first.honest → Appends before after (flat_map entry_line (taken_to choice first now.given))

-- one entry more was given
given_more : (choice : ScanChoice) (all : List (ℕ × List ℕ)) (n : ℕ) (entry : ℕ × List ℕ) → slice_get all n ≡ Some entry
    → taken_of choice (take (n + 1) all) ≡ taken_of choice (take n all) ++ cond (is_taken choice entry.0 (ledger_field entry.1)) (entry ∷ []) []
given_more choice all n entry is =
    filter_more (λ (e : ℕ × List ℕ). is_taken choice e.0 (ledger_field e.1)) all n entry (slice_get_within all n entry is)
    ∙ ap (λ (e : ℕ × List ℕ). taken_of choice (take n all) ++ cond (is_taken choice e.0 (ledger_field e.1)) (e ∷ []) [])
    (get_or_from_slice_get all n entry entry is)

-- what a step of a scan gives: an entry that is listed next, whose line is told by what was found
record IsNext (choice : ScanChoice) (first now next : Scan) (found : Found) : Type 0 where
  entry : ℕ × List ℕ
  taken : taken_to choice first next.given ≡ taken_to choice first now.given ++ cond (is_taken choice found.at found.key.ledger) (entry ∷ []) []
  line : found_line found.at found.key.ledger found.key.entry found.size ≡ entry_line entry

is_next : (choice : ScanChoice) (first now next : Scan) (found : Found) → now ≡ record first { left = now.left; given = now.given; foreign = now.foreign }
    → NextMoves now (Ok (Some found)) next → (IsTrue now.honest → IsGiven now found next.foreign) → IsTrue first.honest
    → IsNext choice first now next found
is_next choice first now next found moved moves given honest =
    let is = given (subst (λ (b : Bool). IsTrue b) (sym (ap (λ (s : Scan). s.honest) moved)) honest) in
    let listed = subst (λ (s : Scan). slice_get (entries_in s.from (part_of s)) now.given ≡ Some (found.at, is.payload)) moved is.listed in
    let ids = keyed_fields is.payload found.key is.stands.keyed in
    record {
      entry = (found.at, is.payload);
      taken = ap (taken_to choice first) (ap (λ (s : Scan). s.given) moves.2)
          ∙ given_more choice (entries_in first.from (part_of first)) now.given (found.at, is.payload) listed
          ∙ ap (λ l. taken_to choice first now.given ++ cond (is_taken choice found.at l) ((found.at, is.payload) ∷ []) []) (sym ids.0);
      line = line_is found is.payload is.stands.keyed is.sized;
    }

-- how the scan stands then
moved_on : (first now next : Scan) (found : Found) → now ≡ record first { left = now.left; given = now.given; foreign = now.foreign }
    → NextMoves now (Ok (Some found)) next → next ≡ record first { left = next.left; given = next.given; foreign = next.foreign }
moved_on first now next found moved moves =
    moves.2 ∙ ap (λ (s : Scan). record s { left = next.left; given = s.given + 1; foreign = next.foreign }) moved
    ∙ ap (λ n. record first { left = next.left; given = n; foreign = next.foreign }) (sym (ap (λ (s : Scan). s.given) moves.2))

-- an entry was given and taken, and its line written
pub part_taken : (choice : ScanChoice) (first now next : Scan) (entries : ℕ) (before mid after : Option (List ℕ)) (found : Found)
    → PartShown choice first now entries before mid → NextMoves now (Ok (Some found)) next → (IsTrue now.honest → IsGiven now found next.foreign)
    → is_taken choice found.at found.key.ledger ≡ true → Appends mid after (found_line found.at found.key.ledger found.key.entry found.size)
    → PartShown choice first next (entries + 1) before after
part_taken choice first now next entries before mid after found shown moves given taken line = record {
  moved = moved_on first now next found shown.moved moves;
  room = omega (arith, shown.room, moves.1.long, moves.1.fewer);
  counted = λ honest.
      let step = is_next choice first now next found shown.moved moves given honest in
      let more = step.taken ∙ ap (λ b. taken_to choice first now.given ++ cond b (step.entry ∷ []) []) taken in
      ap (λ n. n + 1) (shown.counted honest) ∙ sym (length_push (taken_to choice first now.given) step.entry) ∙ sym (ap length more);
  written = λ honest.
      let step = is_next choice first now next found shown.moved moves given honest in
      let more = step.taken ∙ ap (λ b. taken_to choice first now.given ++ cond b (step.entry ∷ []) []) taken in
      subst (λ (l : List ℕ). Appends before after l)
      (flat_map_more entry_line [] (taken_to choice first now.given) step.entry ∙ ap (flat_map entry_line) (sym more))
      (appends_then before mid after _ _ (shown.written honest) (subst (λ (l : List ℕ). Appends mid after l) step.line line));
}

-- an entry was given and passed over
pub part_passed : (choice : ScanChoice) (first now next : Scan) (entries : ℕ) (before after : Option (List ℕ)) (found : Found)
    → PartShown choice first now entries before after → NextMoves now (Ok (Some found)) next → (IsTrue now.honest → IsGiven now found next.foreign)
    → is_taken choice found.at found.key.ledger ≡ false → PartShown choice first next entries before after
part_passed choice first now next entries before after found shown moves given passed = record {
  moved = moved_on first now next found shown.moved moves;
  room = omega (arith, shown.room, moves.1.long, moves.1.fewer);
  counted = λ honest. shown.counted honest ∙ sym (ap length (same honest));
  written = λ honest. subst (λ (l : List ℕ). Appends before after l) (ap (flat_map entry_line) (sym (same honest))) (shown.written honest);
} where
  same : IsTrue first.honest → taken_to choice first next.given ≡ taken_to choice first now.given
  same honest =
      let step = is_next choice first now next found shown.moved moves given honest in
      step.taken ∙ ap (λ b. taken_to choice first now.given ++ cond b (step.entry ∷ []) []) passed ∙ append-nil (taken_to choice first now.given)

-- what was shown when the scan came to its end
pub part_all : (choice : ScanChoice) (first now next : Scan) (entries : ℕ) (file : List ℕ) (before mid after : Option (List ℕ))
    → PartShown choice first now entries before mid → NextMoves now (Ok None) next → (IsTrue now.honest → IsFinished next)
    → Appends mid after (counts_line entries next.foreign next.torn) → IsTrue first.honest → first.from ≡ header_length
    → part_of first ≡ drop header_length file → WritesText (IsPartText choice file) before after
unfolding torn_of
part_all choice first now next entries file before mid after shown moves finished counts honest from_is part_is =
    let is : next ≡ record first { left = next.left; given = now.given; foreign = next.foreign; torn = next.torn; ended = true } =
    moves.1 ∙ ap (λ (s : Scan). record s { left = next.left; foreign = next.foreign; torn = next.torn; ended = true }) shown.moved in
    let done = subst IsFinished is (finished (subst (λ (b : Bool). IsTrue b) (sym (ap (λ (s : Scan). s.honest) shown.moved)) honest)) in
    let listed : entries_in first.from (part_of first) ≡ entries_of file = ap₂ entries_in from_is part_is ∙ entries_in-file file in
    let all : take now.given (entries_in first.from (part_of first)) ≡ entries_of file =
    ap (take now.given) listed ∙ take_all now.given (entries_of file) (omega (arith, done.given ∙ ap length listed)) in
    let taken : taken_to choice first now.given ≡ taken_of choice (entries_of file) = ap (taken_of choice) all in
    let count : entries ≡ length (taken_of choice (entries_of file)) = shown.counted honest ∙ ap length taken in
    let foreign : next.foreign ≡ foreign_of file = done.foreign ∙ ap₂ foreign_in from_is part_is ∙ foreign_in-file file in
    let torn : next.torn ≡ torn_of file = done.torn ∙ ap (λ (b : List ℕ). length (all_leftover b)) part_is ∙ ap length (all_leftover-file file) in (
      flat_map entry_line (taken_to choice first now.given) ++ counts_line entries next.foreign next.torn,
      record {
        spelled = subst (λ (r : List (ℕ × List ℕ)). Body header_length (drop header_length file) r (rest_of file)) (all_pieces-file file)
            (subst (λ (r : List ℕ). Body header_length (drop header_length file) (all_pieces header_length (drop header_length file)) r)
            (all_leftover-file file)
            (subst (λ (b : List ℕ). Body header_length b (all_pieces header_length b) (all_leftover b)) part_is
            (subst (λ n. Body n (part_of first) (all_pieces n (part_of first)) (all_leftover (part_of first))) from_is done.spelled)));
        lines = ap₂ (λ (a b : List ℕ). a ++ b) (ap (flat_map entry_line) taken)
            (ap (λ n. counts_line n next.foreign next.torn) count
            ∙ ap (λ n. counts_line (length (taken_of choice (entries_of file))) n next.torn) foreign
            ∙ ap (λ n. counts_line (length (taken_of choice (entries_of file))) (foreign_of file) n) torn);
      },
      appends_then before mid after _ _ (shown.written honest) counts,
    )
