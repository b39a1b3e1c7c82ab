-- The lines of a scan: one for each entry that was given, and the counts at the end.
use Rattle.std.proofs.Common.{◌≡◌, ℕ, ◌+◌, ◌*◌, ◌≤◌, true, false, cond, ◌&&◌, Bool, IsTrue, List, [], ◌∷◌, ◌++◌, length, take, drop, nat_lt, Option}
use Rattle.std.proofs.Common.{Some, None, Ok, slice_get, refl, sym, ap, ap₂, ◌∙◌, subst, arith}
use Rattle.std.specs.Prelude.{flat_map, ◌^◌}
use Rattle.std.specs.Io.KnownBytes.{Appends}
use Rattle.std.proofs.lemmas.List.{take_more, take_all, flat_map_more}
use Rattle.std.proofs.lemmas.Option.{slice_get_within, get_or_from_slice_get}
use Rattle.bk_record.specs.Key.{EntryKey}
use Rattle.bk_record.specs.Record.{key_of, ledger_field, entry_field}
use Rattle.bk_record.specs.Body.{Body}
use Rattle.bk_record.specs.Files.{header_length, rest_of}
use Rattle.bk_record.specs.Scan.{entries_of, foreign_of, torn_of}
use Rattle.bk_record.specs.Spelling.{all_pieces, all_leftover}
use Rattle.bk_log.specs.declared.found.Found.{Found}
use Rattle.bk_log.specs.Ranges.{entries_in, foreign_in}
use Rattle.bk_log.specs.Scanning.{Scan, part_of, IsGiven, IsFinished, NextMoves}
use Rattle.bk_log.proofs.Ranges.{all_pieces-file, all_leftover-file, entries_in-file, foreign_in-file}
use Rattle.bk_inspect.specs.Texts.{found_line, entry_line, counts_line}
use Rattle.bk_inspect.specs.Shown.{WritesText, IsScanText}
use Rattle.bk_inspect.proofs.Lines.{appends_then}

-- how far a scan has come that gave so many entries, each with its line
pub record Shown (first now : Scan) (entries : ℕ) (before after : Option (List ℕ)) : Type 0 where
  pub moved : now ≡ record first { left = now.left; given = entries; foreign = now.foreign }
  pub room : now.left + 20 * entries ≤ first.left
  pub written : IsTrue first.honest → Appends before after (flat_map entry_line (take entries (entries_in first.from (part_of first))))

taken_none : {X : Type 0} (xs : List X) → take 0 xs ≡ []
taken_none [] = refl
taken_none (x ∷ xs) = refl

-- the key of a payload has the ids that stand in it
pub keyed_fields : (payload : List ℕ) (key : EntryKey) → key_of payload ≡ Some key → (key.ledger ≡ ledger_field payload) × (key.entry ≡ entry_field payload)
unfolding key_of
keyed_fields payload key is =
    let read : EntryKey = record { ledger = ledger_field payload; entry = entry_field payload } in
    elim (nat_lt (ledger_field payload) (2 ^ 63) && nat_lt (entry_field payload) (2 ^ 63)) as
    (λ b. cond b (Some read) None ≡ Some key → (key.ledger ≡ ledger_field payload) × (key.entry ≡ entry_field payload)) [
      | true ↦ λ e. let same : read ≡ key = cc in (sym (ap (λ k. k.ledger) same), sym (ap (λ k. k.entry) same))
      | false ↦ λ e. cc
    ] is

-- the line of an entry that was found is that of the entry that stands there
pub line_is : (found : Found) (payload : List ℕ) → key_of payload ≡ Some found.key → found.size ≡ 4 + length payload
    → found_line found.at found.key.ledger found.key.entry found.size ≡ entry_line (found.at, payload)
line_is found payload keyed sized =
    let ids = keyed_fields payload found.key keyed in
    ap (λ l. found_line found.at l found.key.entry found.size) ids.0
    ∙ ap (λ e. found_line found.at (ledger_field payload) e found.size) ids.1
    ∙ ap (λ s. found_line found.at (ledger_field payload) (entry_field payload) s) sized

-- one entry more of a list
lines_more : (entries : List (ℕ × List ℕ)) (n : ℕ) (entry : ℕ × List ℕ) → slice_get entries n ≡ Some entry
    → flat_map entry_line (take n entries) ++ entry_line entry ≡ flat_map entry_line (take (n + 1) entries)
lines_more entries n entry is =
    flat_map_more entry_line [] (take n entries) entry
    ∙ ap (λ (e : ℕ × List ℕ). flat_map entry_line (take n entries ++ e ∷ [])) (sym (get_or_from_slice_get entries n entry entry is))
    ∙ ap (flat_map entry_line) (sym (take_more entries n entry (slice_get_within entries n entry is)))

-- one entry more was given, and its line written
pub shown_more : (first now next : Scan) (entries : ℕ) (before mid after : Option (List ℕ)) (found : Found) → Shown first now entries before mid
    → NextMoves now (Ok (Some found)) next → (IsTrue now.honest → IsGiven now found next.foreign)
    → Appends mid after (found_line found.at found.key.ledger found.key.entry found.size) → Shown first next (entries + 1) before after
shown_more first now next entries before mid after found shown moves given line = record {
  moved = moves.2 ∙ ap (λ (s : Scan). record s { left = next.left; given = s.given + 1; foreign = next.foreign }) shown.moved;
  room = omega (arith, shown.room, moves.1.long, moves.1.fewer);
  written = λ honest.
      let is = given (subst (λ (b : Bool). IsTrue b) (sym (ap (λ (s : Scan). s.honest) shown.moved)) honest) in
      let listed = subst (λ (s : Scan). slice_get (entries_in s.from (part_of s)) s.given ≡ Some (found.at, is.payload)) shown.moved is.listed in
      let text = line_is found is.payload is.stands.keyed is.sized in
      subst (λ (l : List ℕ). Appends before after l) (lines_more (entries_in first.from (part_of first)) entries (found.at, is.payload) listed)
      (appends_then before mid after _ _ (shown.written honest) (subst (λ (l : List ℕ). Appends mid after l) text line));
}

-- what was shown when the scan came to its end
pub shown_all : (first now next : Scan) (entries : ℕ) (file : List ℕ) (before mid after : Option (List ℕ)) → Shown first now entries before mid
    → NextMoves now (Ok None) next → (IsTrue now.honest → IsFinished next) → Appends mid after (counts_line entries next.foreign next.torn)
    → IsTrue first.honest → first.from ≡ header_length → part_of first ≡ drop header_length file → WritesText (IsScanText file) before after
unfolding torn_of
shown_all first now next entries file before mid after shown moves finished counts honest from_is part_is =
    let is : next ≡ record first { left = next.left; given = entries; foreign = next.foreign; torn = next.torn; ended = true } =
    moves.1 ∙ ap (λ (s : Scan). record s { left = next.left; foreign = next.foreign; torn = next.torn; ended = true }) shown.moved in
    let done = subst IsFinished is (finished (subst (λ (b : Bool). IsTrue b) (sym (ap (λ (s : Scan). s.honest) shown.moved)) honest)) in
    let listed : entries_in first.from (part_of first) ≡ entries_of file = ap₂ entries_in from_is part_is ∙ entries_in-file file in
    let given : entries ≡ length (entries_of file) = done.given ∙ ap length listed in
    let foreign : next.foreign ≡ foreign_of file = done.foreign ∙ ap₂ foreign_in from_is part_is ∙ foreign_in-file file in
    let torn : next.torn ≡ torn_of file = done.torn ∙ ap (λ (b : List ℕ). length (all_leftover b)) part_is ∙ ap length (all_leftover-file file) in
    let lines : take entries (entries_in first.from (part_of first)) ≡ entries_of file =
    ap (take entries) listed ∙ take_all entries (entries_of file) (omega (arith, given)) in (
      flat_map entry_line (take entries (entries_in first.from (part_of first))) ++ counts_line entries next.foreign next.torn,
      record {
        spelled = subst (λ (r : List (ℕ × List ℕ)). Body header_length (drop header_length file) r (rest_of file)) (all_pieces-file file)
            (subst (λ (r : List ℕ). Body header_length (drop header_length file) (all_pieces header_length (drop header_length file)) r)
            (all_leftover-file file)
            (subst (λ (b : List ℕ). Body header_length b (all_pieces header_length b) (all_leftover b)) part_is
            (subst (λ n. Body n (part_of first) (all_pieces n (part_of first)) (all_leftover (part_of first))) from_is done.spelled)));
        lines = ap₂ (λ (a b : List ℕ). a ++ b) (ap (flat_map entry_line) lines)
            (ap (λ n. counts_line n next.foreign next.torn) given ∙ ap (λ n. counts_line (length (entries_of file)) n next.torn) foreign
            ∙ ap (λ n. counts_line (length (entries_of file)) (foreign_of file) n) torn);
      },
      appends_then before mid after _ _ (shown.written honest) counts,
    )
