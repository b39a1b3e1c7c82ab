-- The lines of a ledgers map: those that are written and those that are still to be written are all.
use Rattle.std.proofs.Common.{◌≡◌, ℕ, List, ◌∷◌, ◌++◌, length, Option, Some, IfSome, option_map, Result, Ok, Err, OnOk, BTreeMap, nat_cmp}
use Rattle.std.proofs.Common.{sym, ap, ◌∙◌, subst, append_assoc}
use Rattle.std.specs.Prelude.{flat_map}
use Rattle.std.specs.Io.KnownBytes.{Appends}
use Rattle.std.specs.BTreeMap.{IsOrdered}
use Rattle.std.specs.FinMap as map
use Rattle.bk_record.specs.Files.{Files}
use Rattle.bk_disk.specs.Disk.{IsFile}
use Rattle.bk_head.specs.declared.header.Header.{Header}
use Rattle.bk_head.specs.Ledgers.{map_of}
use Rattle.bk_head.proofs.MapViews.{entries-map_of}
use Rattle.bk_inspect.specs.declared.header.Head.{Head}
use Rattle.bk_inspect.specs.declared.header.Head.TheVariants.{Whole}
use Rattle.bk_inspect.specs.Heads.{IsHead}
use Rattle.bk_inspect.specs.Maps.{ledger_line, IsMapIn}
use Rattle.bk_inspect.specs.Reading.{OfFile}
use Rattle.bk_inspect.specs.Shown.{MapText, WritesText}
use Rattle.bk_inspect.proofs.Lines.{appends_then}

-- some of the lines of these ledgers were written, and the rest's are to be written
pub record WroteSome (rest all : List (ℕ × ℕ)) (before now : Option (List ℕ)) : Type 0 where
  pub text : List ℕ
  pub appended : Appends before now text
  pub whole : text ++ flat_map ledger_line rest ≡ flat_map ledger_line all

pub wrote_more : (rest behind all : List (ℕ × ℕ)) (ledger : ℕ × ℕ) (before mid now : Option (List ℕ)) → rest ≡ ledger ∷ behind
    → WroteSome rest all before mid → Appends mid now (ledger_line ledger) → WroteSome behind all before now
wrote_more rest behind all ledger before mid now is w line = record {
  text = w.text ++ ledger_line ledger;
  appended = appends_then before mid now w.text (ledger_line ledger) w.appended line;
  whole = append_assoc w.text (ledger_line ledger) (flat_map ledger_line behind)
      ∙ ap (λ (x : List (ℕ × ℕ)). w.text ++ flat_map ledger_line x) (sym is)
      ∙ w.whole;
}

-- ---- a map's lines as what is shown of a log

-- the lines of the program's map are those of the map that stands in the log
pub map_shown : (file : List ℕ) (header : Header) (map : Option (BTreeMap ℕ ℕ)) (found : BTreeMap ℕ ℕ) (before now : Option (List ℕ)) → map ≡ Some found
    → IfSome map (IsOrdered nat_cmp) → IsMapIn file header (option_map map_of map) → Appends before now (flat_map ledger_line found.entries)
    → WritesText (MapText file (Whole header)) before now
map_shown file header map found before now is ordered stands appended =
    let sorted : IsOrdered nat_cmp found = subst (λ (o : Option (BTreeMap ℕ ℕ)). IfSome o (IsOrdered nat_cmp)) is ordered in (
      flat_map ledger_line found.entries,
      (
        Some (map_of found),
        subst (λ (o : Option (BTreeMap ℕ ℕ)). IsMapIn file header (option_map map_of o)) is stands,
        ap (flat_map ledger_line) (sym (entries-map_of found sorted)),
      ),
      appended,
    )

-- what is shown of a view of a log, whose header was read before, is shown of the log
pub map_told : (old mid : Files) (log long : ℕ) (head : Head) (header : Header) (bytes : List ℕ) (before now : Option (List ℕ))
    → OfFile old log (λ file. (long ≡ length file) × IsHead file head) → head ≡ Whole header → mid ≡ old → IsFile mid log bytes
    → {T E : Type 0} (r : Result T E) → OnOk r (WritesText (MapText bytes (Whole header)) before now)
    → OnOk r (WritesText (λ text. OfFile old log (λ file. (h : Head) × IsHead file h × MapText file h text)) before now)
map_told old mid log long head header bytes before now found is same viewed (Err e) w = tt
map_told old mid log long head header bytes before now found is same viewed (Ok x) w =
    let here : found.0 ≡ bytes = cc in (
      w.0,
      (
        bytes,
        ap (λ fs. map.get fs log) (sym same) ∙ viewed,
        (Whole header, subst (λ (h : Head). IsHead bytes h) is (subst (λ (f : List ℕ). IsHead f head) here found.2.1), w.1),
      ),
      w.2,
    )
