-- What a command writes of the files of a disk if its status is 0. Read `Prints` first.
use Rattle.std.specs.Prelude.{◌≡◌, ℕ, Bool, true, false, List, [], ◌∷◌, ◌++◌, length, drop, codes, Option}
use Rattle.std.specs.Io.KnownBytes.{Appends}
use Rattle.std.specs.FinMap as map
use Rattle.bk_record.specs.Files.{Files, header_length, records_of, rest_of}
use Rattle.bk_record.specs.Body.{Body}
use Rattle.bk_inspect.specs.declared.command.DirCommand.{DirCommand}
use Rattle.bk_inspect.specs.declared.command.DirCommand.TheVariants.{Logs, Header, Map, Scan, ScanPart, Find, Check, CheckQuick, CheckDigests, CheckLong, Ledgers, Entries}
use Rattle.bk_inspect.specs.declared.command.ScanChoice.{ScanChoice}
use Rattle.bk_inspect.specs.declared.header.Head.{Head}
use Rattle.bk_inspect.specs.declared.header.Head.TheVariants as heads
use Rattle.bk_inspect.specs.declared.listing.LogStanding.{LogStanding}
use Rattle.bk_head.specs.Ledgers.{LedgersMap}
use Rattle.bk_inspect.specs.Heads.{IsHead, HasState}
use Rattle.bk_inspect.specs.Maps.{IsMapIn, map_lines}
use Rattle.bk_inspect.specs.Outlines.{IsOutlineLine}
use Rattle.bk_inspect.specs.Parts.{IsPartText}
use Rattle.bk_inspect.specs.Reading.{OfFile}
use Rattle.bk_inspect.specs.Texts.{log_line, header_line, scan_lines}

-- a text of which this holds is written
abbrev pub WritesText : (List ℕ → Type 0) → Option (List ℕ) → Option (List ℕ) → Type 0
WritesText Is before now = (text : List ℕ) × Is text × Appends before now text

-- a text of one line for each of some logs, in order
pub data AreLines (IsLine : ℕ → List ℕ → Type 0) : List ℕ → List ℕ → Type 0 where
  none : AreLines IsLine [] []
  more : {logs text line : List ℕ} {log : ℕ} → AreLines IsLine logs text → IsLine log line → AreLines IsLine (logs ++ log ∷ []) (text ++ line)

-- the line of a log in the list of all
abbrev pub IsLogLine : Files → ℕ → List ℕ → Type 0
IsLogLine files log line = OfFile files log (λ file. (state : LogStanding) × HasState file state × (line ≡ log_line log (length file) state))

-- the text of a log's header; an invalid one is a fault
abbrev pub HeadText : Head → List ℕ → Type 0
HeadText heads.Short text = text ≡ codes "short\n"
HeadText (heads.Bad fault) text = ⊥
HeadText (heads.Whole header) text = text ≡ header_line header

-- the records of a log are whole up to its end or a torn rest, and the text is the rows of its entries; a bad length is a fault
pub record IsScanText (file text : List ℕ) : Type 0 where
  pub spelled : Body header_length (drop header_length file) (records_of file) (rest_of file)
  pub lines : text ≡ scan_lines file

-- the text of a log's ledgers map; an invalid header or map is a fault
abbrev pub MapText : List ℕ → Head → List ℕ → Type 0
MapText file heads.Short text = text ≡ codes "short\n"
MapText file (heads.Bad fault) text = ⊥
MapText file (heads.Whole header) text = (map : Option LedgersMap) × IsMapIn file header map × (text ≡ map_lines map)

-- the text of a scan of chosen entries; nothing is said of one with data
abbrev pub PartPrints : Bool → ℕ → ScanChoice → Files → Option (List ℕ) → Option (List ℕ) → Type 0
PartPrints true log choice files before now = Unit {0}
PartPrints false log choice files before now = WritesText (λ text. OfFile files log (λ file. IsPartText choice file text)) before now

-- What a command writes if its status is 0. Nothing is said of `find`, `ledgers`, `entries` and a `check` that reads entries.
abbrev pub Prints : DirCommand → Files → Option (List ℕ) → Option (List ℕ) → Type 0
Prints Logs files before now = WritesText (AreLines (IsLogLine files) (map.keys files)) before now
Prints (Header log) files before now = WritesText (λ text. OfFile files log (λ file. (head : Head) × IsHead file head × HeadText head text)) before now
Prints (Scan log) files before now = WritesText (λ text. OfFile files log (λ file. IsScanText file text)) before now
Prints (ScanPart log choice) files before now = PartPrints choice.data log choice files before now
Prints (Map log) files before now = WritesText (λ text. OfFile files log (λ file. (head : Head) × IsHead file head × MapText file head text)) before now
Prints (Find key) files before now = Unit {0}
Prints Check files before now = Unit {0}
Prints CheckQuick files before now = WritesText (AreLines (IsOutlineLine files) (map.keys files)) before now
Prints (CheckDigests choice) files before now = Unit {0}
Prints (CheckLong choice) files before now = Unit {0}
Prints Ledgers files before now = Unit {0}
Prints (Entries range) files before now = Unit {0}
