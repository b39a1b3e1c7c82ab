-- A line of a script, and the step that it encodes. A line is words separated by single spaces.
-- Read `Spells` first, at the end.
use Rattle.std.specs.Prelude.{◌≡◌, ◌≢◌, ℕ, ◌<◌, ◌≤◌, ◌^◌, ◌&&◌, nat_le, Bool, true, false, if◌then◌else◌, List, [], ◌∷◌, ◌++◌}
use Rattle.std.specs.Prelude.{All, find, slice_index, replicate, codes, bytes_eq, Option, Some, None, option_and_then}
use Rattle.std.specs.List.{join_with_byte}
use Rattle.std.specs.Fmt.{decimal}
use Rattle.std.specs.Int.{w64, to_be_bytes, IsInRange}
use Rattle.std.specs.Global.{Vec}
use Rattle.bk_record.specs.Limits.{max_pad}
use Rattle.bk_drive.specs.declared.step.Step.{Step}
use Rattle.bk_drive.specs.declared.step.Step.TheVariants as steps
use Rattle.bk_store.specs.declared.adding.AddKind.{AddKind}
use Rattle.bk_store.specs.declared.adding.AddKind.TheVariants.{Ordinary, Recovery}
use Rattle.bk_drive.specs.declared.step.Work.TheVariants.{Swap, WriteOne, Publish, Roll, Retire, Rebuild, Close, Remove}
use Rattle.bk_drive.specs.declared.step.Work.TheVariants.{Begin, Copy, EndCopy, Switch, Finish, GiveUp}
use Rattle.bk_drive.specs.declared.ledger_reads.LedgerRead.TheVariants.{Holds, IsFenced, LastEntry, Entries, Ledgers}
use Rattle.bk_compact.specs.declared.answer.Kind.TheVariants.{Minor, Major}

-- Words separated by single spaces.
abbrev pub words : List (List ℕ) → List ℕ
words = join_with_byte 32

-- A word, and the rest after a space if there is one.
abbrev pub followed : List ℕ → Option (List ℕ) → List ℕ
followed word None = word
followed word (Some rest) = word ++ 32 ∷ rest

-- The word has no space.
abbrev pub IsWord : List ℕ → Type 0
IsWord word = All (λ byte. byte ≢ 32) word

-- The byte is between a space and a tilde.
abbrev pub IsPrintable : ℕ → Type 0
IsPrintable = IsInRange 32 126

-- Payload of an add: ledger id and entry id, eight bytes each, big-endian, then the data.
unfoldable pub payload_of : ℕ → ℕ → List ℕ → List ℕ
payload_of ledger entry bytes = to_be_bytes w64 ledger ++ to_be_bytes w64 entry ++ bytes

-- First word of an add by its kind, and the step of that kind.
abbrev pub add_word : AddKind → List ℕ
add_word Ordinary = codes "add"
add_word Recovery = codes "radd"

abbrev pub add_step : AddKind → Vec ℕ → Step
add_step Ordinary payload = steps.Add payload
add_step Recovery payload = steps.AddRecovery payload

-- The step adds this payload.
abbrev pub IsAdd : AddKind → ℕ → ℕ → List ℕ → Step → Type 0
IsAdd kind ledger entry bytes step = (payload : Vec ℕ) × (step ≡ add_step kind payload) × (payload.items ≡ payload_of ledger entry bytes)

-- Numbers separated by single spaces, or nothing.
abbrev pub numbered : List ℕ → Option (List ℕ)
numbered [] = None
numbered (n ∷ numbers) = Some (followed (decimal n) (numbered numbers))

-- What a number of a line is: a reader, a ledger or entry id, a log id, or a count.
pub data Range : Type 0 where
  reader : Range
  id : Range
  log : Range
  count : Range

-- Largest number of a range. Ids are below 2 ^ 63, log ids below 2 ^ 31, counts below 2 ^ 32.
abbrev pub most : ℕ → Range → ℕ
most readers reader = readers
most readers id = 9223372036854775807
most readers log = 2147483647
most readers count = 4294967295

-- A form: the first word of a line, the ranges of its numbers, and the step that they make.
pub record Form : Type 0 where
  pub word : List ℕ
  pub ranges : List Range
  pub step : List ℕ → Step

-- A word alone, and words with one, two and three numbers.
abbrev pub alone : List ℕ → Step → Form
alone word step = record { word = word; ranges = []; step = λ numbers. step }

abbrev pub with_one : List ℕ → Range → (ℕ → Step) → Form
with_one word range make = record { word = word; ranges = range ∷ []; step = λ numbers. make (slice_index numbers 0) }

abbrev pub with_two : List ℕ → Range → Range → (ℕ → ℕ → Step) → Form
with_two word first second make = record {
  word = word;
  ranges = first ∷ second ∷ [];
  step = λ numbers. make (slice_index numbers 0) (slice_index numbers 1);
}

abbrev pub with_three : List ℕ → Range → Range → Range → (ℕ → ℕ → ℕ → Step) → Form
with_three word first second third make = record {
  word = word;
  ranges = first ∷ second ∷ third ∷ [];
  step = λ numbers. make (slice_index numbers 0) (slice_index numbers 1) (slice_index numbers 2);
}

-- All forms. The step of such a line is made of numbers only. If two had one word, the first would
-- be used.
abbrev pub forms : List Form
forms =
    alone (codes "swap") (steps.Work Swap)
    ∷ alone (codes "write") (steps.Work WriteOne)
    ∷ alone (codes "publish") (steps.Work Publish)
    ∷ alone (codes "roll") (steps.Work Roll)
    ∷ alone (codes "rebuild") (steps.Work Rebuild)
    ∷ alone (codes "minor") (steps.Work (Begin Minor))
    ∷ alone (codes "major") (steps.Work (Begin Major))
    ∷ alone (codes "end") (steps.Work EndCopy)
    ∷ alone (codes "finish") (steps.Work Finish)
    ∷ alone (codes "giveup") (steps.Work GiveUp)
    ∷ alone (codes "stats") steps.Stats
    ∷ with_one (codes "retire") log (λ n. steps.Work (Retire n))
    ∷ with_one (codes "close") log (λ n. steps.Work (Close n))
    ∷ with_one (codes "remove") log (λ n. steps.Work (Remove n))
    ∷ with_one (codes "copy") count (λ n. steps.Work (Copy n))
    ∷ with_one (codes "switch") count (λ n. steps.Work (Switch n))
    ∷ with_one (codes "fetch") reader steps.Fetch
    ∷ with_one (codes "release") reader steps.Release
    ∷ with_one (codes "delete") id steps.Delete
    ∷ with_one (codes "fence") id steps.Fence
    ∷ with_one (codes "fenced") id (λ ledger. steps.Read (IsFenced ledger))
    ∷ with_one (codes "last") id (λ ledger. steps.Read (LastEntry ledger))
    ∷ with_two (codes "holds") id id (λ ledger entry. steps.Read (Holds (record { ledger = ledger; entry = entry })))
    ∷ with_two (codes "ledgers") id count (λ from most. steps.Read (Ledgers from most))
    ∷ with_three (codes "entries") id id count (λ ledger from most. steps.Read (Entries ledger from most))
    ∷ with_three (codes "take") reader id id (λ n ledger entry. steps.Take n (record { ledger = ledger; entry = entry }))
    ∷ []

abbrev pub form_of : List ℕ → Option Form
form_of word = find (λ form. bytes_eq word form.word) forms

-- There are as many numbers as ranges, and each is in its range.
abbrev pub fits : ℕ → List Range → List ℕ → Bool
fits readers [] [] = true
fits readers [] (n ∷ numbers) = false
fits readers (range ∷ ranges) [] = false
fits readers (range ∷ ranges) (n ∷ numbers) = nat_le n (most readers range) && fits readers ranges numbers

-- The step of a word and its numbers.
abbrev pub formed : ℕ → List ℕ → List ℕ → Option Step
formed readers word numbers =
    option_and_then (λ form. if fits readers form.ranges numbers then Some (form.step numbers) else None) (form_of word)

-- The line is the word of a form and numbers that fit, and encodes the step.
pub record IsFormed (readers : ℕ) (line : List ℕ) (step : Step) : Type 0 where
  pub word : List ℕ
  pub numbers : List ℕ
  pub made : formed readers word numbers ≡ Some step
  pub spelled : line ≡ followed word (numbered numbers)

-- The line encodes the step, with readers numbered from 0 to `readers` (this project's rule). It is
-- of a form, or it adds an entry: `add` or `radd` with a text as data, `pad` with up to `max_pad`
-- zero bytes. Ids are below 2 ^ 63.
pub data Spells (readers : ℕ) : List ℕ → Step → Type 0 where
  form : {line : List ℕ} {step : Step} → IsFormed readers line step → Spells readers line step
  add : (kind : AddKind) {ledger entry : ℕ} {step : Step} → ledger < 2 ^ 63 → entry < 2 ^ 63 → IsAdd kind ledger entry [] step
      → Spells readers (words (add_word kind ∷ decimal ledger ∷ decimal entry ∷ [])) step
  add_text : (kind : AddKind) {ledger entry : ℕ} {text : List ℕ} {step : Step} → ledger < 2 ^ 63 → entry < 2 ^ 63
      → text ≢ [] → All IsPrintable text → IsAdd kind ledger entry text step
      → Spells readers (words (add_word kind ∷ decimal ledger ∷ decimal entry ∷ text ∷ [])) step
  pad : {ledger entry size : ℕ} {step : Step} → ledger < 2 ^ 63 → entry < 2 ^ 63 → size ≤ max_pad
      → IsAdd Ordinary ledger entry (replicate size 0) step
      → Spells readers (words (codes "pad" ∷ decimal ledger ∷ decimal entry ∷ decimal size ∷ [])) step
