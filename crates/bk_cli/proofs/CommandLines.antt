-- Consequences of clap's contracts for the program's command line.
use Rattle.std.proofs.Common.{◌≡◌, ◌≢◌, ℕ, ◌+◌, ◌<◌, ◌≤◌, ◌^◌, zero, suc, Bool, true, false, ◌||◌, List, [], ◌∷◌, ◌++◌, length, map, take, get_or, inl, inr}
use Rattle.std.proofs.Common.{Option, Some, None, option_map, Result, Ok, Err, Box, Bor, codes, arith, refl, sym, ◌∙◌, ap, subst}
use Rattle.std.specs.Fmt.{decimal}
use Rattle.std.specs.List.{AllZip}
use Rattle.std.proofs.lemmas.List.{map-append, take_more}
use Rattle.std.proofs.lemmas.Slice.Zip.{all_zipped_more}
use Rattle.std.specs.Box.{box_value}
use Rattle.std.specs.Result.{IfOk, IfErr, IsErrAnd}
use Rattle.std.proofs.lemmas.Fmt.{decimal_injective}
use Rattle.clap.specs.Faults.{fault_of, is_simple_and_free}
use Rattle.clap.specs.Kinds.{HasKind, Kinds}
use Rattle.clap.specs.Values.{kind_of}
use Rattle.clap.specs.declared.error.Error.{Error}
use Rattle.clap.specs.declared.error.kind.ErrorKind.TheVariants.{OutOfMemory}
use Rattle.clap.specs.Matches.{first_value, matched_of, raw_values}
use Rattle.clap.specs.Walk.{Row, Text, all_of, first_of, one_of, rows_of, texts}
use Rattle.clap.specs.Simple.{App, HasMatchesOf, is_simple, subcommand_of, subcommand_rows, subcommand_rows_of}
use Rattle.clap.specs.declared.parser.matches.ArgMatches.{ArgMatches}
use Rattle.clap.specs.declared.parser.matches.ArgMatches.TheViews.{out-SubCommand}
use Rattle.clap.specs.declared.parser.matches.Found.{Found}
use Rattle.clap.specs.declared.parser.matches.SubCommand.{SubCommand}
use Rattle.clap.proofs.OnLiterals.{clap_on_literals}
use Rattle.clap.proofs.WalkLemmas.{first_value-rows, raw_values-rows}
use Rattle.bk_store.specs.declared.settings.Settings.{Settings}
use Rattle.bk_cli.specs.declared.script.ScriptCall.{ScriptCall}
use Rattle.bk_cli.specs.CommandLine.{program, last_ledger, Asks, AsksFlag, AsksLedgers, AsksNoHints, AsksNoManifest, AsksSettings, IsNumberIn}

-- a word is at most one number
pub same_number : (word : Text) (m n : ℕ) → m < 2 ^ 64 → n < 2 ^ 64 → word ≡ decimal m → word ≡ decimal n → m ≡ n
same_number word m n small low is then = decimal_injective m n small low (sym is ∙ then)

-- value of an option in the rows of a parse
pub row_none : (f : Found) (id : Text) (r : Option (Bor Text)) → option_map (λ s. s.now) r ≡ first_value f id → r ≡ None
    → first_of id (rows_of f) ≡ None
row_none f id r e is = sym (first_value-rows f id) ∙ (sym e ∙ ap (option_map (λ (s : Bor Text). s.now)) is)

pub row_some : (f : Found) (id : Text) (r : Option (Bor Text)) (text : Bor Text) → option_map (λ s. s.now) r ≡ first_value f id → r ≡ Some text
    → first_of id (rows_of f) ≡ Some text.now
row_some f id r text e is = sym (first_value-rows f id) ∙ (sym e ∙ ap (option_map (λ (s : Bor Text). s.now)) is)

-- value of a flag in the rows of a parse
pub flag_read : (word : Option Text) (is_given : Bool) → (word ≡ None → is_given ≡ false) → (word ≡ Some (codes "true") → is_given ≡ true)
    → (word ≡ Some (codes "false") → is_given ≡ false) → AsksFlag word is_given
flag_read None is_given none given other = none refl
flag_read (Some word) is_given none given other = (λ is. given (ap Some is), λ is. other (ap Some is))

-- words of an argument in the rows of a parse
pub words_none : (f : Found) (id : Text) (r : Option (Bor (List (Bor Text))))
    → option_map (λ s. map (λ v. v.now) s.now) r ≡ option_map raw_values (matched_of f id) → r ≡ None → all_of id (rows_of f) ≡ None
words_none f id r e is = sym (raw_values-rows f id) ∙ (sym e ∙ ap (option_map (λ (s : Bor (List (Bor Text))). texts s.now)) is)

pub words_some : (f : Found) (id : Text) (r : Option (Bor (List (Bor Text)))) (words : Bor (List (Bor Text)))
    → option_map (λ s. map (λ v. v.now) s.now) r ≡ option_map raw_values (matched_of f id) → r ≡ Some words
    → all_of id (rows_of f) ≡ Some (texts words.now)
words_some f id r words e is = sym (raw_values-rows f id) ∙ (sym e ∙ ap (option_map (λ (s : Bor (List (Bor Text))). texts s.now)) is)

-- ledgers, one for each of these words
abbrev pub AreLedgers : List (Bor Text) → List ℕ → Type 0
AreLedgers words dead = AllZip (IsNumberIn 0 last_ledger) (texts words) dead

-- one more word that is a ledger
pub ledgers_more : (words : List (Bor Text)) (i : ℕ) (d : Bor Text) (dead : List ℕ) (n : ℕ) → i < length words → AreLedgers (take i words) dead
    → (n ≤ last_ledger) × ((get_or words i d).now ≡ decimal n) → AreLedgers (take (i + 1) words) (dead ++ n ∷ [])
ledgers_more words i d dead n inside so_far one =
    let R : Text → ℕ → Type 0 = IsNumberIn 0 last_ledger in
    let split : texts (take (i + 1) words) ≡ texts (take i words) ++ (get_or words i d).now ∷ [] =
    ap texts (take_more words i d inside) ∙ map-append (λ (w : Bor Text). w.now) (take i words) (get_or words i d ∷ []) in
    subst (λ (ws : List Text). AllZip R ws (dead ++ n ∷ [])) (sym split)
    (all_zipped_more R (texts (take i words)) dead (get_or words i d).now n so_far (omega arith, one.0, one.1))

-- words are not ledgers if one of them is not
pub not_ledgers : (words : List (Bor Text)) (dead : List ℕ) (i : ℕ) (d : Bor Text) → i < length words
    → ((n : ℕ) → n ≤ last_ledger → (get_or words i d).now ≢ decimal n) → ¬ (AreLedgers words dead)
not_ledgers [] dead i d inside none = absurd (omega arith)
not_ledgers (x ∷ xs) [] i d inside none = λ all. absurd all
not_ledgers (x ∷ xs) (m ∷ ms) zero d inside none = λ all. none m all.0.1 all.0.2
not_ledgers (x ∷ xs) (m ∷ ms) (suc i) d inside none = λ all. not_ledgers xs ms i d (omega arith) none all.1

-- adding an argument that is not global leaves a command without global ones
pub still_local : {x y z : Bool} → x ≡ (y || z) → y ≡ false → z ≡ false → x ≡ false
still_local {x} {y} {z} e h k = let both : (y || z) ≡ false = rw (h, k) refl in e ∙ both

program_is_simple : is_simple program ≡ true
unfolding clap_on_literals
program_is_simple = refl

-- the rows of the subcommand that the words name
pub rows_met : (app : App) (words : List Text) (m : ArgMatches) → app ≡ program → HasMatchesOf app words m
    → subcommand_rows_of m ≡ subcommand_of program words
rows_met app words m is has = (subst (λ (a : App). HasMatchesOf a words m) is has program_is_simple).1

module _ {Z : Type 0} where
  pub pair_in : (o : Option (Box SubCommand Z)) (name : Text) (rows : List Row)
      → option_map (λ b. (out-SubCommand (box_value b)).name.now) o ≡ Some name
      → option_map (λ p. p.1) (subcommand_rows o) ≡ Some rows → subcommand_rows o ≡ Some (name, rows)
  pair_in None name rows e f = cc
  pair_in (Some b) name rows e f = rw (unwrapped e, unwrapped f) refl
    where
      unwrapped : {X : Type 0} {x y : X} → Some x ≡ Some y → x ≡ y
      unwrapped e = cc

module _ {Z : Type 0} where
  pub name_in : (o : Option (Box SubCommand Z)) (name : Text) (rows : List Row) → subcommand_rows o ≡ Some (name, rows)
      → option_map (λ b. (out-SubCommand (box_value b)).name.now) o ≡ Some name
  name_in None name rows e = cc
  name_in (Some b) name rows e = ap (option_map (λ (p : Text × List Row). p.0)) e

-- the rows of a call of `script` are those of `Asks`
pub asked_rows : (words : List Text) (over : Option Text) (settings : Settings) (dead : List ℕ) (asks : Asks words over settings dead)
    (rows : List Row) → subcommand_of program words ≡ Some (codes "script", rows) → asks.rows ≡ rows
asked_rows words over settings dead asks rows e =
    let same : Some (codes "script", asks.rows) ≡ Some (codes "script", rows) = sym asks.called ∙ e in
    let pair : (codes "script", asks.rows) ≡ (codes "script", rows) = cc in
    ap (λ (p : Text × List Row). p.1) pair

-- the words select one directory, or none
pub one_folder : {words : List Text} {over over' : Option Text} {settings settings' : Settings} {dead dead' : List ℕ}
    → Asks words over settings dead → Asks words over' settings' dead' → over ≡ over'
one_folder {words} {over} {over'} {settings} {settings'} {dead} one other =
    sym one.over ∙ (ap (first_of (codes "folder")) (asked_rows words over settings dead one other.rows other.called) ∙ other.over)

program_is_free : is_simple_and_free program ≡ true
unfolding clap_on_literals
program_is_free = refl

-- clap's list of faults for a parse that succeeds, and for one that fails
pub taken : (app : App) (words : List Text) → app ≡ program → (is_simple_and_free app ≡ true → fault_of app words ≡ []) → fault_of program words ≡ []
taken app words is faultless = subst (λ (a : App). fault_of a words ≡ []) is (faultless (ap is_simple_and_free is ∙ program_is_free))

memory_alone : (error : Error) → HasKind [] error → kind_of error ≡ OutOfMemory
memory_alone error kinds = elim kinds [ inl memory ↦ memory | inr none ↦ absurd none ]

pub refused_by_parse : {T : Type 0} (r : Result T Error) (words : List Text) (app : App) (told : Error) → app ≡ program
    → IsErrAnd r (λ error. error ≡ told) → (is_simple_and_free app ≡ true → HasKind (fault_of app words) told)
    → IfErr r (λ error. (over : Option Text) (settings : Settings) (dead : List ℕ) → Asks words over settings dead → kind_of error ≡ OutOfMemory)
refused_by_parse (Ok x) words app told is same kinds = tt
refused_by_parse (Err error) words app told is same kinds = λ over settings dead asks.
    let has : HasKind (fault_of app words) told = kinds (ap is_simple_and_free is ∙ program_is_free) in
    let none : fault_of app words ≡ [] = ap (λ (a : App). fault_of a words) is ∙ asks.faultless in
    rw same (memory_alone told (subst (λ (list : Kinds). HasKind list told) none has))

-- an out-of-memory error
pub refused_for_memory : {T : Type 0} (r : Result T Error) (words : List Text) → IsErrAnd r (λ error. kind_of error ≡ OutOfMemory)
    → IfErr r (λ error. (over : Option Text) (settings : Settings) (dead : List ℕ) → Asks words over settings dead → kind_of error ≡ OutOfMemory)
refused_for_memory (Ok x) words memory = tt
refused_for_memory (Err error) words memory = λ over settings dead asks. memory

-- the values of the options of `script`, from the words
module _ (words : List Text) (rows : List Row) (called : subcommand_of program words ≡ Some (codes "script", rows)) where
  pub asked_by : fault_of program words ≡ [] → (result : Result ScriptCall Error) → IfOk result (λ call. AsksSettings rows call.settings)
      → IfOk result (λ call. first_of (codes "folder") rows ≡ option_map (λ path. path.now) call.folder)
      → IfOk result (λ call. AsksLedgers (all_of (codes "LEDGER") rows) call.dead.items)
      → IfOk result (λ call. Asks words (option_map (λ path. path.now) call.folder) call.settings call.dead.items)
  asked_by faultless (Ok call) asked over ledgers =
      record { faultless = faultless; rows = rows; called = called; asked = asked; over = over; ledgers = ledgers }
  asked_by faultless (Err error) asked over ledgers = tt

  pub unrecorded_by : (result : Result ScriptCall Error) → IfOk result (λ call. AsksFlag (one_of (codes "no-manifest") rows) call.no_manifest)
      → IfOk result (λ call. AsksNoManifest words call.no_manifest)
  unrecorded_by (Ok call) asked = record { rows = rows; called = called; asked = asked }
  unrecorded_by (Err error) asked = tt

  pub unhinted_by : (result : Result ScriptCall Error) → IfOk result (λ call. AsksFlag (one_of (codes "no-hints") rows) call.no_hints)
      → IfOk result (λ call. AsksNoHints words call.no_hints)
  unhinted_by (Ok call) asked = record { rows = rows; called = called; asked = asked }
  unhinted_by (Err error) asked = tt

  pub refused_by : (result : Result ScriptCall Error)
      → IfErr result (λ error. (settings : Settings) (dead : List ℕ) → AsksSettings rows settings → AsksLedgers (all_of (codes "LEDGER") rows) dead
      → kind_of error ≡ OutOfMemory)
      → IfErr result (λ error. (folder : Option Text) (settings : Settings) (dead : List ℕ) → Asks words folder settings dead → kind_of error ≡ OutOfMemory)
  refused_by (Ok call) refused = tt
  refused_by (Err error) refused = λ over settings dead asks.
      let same = asked_rows words over settings dead asks rows called in
      refused settings dead (subst (λ (r : List Row). AsksSettings r settings) same asks.asked)
      (subst (λ (r : List Row). AsksLedgers (all_of (codes "LEDGER") r) dead) same asks.ledgers)
