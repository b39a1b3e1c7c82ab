-- The command line of `script`: the settings and deleted ledgers that it selects. clap defines how
-- words become options; this file defines the values of options and operands. Read `Asks` first.
use Rattle.std.specs.Prelude.{◌≡◌, ℕ, ◌≤◌, ◌^◌, Bool, true, false, List, [], codes, Option, Some, None}
use Rattle.std.specs.Fmt.{decimal}
use Rattle.std.specs.List.{AllZip}
use Rattle.clap.specs.Faults.{fault_of}
use Rattle.clap.specs.Walk.{Row, Rule, Text, all_of, first_of, one_of}
use Rattle.clap.specs.Simple.{App, new_app, new_rule, on_top, subcommand_of, with_rule, with_subcommand}
use Rattle.clap.specs.declared.builder.action.ArgAction.TheVariants.{Append, SetTrue}
use Rattle.bk_record.specs.Limits.{max_log_limit, max_cache_limit}
use Rattle.bk_store.specs.declared.settings.Settings.{Settings}

-- an option with one value, `--NAME NUMBER` or `--NAME=NUMBER`
abbrev pub option_rule : Text → Rule
option_rule name = record (new_rule name) { long = Some name; value_names = 1 }

-- an option without a value, `--NAME`
abbrev pub flag_rule : Text → Rule
flag_rule name = record (new_rule name) { action = Some SetTrue; long = Some name }

-- any number of operands
abbrev pub words_rule : Text → Rule
words_rule name = record (new_rule name) { action = Some Append; value_names = 1 }

-- the command `script`, with its options and operands
abbrev pub script : App
script = with_rule (with_rule (with_rule (with_rule (with_rule (with_rule (with_rule (with_rule (with_rule (with_rule (with_rule (new_app (codes "script"))
    (option_rule (codes "log-limit"))) (option_rule (codes "cache-limit"))) (option_rule (codes "recent"))) (option_rule (codes "slots")))
    (option_rule (codes "leases"))) (option_rule (codes "minor"))) (option_rule (codes "major"))) (option_rule (codes "folder")))
    (flag_rule (codes "no-manifest"))) (flag_rule (codes "no-hints"))) (words_rule (codes "LEDGER"))

-- the program, which is called with a command
abbrev pub program : App
program = with_subcommand (on_top (λ shape. record shape { subcommand_required = true }) (new_app (codes "bookie"))) script.top

-- the word is a number from `least` to `most`, without a sign or leading zeros
abbrev pub IsNumberIn : ℕ → ℕ → Text → ℕ → Type 0
IsNumberIn least most word n = (least ≤ n) × (n ≤ most) × (word ≡ decimal n)

-- An option with this value selects the number; if it is absent, the default (project rule).
abbrev pub AsksNumber : ℕ → ℕ → ℕ → Option Text → ℕ → Type 0
AsksNumber default least most None n = n ≡ default
AsksNumber default least most (Some word) n = IsNumberIn least most word n

-- Whether a flag is given: clap parses it to `true` or `false`.
abbrev pub AsksFlag : Option Text → Bool → Type 0
AsksFlag None is_given = is_given ≡ false
AsksFlag (Some word) is_given = (word ≡ codes "true" → is_given ≡ true) × (word ≡ codes "false" → is_given ≡ false)

-- the greatest ledger id
abbrev pub last_ledger : ℕ
last_ledger = 9223372036854775807

-- Operands select the ledgers with these ids, in order.
abbrev pub AsksLedgers : Option (List Text) → List ℕ → Type 0
AsksLedgers None dead = dead ≡ []
AsksLedgers (Some words) dead = AllZip (IsNumberIn 0 last_ledger) words dead

-- The settings that the options of `script` select.
pub record AsksSettings (rows : List Row) (settings : Settings) : Type 0 where
  pub log_limit : AsksNumber (2 ^ 30) 2048 max_log_limit (first_of (codes "log-limit") rows) settings.log_limit
  pub cache_limit : AsksNumber (2 ^ 24) 16 max_cache_limit (first_of (codes "cache-limit") rows) settings.cache_limit
  pub recent : AsksNumber 0 0 65536 (first_of (codes "recent") rows) settings.recent
  pub slots : AsksNumber 1024 1 65536 (first_of (codes "slots") rows) settings.slots
  pub leases : AsksNumber 1024 1 65535 (first_of (codes "leases") rows) settings.leases
  pub minor : AsksNumber 200 0 1000 (first_of (codes "minor") rows) settings.minor
  pub major : AsksNumber 800 0 1000 (first_of (codes "major") rows) settings.major

-- The command line calls `script` with these settings, on the directory at this path or in memory,
-- with these ledgers deleted earlier. The first word is the program's name.
pub record Asks (words : List Text) (folder : Option Text) (settings : Settings) (dead : List ℕ) : Type 0 where
  -- No word is unknown, repeated or superfluous, and help is not requested.
  pub faultless : fault_of program words ≡ []
  pub rows : List Row
  pub called : subcommand_of program words ≡ Some (codes "script", rows)
  pub asked : AsksSettings rows settings
  pub over : first_of (codes "folder") rows ≡ folder
  pub ledgers : AsksLedgers (all_of (codes "LEDGER") rows) dead

-- The words call `script`, with or without the manifests of the directory.
pub record AsksNoManifest (words : List Text) (no_manifest : Bool) : Type 0 where
  pub rows : List Row
  pub called : subcommand_of program words ≡ Some (codes "script", rows)
  pub asked : AsksFlag (one_of (codes "no-manifest") rows) no_manifest

-- The words call `script`, with or without the hints of the directory.
pub record AsksNoHints (words : List Text) (no_hints : Bool) : Type 0 where
  pub rows : List Row
  pub called : subcommand_of program words ≡ Some (codes "script", rows)
  pub asked : AsksFlag (one_of (codes "no-hints") rows) no_hints
