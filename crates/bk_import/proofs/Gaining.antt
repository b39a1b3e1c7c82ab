-- What an import read and what the store gained, record by record, then over flushes and an opening.
use Rattle.std.proofs.Common.{◌≡◌, ℕ, Bool, cond, List, [], ◌∷◌, ◌++◌, Option, Some, None, IfSome, IsTrue, sym, ap, ◌∙◌, subst, append-nil}
use Rattle.std.proofs.KnownBytes.{Consumes-nil, Consumes-trans}
use Rattle.std.proofs.lemmas.List.Concat.{flat_map-append}
use Rattle.std.specs.Option.{option_or}
use Rattle.std.specs.FinMap as finite
use Rattle.std.specs.FinSet as set
use Rattle.std.specs.Io.KnownBytes.{Consumes, IsAtEnd}
use Rattle.bk_record.specs.Files.{Files}
use Rattle.bk_record.specs.Key.{EntryKey}
use Rattle.bk_record.specs.Record.{record_of}
use Rattle.bk_record.specs.Scan.{scan_of}
use Rattle.bk_store.specs.Ledgers.{KnownLedgers}
use Rattle.bk_store.specs.State.{State}
use Rattle.bk_store.specs.Contents.{PreservesContents, contents_at, written_at}
use Rattle.bk_store.specs.Opening.{IsOpened}
use Rattle.bk_store.specs.Transitions.{valid_ledgers}
use Rattle.bk_store.specs.declared.settings.Settings.{Settings}
use Rattle.bk_import.specs.Importing.{Gains, Imports, contents_of, first_of}
use Rattle.bk_import.specs.Records.{records}
use Rattle.bk_import.proofs.Adding.{gains_more, gains_none}
use Rattle.bk_import.proofs.Flushing.{is_flushed}

-- ---- the input

-- The records of some payloads were read so far. On an honest disk the store gained these.
pub record ImportsSome (honest : Type 0) (input rest : Option (List ℕ)) (had has : EntryKey → Option (List ℕ)) : Type 0 where
  pub payloads : List (List ℕ)
  pub read : Consumes input rest (records payloads)
  pub gained : honest → Gains had has payloads

-- nothing was read
pub imports_nothing : (honest : Type 0) (input : Option (List ℕ)) (had : EntryKey → Option (List ℕ)) → ImportsSome honest input input had had
imports_nothing honest input had = record { payloads = []; read = Consumes-nil input; gained = λ _. gains_none had }

-- one more record was read, and its entry added
pub imports_more : (honest : Type 0) (input before after : Option (List ℕ)) (payload : List ℕ) (had mid has : EntryKey → Option (List ℕ))
    → ImportsSome honest input before had mid → Consumes before after (record_of payload) → (honest → Gains mid has (payload ∷ []))
    → ImportsSome honest input after had has
imports_more honest input before after payload had mid has done more one =
    let joined : records (done.payloads ++ payload ∷ []) ≡ records done.payloads ++ record_of payload =
    flat_map-append record_of done.payloads (payload ∷ []) ∙ ap (λ l. records done.payloads ++ l) (append-nil (record_of payload)) in
    record {
      payloads = done.payloads ++ payload ∷ [];
      read = subst (Consumes input after) (sym joined) (Consumes-trans input before after (records done.payloads) (record_of payload) done.read more);
      gained = λ is. gains_more had mid has done.payloads (payload ∷ []) (done.gained is) (one is);
    }

-- what was read up to the end is the input
whole_input : (input before after : Option (List ℕ)) (bytes : List ℕ) → Consumes input before bytes → Consumes before after [] → IsAtEnd after
    → IfSome input (λ all. all ≡ bytes)
whole_input None before after bytes read last end = tt
whole_input (Some x) None after bytes read last end = absurd read
whole_input (Some x) (Some y) None bytes read last end = absurd last
whole_input (Some x) (Some y) (Some z) bytes read last end = read ∙ ap (λ l. bytes ++ l) (last ∙ end) ∙ append-nil bytes

pub imports_all : (honest : Type 0) (input before after : Option (List ℕ)) (had has : EntryKey → Option (List ℕ))
    → ImportsSome honest input before had has → Consumes before after [] → IsAtEnd after → Imports honest input had has
imports_all honest input before after had has done last end =
    record { payloads = done.payloads; read = whole_input input before after (records done.payloads) done.read last end; gained = done.gained }

-- ---- the store

-- the contents stayed the same afterwards
pub imports_then : (s t u : State) (input : Option (List ℕ)) → Imports (IsTrue s.honest) input (contents_at s) (contents_at t)
    → t.honest ≡ s.honest → PreservesContents t u → Imports (IsTrue s.honest) input (contents_at s) (contents_at u)
imports_then s t u input done same stays = record {
  payloads = done.payloads;
  read = done.read;
  gained = λ is. record { entries = (done.gained is).entries; contents = λ key. stays.meaning (same ∙ is) key ∙ (done.gained is).contents key };
}

-- an opened store means what its files mean
opened_means : (honest : Bool) (files : Files) (settings : Settings) (dead : List ℕ) (s : State) → IsTrue honest → IsOpened honest files settings dead s
    → (key : EntryKey) → contents_at s key ≡ contents_of files dead key
opened_means honest files settings dead s is opened key =
    let unwritten : written_at s key ≡ None =
    is_flushed s (λ i. (opened.caches_are i).active) (λ i. (opened.caches_are i).flush) key in
    let dead_are : s.ledgers.dead ≡ valid_ledgers dead = ap (λ (l : KnownLedgers). l.dead) opened.ledgers_are in
    let same = (opened.holds is).same in
    (λ i. cond (set.contains (dead_are i) key.ledger) None (option_or (unwritten i) (finite.get (scan_of (same i)) key)))

pub opened_imports : (honest : Bool) (files : Files) (settings : Settings) (dead : List ℕ) (s t : State) (input : Option (List ℕ))
    → s.honest ≡ honest → IsOpened honest files settings dead s → Imports (IsTrue s.honest) input (contents_at s) (contents_at t)
    → Imports (IsTrue honest) input (contents_of files dead) (contents_at t)
opened_imports honest files settings dead s t input same opened done = record {
  payloads = done.payloads;
  read = done.read;
  gained = λ is.
      let gained = done.gained (same ∙ is) in
      record {
        entries = gained.entries;
        contents = λ key. gained.contents key ∙ ap (λ o. option_or o (first_of done.payloads key)) (opened_means honest files settings dead s is opened key);
      };
}
