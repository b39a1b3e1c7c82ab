-- Whether the Writing log is filled for a payload, and that it can take its record otherwise.
use Rattle.std.proofs.Common.{◌≡◌, ℕ, ◌+◌, ◌<◌, ◌≤◌, ◌^◌, nat_lt, Bool, true, false, ◌&&◌, List, length, Some, None, IsSome, is_some, refl, ap, ◌∙◌, arith}
use Rattle.std.specs.Option.{option_and_then}
use Rattle.std.specs.FinMap as finite
use Rattle.std.proofs.lemmas.Bool.{ltb-false}
use Rattle.bk_record.specs.Files.{header_length}
use Rattle.bk_record.specs.Limits.{max_added, max_log_limit}
use Rattle.bk_record.proofs.Limits.{ends_short, first_ends_short}
use Rattle.bk_log.specs.Writing as writers
use Rattle.bk_store.specs.Logs.{Log, is_written}
use Rattle.bk_store.specs.State.{StoreParts}
use Rattle.bk_store.specs.Invariant.{StoreInvariant}
use Rattle.bk_store.specs.Primitives.{HasNoWriting, IsWriter, WritesInto, is_filled, writer_of}
use Rattle.bk_store.specs.Internals.{TakesWithin}
use Rattle.bk_store.specs.declared.log.LogState.TheVariants.{Writing}
use Rattle.bk_store.proofs.Cases.{some_value}

-- a log that is not filled for a payload has room for its record
unfilled_short : (limit : ℕ) (w : writers.Writing) (payload : List ℕ) → limit ≤ max_log_limit → length payload ≤ max_added
    → (w.count ≡ 0 → w.end ≡ header_length) → is_filled limit w payload ≡ false → w.end + 4 + length payload < 2 ^ 32
unfilled_short limit w payload allowed most empty unfilled =
    elim (nat_lt 0 w.count) as (λ b. nat_lt 0 w.count ≡ b → b && nat_lt limit (w.end + 4 + length payload) ≡ false
    → w.end + 4 + length payload < 2 ^ 32) [
      | true ↦ λ _ within. ends_short (w.end + 4 + length payload) limit (ltb-false limit (w.end + 4 + length payload) within) allowed
      | false ↦ λ none _.
          let no = ltb-false 0 w.count none in
          let ends = empty (omega (arith, no)) in
          let short = first_ends_short (length payload) most in
          omega (arith, short, ends)
    ] refl unfilled

-- no log is Writing
pub none_writing : (p : StoreParts) → StoreInvariant p → p.writing ≡ None → HasNoWriting p.state
none_writing p keeps none id is = let there : p.writing ≡ Some id = (keeps.fits.logs.writing id).1 (is.log, is.held, is.state_is) in cc

module _ (p : StoreParts) (keeps : StoreInvariant p) (id : ℕ) (is : p.writing ≡ Some id) where
  its_log : (log : Log) × (finite.get p.state.logs id ≡ Some log) × (log.state ≡ Writing)
  its_log = (keeps.fits.logs.writing id).0 is

  -- the Writing log has a writer
  own : (w : writers.Writing) × (its_log.0.writer ≡ Some w)
  own = some_value its_log.0.writer ((keeps.fits.logs.each id its_log.0 its_log.1).written (ap is_written its_log.2))

  pub its_writing : writers.Writing
  its_writing = own.0

  pub written_by : writer_of p.state.logs id ≡ Some its_writing
  unfolding its_writing own
  written_by = ap (option_and_then (λ (log : Log). log.writer)) its_log.1 ∙ own.1

  pub has_writer : IsSome (writer_of p.state.logs id)
  has_writer = ap is_some written_by

  module _ (payload : List ℕ) where
    abbrev w : writers.Writing
    w = its_writing

    its_writer : IsWriter p.state id its_log.0 w
    unfolding its_writing own
    its_writer = record { held = its_log.1; writer = own.1 }

    pub writes_into : (b : Bool) → is_filled p.state.settings.log_limit w payload ≡ b → WritesInto p.state id payload b
    writes_into b filled = record { log = its_log.0; w = w; writer = its_writer; state_is = its_log.2; filled_is = filled }

    pub takes_within : length payload ≤ max_added → is_filled p.state.settings.log_limit w payload ≡ false → TakesWithin p.state id payload
    takes_within most unfilled = record {
      into = writes_into false unfilled;
      takes = record {
        log = its_log.0;
        w = w;
        writer = its_writer;
        state_is = its_log.2;
        room = unfilled_short p.state.settings.log_limit w payload keeps.fits.limits.allowed.log_most most
            ((keeps.fits.logs.each id its_log.0 its_log.1).by w its_writer.writer).empty unfilled;
      };
    }
