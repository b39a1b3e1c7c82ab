-- A scan of the source log that cannot begin, or has no entry left.
use Rattle.std.proofs.Common.{◌≡◌, inl, ℕ, ◌-◌, ◌<◌, ◌≤◌, Bool, true, false}
use Rattle.std.proofs.Common.{IsTrue, List, [], ◌∷◌, length, slice_get, not, is_some, Option}
use Rattle.std.proofs.Common.{Some, None, Ok, Err, refl, sym, ap, subst, ◌∙◌, arith}
use Rattle.std.proofs.lemmas.Bool.{false_from_ne_true}
use Rattle.bk_disk.specs.Disk.{view_end}
use Rattle.bk_record.specs.Body.{IsBadAt}
use Rattle.bk_log.specs.Growing.{HasNoBadLength}
use Rattle.bk_log.specs.Ranges.{entries_in, part}
use Rattle.bk_log.specs.Scanning.{Scan, NextMoves, ScanNextTransition, part_of}
use Rattle.bk_log.specs.declared.found.Found.{Found}
use Rattle.bk_log.specs.declared.fault.ScanFault.{ScanFault}
use Rattle.bk_log.specs.declared.fault.ScanFault.TheVariants as scans
use Rattle.bk_store.specs.Logs.{View, last_view, open_parts}
use Rattle.bk_store.specs.State.{State}
use Rattle.bk_store.specs.Jobs.{Job}
use Rattle.bk_store.specs.JobInvariant.{JobInvariant, IsReadTo, entries_from}
use Rattle.bk_store.specs.Primitives.{SetLogStateTransition}
use Rattle.bk_store.specs.Abstract.{SatisfiesInvariant}
use Rattle.bk_store.specs.declared.log.LogState.TheVariants.{Readable}
use Rattle.bk_compact.specs.declared.entries.Stopped.TheVariants as stops
use Rattle.bk_compact.specs.Compacting.{SourceFails, entries_left}
use Rattle.bk_compact.specs.JobSteps.{CopiesAll, IsAtEnd, IsCopying}
use Rattle.bk_compact.proofs.Positions.{none_bad}
use Rattle.bk_compact.proofs.Stored.{source_bytes, source_honest, source_spelled}
use Rattle.bk_compact.proofs.Examined.{out_same}

-- ---- the scan cannot begin

module _ (view : View) (s : State) (kept : SatisfiesInvariant s) (job : Job) (is : IsCopying s job) (last : last_view s.logs job.source ≡ Some view)
    (before : IsTrue view.is_honest → view_end view.bytes < job.at) where
  pub view_short : s.honest ≡ false
  view_short = false_from_ne_true s.honest (λ honest.
      let read = (is.out.keeps.honest honest).read in
      let within : job.at ≤ view_end view.bytes =
      subst (λ (b : List ℕ). job.at ≤ view_end b) (source_bytes s kept job is.out.keeps view last) read.within in
      omega (arith, within, before (source_honest s kept job is.out.keeps view last honest)))

  pub short_odd : (n : ℕ) (u : State) (later : Job) → SetLogStateTransition s job.copy Readable u → CopiesAll s job n (Err stops.Odd) u later
  short_odd n u later set = (
    view_short,
    (
      0,
      (
        s,
        (
          job,
          record { founds = []; bound = omega arith; first = λ _. tt; examined = (refl, out_same s is.out.none, refl) },
          inl set,
        ),
      ),
    ),
  )
