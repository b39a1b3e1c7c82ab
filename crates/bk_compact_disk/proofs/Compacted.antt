-- The store of a sweep gives the end of a compaction, and the store of a plan what the plan says.
use Rattle.std.proofs.Common.{◌≡◌, ℕ, Bool, List, IsTrue, ap, sym, subst, ◌∙◌}
use Rattle.std.specs.Prelude.{All}
use Rattle.bk_record.specs.Files.{Files}
use Rattle.bk_record.specs.Scan.{Ledgers}
use Rattle.bk_compact.specs.declared.answer.Kind.TheVariants.{Major}
use Rattle.bk_compact.specs.Compacting.{threshold_of}
use Rattle.bk_compact_disk.specs.Compacted.{EndsCompacted, PlansCompaction, settings_below}
use Rattle.bk_offline_gc.specs.Planning.{IsPlanned}
use Rattle.bk_offline_gc.specs.Sweeping.{IsSwept}
use Rattle.bk_offline_gc.specs.declared.planning.Planned.{Planned}
use Rattle.bk_store.specs.Abstract.{SatisfiesInvariant}
use Rattle.bk_store.specs.Opening.{IsOpened}
use Rattle.bk_store.specs.State.{State}
use Rattle.bk_store.specs.declared.settings.Settings.{Settings}

-- A store that was swept, and whose disk has these files.
pub swept_is_compacted : (below : ℕ) (settings : Settings) (dead : Ledgers) (files : Files) (s : State) → SatisfiesInvariant s
    → files ≡ s.files → IsTrue s.honest → s.ledgers.dead ≡ dead → s.settings ≡ settings → settings.major ≡ below → IsSwept s Major
    → EndsCompacted below dead files
swept_is_compacted below settings dead files s invariant stands honest deleted asked threshold swept = record {
  store = s;
  invariant = invariant;
  stands = sym stands;
  honest = honest;
  deleted = deleted;
  threshold = ap (λ (x : Settings). x.major) asked ∙ threshold;
  swept = swept;
}

-- A plan of a store that was opened on these files.
pub opened_is_planned : (below : ℕ) (settings : Settings) (honest : Bool) (files : Files) (dead : List ℕ) (s : State) (planned : List Planned)
    → settings ≡ settings_below below → s.honest ≡ honest → IsOpened honest files settings dead s
    → All (λ one. IsPlanned s (threshold_of s.settings Major) one) planned → PlansCompaction below honest files dead planned
opened_is_planned below settings honest files dead s planned asked as_disk opened each = record {
  store = s;
  opened = subst (λ (x : Settings). IsOpened honest files x dead s) asked opened;
  honest_as = as_disk;
  each = subst (λ (threshold : ℕ). All (λ one. IsPlanned s threshold one) planned)
      (ap (λ (x : Settings). x.major) (opened.settings_are ∙ asked)) each;
}
