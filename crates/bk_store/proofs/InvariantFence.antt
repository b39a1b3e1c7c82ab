-- A fence preserves the store invariant.
use Rattle.std.proofs.Common.{◌≡◌, ℕ, Result, Ok, Err, false, sym, ap, subst, ◌∙◌}
use Rattle.std.specs.FinSet as set
use Rattle.bk_store.specs.Ledgers.{with_fence}
use Rattle.bk_store.specs.State.{StoreParts}
use Rattle.bk_store.specs.Transitions.{FenceTransition}
use Rattle.bk_store.specs.Invariant.{StoreInvariant}
use Rattle.bk_store.specs.declared.answer.Fence.{Fence}
use Rattle.bk_store.specs.declared.answer.Fence.TheVariants.{Fenced, AlreadyFenced}
use Rattle.bk_store.specs.declared.answer.FenceFault.{FenceFault}
use Rattle.bk_store.specs.declared.answer.FenceFault.TheVariants.{Deleted, Memory}
use Rattle.bk_store.proofs.TrailMoves.{replays_fenced, follows_fenced}
use Rattle.bk_store.proofs.InvariantParts.{with_state, keeps_same}
use Rattle.bk_store.proofs.FrontMoves.{fronts_fenced}

module _ (p : StoreParts) (ledger : ℕ) (keeps : StoreInvariant p) (alive : set.contains p.state.ledgers.dead ledger ≡ false) where
  abbrev fenced : StoreParts
  fenced = with_state p (record p.state { ledgers = with_fence p.state.ledgers ledger })

  fenced_kept : StoreInvariant fenced
  fenced_kept =
      let fits = keeps.fits in
      record {
        fits = record {
          limits = fits.limits;
          logs = fits.logs;
          sent = fits.sent;
          placed = fits.placed;
          ledgers = follows_fenced fits.ledgers ledger alive;
          accounts = fits.accounts;
        };
        job = keeps.job;
        fronts = fronts_fenced keeps.fronts ledger;
        promises = λ honest.
            let reveal_invariant = keeps.promises honest in
            record {
              map = record {
                carried = reveal_invariant.map.carried;
                carries = reveal_invariant.map.carries;
                harmless = reveal_invariant.map.harmless;
                recent = reveal_invariant.map.recent;
                replays = replays_fenced reveal_invariant.map.replays ledger;
              };
              shows = reveal_invariant.shows;
              counted = reveal_invariant.counted;
              logs = reveal_invariant.logs;
              placed = reveal_invariant.placed;
            };
      }

pub keeps_fence : (p q : StoreParts) (ledger : ℕ) (result : Result Fence FenceFault) → StoreInvariant p → FenceTransition p.state ledger result q.state
    → q ≡ with_state p q.state → StoreInvariant q
keeps_fence p q ledger (Err Deleted) keeps turn beside = keeps_same p q keeps beside turn.1
keeps_fence p q ledger (Ok AlreadyFenced) keeps turn beside = keeps_same p q keeps beside turn.2
keeps_fence p q ledger (Err Memory) keeps turn beside = keeps_same p q keeps beside turn.2
keeps_fence p q ledger (Ok Fenced) keeps turn beside =
    subst StoreInvariant (sym (beside ∙ ap (with_state p) turn.2)) (fenced_kept p ledger keeps turn.0)
