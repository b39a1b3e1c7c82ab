-- Answers to requests that make the store take steps of its own.
use Rattle.std.specs.Prelude.{◌≡◌, ◌⊎◌, ℕ, length, Result, Ok}
use Rattle.bk_store.specs.State.{State}
use Rattle.bk_store.specs.declared.step_fault.StepFault.{StepFault}
use Rattle.bk_flush.specs.Flushing.{RollTransition}
use Rattle.bk_flush.specs.declared.answer.RollAnswer.{RollAnswer}
use Rattle.bk_flush.specs.declared.answer.RollAnswer.TheVariants as rolls
use Rattle.bk_serve_core.specs.Replies.{Told, done, refused, flushed, durable, closed, sealed, nothing_open, compacted}
use Rattle.bk_serve_core.specs.declared.refusal.Refusal.{Refusal}
use Rattle.bk_serve.specs.Works.{Works, IsEmptied}
use Rattle.bk_serve.specs.declared.tally.Tally.{Tally}

-- Steps of the store were taken.
abbrev pub MayWork : State → State → Type 0
MayWork s t = (n : Tally) × Works s n t

-- After a flush nothing is only cached. A refusal leaves the steps before the fault.
abbrev pub FlushAnswers : State → Told → State → Type 0
FlushAnswers s (done (flushed entries)) t = (n : Tally) × Works s n t × (entries ≡ n.published) × IsEmptied t
FlushAnswers s (refused fault) t = MayWork s t
FlushAnswers s _ t = ⊥

-- After a checkpoint the same, and the reply has the length of the trail.
abbrev pub CheckpointAnswers : State → Told → State → Type 0
CheckpointAnswers s (done (durable front)) t = MayWork s t × (front ≡ length t.ledgers.trail) × IsEmptied t
CheckpointAnswers s (refused fault) t = MayWork s t
CheckpointAnswers s _ t = ⊥

-- The same at the end of a session.
abbrev pub CloseAnswers : State → Told → State → Type 0
CloseAnswers s (done (closed front)) t = MayWork s t × (front ≡ length t.ledgers.trail) × IsEmptied t
CloseAnswers s (refused fault) t = MayWork s t
CloseAnswers s _ t = ⊥

-- The open log is sealed, or none is open. A refusal has the fault of the roll.
abbrev pub RollAnswers : State → Told → State → Type 0
RollAnswers s (done (sealed log)) t = RollTransition s (Ok (rolls.Sealed log)) t
RollAnswers s (done nothing_open) t = RollTransition s (Ok rolls.NothingOpen) t
RollAnswers s (refused fault) t = (answer : Result RollAnswer StepFault) × RollTransition s answer t
RollAnswers s _ t = ⊥

-- A flush, after which nothing is only cached, and then a roll.
pub record IsSealed (s : State) (reply : Told) (t : State) : Type 0 where
  pub middle : State
  pub works : MayWork s middle
  pub empty : IsEmptied middle
  pub rolls : RollAnswers middle reply t

-- The same, or the flush failed.
abbrev pub SealAnswers : State → Told → State → Type 0
SealAnswers s reply t = IsSealed s reply t ⊎ ((fault : Refusal) × (reply ≡ refused fault) × MayWork s t)

-- a threshold that omits its kind, or that of the store
abbrev pub IsThreshold : ℕ → ℕ → Type 0
IsThreshold asked own = (asked ≡ 0) ⊎ (asked ≡ own)

-- A compaction is steps of the store.
abbrev pub CompactAnswers : State → Told → State → Type 0
CompactAnswers s (done (compacted logs entries)) t = (n : Tally) × Works s n t × (logs ≡ n.removed) × (entries ≡ n.copied)
CompactAnswers s (refused fault) t = MayWork s t
CompactAnswers s _ t = ⊥
