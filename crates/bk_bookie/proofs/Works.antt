-- What a step of the store alone keeps of `GuardedInvariant`.
use Rattle.std.proofs.Common.{◌≡◌, IsTrue, Result, Ok, Err, sym, ap, subst, arith}
use Rattle.bk_cache.specs.Caches as caches
use Rattle.bk_store.specs.Abstract.{SatisfiesInvariant, AbstractState, StoreRefines, abstract_after_swap}
use Rattle.bk_store.specs.State.{State}
use Rattle.bk_cache.specs.declared.swap.Swap.{Swap}
use Rattle.bk_cache.specs.declared.swap.Swap.TheVariants.{Running, Nothing, Swapped}
use Rattle.bk_drive.specs.Abstract.{abstract_after_publish, abstract_after_work}
use Rattle.bk_drive.specs.Machine.{WorkTransition}
use Rattle.bk_drive.specs.declared.step.Answer.{Answer}
use Rattle.bk_drive.specs.declared.step.Answer.TheVariants as answers
use Rattle.bk_drive.specs.declared.step.Work.{Work}
use Rattle.bk_drive.specs.declared.step.Work.TheVariants as works
use Rattle.bk_flush.specs.declared.answer.PublishAnswer.{PublishAnswer}
use Rattle.bk_flush.specs.declared.answer.PublishAnswer.TheVariants as publishes
use Rattle.bk_store.specs.declared.step_fault.StepFault.{StepFault}
use Rattle.bk_bookie.specs.Adds.{add_count}
use Rattle.bk_bookie.specs.Guarded.{AreKeyed}
use Rattle.bk_bookie.specs.Works.{IsAnswerOf}
use Rattle.bk_bookie.proofs.Counts.{Leaves}
use Rattle.bk_bookie.proofs.Gives.{MeaningLaw, plain, matches}
use Rattle.bk_bookie.proofs.Keyed.{all_keyed_empty}

-- The caches with the entries of an abstract state.
abbrev cached_as : caches.CacheState → AbstractState → caches.CacheState
cached_as c p = record c { active = p.active; flush = p.flush }

swap_keyed : (c : caches.CacheState) (r : Swap) (p : AbstractState) → AreKeyed (cached_as c p) → AreKeyed (cached_as c (abstract_after_swap r p))
swap_keyed c Running p keyed = keyed
swap_keyed c Nothing p keyed = keyed
swap_keyed c (Swapped n) p keyed = record { active = all_keyed_empty; flush = keyed.active }

publish_keyed : (c : caches.CacheState) (r : Result PublishAnswer StepFault) (p : AbstractState) → AreKeyed (cached_as c p) → AreKeyed (cached_as c (abstract_after_publish r p))
publish_keyed c (Ok (publishes.Published n)) p keyed = record { active = keyed.active; flush = all_keyed_empty }
publish_keyed c (Ok publishes.NoFlush) p keyed = keyed
publish_keyed c (Ok publishes.NotAllWritten) p keyed = keyed
publish_keyed c (Err fault) p keyed = keyed

work_keyed : (c : caches.CacheState) (a : Answer) (p : AbstractState) → AreKeyed (cached_as c p) → AreKeyed (cached_as c (abstract_after_work a p))
work_keyed c (answers.Swap r) p keyed = swap_keyed c r p keyed
work_keyed c (answers.Publish r) p keyed = publish_keyed c r p keyed
work_keyed c _ p keyed = keyed

pub work_leaves : (s t : State) (a : Answer) → SatisfiesInvariant s → MeaningLaw → t.honest ≡ s.honest → t.ledgers ≡ s.ledgers
    → (IsTrue s.honest → (p : AbstractState) → StoreRefines s p → StoreRefines t (abstract_after_work a p)) → Leaves s t 0
work_leaves s t a kept meaning honest ledgers agrees = record {
  honest = honest;
  adds = (let same = ap (λ l. add_count l.trail) ledgers in omega (arith, same));
  keyed = λ truth keyed.
      let p = plain s kept truth keyed in
      let after = agrees truth p (matches s kept truth keyed meaning) in
      let left = work_keyed s.caches a p keyed in
      record {
        active = subst (λ m. caches.AllKeyed m) (sym after.active) left.active;
        flush = subst (λ f. caches.AllKeyed (caches.entries_of_flush f)) (sym after.flush) left.flush;
      };
}

-- A transition of a step has an answer of that step.
pub work_answers : (s t : State) (work : Work) (a : Answer) → WorkTransition s work a t → IsAnswerOf work a
work_answers s t works.Swap a turn = (turn.0, turn.1)
work_answers s t works.WriteOne a turn = (turn.0, turn.1)
work_answers s t works.Publish a turn = (turn.0, turn.1)
work_answers s t works.Roll a turn = (turn.0, turn.1)
work_answers s t (works.Retire log) a turn = (turn.0, turn.1)
work_answers s t works.Rebuild a turn = (turn.0, turn.1)
work_answers s t (works.Close log) a turn = (turn.0, turn.1)
work_answers s t (works.Remove log) a turn = (turn.0, turn.1)
work_answers s t (works.Begin kind) a turn = (turn.0, turn.1)
work_answers s t (works.Copy n) a turn = (turn.0, turn.1)
work_answers s t works.EndCopy a turn = (turn.0, turn.1)
work_answers s t (works.Switch n) a turn = (turn.0, turn.1)
work_answers s t works.Finish a turn = (turn.0, turn.1)
work_answers s t works.GiveUp a turn = (turn.0, turn.1)
