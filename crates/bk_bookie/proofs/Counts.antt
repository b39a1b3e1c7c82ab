-- What a call of the store keeps of `GuardedInvariant`: honesty, number of adds in the trail, keys
-- of the cached entries.
use Rattle.std.proofs.Common.{◌≡◌, ℕ, ◌+◌, ◌≤◌, List, [], ◌∷◌, ◌++◌, length, Bool, IsTrue, Result, Ok, Err, refl, sym, ◌∙◌, subst, cond, arith}
use Rattle.std.proofs.lemmas.List.Sums.{count_by-le-length, sum_by-append}
use Rattle.bk_record.specs.Key.{EntryKey}
use Rattle.bk_store.specs.State.{State}
use Rattle.bk_store.specs.Transitions.{AddTransition, DeleteTransition, FenceTransition, TakeTransition}
use Rattle.bk_store.specs.declared.adding.AddKind.{AddKind}
use Rattle.bk_store.specs.declared.answer.Added.{Added}
use Rattle.bk_store.specs.declared.answer.Added.TheVariants.{Accepted, Held}
use Rattle.bk_store.specs.declared.answer.AddFault.{AddFault}
use Rattle.bk_store.specs.declared.answer.AddFault.TheVariants as add_faults
use Rattle.bk_store.specs.declared.answer.Taken.{Taken}
use Rattle.bk_store.specs.declared.answer.Taken.TheVariants as takes
use Rattle.bk_store.specs.declared.answer.TakeFault.{TakeFault}
use Rattle.bk_store.specs.declared.answer.TakeFault.TheVariants as take_faults
use Rattle.bk_store.specs.declared.answer.DeleteFault.{DeleteFault}
use Rattle.bk_store.specs.declared.answer.DeleteFault.TheVariants as delete_faults
use Rattle.bk_store.specs.declared.answer.Fence.{Fence}
use Rattle.bk_store.specs.declared.answer.Fence.TheVariants as fences
use Rattle.bk_store.specs.declared.answer.FenceFault.{FenceFault}
use Rattle.bk_store.specs.declared.answer.FenceFault.TheVariants as fence_faults
use Rattle.bk_store.specs.declared.mark.Mark.{Mark}
use Rattle.bk_store.specs.declared.mark.Mark.TheVariants as marks
use Rattle.bk_bookie.specs.Adds.{add_count, accepted_count, is_add}
use Rattle.bk_bookie.specs.Guarded.{GuardedState, AreKeyed, GuardedInvariant}
use Rattle.bk_bookie.proofs.Keyed.{keyed_added, keyed_without}

pub add_count-le : (trail : List Mark) → add_count trail ≤ length trail
add_count-le trail = count_by-le-length is_add trail

add_count-push : (trail : List Mark) (mark : Mark) → add_count (trail ++ mark ∷ []) ≡ add_count trail + add_count (mark ∷ [])
add_count-push trail mark = sum_by-append (λ (m : Mark). cond (is_add m) 1 0) trail (mark ∷ [])

-- Honesty is unchanged, the trail has `accepted` adds more, and on an honest disk each cached
-- payload is stored under its key.
pub record Leaves (s t : State) (accepted : ℕ) : Type 0 where
  pub honest : t.honest ≡ s.honest
  pub adds : add_count t.ledgers.trail ≡ add_count s.ledgers.trail + accepted
  pub keyed : IsTrue s.honest → AreKeyed s.caches → AreKeyed t.caches

leaves_as : (s u t : State) (accepted : ℕ) → Leaves s u accepted → t ≡ u → Leaves s t accepted
leaves_as s u t accepted leaves is = subst (λ (x : State). Leaves s x accepted) (sym is) leaves

pub leaves_same : (s t : State) → t ≡ s → Leaves s t 0
leaves_same s t is = leaves_as s s t 0 (record { honest = refl; adds = omega arith; keyed = λ _ keyed. keyed }) is

pub add_leaves : (s t : State) (kind : AddKind) (payload : List ℕ) (r : Result Added AddFault) → AddTransition s kind payload r t
    → Leaves s t (accepted_count r)
add_leaves s t kind payload (Err (add_faults.Bad fault)) turn = leaves_same s t turn.1
add_leaves s t kind payload (Err add_faults.Deleted) turn = leaves_same s t turn.3
add_leaves s t kind payload (Err add_faults.Fenced) turn = leaves_same s t turn.4
add_leaves s t kind payload (Ok Held) turn = leaves_same s t turn.1
add_leaves s t kind payload (Err (add_faults.Full used limit)) turn = leaves_same s t turn.4
add_leaves s t kind payload (Err add_faults.Memory) turn = leaves_same s t turn.2
add_leaves s t kind payload (Ok (Accepted receipt)) turn =
    leaves_as s _ t 1 (record {
      honest = refl;
      adds = add_count-push s.ledgers.trail (marks.Add _ _);
      keyed = λ _ keyed. keyed_added s.caches payload turn.0.key turn.0.reads keyed;
    }) turn.3

pub delete_leaves : (s t : State) (ledger : ℕ) (r : Result ℕ DeleteFault) → DeleteTransition s ledger r t → Leaves s t 0
delete_leaves s t ledger (Err delete_faults.AlreadyDeleted) turn = leaves_same s t turn.1
delete_leaves s t ledger (Err delete_faults.Memory) turn = leaves_same s t turn.1
delete_leaves s t ledger (Ok n) turn =
    leaves_as s _ t 0 (record {
      honest = refl;
      adds = add_count-push s.ledgers.trail (marks.Delete ledger);
      keyed = λ _ keyed. keyed_without s.caches ledger keyed;
    }) turn.2

-- The invariant holds after a call on the store, if the book counts the same number of new adds.
pub desk_on : (d : GuardedState) (t : State) (honest : Bool) (parts total rest amount now accepted : ℕ) → GuardedInvariant d honest parts total rest amount
    → Leaves d.store t accepted → now ≡ total + accepted → GuardedInvariant (record d { store = t }) honest parts now rest amount
desk_on d t honest parts total rest amount now accepted guarded leaves is = record {
  honest_is = leaves.honest ∙ guarded.honest_is;
  keyed = λ truth. leaves.keyed (subst IsTrue (sym guarded.honest_is) truth) (guarded.keyed truth);
  adds = omega (arith, is, leaves.adds, guarded.adds);
  idle = guarded.idle;
  within = guarded.within;
  all = guarded.all;
  left = guarded.left;
}
