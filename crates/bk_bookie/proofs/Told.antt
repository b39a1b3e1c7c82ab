-- Result of a call of the store, as a pass gets it.
use Rattle.std.proofs.Common.{Result, Ok, Err}
use Rattle.bk_store.specs.State.{State}
use Rattle.bk_store.specs.declared.answer.Taken.{Taken}
use Rattle.bk_store.specs.declared.answer.TakeFault.{TakeFault}
use Rattle.bk_store.specs.declared.mark.Receipt.{Receipt}
use Rattle.bk_bookie.specs.Calls.{ReadBackTransition, read_back_result_of}
use Rattle.bk_bookie.specs.Passes.{PassView, ObservesTrail, PassTransition, call_result_of}
use Rattle.bk_bookie.specs.Receipts.{Stands}

-- A pass gets the result of one transition of the store, and observes the trail after it.
pub one_turn : {A F : Type 0} (turn : State → Result A F → State → Type 0) (s : State) (p : PassView) (r : Result A F) (t : State) (q : PassView)
    → turn s r t → ObservesTrail s t p q → PassTransition turn s p (call_result_of r) t q
one_turn turn s p (Ok answer) t q made sees = (made, sees)
one_turn turn s p (Err fault) t q made sees = (made, sees)
