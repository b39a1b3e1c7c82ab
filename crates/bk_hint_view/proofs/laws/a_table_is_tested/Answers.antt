use Rattle.bk_hint.specs.Runs.{entries_of_runs}
use Rattle.bk_hint_view.proofs.Truths.{test_true, true_test}
use Rattle.bk_hint_view.proofs.laws.a_table_is_tested.Goals as goal

pub returns : goal.returns
returns c = λ file rows. (test_true file (entries_of_runs rows), true_test file (entries_of_runs rows))
