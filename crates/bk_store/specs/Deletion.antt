-- Effect of a deletion on the accounts, which the visible state omits.
use Rattle.std.specs.Prelude.{◌≡◌, ℕ, Result, Ok, Err, option_map}
use Rattle.std.specs.FinMap as finite
use Rattle.bk_record.specs.Keyed.{log_count, Places}
use Rattle.bk_accounts.specs.Account.{Account}
use Rattle.bk_accounts.specs.Book.{Book}
use Rattle.bk_store.specs.State.{StoreParts}
use Rattle.bk_store.specs.declared.answer.DeleteFault.{DeleteFault}

-- the logs with an account are the same, and the account of each counts the entries of this index
-- that point into it
abbrev pub AreNamedBy : Places → Book → Book → Type 0
AreNamedBy index old new = (log : ℕ) → finite.get new log
    ≡ option_map (λ (account : Account). record account { named = log_count index log }) (finite.get old log)

-- No byte of the ledger is live in any log, and each account counts the entries of this index;
-- totals are unchanged.
abbrev pub AreLeft : Places → ℕ → Book → Book → Type 0
AreLeft index ledger old new = (log : ℕ) → finite.get new log
    ≡ option_map (λ (account : Account). record account { named = log_count index log; live = finite.remove account.live ledger }) (finite.get old log)

-- Effect of a deletion on the internals: the accounts lose the ledger. An error changes nothing.
abbrev pub DeleteInternals : StoreParts → ℕ → Result ℕ DeleteFault → StoreParts → Type 0
DeleteInternals p ledger (Err _) q = q ≡ record p { state = q.state }
DeleteInternals p ledger (Ok _) q = AreLeft q.state.index ledger p.accounts q.accounts × (q ≡ record p { state = q.state; accounts = q.accounts })
