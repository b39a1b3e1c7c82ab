-- The entries that were found of files, and the files' entries, add up to the same.
use Rattle.std.proofs.Common.{◌≡◌, ℕ, ◌+◌, ◌==◌, Bool, not, ◌&&◌, if◌then◌else◌, List, [], ◌∷◌, length, refl, sym, ◌∙◌}
use Rattle.std.specs.List.{sum_by}
use Rattle.std.proofs.lemmas.List.Sums.{sum_by-cons}
use Rattle.bk_record.specs.Record.{ledger_field}
use Rattle.bk_log.specs.declared.found.Found.{Found}
use Rattle.bk_log.proofs.Tallies.{key_of-ledger}
use Rattle.bk_accounts.specs.Sums.{all_bytes, live_bytes, live_bytes_of}
use Rattle.bk_store.specs.Invariant.{entry_measure}
use Rattle.bk_store.specs.Found.{IsFoundAt, AreFoundAt}
use Rattle.bk_store.proofs.OpenedSums.{found_measure}

same_sum : (f : Found → ℕ) (g : ℕ × List ℕ → ℕ) → ((r : ℕ × List ℕ) (found : Found) → IsFoundAt r found → f found ≡ g r)
    → (records : List (ℕ × List ℕ)) (founds : List Found) → AreFoundAt records founds → sum_by f founds ≡ sum_by g records
same_sum f g same [] [] are = refl
same_sum f g same [] (found ∷ later) are = absurd are
same_sum f g same (r ∷ records) [] are = absurd are
same_sum f g same (r ∷ records) (found ∷ later) are =
    sum_by-cons f found later ∙ (λ i. same r found are.0 i + same_sum f g same records later are.1 i) ∙ sym (sum_by-cons g r records)

same_ledger : (r : ℕ × List ℕ) (found : Found) → IsFoundAt r found → found.key.ledger ≡ ledger_field r.1
same_ledger r found is = key_of-ledger r.1 found.key is.1

module _ (records : List (ℕ × List ℕ)) (founds : List Found) (are : AreFoundAt records founds) where
  pub same_total : all_bytes found_measure founds ≡ all_bytes entry_measure records
  same_total = same_sum (λ found. found.size) (λ r. 4 + length r.1) (λ r found is. is.2) records founds are

  pub same_live : (is_dead : ℕ → Bool) → live_bytes found_measure is_dead founds ≡ live_bytes entry_measure is_dead records
  same_live is_dead =
      same_sum (λ found. if is_dead found.key.ledger then 0 else found.size) (λ r. if is_dead (ledger_field r.1) then 0 else 4 + length r.1)
      (λ r found is. λ i. if is_dead (same_ledger r found is i) then 0 else is.2 i) records founds are

  pub same_part : (is_dead : ℕ → Bool) (ledger : ℕ) → live_bytes_of found_measure is_dead ledger founds ≡ live_bytes_of entry_measure is_dead ledger records
  same_part is_dead ledger =
      same_sum (λ found. if ledger == found.key.ledger && not (is_dead found.key.ledger) then found.size else 0)
      (λ r. if ledger == ledger_field r.1 && not (is_dead (ledger_field r.1)) then 4 + length r.1 else 0)
      (λ r found is. λ i. if ledger == same_ledger r found is i && not (is_dead (same_ledger r found is i)) then is.2 i else 0) records founds are
