-- A walk over the keys of a finite map of logs, as of all files, or of the logs that a store holds.
use Rattle.std.proofs.Common.{◌≡◌, inl, inr, ℕ, ◌<◌, List, [], ◌∷◌, None, ap, subst, map, unwrap_or, T}
use Rattle.std.specs.Ordering.{nat_cmp}
use Rattle.std.specs.FinMap as finite
use Rattle.std.specs.FinMap.{nat_cmp-IsAntisymmetric}
use Rattle.std.specs.FinMap.Entries.{is_sorted}
use Rattle.std.proofs.lemmas.Cmp.{nat_cmp_total}
use Rattle.bk_record.specs.Files.{Files, file_of}
use Rattle.bk_record.proofs.Entries.{and_left, and_right, below-In, get-In, In-map, map-In}
use Rattle.bk_record.proofs.Orders.{less_told}
use Rattle.bk_store.specs.Entries.{Bytes}
use Rattle.bk_store.proofs.Cases.{some_or_none}
use Rattle.bk_store.proofs.Growing.{none_stands}
use Rattle.bk_store.proofs.EntryLists.{AreEntriesOf}
use Rattle.bk_store.proofs.Walks.{AreAscending, walked, walked_lists}

module _ {X : Type 0} where
  sorted_ascending : (es : List (ℕ × X)) → T (is_sorted nat_cmp es) → AreAscending (map (λ e. e.0) es)
  sorted_ascending [] sorted = tt
  sorted_ascending (e ∷ es) sorted = (
    λ other there.
        let found = map-In (λ (x : ℕ × X). x.0) other es there in
        let less = less_told e.0 found.0.0 (below-In nat_cmp_total nat_cmp-IsAntisymmetric e.0 found.0.0 found.0.1 es (and_left _ _ sorted) found.1.0) in
        subst (λ n. e.0 < n) found.1.1 less,
    sorted_ascending es (and_right _ _ sorted),
  )

  pub keys_ascending : (m : finite.FinMap nat_cmp X) → AreAscending (finite.keys m)
  keys_ascending m = sorted_ascending (finite.entries m) (finite.entries_sorted m)

  -- if a log that the map does not have has no bytes, the walk over its keys lists all entries
  pub keys_walked : (m : finite.FinMap nat_cmp X) (bytes : Bytes) → ((id : ℕ) → finite.get m id ≡ None → bytes id ≡ [])
      → AreEntriesOf bytes (walked bytes (finite.keys m))
  keys_walked m bytes none = walked_lists bytes (finite.keys m) (keys_ascending m) (λ place key payload entry. elim (some_or_none (finite.get m place.log)) [
    | inr held ↦ In-map (λ (x : ℕ × X). x.0) (place.log, held.0) (finite.entries m)
        (get-In nat_cmp_total nat_cmp-IsAntisymmetric m place.log held.0 held.1)
    | inl missing ↦ absurd (none_stands place key payload (none place.log missing) entry)
  ])

pub files_walked : (files : Files) → AreEntriesOf (file_of files) (walked (file_of files) (finite.keys files))
files_walked files = keys_walked files (file_of files) (λ id missing. ap (λ o. unwrap_or o []) missing)
