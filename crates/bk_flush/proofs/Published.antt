-- A publish: all logs of the flush are published, its entries are indexed, and it ends.
use Rattle.std.proofs.Common.{◌≡◌, inr, ℕ, false, IsSome, is_some, List, take, Option, Some}
use Rattle.std.proofs.Common.{None, option_map, Ok, Err, sym, ap, subst, ◌∙◌, arith}
use Rattle.std.specs.Option.{option_or}
use Rattle.std.specs.FinMap as finite
use Rattle.std.specs.FinMap.{find}
use Rattle.std.proofs.Math.Seq.{take-length}
use Rattle.bk_record.specs.Key.{EntryKey, key_cmp}
use Rattle.bk_cache.specs.Caches.{flush_of}
use Rattle.bk_store.specs.State.{State}
use Rattle.bk_store.specs.Abstract.{SatisfiesInvariant}
use Rattle.bk_store.specs.Primitives.{AllIndexed, AllPlaced, EndFlushTransition, IsNextEntry}
use Rattle.bk_store.proofs.Cases.{some_value}
use Rattle.bk_flush.specs.Flushing.{NamesFirst, PublishTransition, ShowsPlaced, first_places}
use Rattle.bk_flush.specs.Publishing.{NamesEntries}
use Rattle.bk_flush.specs.declared.answer.PublishAnswer.TheVariants as publishes
use Rattle.bk_store.specs.declared.step_fault.StepFault.{StepFault}
use Rattle.bk_store.specs.declared.step_fault.StepFault.TheVariants as step_faults
use Rattle.bk_flush.proofs.SameKeys.{same_number}

-- if there is no next entry, all entries have a place
pub none_next : {T : Type 0} (s : State) (f : T → EntryKey × List ℕ) (o : Option T) → is_some o ≡ false → IsNextEntry s (option_map f o) → AllPlaced s
none_next s f None none next = next
none_next s f (Some e) none next = cc

module _ (s : State) (kept : SatisfiesInvariant s) (placed : AllPlaced s) where
  -- there are as many places as entries
  pub as_many : finite.len s.places ≡ finite.len (flush_of s.caches)
  as_many = same_number s.places (flush_of s.caches)
      (λ key there.
      let at = some_value (finite.get s.places key) there in
      subst (λ (x : State). IsSome (finite.get (flush_of x.caches) key)) kept.seen
      (kept.keeps.fits.placed.flushing key at.0 (ap (λ (x : State). finite.get x.places key) kept.seen ∙ at.1)))
      placed

  module _ (shown : State) (shows : ShowsPlaced s shown) where
    many_shown : finite.len shown.places ≡ finite.len (flush_of s.caches)
    many_shown = ap (λ (x : State). finite.len x.places) shows.all.left ∙ as_many

    -- an error leaves the first entries indexed
    pub names_refused : (t : State) (fault : StepFault) → IsSome s.caches.flush → NamesEntries shown (Err fault) t → PublishTransition s (Err fault) t
    names_refused t step_faults.Disk runs never = absurd never
    names_refused t (step_faults.Memory done) runs named =
        let less = named.0 in
        let many = many_shown in
        (record { runs = runs; placed = placed }, inr (omega (arith, less, many), record { mid = shown; shown = shows; named = named.1 }))
    names_refused t step_faults.Odd runs never = absurd never
    names_refused t step_faults.LogsFull runs never = absurd never
    names_refused t step_faults.NoMoreIds runs never = absurd never

    module _ (named : State) (names : NamesFirst (finite.len shown.places) shown named) where
      -- all entries are indexed
      pub all_named : AllIndexed named
      all_named key there =
          let flushing : IsSome (finite.get (flush_of s.caches) key) =
          subst (λ m. IsSome (finite.get m key))
          (ap (λ (x : State). flush_of x.caches) names.left ∙ ap (λ (x : State). flush_of x.caches) shows.all.left) there in
          let at = some_value (finite.get s.places key) (placed key flushing) in
          let all : first_places (finite.len shown.places) shown ≡ finite.entries shown.places =
          ap (λ n. take n (finite.entries shown.places)) (finite.len-entries shown.places) ∙ take-length (finite.entries shown.places) in
          let found : find key_cmp key (first_places (finite.len shown.places) shown) ≡ Some at.0 =
          ap (find key_cmp key) all ∙ sym (finite.get-entries shown.places key) ∙ ap (λ (x : State). finite.get x.places key) shows.all.left ∙ at.1 in
          ap is_some (names.index key ∙ ap (λ o. option_or o (finite.get shown.index key)) found)

      pub published : (t : State) (n : ℕ) → IsSome s.caches.flush → n ≡ finite.len (flush_of s.caches) → EndFlushTransition named t
          → PublishTransition s (Ok (publishes.Published n)) t
      published t n runs count ends =
          let same : finite.len shown.places ≡ n = many_shown ∙ sym count in (
            record { runs = runs; placed = placed },
            count,
            (named, record { mid = shown; shown = shows; named = subst (λ k. NamesFirst k shown named) same names }, ends),
          )
