-- The pairs of a page with shared payloads, as contracts see them; `f` returns the bytes of a
-- payload.
use Rattle.std.proofs.Common.{◌≡◌, ℕ, Bool, List, Option, Some, None, slice_get, option_map, get_or, sym, ap, ◌∙◌}
use Rattle.std.specs.Bool.{IsTrue}
use Rattle.std.specs.List.{filter, insert}
use Rattle.std.specs.FinMap.{find, put, is_sorted}
use Rattle.std.proofs.lemmas.Option.{slice_get-map}
use Rattle.bk_record.specs.Key.{EntryKey, key_cmp}
use Rattle.bk_record.proofs.Keys.{key_cmp_total}
use Rattle.bk_record.proofs.SortedPairs.{find_at, find-lookup, is_sorted_put}
use Rattle.bk_cache.specs.Sorted.{IsAt, IsGapFor}
use Rattle.bk_cache.proofs.Seen.{seen, find-seen, put-seen, filter-seen}
use Rattle.bk_cache.proofs.KeyPlaces.{at_key, find_held, find_absent, put_absent}

module _ {X : Type 0} (f : X → List ℕ) (pairs : List (EntryKey × X)) (sorted : IsTrue (is_sorted key_cmp pairs)) (key : EntryKey) (at : ℕ) where
  found : (o : Option X) → find key_cmp key pairs ≡ o → find key_cmp key (seen f pairs) ≡ option_map f o
  found o is = find-seen f key_cmp key pairs ∙ ap (option_map f) (sym (find-lookup key_cmp key pairs) ∙ is)

  -- the payload read at the place of a key
  pub seen_held : (held : EntryKey × X) → IsAt pairs key at → held ≡ get_or pairs at held → find key_cmp key (seen f pairs) ≡ Some (f held.1)
  seen_held held here read = found (Some held.1) (find_held pairs sorted key at held here read)

  pub seen_some : IsAt pairs key at → (held : EntryKey × X) × (find key_cmp key (seen f pairs) ≡ Some (f held.1))
  seen_some here =
      let e = at_key pairs sorted key at here in (
        e.0,
        found (Some e.0.1) (find_at key_cmp_total pairs at key e.0.1 sorted
            (e.1 ∙ ap Some (λ i. (e.2 i, e.0.1)))),
      )

  -- a key with a gap has none
  pub seen_absent : IsGapFor pairs key at → find key_cmp key (seen f pairs) ≡ None
  seen_absent gap = found None (find_absent pairs sorted key at gap)

  -- a payload is put into the gap of its key
  pub seen_put : (payload : X) → IsGapFor pairs key at → seen f (insert pairs at (key, payload)) ≡ put key_cmp key (f payload) (seen f pairs)
  seen_put payload gap = ap (seen f) (sym (put_absent pairs key at gap payload)) ∙ put-seen f key_cmp pairs key payload

  pub sorted_put : (payload : X) → IsGapFor pairs key at → IsTrue (is_sorted key_cmp (insert pairs at (key, payload)))
  sorted_put payload gap =
      let all : IsTrue (is_sorted key_cmp (put key_cmp key payload pairs)) = is_sorted_put key_cmp_total key payload pairs sorted in
      rw (← put_absent pairs key at gap payload) all

-- the first pair that passes a test stands at a place
pub seen_first : {X : Type 0} (f : X → List ℕ) (pairs : List (EntryKey × X)) (p : EntryKey → Bool) (at : ℕ)
    → slice_get (filter (λ e. p e.0) pairs) 0 ≡ slice_get pairs at → slice_get (filter (λ e. p e.0) (seen f pairs)) 0 ≡ slice_get (seen f pairs) at
seen_first f pairs p at is =
    ap (λ es. slice_get es 0) (filter-seen f p pairs) ∙ slice_get-map (λ e. (e.0, f e.1)) (filter (λ e. p e.0) pairs) 0
    ∙ ap (option_map (λ e. (e.0, f e.1))) is ∙ sym (slice_get-map (λ e. (e.0, f e.1)) pairs at)
