-- The entries of a flush are indexed one by one, in key order.
use Rattle.std.proofs.Common.{◌≡◌, inl, inr, ℕ, zero, suc, ◌+◌, ◌<◌, false, cond, IsTrue, List, [], ◌∷◌, ◌++◌}
use Rattle.std.proofs.Common.{take, drop, Some, None, Ok, slice_get, refl, sym, ap, subst, ◌∙◌, arith}
use Rattle.std.specs.Option.{option_or}
use Rattle.std.specs.Ordering.{eq_by_cmp}
use Rattle.std.specs.FinMap as finite
use Rattle.std.specs.FinMap.{find, is_sorted}
use Rattle.std.proofs.lemmas.List.{take-append-drop}
use Rattle.bk_record.specs.Key.{EntryKey, key_cmp}
use Rattle.bk_record.specs.Location.{Place}
use Rattle.bk_record.specs.Scan.{Payloads}
use Rattle.bk_record.proofs.Keys.{key_cmp_total, key_cmp_antisymmetric}
use Rattle.bk_record.proofs.Maps.{key_cases}
use Rattle.bk_record.proofs.SortedPairs.{find_at}
use Rattle.bk_record.proofs.Growth.{take_next}
use Rattle.bk_cache.specs.Caches.{flush_of}
use Rattle.bk_cache.specs.Recents.{Recents}
use Rattle.bk_store.specs.State.{State}
use Rattle.bk_store.specs.Contents.{SameContents, PreservesContents}
use Rattle.bk_store.specs.Primitives.{IsRecentAfter, CanIndexPlaced, IndexEntryTransition, IndexPlacedTransition}
use Rattle.bk_store.proofs.Cases.{some_or_none}
use Rattle.bk_store.proofs.KeyMaps.{inserted_here, get-insert_other}
use Rattle.bk_record.proofs.SortedPairs.{sorted_front}
use Rattle.bk_flush.specs.Flushing.{NamesFirst, Remembers, first_places}
use Rattle.bk_flush.specs.Publishing.{AllShown}
use Rattle.bk_flush.proofs.NextLogs.{place_at, places_sorted, past_end}

-- the first n entries are indexed
pub record IsNaming (s : State) (n : ℕ) (t : State) : Type 0 where
  pub named : NamesFirst n s t
  pub stays : PreservesContents s t

-- ---- the first pairs of a list

at_end : {X : Type 0} (es : List X) (n : ℕ) (e : X) → slice_get es n ≡ Some e → slice_get (take n es ++ e ∷ []) n ≡ Some e
at_end [] n e is = cc
at_end (x ∷ es) zero e is = refl
at_end (x ∷ es) (suc n) e is = at_end es n e is

-- a pair of another key at the end changes nothing
found_else : (q : EntryKey) (es : List (EntryKey × Place)) (e : EntryKey × Place) → eq_by_cmp key_cmp q e.0 ≡ false
    → find key_cmp q (es ++ e ∷ []) ≡ find key_cmp q es
found_else q [] e apart = ap (λ b. cond b (Some e.1) None) apart
found_else q (x ∷ es) e apart = ap (λ o. cond (eq_by_cmp key_cmp q x.0) (Some x.1) o) (found_else q es e apart)

-- the recent entries after one more pair
remembers_more : (flush : Payloads) (es : List (EntryKey × Place)) (e : EntryKey × Place) (payload : List ℕ) (old mid new : Recents)
    → Remembers flush es old mid
    → finite.get flush e.0 ≡ Some payload → IsRecentAfter mid e.0 payload new → Remembers flush (es ++ e ∷ []) old new
remembers_more flush [] e payload old mid new so_far at after =
    (payload, at, (new, subst (λ r. IsRecentAfter r e.0 payload new) so_far after, refl))
remembers_more flush (x ∷ es) e payload old mid new so_far at after =
    (so_far.0, so_far.1, (so_far.2.0, so_far.2.1, remembers_more flush es e payload so_far.2.0 mid new so_far.2.2 at after))

-- ---- one more entry

module _ (s t : State) (n : ℕ) (is : IsNaming s n t) where
  still_places : t.places ≡ s.places
  still_places = ap (λ (x : State). x.places) is.named.left

  still_flush : flush_of t.caches ≡ flush_of s.caches
  still_flush = ap (λ (x : State). flush_of x.caches) is.named.left

  -- the next entry can be indexed
  pub may_name : AllShown s → n < finite.len s.places → CanIndexPlaced t n
  may_name shown within = elim (some_or_none (slice_get (finite.entries t.places) n)) [
    | inl none ↦
        let past = past_end (finite.entries t.places) n none in
        let long = finite.len-entries t.places in
        let same = ap finite.len still_places in
        absurd (omega (arith, past, long, same, within))
    | inr found ↦
        let e = found.0 in
        let all = shown e.0 e.1 (place_at s n e.0 e.1 (ap (λ m. slice_get (finite.entries m) n) (sym still_places) ∙ found.1)) in
        record {
          key = e.0;
          place = e.1;
          at = found.1;
          shown = record {
            log = all.log;
            view = all.view;
            held = ap (λ (x : State). finite.get x.logs e.1.log) is.named.left ∙ all.held;
            opened = all.opened;
            view_is = all.view_is;
            whole = λ honest.
                ap (λ (x : State). finite.get x.files e.1.log) is.named.left ∙ all.whole (sym is.stays.honest ∙ honest);
          };
        }
  ]

  module _ (key : EntryKey) (place : Place) (at : slice_get (finite.entries t.places) n ≡ Some (key, place)) where
    at_first : slice_get (finite.entries s.places) n ≡ Some (key, place)
    at_first = ap (λ m. slice_get (finite.entries m) n) (sym still_places) ∙ at

    more : first_places (n + 1) s ≡ first_places n s ++ (key, place) ∷ []
    more = take_next (finite.entries s.places) n (key, place) at_first

    -- the key is then found among the first pairs
    found_last : find key_cmp key (first_places (n + 1) s) ≡ Some place
    found_last =
        let sorted : IsTrue (is_sorted key_cmp (first_places (n + 1) s)) =
        sorted_front key_cmp (take (n + 1) (finite.entries s.places)) (drop (n + 1) (finite.entries s.places))
        (subst (λ es. IsTrue (is_sorted key_cmp es)) (sym (take-append-drop (n + 1) (finite.entries s.places))) (places_sorted s)) in
        find_at key_cmp_total (first_places (n + 1) s) n key place sorted
        (ap (λ es. slice_get es n) more ∙ at_end (finite.entries s.places) n (key, place) at_first)

    named_more : (u : State) → IndexEntryTransition {E = Unit {0}} t key place (Ok tt) u → (IsTrue t.honest → SameContents t u) → IsNaming s (n + 1) u
    named_more u turn meaning =
        let left = turn.3 in
        record {
          named = record {
            index = λ q.
                let sent : finite.get u.index q ≡ finite.get (finite.insert t.index key place) q = ap (λ (x : State). finite.get x.index q) left in
                elim (key_cases key_cmp_total key_cmp_antisymmetric q key) [
                  | inl same ↦
                      sent ∙ inserted_here t.index key place q same
                      ∙ ap (λ o. option_or o (finite.get s.index q)) (sym (ap (λ k. find key_cmp k (first_places (n + 1) s)) same ∙ found_last))
                  | inr apart ↦
                      sent ∙ get-insert_other t.index key place q apart.1 ∙ is.named.index q
                      ∙ ap (λ o. option_or o (finite.get s.index q))
                      (sym (ap (find key_cmp q) more ∙ found_else q (first_places n s) (key, place) apart.0))
                ];
            recent = subst (λ es. Remembers (flush_of s.caches) es s.caches.recent u.caches.recent) (sym more)
                (remembers_more (flush_of s.caches) (first_places n s) (key, place) turn.0 s.caches.recent t.caches.recent u.caches.recent is.named.recent
                (ap (λ m. finite.get m key) (sym still_flush) ∙ turn.1) turn.2);
            left = ap (λ (x : State). record x { index = u.index; caches = record x.caches { recent = u.caches.recent } }) left
                ∙ ap (λ (x : State). record x { index = u.index; caches = record x.caches { recent = u.caches.recent } }) is.named.left;
          };
          stays = record {
            honest = ap (λ (x : State). x.honest) left ∙ is.stays.honest;
            meaning = λ honest key. meaning (is.stays.honest ∙ honest) key ∙ is.stays.meaning honest key;
          };
        }

  pub name_more : {E : Type 0} (u : State) → IndexPlacedTransition {E = E} t n (Ok tt) u → (IsTrue t.honest → SameContents t u) → IsNaming s (n + 1) u
  name_more u turn meaning = named_more turn.key turn.place turn.at u turn.indexed meaning
