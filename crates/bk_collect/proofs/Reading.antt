-- The logs are read by rising id: the index is that of all entries in their published parts.
use Rattle.std.proofs.Common.{◌≡◌, inl, inr, ℕ, ◌+◌, ◌<◌, Bool, true, false, if◌then◌else◌, IsTrue, List, [], ◌∷◌, ◌++◌, Option}
use Rattle.std.proofs.Common.{Some, None, IsSome, is_some, refl, sym, ap, subst, ◌∙◌, append_assoc, arith}
use Rattle.std.specs.Option.{option_map_or, option_and_then}
use Rattle.std.proofs.lemmas.List.{append-nil}
use Rattle.std.proofs.Math.Decide.{dec_le}
use Rattle.std.proofs.lemmas.Option.{none-some}
use Rattle.std.specs.FinMap as finite
use Rattle.std.specs.FinSet as set
use Rattle.bk_record.specs.Key.{EntryKey, key_cmp}
use Rattle.bk_record.specs.Location.{Place}
use Rattle.bk_record.specs.Record.{key_of}
use Rattle.bk_record.specs.Files.{records_of, In}
use Rattle.bk_record.specs.Scan.{Ledgers, entries_of}
use Rattle.bk_record.proofs.Growth.{records_of-short, In-append_left, In-append_right, In-append_cases}
use Rattle.bk_record.specs.Keyed.{Places}
use Rattle.bk_store.specs.Logs.{View, Log, Logs, HasOpenView, IsNextHeld, is_open, open_parts, published_part}
use Rattle.bk_store.specs.State.{State}
use Rattle.bk_store.specs.Primitives.{CanReplaceIndex}
use Rattle.bk_store.specs.Abstract.{SatisfiesInvariant}
use Rattle.bk_store.proofs.Cases.{some_or_none}
use Rattle.bk_store.proofs.Growing.{none_stands}
use Rattle.bk_store.proofs.EntryLists.{Listed, IsIndexOfList, list_empty, list_index}
use Rattle.bk_store.proofs.OpenedLists.{listed_entries_of}
use Rattle.bk_store.proofs.Walks.{AreAscending, listed_of, walked, walked_lists, walked_push, walk_indexed, walk_passed, walk_foreign}
use Rattle.bk_collect.specs.Collecting.{open_view}
use Rattle.bk_collect.specs.Rebuilding.{with_record_at, with_records, TakesIn}
use Rattle.bk_collect.proofs.Views.{shows_open, part_is, view_honest}

-- ---- the records of one log

record_indexed : (front : Listed) (dead : Ledgers) (log : ℕ) (before : List (ℕ × List ℕ)) (index : Places) (r : ℕ × List ℕ)
    → IsIndexOfList (front ++ listed_of log before) dead index
    → IsIndexOfList (front ++ listed_of log (before ++ r ∷ [])) dead (with_record_at dead log index r.0 (key_of r.1))
record_indexed front dead log before index r made =
    elim (key_of r.1) as (λ o. key_of r.1 ≡ o → IsIndexOfList (front ++ listed_of log (before ++ r ∷ [])) dead (with_record_at dead log index r.0 o)) [
      | None ↦ λ foreign. walk_foreign front log before made r.0 r.1 foreign
      | Some key ↦ λ keyed. elim (set.contains dead key.ledger) as (λ b. set.contains dead key.ledger ≡ b
          → IsIndexOfList (front ++ listed_of log (before ++ r ∷ [])) dead
          (if b then index else finite.insert index key (record { log = log; at = r.0 }))) [
            | true ↦ λ gone. walk_passed front log before made r.0 r.1 key keyed gone
            | false ↦ λ alive. walk_indexed front log before made r.0 r.1 key keyed alive
          ] refl
    ] refl

records_indexed : (front : Listed) (dead : Ledgers) (log : ℕ) (before records : List (ℕ × List ℕ)) (index : Places)
    → IsIndexOfList (front ++ listed_of log before) dead index
    → IsIndexOfList (front ++ listed_of log (before ++ records)) dead (with_records dead log index records)
records_indexed front dead log before [] index made =
    subst (λ (l : List (ℕ × List ℕ)). IsIndexOfList (front ++ listed_of log l) dead index) (sym (append-nil before)) made
records_indexed front dead log before (r ∷ later) index made =
    let next = with_record_at dead log index r.0 (key_of r.1) in
    subst (λ (l : List (ℕ × List ℕ)). IsIndexOfList (front ++ listed_of log l) dead (with_records dead log next later)) (append_assoc before (r ∷ []) later)
    (records_indexed front dead log (before ++ r ∷ []) later next (record_indexed front dead log before index r made))

-- the entries of a log after those of other logs
entries_indexed : (front : Listed) (dead : Ledgers) (log : ℕ) (file : List ℕ) (index : Places) → IsIndexOfList front dead index
    → IsIndexOfList (front ++ listed_of log (records_of file)) dead (with_records dead log index (entries_of file))
entries_indexed front dead log file index made =
    subst (λ (l : Listed). IsIndexOfList (front ++ l) dead (with_records dead log index (entries_of file))) (listed_entries_of log file)
    (records_indexed front dead log [] (entries_of file) index (subst (λ (l : Listed). IsIndexOfList l dead index) (sym (append-nil front)) made))

-- ---- rising ids

ascending_push : (ids : List ℕ) (id : ℕ) → AreAscending ids → ((other : ℕ) → In other ids → other < id) → AreAscending (ids ++ id ∷ [])
ascending_push [] id ascending below = ((λ other never. absurd never), tt)
ascending_push (x ∷ ids) id ascending below = (
  λ other there. elim (In-append_cases other ids (id ∷ []) there) [
    | inl near ↦ ascending.0 other near
    | inr far ↦ elim far [ inl here ↦ subst (λ n. x < n) here (below x (inl refl)) | inr never ↦ absurd never ]
  ],
  ascending_push ids id ascending.1 (λ other there. below other (inr there)),
)

-- ---- the logs read so far

-- All logs below this id were read, and the index is that of the entries in their published parts.
-- It points only into logs with a view.
pub record IsReading (s : State) (from : ℕ) (now : Places) : Type 0 where
  pub sent : (key : EntryKey) (place : Place) → finite.get now key ≡ Some place → HasOpenView s.logs place.log
  pub ids : List ℕ
  pub ascending : AreAscending ids
  pub below : (id : ℕ) → In id ids → id < from
  pub all : (id : ℕ) → IsSome (finite.get s.logs id) → id < from → In id ids
  pub made : IsTrue s.honest → IsIndexOfList (walked (open_parts s.logs) ids) s.ledgers.dead now

pub reading_starts : (s : State) (now : Places) → now ≡ finite.empty → IsReading s 0 now
reading_starts s now is = record {
  sent = λ key place named.
      absurd (none-some place (sym (finite.get-empty key_cmp key) ∙ ap (λ (m : Places). finite.get m key) (sym is) ∙ named));
  ids = [];
  ascending = tt;
  below = λ id never. absurd never;
  all = λ id held under. absurd (omega (arith, under));
  made = λ _. subst (λ (m : Places). IsIndexOfList [] s.ledgers.dead m) (sym is) (list_empty s.ledgers.dead);
}

module _ (s : State) (from : ℕ) (now : Places) (so_far : IsReading s from now) (log : ℕ) (next : IsNextHeld s.logs from (Some log)) where
  -- the log is the next one
  module _ (now' : Places) (sent : (key : EntryKey) (place : Place) → finite.get now' key ≡ Some place → HasOpenView s.logs place.log)
      (made : IsTrue s.honest → IsIndexOfList (walked (open_parts s.logs) so_far.ids ++ listed_of log (records_of (open_parts s.logs log))) s.ledgers.dead now') where
    reading_push : IsReading s (log + 1) now'
    reading_push = record {
      sent = sent;
      ids = so_far.ids ++ log ∷ [];
      ascending = ascending_push so_far.ids log so_far.ascending (λ other there. let under = so_far.below other there in omega (arith, under, next.1));
      below = λ id there. elim (In-append_cases id so_far.ids (log ∷ []) there) [
        | inl near ↦ let under = so_far.below id near in omega (arith, under, next.1)
        | inr far ↦ elim far [ inl here ↦ omega (arith, here) | inr never ↦ absurd never ]
      ];
      all = λ id held under. elim (dec_le from id) [
        | no less ↦ In-append_left id so_far.ids (log ∷ []) (so_far.all id held (omega (arith, less)))
        | yes above ↦
            let least = next.2 id held above in
            let here : log ≡ id = omega (arith, least, under) in
            In-append_right id so_far.ids (log ∷ []) (inl here)
      ];
      made = λ honest. subst (λ (l : Listed). IsIndexOfList l s.ledgers.dead now') (sym (walked_push (open_parts s.logs) so_far.ids log)) (made honest);
    }

  -- its entries were added
  pub reading_on : SatisfiesInvariant s → (view : View) → open_view s.logs log ≡ Some view → (now' : Places) → TakesIn s.ledgers.dead log view now now' → IsReading s (log + 1) now'
  reading_on kept view shown now' takes =
      let shows = shows_open s.logs log view shown in
      reading_push now'
      (λ key place named. elim (takes.sent key place named) [
        | inl before ↦ so_far.sent key place before
        | inr here ↦ subst (HasOpenView s.logs) (sym here)
            (record { log = shows.log; view = view; held = shows.held; opened = shows.opened; view_is = shows.view_is })
      ])
      (λ honest.
      subst (λ (b : List ℕ). IsIndexOfList (walked (open_parts s.logs) so_far.ids ++ listed_of log (records_of b)) s.ledgers.dead now')
      (sym (part_is s.logs log view shows))
      (subst (λ (m : Places). IsIndexOfList (walked (open_parts s.logs) so_far.ids ++ listed_of log (records_of view.bytes)) s.ledgers.dead m)
      (sym (takes.taken (view_honest s kept log view shown honest)))
      (entries_indexed (walked (open_parts s.logs) so_far.ids) s.ledgers.dead log view.bytes now (so_far.made honest))))

  -- it has no view, or it is not open
  pub reading_past : open_view s.logs log ≡ None → IsReading s (log + 1) now
  reading_past hidden = reading_push now so_far.sent (λ honest.
      subst (λ (b : List ℕ). IsIndexOfList (walked (open_parts s.logs) so_far.ids ++ listed_of log (records_of b)) s.ledgers.dead now) (sym (hides s.logs log hidden))
      (subst (λ (r : List (ℕ × List ℕ)). IsIndexOfList (walked (open_parts s.logs) so_far.ids ++ listed_of log r) s.ledgers.dead now)
      (sym (records_of-short [] (omega arith)))
      (subst (λ (l : Listed). IsIndexOfList l s.ledgers.dead now) (sym (append-nil (walked (open_parts s.logs) so_far.ids))) (so_far.made honest))))
    where
      hides : (logs : Logs) (id : ℕ) → open_view logs id ≡ None → open_parts logs id ≡ []
      hides logs id none = of (finite.get logs id) none
        where
          within : (v : Option View) (b : Bool) → (if b then v else None) ≡ None → (if b then option_map_or (λ (x : View). x.bytes) v [] else []) ≡ []
          within None true is = refl
          within (Some v) true is = absurd (none-some v (sym is))
          within v false is = refl

          of : (o : Option Log) → option_and_then (λ (l : Log). if is_open l.state then l.view else None) o ≡ None
              → option_map_or (λ (l : Log). if is_open l.state then published_part l else []) o [] ≡ []
          of None is = refl
          of (Some l) is = within l.view (is_open l.state) is

-- all logs were read
pub reading_ends : (s : State) (from : ℕ) (now : Places) → IsReading s from now → IsNextHeld s.logs from None → CanReplaceIndex s now
reading_ends s from now so_far past = record {
  made = λ honest. list_index
      (walked_lists (open_parts s.logs) so_far.ids so_far.ascending (λ place key payload entry.
      elim (some_or_none (finite.get s.logs place.log)) [
        | inr held ↦ let there = ap is_some held.1 in so_far.all place.log there (past place.log there)
        | inl none ↦ absurd (none_stands place key payload
            (ap (λ (o : Option Log). option_map_or (λ (l : Log). if is_open l.state then published_part l else []) o []) none) entry)
      ]))
      (so_far.made honest);
  sent = so_far.sent;
}
