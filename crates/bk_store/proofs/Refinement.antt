-- A store that satisfies the store invariant on an honest disk returns as the abstract map does.
use Rattle.std.proofs.Common.{◌≡◌, inl, inr, ℕ, List, Bool, Some, None, IsSome, [], length, ◌+◌, ◌<◌, true, false, cond, IsTrue}
use Rattle.std.proofs.Common.{Result, Ok, Err, is_some, refl, sym, ap, subst, ◌∙◌, unwrap_or, option_map}
use Rattle.std.specs.Option.{option_or, option_map_or}
use Rattle.std.specs.FinMap as finite
use Rattle.std.specs.FinSet as set
use Rattle.bk_record.specs.Key.{EntryKey}
use Rattle.bk_record.specs.Location.{Place}
use Rattle.bk_record.specs.Files.{file_of, records_of, In}
use Rattle.bk_record.specs.Scan.{Payloads, scan_of}
use Rattle.bk_record.proofs.Keys.{key_cmp_total, key_cmp_antisymmetric}
use Rattle.bk_record.specs.Keyed.{without_ledger}
use Rattle.bk_cache.specs.Caches as caches
use Rattle.bk_cache.specs.Recents.{recent_of}
use Rattle.bk_lease.specs.Values.{Ticket}
use Rattle.bk_store.specs.Entries.{HasEntry}
use Rattle.bk_store.specs.Representation.{Represents}
use Rattle.bk_store.specs.Logs.{View, HasOpenView, view_of, is_open, open_parts, published_part}
use Rattle.bk_store.specs.Fronts.{fronts_after_swap}
use Rattle.bk_store.specs.Ledgers.{KnownLedgers, is_barred, receipt_of, with_add, with_deletion, with_fence}
use Rattle.bk_store.specs.State.{State, StoreParts}
use Rattle.bk_store.specs.Contents.{written_at, cached_at, holds}
use Rattle.bk_store.specs.Invariant.{StoreInvariant, ContentInvariant}
use Rattle.bk_store.specs.Transitions.{AsksToAdd, AddTransition, TakeTransition, SwapTransition, DeleteTransition, FenceTransition, state_after_delete, swapped_fronts, is_dead, is_fenced}
use Rattle.bk_store.specs.Abstract.{AbstractState, IsLive, IsNew, IsUnfenced, AbstractAdd, AbstractTake, AbstractDelete, AbstractFence, abstract_after_swap, abstract_swapped_fronts, abstract_after_delete, pending_payload, StoreRefines}
use Rattle.bk_store.specs.declared.adding.AddKind.{AddKind}
use Rattle.bk_store.specs.declared.answer.Added.{Added}
use Rattle.bk_store.specs.declared.answer.Added.TheVariants.{Accepted, Held}
use Rattle.bk_store.specs.declared.answer.AddFault.{AddFault}
use Rattle.bk_store.specs.declared.answer.AddFault.TheVariants as add_faults
use Rattle.bk_store.specs.declared.answer.Taken.{Taken}
use Rattle.bk_store.specs.declared.answer.Taken.TheVariants.{Deleted, Cached, NotHeld, Leased}
use Rattle.bk_store.specs.declared.answer.TakeFault.{TakeFault}
use Rattle.bk_store.specs.declared.answer.TakeFault.TheVariants as take_faults
use Rattle.bk_store.specs.declared.answer.DeleteFault.{DeleteFault}
use Rattle.bk_store.specs.declared.answer.DeleteFault.TheVariants as delete_faults
use Rattle.bk_store.specs.declared.answer.Fence.{Fence}
use Rattle.bk_store.specs.declared.answer.Fence.TheVariants as fences
use Rattle.bk_store.specs.declared.answer.FenceFault.{FenceFault}
use Rattle.bk_store.specs.declared.answer.FenceFault.TheVariants as fence_faults
use Rattle.bk_cache.specs.declared.swap.Swap.{Swap}
use Rattle.bk_cache.specs.declared.swap.Swap.TheVariants.{Running, Nothing, Swapped}
use Rattle.bk_store.proofs.Cases.{some_or_none, some_value}
use Rattle.bk_store.proofs.OneEntry.{one_payload}
use Rattle.bk_store.proofs.RepresentedContents.{carries_meaning, unheld_unmapped, held_exactly}
use Rattle.bk_store.proofs.CachedMoves.{carries_same_cached}
use Rattle.bk_store.proofs.LedgerLeaves.{carries_without_ledger}
use Rattle.bk_store.proofs.AbstractCounts.{held_is_mapped}
use Rattle.bk_store.proofs.InvariantDelete as removed
use Rattle.bk_store.proofs.InvariantAdd as added
use Rattle.bk_store.proofs.InvariantSwap as swapped

-- ---- the map that a store represents is the plain one

module _ (s : State) (p : AbstractState) (agrees : StoreRefines s p) where
  told_is : (key : EntryKey) → pending_payload p key ≡ written_at s key
  told_is key = sym ((λ i. option_or (finite.get (agrees.active i) key) (finite.get (unwrap_or (agrees.flush i) finite.empty) key)))

  pub same_map : (reveal_invariant : Payloads) → Represents (file_of s.files) s.index (written_at s) s.ledgers.dead reveal_invariant → p.map ≡ reveal_invariant
  same_map carried carries = finite.same_map key_cmp_total key_cmp_antisymmetric p.map carried (λ key.
      agrees.meaning key
      ∙ (λ i. cond (set.contains (sym agrees.ledgers i).dead key.ledger) None (option_or (told_is key i) (finite.get (scan_of s.files) key)))
      ∙ sym (carries_meaning s.files carries key))

  pub plain_carries : (carried : Payloads) → Represents (file_of s.files) s.index (written_at s) s.ledgers.dead carried
      → Represents (file_of s.files) s.index (written_at s) s.ledgers.dead p.map
  plain_carries carried carries = subst (Represents (file_of s.files) s.index (written_at s) s.ledgers.dead) (sym (same_map carried carries)) carries

-- a store that represents the abstract map agrees with it
pub agrees_of : (s : State) (p : AbstractState) → Represents (file_of s.files) s.index (written_at s) s.ledgers.dead p.map
    → s.ledgers ≡ p.ledgers → s.caches.active ≡ p.active → s.caches.flush ≡ p.flush → s.fronts ≡ p.fronts → StoreRefines s p
agrees_of s p carries ledgers active flush fronts = record {
  meaning = λ key. carries_meaning s.files carries key
      ∙ (λ i. cond (set.contains (ledgers i).dead key.ledger) None
      (option_or (option_or (finite.get (active i) key) (finite.get (unwrap_or (flush i) finite.empty) key)) (finite.get (scan_of s.files) key)));
  ledgers = ledgers;
  active = active;
  flush = flush;
  fronts = fronts;
}

agrees_same : {s t : State} {p : AbstractState} → StoreRefines s p → t ≡ s → StoreRefines t p
agrees_same {p = p} agrees same = subst (λ x. StoreRefines x p) (sym same) agrees

-- ---- the returns

module _ (parts : StoreParts) (keeps : StoreInvariant parts) (reveal_invariant : ContentInvariant parts) (p : AbstractState) (agrees : StoreRefines parts.state p) where
  abbrev s : State
  s = parts.state

  carries : Represents (file_of s.files) s.index (written_at s) s.ledgers.dead p.map
  carries = plain_carries s p agrees reveal_invariant.map.carried reveal_invariant.map.carries

  is_carried : p.map ≡ reveal_invariant.map.carried
  is_carried = same_map s p agrees reveal_invariant.map.carried reveal_invariant.map.carries

  mapped_is : (key : EntryKey) → is_some (finite.get p.map key) ≡ holds s key
  mapped_is key = held_exactly carries key

  missing : (key : EntryKey) → holds s key ≡ false → finite.get p.map key ≡ None
  missing key not = elim (some_or_none (finite.get p.map key)) [
    | inl none ↦ none
    | inr there ↦ absurd (let wrong : true ≡ false = sym (ap is_some there.1) ∙ mapped_is key ∙ not in cc)
  ]

  lives_in : (key : EntryKey) (b : Bool) → set.contains s.ledgers.dead key.ledger ≡ b → set.contains p.ledgers.dead key.ledger ≡ b
  lives_in key b is = ap (λ (l : KnownLedgers). set.contains l.dead key.ledger) (sym agrees.ledgers) ∙ is

  dead_is : (ledger : ℕ) (b : Bool) → set.contains s.ledgers.dead ledger ≡ b → set.contains p.ledgers.dead ledger ≡ b
  dead_is ledger b is = ap (λ (l : KnownLedgers). set.contains l.dead ledger) (sym agrees.ledgers) ∙ is

  barred_is : (kind : AddKind) (ledger : ℕ) (b : Bool) → is_barred kind s.ledgers.fenced ledger ≡ b → is_barred kind p.ledgers.fenced ledger ≡ b
  barred_is kind ledger b is = ap (λ (l : KnownLedgers). is_barred kind l.fenced ledger) (sym agrees.ledgers) ∙ is

  live_in : (kind : AddKind) (payload : List ℕ) (has : Bool) (asks : AsksToAdd s kind payload has) → IsLive p kind payload asks.key
  live_in kind payload has asks = record {
    reads = asks.reads;
    lives = lives_in asks.key false asks.lives;
    unbarred = barred_is kind asks.key.ledger false asks.unbarred;
  }

  new_in : (kind : AddKind) (payload : List ℕ) (asks : AsksToAdd s kind payload false) → IsNew p kind payload asks.key
  new_in kind payload asks = record { live = live_in kind payload false asks; missing = missing asks.key asks.held }

  pub plain_add : (t : State) (kind : AddKind) (payload : List ℕ) (r : Result Added AddFault) → AddTransition s kind payload r t
      → (q : AbstractState) × AbstractAdd s.caches.limit kind p payload r q × StoreRefines t q
  plain_add t kind payload (Err (add_faults.Bad fault)) turn = (p, (turn.0, refl), agrees_same agrees turn.1)
  plain_add t kind payload (Err add_faults.Deleted) turn = (p, (turn.0, turn.1, lives_in turn.0 true turn.2, refl), agrees_same agrees turn.3)
  plain_add t kind payload (Err add_faults.Fenced) turn =
      (p, (turn.0, turn.1, lives_in turn.0 false turn.2, barred_is kind turn.0.ledger true turn.3, refl), agrees_same agrees turn.4)
  plain_add t kind payload (Ok Held) turn =
      let asks = turn.0 in (p, (asks.key, live_in kind payload true asks, mapped_is asks.key ∙ asks.held, refl), agrees_same agrees turn.1)
  plain_add t kind payload (Err (add_faults.Full used most)) turn =
      let asks = turn.0 in (
        p,
        (
          asks.key,
          new_in kind payload asks,
          subst (λ a. s.caches.limit < caches.used_of a + length payload) agrees.active turn.1,
          turn.2 ∙ ap caches.used_of agrees.active,
          turn.3,
          refl,
        ),
        agrees_same agrees turn.4,
      )
  plain_add t kind payload (Err add_faults.Memory) turn =
      let asks = turn.0 in (
        p,
        (asks.key, new_in kind payload asks, subst (λ a. ¬ (s.caches.limit < caches.used_of a + length payload)) agrees.active turn.1, refl),
        agrees_same agrees turn.2,
      )
  plain_add t kind payload (Ok (Accepted receipt)) turn =
      let asks = turn.0 in
      let q : AbstractState = record p {
        map = finite.insert p.map asks.key payload;
        ledgers = with_add p.ledgers asks.key payload;
        active = finite.insert p.active asks.key payload;
      } in
      let after = added.carries_accepted parts payload asks.key asks.reads keeps asks.lives asks.held carries in (
        q,
        (
          asks.key,
          new_in kind payload asks,
          subst (λ a. ¬ (s.caches.limit < caches.used_of a + length payload)) agrees.active turn.1,
          turn.2 ∙ ap (λ (l : KnownLedgers). receipt_of l.trail asks.key payload) agrees.ledgers,
          refl,
        ),
        agrees_same (agrees_of (record s { caches = caches.with_added s.caches payload; ledgers = with_add s.ledgers asks.key payload }) q after
            (ap (λ l. with_add l asks.key payload) agrees.ledgers)
            ((λ i. finite.insert (agrees.active i) (added.is_key parts payload asks.key asks.reads keeps asks.lives asks.held i) payload)) agrees.flush agrees.fronts) turn.3,
      )

  -- what a read finds in memory is the map's
  cached_mapped : (key : EntryKey) (payload : List ℕ) → cached_at s key ≡ Some payload → finite.get p.map key ≡ Some payload
  cached_mapped key payload is =
      elim (written_at s key) as (λ o. written_at s key ≡ o → option_or o (recent_of s.caches.recent key) ≡ Some payload
      → finite.get p.map key ≡ Some payload) [
        | Some b ↦ λ written same. carries.cached_is key b written ∙ same
        | None ↦ λ _ recent. ap (λ m. finite.get m key) is_carried ∙ reveal_invariant.map.recent key payload recent
      ] refl is

  uncached : (key : EntryKey) → cached_at s key ≡ None → written_at s key ≡ None
  uncached key none =
      elim (written_at s key) as (λ o. option_or o (recent_of s.caches.recent key) ≡ None → o ≡ None) [
        | Some b ↦ λ wrong. cc
        | None ↦ λ _. refl
      ] none

  indexed_mapped : (key : EntryKey) (place : Place) → finite.get s.index key ≡ Some place → IsSome (finite.get p.map key)
  indexed_mapped key place named = ap is_some (carries.indexed key place named).mapped

  -- the view of an open log has the entry of a key that the index points there, with what the map
  -- has
  shown_at : (key : EntryKey) (place : Place) (view : View) → finite.get s.index key ≡ Some place → (opened : HasOpenView s.logs place.log)
      → opened.view ≡ view
      → (payload : List ℕ) × (finite.get p.map key ≡ Some payload) × IsTrue view.is_honest × HasEntry (λ _. view.bytes) place key payload
  shown_at key place view named opened same_view =
      let entry = carries.indexed key place named in
      let shown = reveal_invariant.shows.shown key place named in
      let same : shown.0 ≡ entry.payload = one_payload (reveal_invariant.shows.stands place key shown.0 shown.1) entry.stands in
      let view_is : opened.log.view ≡ Some view = opened.view_is ∙ ap (λ (v : View). Some v) same_view in
      let part : open_parts s.logs place.log ≡ view.bytes =
      ap (λ o. option_map_or (λ log. cond (is_open log.state) (published_part log) []) o []) opened.held
      ∙ (λ i. cond (opened.opened i) (published_part opened.log) []) ∙ ap (λ o. option_map_or (λ v. v.bytes) o []) view_is in (
        shown.0,
        entry.mapped ∙ ap Some (sym same),
        (reveal_invariant.logs.each place.log opened.log opened.held).honest view view_is,
        record { stands = subst (λ b. In (place.at, shown.0) (records_of b)) part shown.1.stands; keyed = shown.1.keyed },
      )

  pub plain_take : {V : Type 0} (bytes : V → List ℕ) (honest sound : V → Bool) (key : EntryKey) (r : Result (Taken V) TakeFault)
      (t : State) → TakeTransition bytes honest sound s key r t → AbstractTake bytes honest p key r × StoreRefines t p
  plain_take bytes honest sound key (Ok Deleted) t turn = (lives_in key true turn.0, agrees_same agrees turn.1)
  plain_take bytes honest sound key (Ok (Cached payload)) t turn =
      ((lives_in key false turn.0, cached_mapped key payload.value.items turn.1), agrees_same agrees turn.2)
  plain_take bytes honest sound key (Ok NotHeld) t turn =
      ((lives_in key false turn.0, unheld_unmapped carries key (uncached key turn.1) turn.2), agrees_same agrees turn.3)
  plain_take bytes honest sound key (Ok (Leased lease place)) t turn =
      let entry = turn.0 in
      let of = turn.1 in
      let shown = shown_at key place (view_of bytes honest sound lease.view) entry.sent
      (record { log = of.log; view = view_of bytes honest sound lease.view; held = of.held; opened = of.opened; view_is = of.view_is }) refl in (
        (
          lives_in key false entry.lives,
          (
            shown.0,
            shown.1,
            record {
              log = ap (λ (k : Ticket). k.log) of.ticket_is;
              held = ap (λ (k : Ticket). k.is_held) of.ticket_is;
              honest_is = shown.2;
              shown = shown.3;
            },
          ),
        ),
        agrees_same (record { meaning = agrees.meaning; ledgers = agrees.ledgers; active = agrees.active; flush = agrees.flush; fronts = agrees.fronts }) turn.2,
      )
  plain_take bytes honest sound key (Err take_faults.NoSeat) t turn =
      ((lives_in key false turn.1.lives, indexed_mapped key turn.0 turn.1.sent), agrees_same agrees turn.2)
  plain_take bytes honest sound key (Err take_faults.TooMany) t turn =
      ((lives_in key false turn.1.lives, indexed_mapped key turn.0 turn.1.sent), agrees_same agrees turn.3)
  plain_take bytes honest sound key (Err take_faults.Memory) t turn = (
    (
      lives_in key false turn.0,
      elim turn.1 [
        | inl cached ↦ let found = some_value (cached_at s key) cached in ap is_some (cached_mapped key found.0 found.1)
        | inr named ↦ let found = some_value (finite.get s.index key) named in indexed_mapped key found.0 found.1
      ],
    ),
    agrees_same agrees turn.2,
  )

  fronts_agree : (r : Swap) → swapped_fronts r s ≡ abstract_swapped_fronts r p
  fronts_agree r = λ i. fronts_after_swap r (length (agrees.ledgers i).trail) (agrees.fronts i)

  pub plain_swap : (t : State) (r : Swap) → SwapTransition s r t → StoreRefines t (abstract_after_swap r p)
  plain_swap t Running turn = agrees_same agrees turn.1
  plain_swap t Nothing turn =
      agrees_same (record {
        meaning = agrees.meaning;
        ledgers = agrees.ledgers;
        active = agrees.active;
        flush = agrees.flush;
        fronts = fronts_agree Nothing;
      }) turn.2
  plain_swap t (Swapped n) turn =
      let after : State = record s {
        caches = record s.caches { active = finite.empty; flush = Some s.caches.active };
        fronts = swapped_fronts (Swapped n) s;
      } in
      agrees_same (agrees_of after (abstract_after_swap (Swapped n) p) (carries_same_cached carries (written_at after) (swapped.same_cached parts keeps turn.0))
      agrees.ledgers refl (ap Some agrees.active) (fronts_agree (Swapped n))) turn.3

  pub plain_delete : caches.AreApart s.caches → (t : State) (ledger : ℕ) (r : Result ℕ DeleteFault) → DeleteTransition s ledger r t
      → (q : AbstractState) × AbstractDelete p ledger r q × StoreRefines t q
  plain_delete apart t ledger (Err delete_faults.AlreadyDeleted) turn = (p, (dead_is ledger true turn.0, refl), agrees_same agrees turn.1)
  plain_delete apart t ledger (Err delete_faults.Memory) turn = (p, (dead_is ledger false turn.0, refl), agrees_same agrees turn.1)
  plain_delete apart t ledger (Ok n) turn = (
    abstract_after_delete p ledger,
    (dead_is ledger false turn.0, turn.1 ∙ held_is_mapped s p.map carries ledger apart, refl),
    agrees_same (agrees_of (state_after_delete s ledger) (abstract_after_delete p ledger)
        (carries_without_ledger carries (written_at (state_after_delete s ledger)) ledger (removed.written_gone s ledger) (removed.written_same s ledger))
        (ap (λ l. with_deletion l ledger) agrees.ledgers) (ap (λ m. without_ledger m ledger) agrees.active)
        (ap (option_map (λ m. without_ledger m ledger)) agrees.flush) agrees.fronts) turn.2,
  )

-- a fence, which asks nothing of the disk
module _ (s : State) (p : AbstractState) (agrees : StoreRefines s p) where
  known_as : (P : KnownLedgers → Type 0) → P s.ledgers → P p.ledgers
  known_as P is = subst P agrees.ledgers is

  unfenced_in : (ledger : ℕ) → is_dead s ledger ≡ false → is_fenced s ledger ≡ false → IsUnfenced p ledger
  unfenced_in ledger alive not =
      known_as (λ l. (set.contains l.dead ledger ≡ false) × (set.contains l.fenced ledger ≡ false)) (alive, not)

  pub plain_fence : (t : State) (ledger : ℕ) (r : Result Fence FenceFault) → FenceTransition s ledger r t
      → (q : AbstractState) × AbstractFence p ledger r q × StoreRefines t q
  plain_fence t ledger (Err fence_faults.Deleted) turn =
      (p, (known_as (λ l. set.contains l.dead ledger ≡ true) turn.0, refl), agrees_same agrees turn.1)
  plain_fence t ledger (Ok fences.AlreadyFenced) turn = (
    p,
    (known_as (λ l. (set.contains l.dead ledger ≡ false) × (set.contains l.fenced ledger ≡ true)) (turn.0, turn.1), refl),
    agrees_same agrees turn.2,
  )
  plain_fence t ledger (Err fence_faults.Memory) turn = (p, (unfenced_in ledger turn.0 turn.1, refl), agrees_same agrees turn.2)
  plain_fence t ledger (Ok fences.Fenced) turn =
      let q : AbstractState = record p { ledgers = with_fence p.ledgers ledger } in
      let after : StoreRefines (record s { ledgers = with_fence s.ledgers ledger }) q = record {
        meaning = agrees.meaning;
        ledgers = ap (λ l. with_fence l ledger) agrees.ledgers;
        active = agrees.active;
        flush = agrees.flush;
        fronts = agrees.fronts;
      } in
      (q, (unfenced_in ledger turn.0 turn.1, refl), agrees_same after turn.2)
