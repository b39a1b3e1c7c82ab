-- Each step of the keeper preserves the rule and has its stated effect.
use Rattle.std.proofs.Common.{◌≡◌, ◌≢◌, ℕ, ◌^◌, ◌<◌, ◌≤◌, eqb, List, [], ◌∷◌, ◌++◌, length, get_or, set, replicate, sym, refl, ap, ◌∙◌, subst, arith}
use Rattle.std.proofs.Common.{lt_of_not-le, eq-eqb, ne_eqb, Some, None}
use Rattle.std.proofs.lemmas.List.{set-get_or, length-replicate, get_or-replicate}
use Rattle.std.proofs.Math.ListN.{get_or-eq_default}
use mathlib.Core.Logic.{dite}
use mathlib.Core.Option.{none, some}
use native.Mathlib.Decide.{dec_le, ℕ_discrete}
use lib.ListN.{get_elem?}
use prog.Atomic.{either}
use Rattle.atomic_table.specs.Table.{State, step, keeps, opening, Allows, Splits}
use Rattle.atomic_table.proofs.Lists.{set_again}
use Rattle.bk_lease.specs.declared.slot.Slot.{Slot}
use Rattle.bk_lease.specs.declared.slot.Slot.TheVariants.{Free, Open, Closed}
use Rattle.bk_lease.specs.declared.rule.Register.{Register}
use Rattle.bk_lease.specs.declared.rule.Role.{Role}
use Rattle.bk_lease.specs.declared.rule.Role.TheVariants.{Keeper, Held}
use Rattle.bk_lease.specs.declared.rule.Room.{Room}
use Rattle.bk_lease.specs.Leases.{state_at, held_on, open_word, closed_word, MayOpen, WordIs, RuledBy, IsRuled, first_register, first_role}
use Rattle.bk_lease.specs.Steps.{SeatView, with_slot, with_pending, with_granted, pin_on, Advances, Meets, CountsSeats, open_step, pin_step, undo_step, role_by}
use Rattle.bk_lease.specs.Steps.{split_keeper_step, split_seat_step, close_step, count_step, free_step}
use Rattle.bk_lease.proofs.Views.{some_inside}
use Rattle.bk_lease.proofs.Words.{one_more, one_less}
use Rattle.bk_lease.proofs.Ruled.{Rule, the_keeper}
use Rattle.bk_lease.proofs.KeeperRuled.{keeping, RuledBy-opened, RuledBy-closed, RuledBy-freed, word-open, RuledBy-pinned, RuledBy-undone, RuledBy-granted}

-- A seat whose view is the register p, in a state that the rule allows.
record AtKeeper (id : ℕ) (me : SeatView) (p : Register) (s : State (Unit {0}) Role) : Type 0 where
  knows : me.0 ≡ Keeper p
  first : id ≡ 0
  at : get_elem? s.views id ≡ some me.0
  kept : RuledBy p s.words s.views

at_keeper : (id : ℕ) (me : SeatView) (p : Register) (s : State (Unit {0}) Role) → me.0 ≡ Keeper p → Rule s → get_elem? s.views id ≡ some me.0
    → AtKeeper id me p s
at_keeper id me p s knows ruled at = let kept = the_keeper s.words s.views id me.0 p ruled at knows in
    record { knows = knows; first = kept.0; at = at; kept = kept.1 }

module _ {id : ℕ} {me : SeatView} {p : Register} {s : State (Unit {0}) Role} (a : AtKeeper id me p s) (i : ℕ) where
  -- the rule after a step of the keeper
  ruled_after : (q : Register) (word word' : ℕ) → word ≡ word' → RuledBy q (set s.words i word') (keeping q s.views)
      → IsRuled (set s.words i word) (set s.views id (Keeper q))
  ruled_after q word word' same rule = let P : ℕ × ℕ → Type 0 = λ z. RuledBy q (set s.words i z.0) (set s.views z.1 (Keeper q)) in
      (q, subst P (λ j. (sym same j, sym a.first j)) rule)

  -- the rule if nothing changes
  ruled_still : IsRuled (set s.words i (get_or s.words i 0)) (set s.views id me.0)
  ruled_still = let words = sym (set-get_or s.words i 0) in let views = sym (set_again s.views id me.0 a.at) in
      (p, subst (λ (z : List ℕ × List Role). RuledBy p z.0 z.1) (λ j. (words j, views j)) a.kept)

  -- the keeper has one register
  same_register : (q : Register) → me.0 ≡ Keeper q → p ≡ q
  same_register q knows_too = let same : Keeper p ≡ Keeper q = sym a.knows ∙ knows_too in cc

  goes_on : (next : Register → Register) → Advances me (Keeper (next p), me.1) next
  goes_on next q knows_too = λ j. (Keeper (next (same_register q knows_too j)), me.1)

  on_open : (tells : Register → ℕ → Type 0) (log : ℕ) → state_at p.slots i ≡ Open log → tells p log
      → (q : Register) (other : ℕ) → me.0 ≡ Keeper q → state_at q.slots i ≡ Open other → tells q other
  on_open tells log is told q other knows_too is_too = let same = same_register q knows_too in
      let one_state : Open log ≡ Open other = sym is ∙ ap (λ (r : Register). state_at r.slots i) same ∙ is_too in let one_log : log ≡ other = cc in
      subst (λ (z : Register × ℕ). tells z.0 z.1) (λ j. (same j, one_log j)) told

  -- the word of an open slot counts the seats that hold it, if no pin is under way
  counts_held : (log : ℕ) → state_at p.slots i ≡ Open log → p.pending ≡ None → CountsSeats p i log (get_or s.words i 0) (held_on i s.views)
  counts_held log is idle = (word-open p s.words s.views a.kept i log is idle, (a.kept.each_slot i).within, (s.words, s.views, a.kept, refl))

  meets_none : (log : ℕ) → state_at p.slots i ≡ Open log → p.pending ≡ None → get_or s.words i 0 ≡ open_word log 0 → Meets p i 0
  meets_none log is idle unleased = let found = word-open p s.words s.views a.kept i log is idle in let none_held : held_on i s.views ≡ 0 = omega arith in
      (s.words, s.views, a.kept, none_held)

-- The seat `id` has the register p.
module _ (slots id i : ℕ) (me : SeatView) (p : Register) (knows : me.0 ≡ Keeper p) where
  pub opens : (log new : ℕ) → i < length p.slots → log < 2 ^ 31 → MayOpen (state_at p.slots i) → new ≡ open_word log 0
      → Allows Rule slots id me i (λ _. new) (λ _. open_step (step slots i new 0 none) me new)
  opens log new inside fits may stored s ruled _ at _ = let a = at_keeper id me p s knows ruled at in let q : Register = with_slot p i (Open log) in (
    Keeper q,
    keeps,
    tt,
    ruled_after a i q new _ stored (RuledBy-opened p s.words s.views a.kept i log inside fits may),
    λ other told. let one_log : log ≡ other = omega arith in
        subst (λ (l : ℕ). Advances me (Keeper q, me.1) (λ register. with_slot register i (Open l))) one_log
        (goes_on a i (λ register. with_slot register i (Open log))),
  )

  pub pins : (log : ℕ) → state_at p.slots i ≡ Open log → p.pending ≡ None → Allows Rule slots id me i one_more (pin_step (step slots i 1 0 none) me)
  pins log is idle s ruled _ at _ = let a = at_keeper id me p s knows ruled at in let held : ℕ = held_on i s.views in
      let q : ℕ → Register → Register = λ met r. with_pending r (Some (pin_on i met)) in
      let tells : Register → ℕ → Type 0 = λ r l.
      (met : ℕ) × CountsSeats r i l (get_or s.words i 0) met × ((Keeper (q held p), me.1) ≡ (Keeper (q met r), me.1)) in (
        Keeper (q held p),
        keeps,
        tt,
        ruled_after a i (q held p) _ _ refl (RuledBy-pinned p s.words s.views a.kept i log is idle),
        on_open a i tells log is (held, counts_held a i log is idle, refl),
      )

  pub undoes : (met : ℕ) → i < length p.slots → p.pending ≡ Some (pin_on i met) → Allows Rule slots id me i one_less (undo_step (step slots i 1 0 none) me)
  undoes met inside on s ruled _ at small = let a = at_keeper id me p s knows ruled at in (
    Keeper (with_pending p None),
    keeps,
    tt,
    ruled_after a i (with_pending p None) _ _ refl (RuledBy-undone p s.words s.views a.kept i met on inside small),
    goes_on a i (λ register. with_pending register None),
  )

  pub closes : (log old new : ℕ) → state_at p.slots i ≡ Open log → p.pending ≡ None → old ≡ open_word log 0 → new ≡ closed_word log
      → Allows Rule slots id me i (λ x. either (eqb x old) new x) (close_step (step slots i old new none) me)
  closes log old new is idle asked stored s ruled _ at _ = let a = at_keeper id me p s knows ruled at in let x : ℕ = get_or s.words i 0 in
      let tells : SeatView → Register → ℕ → Type 0 = λ me' r l. (x ≡ old → (me' ≡ (Keeper (with_slot r i (Closed l)), me.1)) × Meets r i 0)
      × (x ≢ old → (me' ≡ me) × ((met : ℕ) × (0 < met) × CountsSeats r i l x met)) in
      dite (ℕ_discrete x old)
      (λ hit. let q : Register = with_slot p i (Closed log) in (
        Keeper q,
        keeps,
        tt,
        subst (λ b. IsRuled (set s.words i (either b new x)) (set s.views id (Keeper q))) (sym (eq-eqb x old hit))
            (ruled_after a i q new _ stored (RuledBy-closed p s.words s.views a.kept i log is (hit ∙ asked))),
        on_open a i (tells (Keeper q, me.1)) log is ((λ _. (refl, meets_none a i log is idle (hit ∙ asked))), λ miss. absurd (miss hit)),
      ))
      (λ miss. let counts = counts_held a i log is idle in let found = counts.0 in (
        me.0,
        keeps,
        tt,
        subst (λ b. IsRuled (set s.words i (either b new x)) (set s.views id me.0)) (sym (ne_eqb x old miss)) (ruled_still a i),
        on_open a i (tells me) log is ((λ hit. absurd (miss hit)), λ _. (refl, (held_on i s.views, omega arith, counts))),
      ))

  pub counts : (log : ℕ) → state_at p.slots i ≡ Open log → p.pending ≡ None → Allows Rule slots id me i (λ n. n) (count_step (step slots i 0 0 none) me)
  counts log is idle s ruled _ at _ = let a = at_keeper id me p s knows ruled at in
      let tells : Register → ℕ → Type 0 = λ r l. (met : ℕ) × CountsSeats r i l (get_or s.words i 0) met in
      (me.0, keeps, tt, ruled_still a i, (refl, on_open a i tells log is (held_on i s.views, counts_held a i log is idle)))

  pub frees : (log : ℕ) → state_at p.slots i ≡ Closed log → Allows Rule slots id me i (λ _. 0) (λ _. free_step (step slots i 0 0 none) me 0)
  frees log is s ruled _ at _ = let a = at_keeper id me p s knows ruled at in (
    Keeper (with_slot p i Free),
    keeps,
    tt,
    ruled_after a i (with_slot p i Free) _ _ refl (RuledBy-freed p s.words s.views a.kept i log is),
    goes_on a i (λ register. with_slot register i Free),
  )

-- the pin under way becomes a seat
pub grants : (id i met : ℕ) (v : Role) (p : Register) → v ≡ Keeper p → p.pending ≡ Some (pin_on i met) → met < p.most → Splits Rule id v (split_keeper_step v) (split_seat_step v)
grants id i met v p knows on room s ruled at = let kept = the_keeper s.words s.views id v p ruled at knows in let q : Register = with_granted p in
    let lent : split_seat_step v ≡ Held i = ap split_seat_step knows ∙ ap role_by on in
    let same : (0, Keeper q, Held i) ≡ (id, split_keeper_step v, split_seat_step v) = λ j. (sym kept.0 j, sym (ap split_keeper_step knows) j, sym lent j) in
    (q, subst (λ (z : ℕ × Role × Role). RuledBy q s.words (set s.views z.0 z.1 ++ z.2 ∷ [])) same (RuledBy-granted p s.words s.views kept.1 i met on room))

-- every element of a list of one value is that value, also past its end
all_alike : {A : Type 0} (n i : ℕ) (a : A) → get_or (replicate n a) i a ≡ a
all_alike n i a = dite (dec_le n i)
    (λ past. get_or-eq_default (replicate n a) a (subst (λ (k : ℕ). k ≤ i) (sym (length-replicate n a)) past))
    (λ within. get_or-replicate n i a a (lt_of_not-le within))

-- the rule holds at the start, when all words are 0
pub starts : (slots most : ℕ) → most < 2 ^ 16 → Rule (opening (replicate slots 0) [] (first_role record { slots = slots; most = most }))
starts slots most fits = let room : Room = record { slots = slots; most = most } in (
  first_register room,
  record {
    keeper = refl;
    alone = λ seat other e. let inside = some_inside (first_role room ∷ []) seat (Keeper other) e in omega arith;
    sized = length-replicate slots Free ∙ sym (length-replicate slots 0);
    counted = omega arith;
    bounded = fits;
    each_slot = λ slot. record {
      word_is = subst (λ (z : Slot × ℕ). WordIs z.0 0 z.1) (λ j. (sym (all_alike slots slot Free) j, sym (all_alike slots slot 0) j)) (refl, refl);
      within = omega arith;
      met = tt;
    };
  },
)
