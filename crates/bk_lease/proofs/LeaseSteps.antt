-- The steps of a lease preserve the rule: a release, and joining it with a keeper, which does not
-- occur.
use Rattle.std.proofs.Common.{◌≡◌, ◌≢◌, ℕ, ◌+◌, ◌^◌, ◌<◌, List, length, set, get_or, length-set, sym, refl, ap, ◌∙◌, subst, ⊎_elim, arith}
use mathlib.Core.Option.{none, some, some-injective}
use lib.ListN.{get_elem?}
use Rattle.atomic_table.specs.Table.{step, keeps, Allows, Joins}
use Rattle.atomic_table.proofs.Lists.{at_set, set_else}
use Rattle.bk_lease.specs.declared.slot.Slot.TheVariants.{Open, Closed}
use Rattle.bk_lease.specs.declared.rule.Register.{Register}
use Rattle.bk_lease.specs.declared.rule.Role.{Role}
use Rattle.bk_lease.specs.declared.rule.Role.TheVariants.{Keeper, Held, Spent}
use Rattle.bk_lease.specs.Leases.{state_at, pending_on, WordIs, held_on, RuledBy, SlotRuled}
use Rattle.bk_lease.specs.Steps.{SeatView, release_step}
use Rattle.bk_lease.proofs.Slots.{inside_slots}
use Rattle.bk_lease.proofs.Views.{hold_of-here, hold_of-else, held_on-set}
use Rattle.bk_lease.proofs.Words.{one_less, counted_open}
use Rattle.bk_lease.proofs.Ruled.{Rule, the_keeper, each_after, SlotRuled-equal, SlotRuled-one_less}

-- The seat `id` holds the slot i.
module _ (register : Register) (words : List ℕ) (views : List Role) (kept : RuledBy register words views) (id i : ℕ)
    (at : get_elem? views id ≡ some (Held i)) where
  -- the views after it is spent
  abbrev after : List Role
  after = set views id Spent

  held_on-after : (slot : ℕ) → slot ≢ i → held_on slot views ≡ held_on slot after
  held_on-after slot other = let change = held_on-set slot views id (Held i) Spent at in let none = hold_of-else slot i other in omega arith

  held_on-after_here : held_on i views ≡ held_on i after + 1
  held_on-after_here = let change = held_on-set i views id (Held i) Spent at in let one = hold_of-here i in omega arith

  its_slot : SlotRuled register i (get_or words i 0) (held_on i after + 1)
  its_slot = SlotRuled-equal register i _ _ _ _ refl held_on-after_here (kept.each_slot i)

  -- its slot is open
  the_open : (log : ℕ) × (state_at register.slots i ≡ Open log)
  the_open = let held : ℕ = held_on i after in let pending : ℕ = pending_on i register.pending in
      let swapped : held + 1 + pending ≡ held + pending + 1 = omega arith in
      counted_open (state_at register.slots i) (held + pending) (get_or words i 0)
      (subst (λ (n : ℕ). WordIs (state_at register.slots i) n (get_or words i 0)) swapped its_slot.word_is)

  has_word : i < length words
  has_word = let inside : i < length register.slots = inside_slots register.slots i (Open the_open.0) the_open.1 (λ e. cc) in
      let sized = kept.sized in omega arith

  -- it is not the keeper's
  not_first : 0 ≢ id
  not_first first = let here : get_elem? views 0 ≡ some (Held i) = subst (λ (k : ℕ). get_elem? views k ≡ some (Held i)) (sym first) at in
      let same : Keeper register ≡ Held i = some-injective _ _ (sym kept.keeper ∙ here) in cc

  RuledBy-released : get_or words i 0 < 2 ^ 64 → RuledBy register (set words i (one_less (get_or words i 0))) after
  RuledBy-released small = record {
    keeper = set_else views id 0 Spent not_first ∙ kept.keeper;
    alone = λ seat other e. ⊎_elim (λ t. let same : Spent ≡ Keeper other = t.1 in absurd cc)
        (λ t. kept.alone seat other t.1) (at_set views id seat Spent (Keeper other) e);
    sized = kept.sized ∙ sym (length-set words i _);
    counted = length-set views id Spent ∙ kept.counted;
    bounded = kept.bounded;
    each_slot = each_after register words after i _ has_word (SlotRuled-one_less register i (get_or words i 0) _ its_slot small)
        (λ slot other. SlotRuled-equal register slot _ _ _ _ refl (held_on-after slot other) (kept.each_slot slot));
  }

  -- so no keeper has closed its slot
  none_closed : (log : ℕ) → state_at register.slots i ≡ Closed log → ⊥
  none_closed log closed = let same : Open the_open.0 ≡ Closed log = sym the_open.1 ∙ closed in absurd cc

pub releases : (slots id i : ℕ) (me : SeatView) → me.0 ≡ Held i → Allows Rule slots id me i one_less (release_step (step slots i 1 0 none) me)
releases slots id i me holds s ruled _ at small =
    (Spent, keeps, tt, (ruled.0, RuledBy-released ruled.0 s.words s.views ruled.1 id i (at ∙ ap some holds) small), refl)

-- joining a keeper that has closed a slot with a seat that holds it: any effect, since the case
-- does not exist
pub meets : (id other i log : ℕ) (v w both left : Role) (register : Register) → v ≡ Keeper register → state_at register.slots i ≡ Closed log → w ≡ Held i
    → Joins Rule id v other w both left
meets id other i log v w both left register knows closed holds s ruled at apart there =
    let kept = the_keeper s.words s.views id v register ruled at knows in
    let held : get_elem? s.views other ≡ some (Held i) = sym (set_else s.views id other both apart) ∙ there ∙ ap some holds in
    absurd (none_closed register s.words s.views kept.1 other i held log closed)
