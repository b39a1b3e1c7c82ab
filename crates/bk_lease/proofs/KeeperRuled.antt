-- The rule after each step of the keeper.
use Rattle.std.proofs.Common.{◌≡◌, ◌≢◌, ℕ, ◌+◌, ◌^◌, ◌<◌, ◌≤◌, List, [], ◌∷◌, ◌++◌, length, get_or, set, length-set, length-append, sym, refl, ap}
use Rattle.std.proofs.Common.{◌∙◌, subst, ⊎_elim, arith, get_or-set_same, get_or-set_other, Option, Some, None}
use mathlib.Core.Logic.{dite}
use mathlib.Core.Option.{some}
use native.Mathlib.Decide.{ℕ_discrete}
use lib.ListN.{get_elem?}
use Rattle.atomic_table.proofs.Lists.{at_set, set_here, at_snoc, at_longer}
use Rattle.bk_lease.specs.declared.slot.Slot.{Slot}
use Rattle.bk_lease.specs.declared.slot.Slot.TheVariants.{Free, Open, Closed}
use Rattle.bk_lease.specs.declared.rule.Pin.{Pin}
use Rattle.bk_lease.specs.declared.rule.Register.{Register}
use Rattle.bk_lease.specs.declared.rule.Role.{Role}
use Rattle.bk_lease.specs.declared.rule.Role.TheVariants.{Keeper, Held}
use Rattle.bk_lease.specs.Leases.{state_at, hold_of, held_on, pending_on, open_word, closed_word, MayOpen, WordIs, IsWithinMet, SlotRuled, RuledBy}
use Rattle.bk_lease.specs.Steps.{with_slot, with_pending, with_granted, pin_on}
use Rattle.bk_lease.proofs.Slots.{inside_slots}
use Rattle.bk_lease.proofs.Views.{some_inside, hold_of-here, hold_of-else, pending_on-here, pending_on-else, held_on-set, held_on-snoc}
use Rattle.bk_lease.proofs.Words.{one_more, one_less, counted_none, WordIs-one_less}
use Rattle.bk_lease.proofs.Ruled.{each_after, SlotRuled-equal, SlotRuled-by}

-- the views, if the keeper has this register
abbrev pub keeping : Register → List Role → List Role
keeping register views = set views 0 (Keeper register)

-- The register changes from p to q.
module _ (p q : Register) (words : List ℕ) (views : List Role) (kept : RuledBy p words views) where
  first_view : get_elem? (keeping q views) 0 ≡ some (Keeper q)
  first_view = set_here views 0 (Keeper q) (some_inside views 0 (Keeper p) kept.keeper)

  still_alone : (seat : ℕ) (other : Register) → get_elem? (keeping q views) seat ≡ some (Keeper other) → seat ≡ 0
  still_alone seat other e = ⊎_elim (λ t. t.0) (λ t. kept.alone seat other t.1) (at_set views 0 seat (Keeper q) (Keeper other) e)

  held_on-keeping : (slot : ℕ) → held_on slot views ≡ held_on slot (keeping q views)
  held_on-keeping slot = let change = held_on-set slot views 0 (Keeper p) (Keeper q) kept.keeper in omega arith

  -- the rule after word i is written
  RuledBy-set : (i word : ℕ) → i < length p.slots → length q.slots ≡ length p.slots → q.most ≡ p.most → q.given ≡ p.given → SlotRuled q i word (held_on i views)
      → ((slot : ℕ) → slot ≢ i → SlotRuled q slot (get_or words slot 0) (held_on slot views)) → RuledBy q (set words i word) (keeping q views)
  RuledBy-set i word inside sized most given here others = record {
    keeper = first_view;
    alone = still_alone;
    sized = sized ∙ kept.sized ∙ sym (length-set words i word);
    counted = let same = length-set views 0 (Keeper q) in let counted = kept.counted in omega arith;
    bounded = let bounded = kept.bounded in omega arith;
    each_slot = let wide = kept.sized in each_after q words (keeping q views) i word (omega arith)
        (SlotRuled-equal q i _ _ _ _ refl (held_on-keeping i) here)
        (λ slot other. SlotRuled-equal q slot _ _ _ _ refl (held_on-keeping slot) (others slot other));
  }

-- One slot changes.
module _ (p : Register) (words : List ℕ) (views : List Role) (kept : RuledBy p words views) (i : ℕ) where
  abbrev count : ℕ
  count = held_on i views + pending_on i p.pending

  its_word : (state : Slot) → state_at p.slots i ≡ state → WordIs state count (get_or words i 0)
  its_word state is = subst (λ (s : Slot). WordIs s count (get_or words i 0)) is (kept.each_slot i).word_is

  -- the rule after the slot gets another state and word
  RuledBy-with_slot : (state : Slot) (word : ℕ) → i < length p.slots → WordIs state count word
      → let q : Register = with_slot p i state in RuledBy q (set words i word) (keeping q views)
  RuledBy-with_slot state word inside is = let q : Register = with_slot p i state in let ok = kept.each_slot i in
      RuledBy-set p q words views kept i word inside (length-set p.slots i state) refl refl
      record {
        word_is = subst (λ (s : Slot). WordIs s count word) (sym (get_or-set_same p.slots i state Free inside)) is;
        within = ok.within;
        met = ok.met;
      }
      (λ slot other. let same = get_or-set_other p.slots i slot state Free other in let old = kept.each_slot slot in
      SlotRuled-by p q slot _ _ (sym same) refl refl old.met old)

  pub RuledBy-opened : (log : ℕ) → i < length p.slots → log < 2 ^ 31 → MayOpen (state_at p.slots i)
      → let q : Register = with_slot p i (Open log) in RuledBy q (set words i (open_word log 0)) (keeping q views)
  RuledBy-opened log inside fits may = let none = counted_none _ _ _ may (its_word _ refl) in
      RuledBy-with_slot (Open log) (open_word log 0) inside (fits, omega arith)

  pub RuledBy-closed : (log : ℕ) → state_at p.slots i ≡ Open log → get_or words i 0 ≡ open_word log 0
      → let q : Register = with_slot p i (Closed log) in RuledBy q (set words i (closed_word log)) (keeping q views)
  RuledBy-closed log is found = let told = its_word (Open log) is in let word : get_or words i 0 ≡ open_word log count = told.1 in
      RuledBy-with_slot (Closed log) (closed_word log) (inside_slots p.slots i (Open log) is (λ e. cc)) (told.0, omega arith, refl)

  pub RuledBy-freed : (log : ℕ) → state_at p.slots i ≡ Closed log
      → let q : Register = with_slot p i Free in RuledBy q (set words i 0) (keeping q views)
  RuledBy-freed log is = RuledBy-with_slot Free 0 (inside_slots p.slots i (Closed log) is (λ e. cc)) ((its_word (Closed log) is).1, refl)

  -- the word of an open slot, if no pin is under way: its log, and the number of seats that hold it
  pub word-open : (log : ℕ) → state_at p.slots i ≡ Open log → p.pending ≡ None → get_or words i 0 ≡ open_word log (held_on i views)
  word-open log is idle = let word : get_or words i 0 ≡ open_word log count = (its_word (Open log) is).1 in
      let none : pending_on i p.pending ≡ 0 = ap (pending_on i) idle in omega arith

  pub RuledBy-pinned : (log : ℕ) → state_at p.slots i ≡ Open log → p.pending ≡ None
      → let q : Register = with_pending p (Some (pin_on i (held_on i views))) in RuledBy q (set words i (one_more (get_or words i 0))) (keeping q views)
  RuledBy-pinned log is idle = let held : ℕ = held_on i views in let q : Register = with_pending p (Some (pin_on i held)) in
      let word : ℕ = one_more (get_or words i 0) in
      let fits : log < 2 ^ 31 = (its_word (Open log) is).0 in let found = word-open log is idle in
      let within : held ≤ p.most = (kept.each_slot i).within in let bounded = kept.bounded in
      let one : pending_on i q.pending ≡ 1 = pending_on-here i held in
      RuledBy-set p q words views kept i word (inside_slots p.slots i (Open log) is (λ e. cc)) refl refl refl
      record {
        word_is = subst (λ (s : Slot). WordIs s (held + pending_on i q.pending) word) (sym is) (fits, omega arith);
        within = within;
        met = λ _. omega arith;
      }
      (λ slot other. let none = ap (pending_on slot) idle ∙ sym (pending_on-else slot i held other) in
      SlotRuled-by p q slot _ _ refl none refl (λ same. absurd (other (sym same))) (kept.each_slot slot))

-- A pin is under way on the slot i.
module _ (p : Register) (words : List ℕ) (views : List Role) (kept : RuledBy p words views) (i met : ℕ) (on : p.pending ≡ Some (pin_on i met)) where
  abbrev q : Register
  q = with_pending p None

  none_else : (slot : ℕ) → slot ≢ i → pending_on slot p.pending ≡ 0
  none_else slot other = ap (pending_on slot) on ∙ pending_on-else slot i met other

  -- the pin counts as one more seat
  counts : WordIs (state_at p.slots i) (held_on i views + 1) (get_or words i 0)
  counts = let one : pending_on i p.pending ≡ 1 = ap (pending_on i) on ∙ pending_on-here i met in
      subst (λ (n : ℕ). WordIs (state_at p.slots i) (held_on i views + n) (get_or words i 0)) one (kept.each_slot i).word_is

  pub RuledBy-undone : i < length p.slots → get_or words i 0 < 2 ^ 64 → RuledBy q (set words i (one_less (get_or words i 0))) (keeping q views)
  RuledBy-undone inside small = let held : ℕ = held_on i views in let as_it_is : held ≡ held + 0 = omega arith in let word : ℕ = one_less (get_or words i 0) in
      RuledBy-set p q words views kept i word inside refl refl refl
      record {
        word_is = subst (λ (n : ℕ). WordIs (state_at p.slots i) n word) as_it_is (WordIs-one_less (state_at p.slots i) held (get_or words i 0) counts small);
        within = (kept.each_slot i).within;
        met = tt;
      }
      (λ slot other. SlotRuled-by p q slot _ _ refl (none_else slot other) refl tt (kept.each_slot slot))

  -- the pin becomes a seat, the last one
  abbrev g : Register
  g = with_granted p

  abbrev lent : List Role
  lent = keeping g views ++ Held i ∷ []

  held_on-lent : (slot : ℕ) → held_on slot lent ≡ held_on slot views + hold_of slot (Held i)
  held_on-lent slot = let more = held_on-snoc slot (keeping g views) (Held i) in let same = held_on-keeping p g words views kept slot in omega arith

  granted_here : met < p.most → SlotRuled g i (get_or words i 0) (held_on i lent)
  granted_here room = let held : ℕ = held_on i views in let count = held_on-lent i in let one = hold_of-here i in
      let as_it_is : held + 1 ≡ held_on i lent + 0 = omega arith in
      let all : held ≤ met = subst (λ (o : Option Pin). IsWithinMet i o held) on (kept.each_slot i).met refl in
      record {
        word_is = subst (λ (n : ℕ). WordIs (state_at p.slots i) n (get_or words i 0)) as_it_is counts;
        within = omega arith;
        met = tt;
      }

  granted_else : (slot : ℕ) → slot ≢ i → SlotRuled g slot (get_or words slot 0) (held_on slot lent)
  granted_else slot other = let count = held_on-lent slot in let none = hold_of-else slot i other in
      SlotRuled-equal g slot _ _ _ _ refl (omega arith) (SlotRuled-by p g slot _ _ refl (none_else slot other) refl tt (kept.each_slot slot))

  pub RuledBy-granted : met < p.most → RuledBy g words lent
  RuledBy-granted room = record {
    keeper = at_longer (keeping g views) (Held i ∷ []) 0 (Keeper g) (first_view p g words views kept);
    alone = λ seat other e. ⊎_elim (still_alone p g words views kept seat other)
        (λ last. let same : Held i ≡ Keeper other = last in absurd cc) (at_snoc (keeping g views) (Held i) (Keeper other) seat e);
    sized = kept.sized;
    counted = let more = length-append (keeping g views) (Held i ∷ []) in let same = length-set views 0 (Keeper g) in let counted = kept.counted in omega arith;
    bounded = kept.bounded;
    each_slot = λ slot. dite (ℕ_discrete slot i)
        (λ same. subst (λ (k : ℕ). SlotRuled g k (get_or words k 0) (held_on k lent)) (sym same) (granted_here room)) (granted_else slot);
  }
