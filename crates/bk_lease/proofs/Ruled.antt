-- Consequences of the rule, and the rule of one slot after a step.
use Rattle.std.proofs.Common.{◌≡◌, ◌≢◌, ℕ, ◌+◌, ◌^◌, ◌<◌, ◌≤◌, List, length, get_or, set, sym, refl, ap, ◌∙◌, subst, arith, get_or-set_same}
use Rattle.std.proofs.Common.{get_or-set_other, Option, Some, None}
use mathlib.Core.Logic.{dite}
use mathlib.Core.Option.{some, some-injective}
use native.Mathlib.Decide.{ℕ_discrete}
use lib.ListN.{get_elem?}
use Rattle.atomic_table.specs.Table.{State}
use Rattle.bk_lease.specs.declared.slot.Slot.{Slot}
use Rattle.bk_lease.specs.declared.rule.Pin.{Pin}
use Rattle.bk_lease.specs.declared.rule.Register.{Register}
use Rattle.bk_lease.specs.declared.rule.Role.{Role}
use Rattle.bk_lease.specs.declared.rule.Role.TheVariants.{Keeper}
use Rattle.bk_lease.specs.Leases.{state_at, held_on, pending_on, WordIs, IsWithinMet, SlotRuled, RuledBy, IsRuled}
use Rattle.bk_lease.proofs.Words.{one_less, WordIs-one_less}

-- the lease rule, as a fact about a table
abbrev pub Rule : State (Unit {0}) Role → Type 0
Rule s = IsRuled s.words s.views

-- a seat with a register is the first one, and the rule uses its register
pub the_keeper : (words : List ℕ) (views : List Role) (id : ℕ) (v : Role) (register : Register)
    → IsRuled words views → get_elem? views id ≡ some v → v ≡ Keeper register → (id ≡ 0) × RuledBy register words views
the_keeper words views id v register ruled at knows = let kept = ruled.1 in
    let here : get_elem? views id ≡ some (Keeper register) = at ∙ ap some knows in
    let first : id ≡ 0 = kept.alone id register here in
    let there : get_elem? views 0 ≡ some (Keeper register) = subst (λ (k : ℕ). get_elem? views k ≡ some (Keeper register)) first here in
    let same : Keeper ruled.0 ≡ Keeper register = some-injective _ _ (sym kept.keeper ∙ there) in
    let equal : ruled.0 ≡ register = cc in
    (first, subst (λ (r : Register). RuledBy r words views) equal kept)

-- a smaller number of seats is within the bound of the pin
pub IsWithinMet-le : (slot : ℕ) (pending : Option Pin) (few held : ℕ) → few ≤ held → IsWithinMet slot pending held → IsWithinMet slot pending few
IsWithinMet-le slot None few held le met = tt
IsWithinMet-le slot (Some pin) few held le met = λ on. let all = met on in omega arith

-- the rule of one slot, with equal word and number
pub SlotRuled-equal : (register : Register) (slot word word' held held' : ℕ) → word ≡ word' → held ≡ held'
    → SlotRuled register slot word held → SlotRuled register slot word' held'
SlotRuled-equal register slot word word' held held' e f ok = subst (λ (z : ℕ × ℕ). SlotRuled register slot z.0 z.1) (λ i. (e i, f i)) ok

-- The rule of one slot, for another register with the same state of the slot, and without a pin on
-- it that found fewer seats.
pub SlotRuled-by : (p q : Register) (slot word held : ℕ) → state_at p.slots slot ≡ state_at q.slots slot → pending_on slot p.pending ≡ pending_on slot q.pending
    → p.most ≡ q.most → IsWithinMet slot q.pending held → SlotRuled p slot word held → SlotRuled q slot word held
SlotRuled-by p q slot word held state pending most met ok = record {
  word_is = subst (λ (z : Slot × ℕ). WordIs z.0 (held + z.1) word) (λ i. (state i, pending i)) ok.word_is;
  within = let old : held ≤ p.most = ok.within in omega arith;
  met = met;
}

-- the rule of one slot after one of its leases is released
pub SlotRuled-one_less : (register : Register) (slot word held : ℕ) → SlotRuled register slot word (held + 1) → word < 2 ^ 64
    → SlotRuled register slot (one_less word) held
SlotRuled-one_less register slot word held ok small = let state : Slot = state_at register.slots slot in let pending : ℕ = pending_on slot register.pending in
    let swapped : held + 1 + pending ≡ held + pending + 1 = omega arith in
    record {
      word_is = WordIs-one_less state (held + pending) word (subst (λ (n : ℕ). WordIs state n word) swapped ok.word_is) small;
      within = let all : held + 1 ≤ register.most = ok.within in omega arith;
      met = IsWithinMet-le slot register.pending held (held + 1) (omega arith) ok.met;
    }

-- After one word is written, the rule holds of each slot: of this one by its new word, of the
-- others as before.
pub each_after : (register : Register) (words : List ℕ) (views : List Role) (i word : ℕ) → i < length words → SlotRuled register i word (held_on i views)
    → ((slot : ℕ) → slot ≢ i → SlotRuled register slot (get_or words slot 0) (held_on slot views))
    → (slot : ℕ) → SlotRuled register slot (get_or (set words i word) slot 0) (held_on slot views)
each_after register words views i word inside here others slot = dite (ℕ_discrete slot i)
    (λ same. subst (λ (k : ℕ). SlotRuled register k (get_or (set words i word) k 0) (held_on k views)) (sym same)
    (SlotRuled-equal register i word _ _ _ (sym (get_or-set_same words i word 0 inside)) refl here))
    (λ other. SlotRuled-equal register slot _ _ _ _ (sym (get_or-set_other words i slot word 0 other)) refl (others slot other))
