-- From a keeper's invariant and its clauses to the requirements of its steps.
use Rattle.std.proofs.Common.{◌≡◌, ◌≢◌, ℕ, ◌+◌, ◌%◌, ◌^◌, ◌<◌, ◌≤◌, List, [], length, get_or, set, length-set, sym, refl, ap, ◌∙◌, subst, arith}
use Rattle.std.proofs.Common.{get_or-set_same, get_or-set_other}
use Rattle.std.specs.Arc.{arc_value}
use mathlib.Core.Logic.{dite}
use native.Mathlib.Decide.{ℕ_discrete}
use Rattle.atomic_table.specs.declared.shared.Seat.{Seat}
use Rattle.bk_lease.specs.declared.keeper.Keeper.TheInside.{Inside}
use Rattle.bk_lease.specs.contracts.keeper.Keeper.{the_view, the_invariant}
use Rattle.bk_lease.specs.declared.slot.Slot.{Slot}
use Rattle.bk_lease.specs.declared.slot.Slot.TheVariants.{Free, Open}
use Rattle.bk_lease.specs.declared.rule.Register.{Register}
use Rattle.bk_lease.specs.declared.rule.Role.{Role}
use Rattle.bk_lease.specs.declared.rule.Role.TheVariants.{Keeper}
use Rattle.bk_lease.specs.Leases.{state_at, log_of, log_at, MayOpen, IsOpen}
use Rattle.bk_lease.specs.Steps.{SeatView, with_slot, Meets, CountsSeats}
use Rattle.bk_lease.specs.Values.{SlotTable, with_state, with_given, register_at_rest, given_in, AllowsLeaseCount, AllowsCountIn, IsAtRest}
use Rattle.bk_lease.proofs.Slots.{inside_slots}

-- register of the keeper between two calls
abbrev pub its_register : Inside → Register
its_register k = register_at_rest k.slots.items k.most (given_in k.seat.me.0)

-- its specification value after its seat and its slots have changed
abbrev pub seen_at : Inside → Seat (Unit {0}) Role → List Slot → SlotTable
seen_at k seat slots = record { table = seat.table_id; slots = slots; most = k.most; given = given_in seat.me.0 }

-- a keeper with the fields `k` has this specification value
pub record SeenAs (k : Inside) (keeper : SlotTable) : Type 0 where
  pub is : the_view k ≡ keeper
  pub rest : the_invariant k

pub seen_as : (k : Inside) (keeper : SlotTable) → the_view k ≡ keeper → the_invariant k → SeenAs k keeper
seen_as k keeper is rest = record { is = is; rest = rest }

module _ {k : Inside} {keeper : SlotTable} (d : SeenAs k keeper) where
  pub knows : k.seat.me.0 ≡ Keeper (its_register k)
  knows = ap (λ (m : SeatView). m.0) d.rest.knows

  pub state_inside : (slot : ℕ) (state : Slot) → state_at keeper.slots slot ≡ state → state_at k.slots.items slot ≡ state
  state_inside slot state there = ap (λ (t : SlotTable). state_at t.slots slot) d.is ∙ there

  pub open_inside : (slot log : ℕ) → IsOpen keeper.slots slot → log ≡ log_at keeper.slots slot → state_at k.slots.items slot ≡ Open log
  open_inside slot log open_there its_log = state_inside slot (Open log) (open_there ∙ ap (λ (n : ℕ). Open n) (sym its_log))

  -- the id of an open slot's log is below 2 ^ 31
  pub open_fits : (slot log : ℕ) → state_at k.slots.items slot ≡ Open log → log < 2 ^ 31
  open_fits slot log is = subst (λ (s : Slot). log_of s < 2 ^ 31) is (d.rest.logs_fit slot)

  pub may_inside : (slot : ℕ) → MayOpen (state_at keeper.slots slot) → MayOpen (state_at k.slots.items slot)
  may_inside slot may = subst (λ (t : SlotTable). MayOpen (state_at t.slots slot)) (sym d.is) may

  pub slot_inside : (slot : ℕ) → slot < length keeper.slots → slot < length k.slots.items
  slot_inside slot inside = subst (λ (t : SlotTable). slot < length t.slots) (sym d.is) inside

  pub taken_inside : (slot : ℕ) (state : Slot) → state_at keeper.slots slot ≡ state → state ≢ Free → slot < length k.slots.items
  taken_inside slot state there taken = inside_slots k.slots.items slot state (state_inside slot state there) taken

  pub meets_seen : (slot met : ℕ) → Meets (its_register k) slot met → AllowsLeaseCount keeper slot met
  meets_seen slot met meets = subst (λ (t : SlotTable). AllowsLeaseCount t slot met) d.is meets

  -- a number that the rule allows of an open slot
  pub open_seen : (slot log count : ℕ) → state_at k.slots.items slot ≡ Open log → AllowsLeaseCount keeper slot count
      → AllowsCountIn keeper slot (state_at keeper.slots slot) count
  open_seen slot log count is allows = let there : Open log ≡ state_at keeper.slots slot = sym is ∙ ap (λ (t : SlotTable). state_at t.slots slot) d.is in
      subst (λ (s : Slot). AllowsCountIn keeper slot s count) there allows

  most_inside : k.most ≡ keeper.most
  most_inside = ap (λ (t : SlotTable). t.most) d.is

  -- A step found a word that counts seats, and the count was read from it.
  module _ (slot log met found count : ℕ) (counts : CountsSeats (its_register k) slot log found met) (read : count ≡ found % 2 ^ 32) where
    pub count_read : count ≡ met
    count_read = let word = counts.0 in let within = counts.1 in let bounded : k.most < 2 ^ 16 = counts.2.2.bounded in omega arith

    pub met_seen : AllowsLeaseCount keeper slot count
    met_seen = subst (λ (n : ℕ). AllowsLeaseCount keeper slot n) (sym count_read) (meets_seen slot met counts.2)

    pub leased_seen : 0 < met → (0 < count) × (count ≤ keeper.most)
    leased_seen some_met = let same = count_read in let within = counts.1 in let most = most_inside in (omega arith, omega arith)

    pub room_seen : count < k.most → (met : ℕ) × (met < keeper.most) × AllowsLeaseCount keeper slot met
    room_seen below = let most = most_inside in (count, omega arith, met_seen)

    pub full_seen : k.most ≤ count → AllowsLeaseCount keeper slot keeper.most
    full_seen full = let same = count_read in let within = counts.1 in let most = most_inside in let all : count ≡ keeper.most = omega arith in
        subst (λ (n : ℕ). AllowsLeaseCount keeper slot n) all met_seen

  -- a seat with these slots, and this number of seats created
  module _ (seat : Seat (Unit {0}) Role) (slots : List Slot) (given : ℕ) (me : seat.me ≡ (Keeper (register_at_rest slots k.most given), k.seat.me.1)) where
    pub given_after : given_in seat.me.0 ≡ given
    given_after = ap (λ (m : SeatView). given_in m.0) me

    at_rest_after : seat.table_id ≡ k.seat.table_id → seat.id ≡ k.seat.id → length slots ≡ length k.slots.items → ((slot : ℕ) → log_at slots slot < 2 ^ 31)
        → IsAtRest seat (arc_value k.table).shared.table_id slots k.most
    at_rest_after table id as_long fit = let keeper_now : ℕ → Role = λ n. Keeper (register_at_rest slots k.most n) in record {
      seated = table ∙ d.rest.seated;
      first = id ∙ d.rest.first;
      knows = subst (λ (n : ℕ). seat.me ≡ (keeper_now n, [])) (sym given_after) (me ∙ ap (λ (m : SeatView). (keeper_now given, m.1)) d.rest.knows);
      sized = as_long ∙ d.rest.sized;
      logs_fit = fit;
    }

    seen_after : (slots' : List Slot) (given' : ℕ) → seat.table_id ≡ k.seat.table_id → slots ≡ slots' → given ≡ given'
        → seen_at k seat slots ≡ record keeper { slots = slots'; given = given' }
    seen_after slots' given' table as_slots as_given = let its_table : seat.table_id ≡ keeper.table = table ∙ ap (λ (t : SlotTable). t.table) d.is in
        let its_given : given_in seat.me.0 ≡ given' = given_after ∙ as_given in
        λ j. record { table = its_table j; slots = as_slots j; most = most_inside j; given = its_given j }

  slots_seen : k.slots.items ≡ keeper.slots
  slots_seen = ap (λ (t : SlotTable). t.slots) d.is

  given_seen : given_in k.seat.me.0 ≡ keeper.given
  given_seen = ap (λ (t : SlotTable). t.given) d.is

  -- a seat with the same slots
  pub still_at_rest : (seat : Seat (Unit {0}) Role) (given : ℕ)
      → seat.table_id ≡ k.seat.table_id → seat.id ≡ k.seat.id → seat.me ≡ (Keeper (register_at_rest k.slots.items k.most given), k.seat.me.1)
      → IsAtRest seat (arc_value k.table).shared.table_id k.slots.items k.most
  still_at_rest seat given table id me = at_rest_after seat k.slots.items given me table id refl d.rest.logs_fit

  pub seen_still : (seat : Seat (Unit {0}) Role) → seat.table_id ≡ k.seat.table_id → seat.me ≡ (Keeper (its_register k), k.seat.me.1)
      → seen_at k seat k.slots.items ≡ keeper
  seen_still seat table me = seen_after seat k.slots.items (given_in k.seat.me.0) me keeper.slots keeper.given table slots_seen given_seen

  pub seen_given : (seat : Seat (Unit {0}) Role) → seat.table_id ≡ k.seat.table_id
      → seat.me ≡ (Keeper (register_at_rest k.slots.items k.most (given_in k.seat.me.0 + 1)), k.seat.me.1) → seen_at k seat k.slots.items ≡ with_given keeper
  seen_given seat table me = seen_after seat k.slots.items (given_in k.seat.me.0 + 1) me keeper.slots (keeper.given + 1) table slots_seen
      (ap (λ (n : ℕ). n + 1) given_seen)

  -- a seat with one slot in another state
  pub at_rest_with : (seat : Seat (Unit {0}) Role) (slot : ℕ) (state : Slot) → slot < length k.slots.items → log_of state < 2 ^ 31
      → seat.table_id ≡ k.seat.table_id → seat.id ≡ k.seat.id → seat.me ≡ (Keeper (with_slot (its_register k) slot state), k.seat.me.1)
      → IsAtRest seat (arc_value k.table).shared.table_id (set k.slots.items slot state) k.most
  at_rest_with seat slot state inside fits table id me = at_rest_after seat (set k.slots.items slot state) (given_in k.seat.me.0) me table id
      (length-set k.slots.items slot state)
      (λ other. dite (ℕ_discrete other slot)
      (λ same. let there = ap (λ (n : ℕ). get_or (set k.slots.items slot state) n Free) same ∙ get_or-set_same k.slots.items slot state Free inside in
      subst (λ (s : Slot). log_of s < 2 ^ 31) (sym there) fits)
      (λ else. subst (λ (s : Slot). log_of s < 2 ^ 31) (sym (get_or-set_other k.slots.items slot other state Free else)) (d.rest.logs_fit other)))

  pub seen_with : (seat : Seat (Unit {0}) Role) (slot : ℕ) (state : Slot) → seat.table_id ≡ k.seat.table_id
      → seat.me ≡ (Keeper (with_slot (its_register k) slot state), k.seat.me.1)
      → seen_at k seat (set k.slots.items slot state) ≡ with_state keeper slot state
  seen_with seat slot state table me = seen_after seat (set k.slots.items slot state) (given_in k.seat.me.0) me (set keeper.slots slot state) keeper.given table
      (ap (λ (slots : List Slot). set slots slot state) slots_seen) given_seen
