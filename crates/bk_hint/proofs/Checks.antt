-- Heads and steps are checked step by step.
use Rattle.std.proofs.Common.{◌≡◌, ℕ, zero, suc, ◌+◌, ◌-◌, ◌*◌, ◌^◌, ◌<◌, ◌≤◌, List, [], ◌∷◌, ◌++◌, length, refl, sym, ap, subst, ◌∙◌, arith}
use Rattle.std.proofs.Math.Nat.{mul-le-mul}
use Rattle.std.proofs.lemmas.List.{nil_from_length}
use Rattle.bk_hint.specs.declared.listed.Listed.{Listed}
use Rattle.bk_hint.specs.declared.head.Head.{Head}
use Rattle.bk_hint.specs.Entries.{IsLegal, past, AreFrom, last_of, origin, next_of, repeats, first_of, entries_of, begins, IsSound, IsKept}
use Rattle.bk_hint.specs.Walking.{left_of, CanGoOn}
use Rattle.bk_hint.specs.Checking.{repeated_by, IsRepeatable, Passes}
use Rattle.bk_hint.proofs.Steps.{last_of-append, AreFrom-append, part-again, heads_behind-more, begins-more}
use Rattle.bk_hint.proofs.Counts.{AreFrom-left, AreFrom-right}
use Rattle.bk_hint.proofs.Walks.{begin_left, next_left, no_head}

pub product_below : (a b : ℕ) → a < 2 ^ 32 → b < 2 ^ 32 → a * b < 2 ^ 64
product_below a b low_a low_b =
    let p : a ≤ 4294967295 = omega arith in
    let q : b ≤ 4294967295 = omega arith in
    omega (arith, mul-le-mul p q)

-- ---- repetitions

pub repeats_last : (count : ℕ) (last : Listed) → last_of last (repeats count last) ≡ repeated_by count last
repeats_last zero last =
    let entry : last.key.entry ≡ last.key.entry + 0 = omega arith in
    let at : last.at ≡ last.at + 0 * last.size = omega arith in
    λ i. record { key = record { ledger = last.key.ledger; entry = entry i }; at = at i; size = last.size }
repeats_last (suc count) last =
    let entry : last.key.entry + 1 + count ≡ last.key.entry + suc count = omega arith in
    let at : last.at + last.size + count * last.size ≡ last.at + suc count * last.size = omega arith in
    repeats_last count (next_of last last.size)
    ∙ (λ i. record { key = record { ledger = last.key.ledger; entry = entry i }; at = at i; size = last.size })

pub repeats_from : (count : ℕ) (last : Listed) → IsRepeatable count last → AreFrom (past last) (repeats count last)
repeats_from zero last can = tt
repeats_from (suc count) last can =
    let legal : IsLegal (next_of last last.size) = record {
      ledger = can.ledger;
      id = omega (arith, can.id);
      least = can.least;
      most = can.most;
      ends = omega (arith, can.ends);
    } in
    let rest : IsRepeatable count (next_of last last.size) = record {
      ledger = can.ledger;
      id = omega (arith, can.id);
      least = can.least;
      most = can.most;
      ends = omega (arith, can.ends);
    } in
    (legal, (omega arith, repeats_from count (next_of last last.size) rest))

last_legal : (before : Listed) (xs : List Listed) → IsLegal before → AreFrom (past before) xs → IsLegal (last_of before xs)
last_legal before [] legal each = legal
last_legal before (x ∷ xs) legal each = last_legal x xs each.0 each.1.1

pub repeats_need : (count : ℕ) (last : Listed) → AreFrom (past last) (repeats (suc count) last) → IsRepeatable (suc count) last
repeats_need count last each =
    let legal : IsLegal (repeated_by (suc count) last) =
    subst IsLegal (repeats_last (suc count) last) (last_legal (next_of last last.size) (repeats count (next_of last last.size)) each.0 each.1.1) in
    record {
      ledger = legal.ledger;
      id = legal.id;
      least = legal.least;
      most = legal.most;
      ends = omega (arith, legal.ends);
    }

-- ---- one step

left_is : (last : Listed) (heads : List Head) (steps : List ℕ) → left_of last 0 heads steps ≡ entries_of last heads steps
unfolding left_of
left_is last heads steps = refl

passes : (last : Listed) (heads : List Head) (step : ℕ) (steps : List ℕ) (next : Listed) (others : List Head) (part : List Listed)
    → left_of last 0 heads (step ∷ steps) ≡ part ++ left_of next 0 others steps → last_of last part ≡ next → AreFrom (past last) part
    → begins (step ∷ steps) + length others ≡ begins steps + length heads → past last < 2 ^ 32 + 4 → past next < 2 ^ 32 + 4
    → Passes last heads step steps next others
passes last heads step steps next others part is last_is each fit room next_room =
    let rest : List Listed = left_of next 0 others steps in
    let same : past (last_of last part) ≡ past next = ap past last_is in
    record {
      back = λ can. record {
        heads_fit = omega (arith, can.heads_fit, fit);
        in_order = subst (AreFrom (past last)) (sym is) (AreFrom-append last part rest each (subst (λ (n : ℕ). AreFrom n rest) (sym same) can.in_order));
        room = room;
      };
      forth = λ can. record {
        heads_fit = omega (arith, can.heads_fit, fit);
        in_order = subst (λ (n : ℕ). AreFrom n rest) same (AreFrom-right last part rest (subst (AreFrom (past last)) is can.in_order));
        room = next_room;
      };
      last_is = ap (last_of last) (sym (left_is last heads (step ∷ steps)) ∙ is) ∙ last_of-append last part rest ∙ ap (λ (l : Listed). last_of l rest) last_is
          ∙ ap (last_of next) (left_is next others steps);
      room = next_room;
    }

begin_count : (steps : List ℕ) (head : Head) (others : List Head) → begins (0 ∷ steps) + length others ≡ begins steps + length (head ∷ others)
unfolding begins
begin_count steps head others = omega arith

pub begin_passes : (last : Listed) (heads others : List Head) (step : ℕ) (steps : List ℕ) (head : Head) (next : Listed) → step ≡ 0 → heads ≡ head ∷ others
    → IsLegal (first_of head) → past last ≤ head.at → next ≡ first_of head → past last < 2 ^ 32 + 4 → Passes last heads step steps next others
begin_passes last heads others step steps head next begin heads_are legal behind next_is room =
    let one : Passes last (head ∷ others) 0 steps (first_of head) others =
    passes last (head ∷ others) 0 steps (first_of head) others (first_of head ∷ []) (begin_left last head others steps) refl (legal, (behind, tt))
    (begin_count steps head others) room legal.ends in
    subst (λ (n : Listed). Passes last heads step steps n others) (sym next_is)
    (subst (λ (hs : List Head). Passes last hs step steps (first_of head) others) (sym heads_are)
    (subst (λ (w : ℕ). Passes last (head ∷ others) w steps (first_of head) others) (sym begin) one))

pub next_passes : (last : Listed) (heads : List Head) (step : ℕ) (steps : List ℕ) (next : Listed) → 0 < step → step < 2 ^ 31 → IsLegal (next_of last (step + 4))
    → next ≡ next_of last (step + 4) → past last < 2 ^ 32 + 4 → Passes last heads step steps next heads
next_passes last heads step steps next some low legal next_is room =
    let behind : past last ≤ (next_of last (step + 4)).at = omega arith in
    let fit : begins (step ∷ steps) + length heads ≡ begins steps + length heads = ap (λ (n : ℕ). n + length heads) (begins-more step steps some) in
    subst (λ (n : Listed). Passes last heads step steps n heads) (sym next_is)
    (passes last heads step steps (next_of last (step + 4)) heads (next_of last (step + 4) ∷ []) (next_left last step heads steps some low) refl
    (legal, (behind, tt)) fit room legal.ends)

again_all : (last : Listed) (step : ℕ) (heads : List Head) (steps : List ℕ) → 2 ^ 31 ≤ step
    → left_of last 0 heads (step ∷ steps)
    ≡ repeats (step - 2 ^ 31 + 1) last ++ left_of (last_of last (repeats (step - 2 ^ 31 + 1) last)) 0 heads steps
unfolding left_of entries_of
again_all last step heads steps high =
    let some : 0 < step = omega arith in
    rw (part-again last step heads high, heads_behind-more step heads some) refl

pub again_passes : (last : Listed) (heads : List Head) (step : ℕ) (steps : List ℕ) (next : Listed) → 2 ^ 31 ≤ step
    → IsRepeatable (step - 2 ^ 31 + 1) last → next ≡ repeated_by (step - 2 ^ 31 + 1) last → past last < 2 ^ 32 + 4 → Passes last heads step steps next heads
again_passes last heads step steps next high can next_is room =
    let some : 0 < step = omega arith in
    let count : ℕ = step - 2 ^ 31 + 1 in
    let end : last_of last (repeats count last) ≡ next = repeats_last count last ∙ sym next_is in
    let fit : begins (step ∷ steps) + length heads ≡ begins steps + length heads = ap (λ (n : ℕ). n + length heads) (begins-more step steps some) in
    let next_room : past next < 2 ^ 32 + 4 = subst (λ (n : Listed). past n < 2 ^ 32 + 4) (sym next_is) (omega (arith, can.ends)) in
    passes last heads step steps next heads (repeats count last)
    (again_all last step heads steps high ∙ ap (λ (l : Listed). repeats count last ++ left_of l 0 heads steps) end) end
    (repeats_from count last can) fit room next_room

-- ---- refusals

pub refuses_none : (last : Listed) (heads : List Head) (step : ℕ) (steps : List ℕ) → step ≡ 0 → length heads ≡ 0 → CanGoOn last 0 heads (step ∷ steps) → ⊥
refuses_none last heads step steps begin none can = no_head last heads (step ∷ steps) steps step can refl begin none

pub refuses_head : (last : Listed) (heads others : List Head) (step : ℕ) (steps : List ℕ) (head : Head) → step ≡ 0 → heads ≡ head ∷ others
    → ¬ (IsLegal (first_of head) × (past last ≤ head.at)) → CanGoOn last 0 heads (step ∷ steps) → ⊥
refuses_head last heads others step steps head begin heads_are not_legal can =
    let is : left_of last 0 heads (step ∷ steps) ≡ first_of head ∷ left_of (first_of head) 0 others steps =
    ap (λ (hs : List Head). left_of last 0 hs (step ∷ steps)) heads_are ∙ ap (λ (w : ℕ). left_of last 0 (head ∷ others) (w ∷ steps)) begin
    ∙ begin_left last head others steps in
    let split : AreFrom (past last) (first_of head ∷ left_of (first_of head) 0 others steps) = subst (AreFrom (past last)) is can.in_order in
    not_legal (split.0, split.1.0)

pub refuses_next : (last : Listed) (heads : List Head) (step : ℕ) (steps : List ℕ) → 0 < step → step < 2 ^ 31 → ¬ (IsLegal (next_of last (step + 4)))
    → CanGoOn last 0 heads (step ∷ steps) → ⊥
refuses_next last heads step steps some low not_legal can =
    let split : AreFrom (past last) (next_of last (step + 4) ∷ left_of (next_of last (step + 4)) 0 heads steps) =
    subst (AreFrom (past last)) (next_left last step heads steps some low) can.in_order in
    not_legal split.0

pub refuses_again : (last : Listed) (heads : List Head) (step : ℕ) (steps : List ℕ) → 2 ^ 31 ≤ step → ¬ (IsRepeatable (step - 2 ^ 31 + 1) last)
    → CanGoOn last 0 heads (step ∷ steps) → ⊥
refuses_again last heads step steps high not_legal can =
    let count : step - 2 ^ 31 + 1 ≡ suc (step - 2 ^ 31) = omega arith in
    let each : AreFrom (past last) (repeats (step - 2 ^ 31 + 1) last) =
    AreFrom-left last (repeats (step - 2 ^ 31 + 1) last) (left_of (last_of last (repeats (step - 2 ^ 31 + 1) last)) 0 heads steps)
    (subst (AreFrom (past last)) (again_all last step heads steps high) can.in_order) in
    not_legal (subst (λ (n : ℕ). IsRepeatable n last) (sym count)
    (repeats_need (step - 2 ^ 31) last (subst (λ (n : ℕ). AreFrom (past last) (repeats n last)) count each)))

-- ---- all steps

-- how far the check has come
pub record Checks (heads : List Head) (steps : List ℕ) (last : Listed) (left : List Head) (rest : List ℕ) : Type 0 where
  pub back : CanGoOn last 0 left rest → IsSound heads steps
  pub forth : IsSound heads steps → CanGoOn last 0 left rest
  pub last_is : last_of last (entries_of last left rest) ≡ last_of origin (entries_of origin heads steps)
  pub room : past last < 2 ^ 32 + 4

pub checks_start : (heads : List Head) (steps : List ℕ) (last : Listed) → last ≡ origin → Checks heads steps last heads steps
checks_start heads steps last is =
    let one : Checks heads steps origin heads steps = record {
      back = λ can. record { heads_fit = can.heads_fit; in_order = subst (AreFrom (past origin)) (left_is origin heads steps) can.in_order };
      forth = λ sound. record {
        heads_fit = sound.heads_fit;
        in_order = subst (AreFrom (past origin)) (sym (left_is origin heads steps)) sound.in_order;
        room = omega arith;
      };
      last_is = refl;
      room = omega arith;
    } in
    subst (λ (l : Listed). Checks heads steps l heads steps) (sym is) one

pub checks_more : (heads : List Head) (steps : List ℕ) (last next : Listed) (left others : List Head) (step : ℕ) (rest behind : List ℕ)
    → Checks heads steps last left rest → rest ≡ step ∷ behind → Passes last left step behind next others → Checks heads steps next others behind
checks_more heads steps last next left others step rest behind so_far is pass =
    let here : Checks heads steps last left (step ∷ behind) = subst (λ (ws : List ℕ). Checks heads steps last left ws) is so_far in
    record {
      back = λ can. here.back (pass.back can);
      forth = λ sound. pass.forth (here.forth sound);
      last_is = sym pass.last_is ∙ here.last_is;
      room = pass.room;
    }

pub checks_refuse : (heads : List Head) (steps : List ℕ) (last : Listed) (left : List Head) (step : ℕ) (rest behind : List ℕ)
    → Checks heads steps last left rest → rest ≡ step ∷ behind → ((ws : List ℕ) → CanGoOn last 0 left (step ∷ ws) → ⊥) → IsSound heads steps → ⊥
checks_refuse heads steps last left step rest behind so_far is refuses sound =
    refuses behind (subst (λ (ws : List ℕ). CanGoOn last 0 left ws) is (so_far.forth sound))

checks_nil : (heads : List Head) (steps : List ℕ) (last : Listed) → Checks heads steps last [] [] → IsKept heads steps last
unfolding left_of entries_of begins
checks_nil heads steps last so_far = record {
  sound = so_far.back (record { heads_fit = refl; in_order = tt; room = so_far.room });
  last_is = so_far.last_is;
}

pub checks_end : (heads : List Head) (steps : List ℕ) (last : Listed) (left : List Head) (rest : List ℕ) → Checks heads steps last left rest
    → length rest ≡ 0 → length left ≡ 0 → IsKept heads steps last
checks_end heads steps last left rest so_far none none_left =
    checks_nil heads steps last
    (subst (λ (hs : List Head). Checks heads steps last hs []) (nil_from_length left none_left)
    (subst (λ (ws : List ℕ). Checks heads steps last left ws) (nil_from_length rest none) so_far))

begins_nil : (rest : List ℕ) → length rest ≡ 0 → begins rest ≡ 0
unfolding begins
begins_nil [] none = refl
begins_nil (w ∷ ws) none = absurd (omega (arith, none))

pub checks_left : (heads : List Head) (steps : List ℕ) (last : Listed) (left : List Head) (rest : List ℕ) → Checks heads steps last left rest
    → length rest ≡ 0 → 0 < length left → IsSound heads steps → ⊥
checks_left heads steps last left rest so_far none some sound =
    let can = so_far.forth sound in omega (arith, can.heads_fit, begins_nil rest none, some)
