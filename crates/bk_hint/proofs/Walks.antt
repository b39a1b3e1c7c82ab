-- A walk over the entries of heads and steps.
use Rattle.std.proofs.Common.{◌≡◌, ℕ, zero, suc, ◌+◌, ◌-◌, ◌^◌, ◌<◌, ◌≤◌, List, [], ◌∷◌, length, refl, sym, ap, subst, ◌∙◌, arith}
use Rattle.bk_hint.specs.declared.listed.Listed.{Listed}
use Rattle.bk_hint.specs.declared.head.Head.{Head}
use Rattle.bk_hint.specs.Entries.{IsLegal, past, AreFrom, origin, next_of, first_of, entries_of, begins, IsSound}
use Rattle.bk_hint.specs.Runs.{runs_of}
use Rattle.bk_hint.specs.Walking.{left_of, CanGoOn, IsFirstRun, Turns}
use Rattle.bk_hint.proofs.Steps.{part-next, part-again, run-next, run-again, heads_behind-more, begins-more}

-- nothing is left without a step
pub nothing_left : (last : Listed) (heads : List Head) → left_of last 0 heads [] ≡ []
unfolding left_of entries_of
nothing_left last heads = refl

-- a walk begins
pub left_at_start : (heads : List Head) (steps : List ℕ) → left_of origin 0 heads steps ≡ entries_of origin heads steps
unfolding left_of
left_at_start heads steps = refl

pub starts : (heads : List Head) (steps : List ℕ) → IsSound heads steps → CanGoOn origin 0 heads steps
starts heads steps sound = record {
  heads_fit = sound.heads_fit;
  in_order = rw left_at_start sound.in_order;
  room = omega arith;
}

-- ---- one repetition

pub repeats_left : (last : Listed) (again : ℕ) (heads : List Head) (steps : List ℕ)
    → left_of last (suc again) heads steps ≡ next_of last last.size ∷ left_of (next_of last last.size) again heads steps
unfolding left_of
repeats_left last again heads steps = refl

-- what a list of legal entries in order says of its first and the others
pub record Heads (from : ℕ) (entry : Listed) (entries : List Listed) : Type 0 where
  pub legal : IsLegal entry
  pub others : AreFrom (past entry) entries

pub heads : (from : ℕ) (all : List Listed) (entry : Listed) (entries : List Listed) → AreFrom from all → all ≡ entry ∷ entries → Heads from entry entries
heads from all entry entries each is =
    let split : AreFrom from (entry ∷ entries) = subst (λ (es : List Listed). AreFrom from es) is each in
    record { legal = split.0; others = split.1.1 }

pub goes_on : (last : Listed) (again : ℕ) (heads_now : List Head) (steps : List ℕ) (next : Listed) (more : ℕ) (others : List Head) (behind : List ℕ)
    → CanGoOn last again heads_now steps → begins behind ≡ length others
    → left_of last again heads_now steps ≡ next ∷ left_of next more others behind → CanGoOn next more others behind
goes_on last again heads_now steps next more others behind can fit is =
    let split = heads (past last) _ next (left_of next more others behind) can.in_order is in
    record { heads_fit = fit; in_order = split.others; room = split.legal.ends }

-- ---- one step

pub turns : (last : Listed) (heads_now : List Head) (steps : List ℕ) (next : Listed) (more : ℕ) (others : List Head) (behind : List ℕ)
    → CanGoOn last 0 heads_now steps → begins behind ≡ length others
    → left_of last 0 heads_now steps ≡ next ∷ left_of next more others behind → IsFirstRun last heads_now steps next more others behind
    → Turns last heads_now steps next more others behind
turns last heads_now steps next more others behind can fit is run =
    record { gives = is; is_run = run; goes_on = goes_on last 0 heads_now steps next more others behind can fit is }

pub begin_left : (last : Listed) (head : Head) (heads_now : List Head) (steps : List ℕ)
    → left_of last 0 (head ∷ heads_now) (0 ∷ steps) ≡ first_of head ∷ left_of (first_of head) 0 heads_now steps
unfolding left_of entries_of
begin_left last head heads_now steps = refl

pub next_left : (last : Listed) (step : ℕ) (heads_now : List Head) (steps : List ℕ) → 0 < step → step < 2 ^ 31
    → left_of last 0 heads_now (step ∷ steps) ≡ next_of last (step + 4) ∷ left_of (next_of last (step + 4)) 0 heads_now steps
unfolding left_of entries_of
next_left last step heads_now steps some low =
    rw (part-next last step heads_now some low, heads_behind-more step heads_now some) refl

pub again_left : (last : Listed) (step : ℕ) (heads_now : List Head) (steps : List ℕ) → 2 ^ 31 ≤ step
    → left_of last 0 heads_now (step ∷ steps) ≡ next_of last last.size ∷ left_of (next_of last last.size) (step - 2 ^ 31) heads_now steps
unfolding left_of entries_of
again_left last step heads_now steps high =
    let some : 0 < step = omega arith in
    let count : step - 2 ^ 31 + 1 ≡ suc (step - 2 ^ 31) = omega arith in
    rw (part-again last step heads_now high, heads_behind-more step heads_now some, count) refl

-- ---- the run of a step

begin_run : (last : Listed) (head : Head) (heads_now : List Head) (steps : List ℕ) → IsFirstRun last (head ∷ heads_now) (0 ∷ steps) (first_of head) 0 heads_now steps
unfolding runs_of
begin_run last head heads_now steps = refl

next_run : (last : Listed) (step : ℕ) (heads_now : List Head) (steps : List ℕ) → 0 < step → step < 2 ^ 31
    → IsFirstRun last heads_now (step ∷ steps) (next_of last (step + 4)) 0 heads_now steps
unfolding runs_of
next_run last step heads_now steps some low =
    rw (run-next last step heads_now some low, part-next last step heads_now some low, heads_behind-more step heads_now some) refl

again_run : (last : Listed) (step : ℕ) (heads_now : List Head) (steps : List ℕ) → 2 ^ 31 ≤ step
    → IsFirstRun last heads_now (step ∷ steps) (next_of last last.size) (step - 2 ^ 31) heads_now steps
unfolding runs_of
again_run last step heads_now steps high =
    let some : 0 < step = omega arith in
    let count : step - 2 ^ 31 + 1 ≡ suc (step - 2 ^ 31) = omega arith in
    rw (run-again last step heads_now high, part-again last step heads_now high, heads_behind-more step heads_now some, count) refl

-- the same of heads, steps and a first entry that are these
run_is : (last : Listed) (heads_now heads_are : List Head) (steps steps_are : List ℕ) (next next_are : Listed) (more : ℕ) (others : List Head) (behind : List ℕ)
    → heads_now ≡ heads_are → steps ≡ steps_are → next ≡ next_are → IsFirstRun last heads_are steps_are next_are more others behind
    → IsFirstRun last heads_now steps next more others behind
run_is last heads_now heads_are steps steps_are next next_are more others behind same_heads same_steps same_next run =
    subst (λ (hs : List Head). IsFirstRun last hs steps next more others behind) (sym same_heads)
    (subst (λ (ws : List ℕ). IsFirstRun last heads_are ws next more others behind) (sym same_steps)
    (subst (λ (e : Listed). IsFirstRun last heads_are steps_are e more others behind) (sym same_next) run))

-- ---- a step that is there

pub begins_fit : (step : ℕ) (steps : List ℕ) (heads_now : List Head) → 0 < step → begins (step ∷ steps) ≡ length heads_now → begins steps ≡ length heads_now
begins_fit step steps heads_now some fit = sym (begins-more step steps some) ∙ fit

begin_fit : (steps : List ℕ) (head : Head) (others : List Head) → begins (0 ∷ steps) ≡ length (head ∷ others) → begins steps ≡ length others
unfolding begins
begin_fit steps head others fit = omega (arith, fit)

pub no_head : (last : Listed) (heads_now : List Head) (steps behind : List ℕ) (step : ℕ) → CanGoOn last 0 heads_now steps → steps ≡ step ∷ behind → step ≡ 0
    → length heads_now ≡ 0 → ⊥
unfolding begins
no_head last heads_now steps behind step can is first_step none =
    let fit : begins (0 ∷ behind) ≡ length heads_now = ap begins (sym (is ∙ ap (λ (w : ℕ). w ∷ behind) first_step)) ∙ can.heads_fit in
    omega (arith, fit, none)

pub begin_is : (last : Listed) (heads_now others : List Head) (steps behind : List ℕ) (step : ℕ) (head : Head) → steps ≡ step ∷ behind → step ≡ 0
    → heads_now ≡ head ∷ others → left_of last 0 heads_now steps ≡ first_of head ∷ left_of (first_of head) 0 others behind
begin_is last heads_now others steps behind step head is first_step heads_are =
    let first : steps ≡ 0 ∷ behind = is ∙ ap (λ (w : ℕ). w ∷ behind) first_step in
    ap (λ (hs : List Head). left_of last 0 hs steps) heads_are ∙ ap (λ (ws : List ℕ). left_of last 0 (head ∷ others) ws) first ∙ begin_left last head others behind

pub begin_legal : (last : Listed) (heads_now others : List Head) (steps behind : List ℕ) (step : ℕ) (head : Head) → CanGoOn last 0 heads_now steps → steps ≡ step ∷ behind
    → step ≡ 0 → heads_now ≡ head ∷ others → IsLegal (first_of head)
begin_legal last heads_now others steps behind step head can is first_step heads_are =
    (heads (past last) _ (first_of head) (left_of (first_of head) 0 others behind) can.in_order
    (begin_is last heads_now others steps behind step head is first_step heads_are)).legal

pub begin_turns : (last : Listed) (heads_now others : List Head) (steps behind : List ℕ) (step : ℕ) (head : Head) (next : Listed) → CanGoOn last 0 heads_now steps
    → steps ≡ step ∷ behind → step ≡ 0 → heads_now ≡ head ∷ others → next ≡ first_of head → Turns last heads_now steps next 0 others behind
begin_turns last heads_now others steps behind step head next can is first_step heads_are next_is =
    let first : steps ≡ 0 ∷ behind = is ∙ ap (λ (w : ℕ). w ∷ behind) first_step in
    let fit : begins behind ≡ length others = begin_fit behind head others (ap begins (sym first) ∙ can.heads_fit ∙ ap length heads_are) in
    turns last heads_now steps next 0 others behind can fit
    (begin_is last heads_now others steps behind step head is first_step heads_are ∙ ap (λ (e : Listed). e ∷ left_of e 0 others behind) (sym next_is))
    (run_is last heads_now (head ∷ others) steps (0 ∷ behind) next (first_of head) 0 others behind heads_are first next_is (begin_run last head others behind))

-- the entry directly behind is legal
pub next_id : (last : Listed) (size : ℕ) (from : ℕ) (all entries : List Listed) → AreFrom from all → all ≡ next_of last size ∷ entries → last.key.entry + 1 < 2 ^ 63
next_id last size from all entries each is = (heads from all (next_of last size) entries each is).legal.id

pub next_is : (last : Listed) (heads_now : List Head) (steps behind : List ℕ) (step : ℕ) → steps ≡ step ∷ behind → 0 < step → step < 2 ^ 31
    → left_of last 0 heads_now steps ≡ next_of last (step + 4) ∷ left_of (next_of last (step + 4)) 0 heads_now behind
next_is last heads_now steps behind step is some low = ap (λ (ws : List ℕ). left_of last 0 heads_now ws) is ∙ next_left last step heads_now behind some low

pub again_is : (last : Listed) (heads_now : List Head) (steps behind : List ℕ) (step : ℕ) → steps ≡ step ∷ behind → 2 ^ 31 ≤ step
    → left_of last 0 heads_now steps ≡ next_of last last.size ∷ left_of (next_of last last.size) (step - 2 ^ 31) heads_now behind
again_is last heads_now steps behind step is high = ap (λ (ws : List ℕ). left_of last 0 heads_now ws) is ∙ again_left last step heads_now behind high

pub next_turns : (last : Listed) (heads_now : List Head) (steps behind : List ℕ) (step : ℕ) (next : Listed) → CanGoOn last 0 heads_now steps → steps ≡ step ∷ behind
    → 0 < step → step < 2 ^ 31 → next ≡ next_of last (step + 4) → Turns last heads_now steps next 0 heads_now behind
next_turns last heads_now steps behind step next can is some low same =
    let fit : begins behind ≡ length heads_now = begins_fit step behind heads_now some (ap begins (sym is) ∙ can.heads_fit) in
    turns last heads_now steps next 0 heads_now behind can fit
    (next_is last heads_now steps behind step is some low ∙ ap (λ (e : Listed). e ∷ left_of e 0 heads_now behind) (sym same))
    (run_is last heads_now heads_now steps (step ∷ behind) next (next_of last (step + 4)) 0 heads_now behind refl is same
    (next_run last step heads_now behind some low))

pub again_turns : (last : Listed) (heads_now : List Head) (steps behind : List ℕ) (step : ℕ) (next : Listed) → CanGoOn last 0 heads_now steps → steps ≡ step ∷ behind
    → 2 ^ 31 ≤ step → next ≡ next_of last last.size → Turns last heads_now steps next (step - 2 ^ 31) heads_now behind
again_turns last heads_now steps behind step next can is high same =
    let some : 0 < step = omega arith in
    let fit : begins behind ≡ length heads_now = begins_fit step behind heads_now some (ap begins (sym is) ∙ can.heads_fit) in
    turns last heads_now steps next (step - 2 ^ 31) heads_now behind can fit
    (again_is last heads_now steps behind step is high ∙ ap (λ (e : Listed). e ∷ left_of e (step - 2 ^ 31) heads_now behind) (sym same))
    (run_is last heads_now heads_now steps (step ∷ behind) next (next_of last last.size) (step - 2 ^ 31) heads_now behind refl is same
    (again_run last step heads_now behind high))

-- ---- repetitions that are left

pub repeat_is : (last : Listed) (again : ℕ) (heads_now : List Head) (steps : List ℕ) → 0 < again
    → left_of last again heads_now steps ≡ next_of last last.size ∷ left_of (next_of last last.size) (again - 1) heads_now steps
repeat_is last zero heads_now steps some = absurd (omega arith)
repeat_is last (suc again) heads_now steps some =
    let less : suc again - 1 ≡ again = omega arith in
    repeats_left last again heads_now steps ∙ ap (λ (n : ℕ). next_of last last.size ∷ left_of (next_of last last.size) n heads_now steps) (sym less)

pub repeat_goes_on : (last : Listed) (again : ℕ) (heads_now : List Head) (steps : List ℕ) (next : Listed) → CanGoOn last again heads_now steps → 0 < again
    → next ≡ next_of last last.size → CanGoOn next (again - 1) heads_now steps
repeat_goes_on last again heads_now steps next can some same =
    goes_on last again heads_now steps next (again - 1) heads_now steps can can.heads_fit
    (repeat_is last again heads_now steps some ∙ ap (λ (e : Listed). e ∷ left_of e (again - 1) heads_now steps) (sym same))

pub repeat_gives : (last : Listed) (again : ℕ) (heads_now : List Head) (steps : List ℕ) (next : Listed) → 0 < again → next ≡ next_of last last.size
    → left_of last again heads_now steps ≡ next ∷ left_of next (again - 1) heads_now steps
repeat_gives last again heads_now steps next some same =
    repeat_is last again heads_now steps some ∙ ap (λ (e : Listed). e ∷ left_of e (again - 1) heads_now steps) (sym same)

pub repeat_id : (last : Listed) (again : ℕ) (heads_now : List Head) (steps : List ℕ) → CanGoOn last again heads_now steps → 0 < again → last.key.entry + 1 < 2 ^ 63
repeat_id last again heads_now steps can some =
    next_id last last.size (past last) (left_of last again heads_now steps) _ can.in_order (repeat_is last again heads_now steps some)

pub none_again : (last : Listed) (again : ℕ) (heads_now : List Head) (steps : List ℕ) → CanGoOn last again heads_now steps → again ≡ 0 → CanGoOn last 0 heads_now steps
none_again last again heads_now steps can first_step = subst (λ (n : ℕ). CanGoOn last n heads_now steps) first_step can

-- nothing is left without a repetition and a step
pub nothing : (last : Listed) (again : ℕ) (heads_now : List Head) (steps : List ℕ) → again ≡ 0 → steps ≡ [] → left_of last again heads_now steps ≡ []
nothing last again heads_now steps first_step none =
    ap (λ (n : ℕ). left_of last n heads_now steps) first_step ∙ ap (left_of last 0 heads_now) none ∙ nothing_left last heads_now
