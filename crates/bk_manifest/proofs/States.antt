-- The state that records mean.
use Rattle.std.proofs.Common.{◌≡◌, Bool, true, false, cond, List, [], ◌∷◌, ◌++◌, ◌≤◌, ◌+◌, length, fold, refl, sym, ap, subst, ◌∙◌, append_assoc, arith}
use Rattle.std.specs.Prelude.{Option, None, Some, IsSome}
use Rattle.std.specs.Ordering.{eq_by_cmp}
use Rattle.std.specs.Option.{option_map, option_flatten, option_or}
use Rattle.std.specs.List.{AllByRecursion, All, IsDistinct}
use Rattle.std.specs.Cmp.{IsEquivalence}
use Rattle.std.specs.Map.{keys_of, values_of, lookup}
use Rattle.std.specs.BTreeMap.{is_at, get, IsOrdered}
use Rattle.std.proofs.lemmas.Cmp.{eq_by_cmp_equiv}
use Rattle.std.proofs.lemmas.List.{append-nil, map_push, length-append}
use Rattle.std.proofs.lemmas.Map.{NonePasses}
use Rattle.std.proofs.lemmas.Map.Entries.{none_past_head}
use Rattle.std.proofs.lemmas.Map.Keys.{IsDistinct-from_sorted, IsDistinct-tail}
use Rattle.std.proofs.lemmas.List.Elements.{recursion_from_All}
use Rattle.bk_manifest.specs.declared.record.Record.{Record}
use Rattle.bk_manifest.specs.declared.subject.Subject.{Subject}
use Rattle.bk_manifest.specs.declared.state.State.{State}
use Rattle.bk_manifest.specs.Subject.{subject_cmp, subject_total}
use Rattle.bk_manifest.specs.Fact.{Fact, fact, facts}
use Rattle.bk_manifest.specs.State.{subject_of, is_about, last_after, said, standing_in, standing, IsStateOf, IsAfter, IsSameState, SameMeaning, HasMemory, HaveMemory, KeepsMemory}

alike : IsEquivalence (eq_by_cmp subject_cmp)
alike = eq_by_cmp_equiv subject_total

-- the record stands at its subject
abbrev pub Agrees : Subject → Option Record → Type 0
Agrees k o = (one : Record) → o ≡ Some one → is_about k (fact one) ≡ true

abbrev pub stood : Option Record → Option Fact → Option Fact
stood o before = option_or (option_map fact o) before

either_way : (b : Bool) (x : Option Fact) → cond b x x ≡ x
either_way true x = refl
either_way false x = refl

-- one entry more
one_more : (s k : Subject) (o : Option Record) (os : List (Option Record)) (before : Option Fact) → Agrees k o
    → fold (last_after s) before (standing_in (o ∷ os)) ≡ fold (last_after s) (cond (eq_by_cmp subject_cmp k s) (stood o before) before) (standing_in os)
one_more s k None os before agrees = ap (λ (x : Option Fact). fold (last_after s) x (standing_in os)) (sym (either_way (eq_by_cmp subject_cmp k s) before))
one_more s k (Some one) os before agrees =
    ap (λ (b : Bool). fold (last_after s) (cond b (Some (fact one)) before) (standing_in os)) (alike.congr (subject_of (fact one)) k s (agrees one refl))

-- no entry is about the subject
skipped : (s : Subject) (es : List (Subject × Option Record)) (before : Option Fact) → NonePasses (eq_by_cmp subject_cmp s) es
    → AllByRecursion (λ e. Agrees e.0 e.1) es → fold (last_after s) before (standing_in (values_of es)) ≡ before
skipped s [] before none agree = refl
skipped s (e ∷ es) before none agree =
    let apart : eq_by_cmp subject_cmp e.0 s ≡ false = alike.symm e.0 s ∙ none.0 in
    one_more s e.0 e.1 (values_of es) before agree.0
    ∙ ap (λ (b : Bool). fold (last_after s) (cond b (stood e.1 before) before) (standing_in (values_of es))) apart
    ∙ skipped s es before none.1 agree.1

abbrev found : Subject → List (Subject × Option Record) → Option Fact
found s es = option_map fact (option_flatten (lookup (is_at (subject_cmp s)) es))

stood_flat : (o : Option Record) (before : Option Fact) → stood o before ≡ option_or (option_map fact (option_flatten (Some o))) before
stood_flat None before = refl
stood_flat (Some one) before = refl

by_head : (b : Bool) (s : Subject) (e : Subject × Option Record) (es : List (Subject × Option Record)) (before : Option Fact) → eq_by_cmp subject_cmp s e.0 ≡ b
    → IsDistinct (eq_by_cmp subject_cmp) (keys_of (e ∷ es)) → AllByRecursion (λ e. Agrees e.0 e.1) es
    → fold (last_after s) before (standing_in (values_of es)) ≡ option_or (found s es) before
    → fold (last_after s) (cond b (stood e.1 before) before) (standing_in (values_of es))
    ≡ option_or (option_map fact (option_flatten (cond b (Some e.1) (lookup (is_at (subject_cmp s)) es)))) before
by_head true s e es before is distinct agree rest =
    skipped s es (stood e.1 before) (none_past_head alike s e es distinct is) agree ∙ stood_flat e.1 before
by_head false s e es before is distinct agree rest = rest

pub stands : (s : Subject) (es : List (Subject × Option Record)) (before : Option Fact) → IsDistinct (eq_by_cmp subject_cmp) (keys_of es)
    → AllByRecursion (λ e. Agrees e.0 e.1) es → fold (last_after s) before (standing_in (values_of es)) ≡ option_or (found s es) before
stands s [] before distinct agree = refl
stands s (e ∷ es) before distinct agree =
    let same : eq_by_cmp subject_cmp e.0 s ≡ eq_by_cmp subject_cmp s e.0 = alike.symm e.0 s in
    one_more s e.0 e.1 (values_of es) before agree.0
    ∙ ap (λ (b : Bool). fold (last_after s) (cond b (stood e.1 before) before) (standing_in (values_of es))) same
    ∙ by_head (eq_by_cmp subject_cmp s e.0) s e es before refl distinct agree.1
    (stands s es before (IsDistinct-tail (eq_by_cmp subject_cmp) e.0 (keys_of es) distinct) agree.1)

-- the last record about a subject is about it
chosen : (b : Bool) (s : Subject) (x f : Fact) (before : Option Fact) → is_about s x ≡ b → ((g : Fact) → before ≡ Some g → is_about s g ≡ true)
    → cond b (Some x) before ≡ Some f → is_about s f ≡ true
chosen true s x f before is was h =
    let same : x ≡ f = cc in
    ap (is_about s) (sym same) ∙ is
chosen false s x f before is was h = was f h

last_is_about : (s : Subject) (xs : List Fact) (before : Option Fact) (f : Fact) → ((g : Fact) → before ≡ Some g → is_about s g ≡ true)
    → fold (last_after s) before xs ≡ Some f → is_about s f ≡ true
last_is_about s [] before f was h = was f h
last_is_about s (x ∷ xs) before f was h =
    last_is_about s xs (last_after s before x) f (λ g is. chosen (is_about s x) s x g before refl was is) h

none_is : (s : Subject) (o : Option Fact) (g : Fact) → o ≡ None → o ≡ Some g → is_about s g ≡ true
none_is s None g none is = absurd cc
none_is s (Some x) g none is = absurd cc

or_none : (o : Option Fact) → option_or o None ≡ o
or_none None = refl
or_none (Some f) = refl

agree_all : (facts : List Fact) (state : State) → IsStateOf facts state → (es : List (Subject × Option Record))
    → AllByRecursion (λ (e : Subject × Option Record). get subject_cmp state.last e.0 ≡ Some e.1) es → AllByRecursion (λ e. Agrees e.0 e.1) es
agree_all facts state is [] each = tt
agree_all facts state is (e ∷ es) each = (
  (λ one one_is.
      let at : said state e.0 ≡ Some (fact one) =
      ap (λ (o : Option (Option Record)). option_map fact (option_flatten o)) (each.0 ∙ ap (λ (o : Option Record). Some o) one_is) in
      last_is_about e.0 facts None (fact one) (λ g g_is. none_is e.0 None g refl g_is) (sym (is e.0) ∙ at)),
  agree_all facts state is es each.1,
)

pub standing_means : (facts : List Fact) (state : State) → IsStateOf facts state → IsOrdered subject_cmp state.last
    → All (λ (e : Subject × Option Record). get subject_cmp state.last e.0 ≡ Some e.1) state.last.entries → SameMeaning facts (standing state)
standing_means facts state is ordered all =
    let each = recursion_from_All (λ (e : Subject × Option Record). get subject_cmp state.last e.0 ≡ Some e.1) state.last.entries all in
    let agree = agree_all facts state is state.last.entries each in
    λ s. sym (is s) ∙ sym (or_none (said state s)) ∙ sym (stands s state.last.entries None (IsDistinct-from_sorted subject_cmp _ ordered) agree)

-- ---- one call

-- equal subjects find the same
lookup_alike : (a b : Subject) → eq_by_cmp subject_cmp a b ≡ true → (es : List (Subject × Option Record))
    → lookup (is_at (subject_cmp a)) es ≡ lookup (is_at (subject_cmp b)) es
lookup_alike a b h [] = refl
lookup_alike a b h (e ∷ es) =
    ap (λ (t : Bool). cond t (Some e.1) (lookup (is_at (subject_cmp a)) es)) (alike.congr a b e.0 h)
    ∙ ap (λ (o : Option (Option Record)). cond (eq_by_cmp subject_cmp b e.0) (Some e.1) o) (lookup_alike a b h es)

abbrev flat : Option (Option Record) → Option Fact
flat o = option_map fact (option_flatten o)

-- room that was made says nothing
none_said : (b : Bool) (key q : Subject) (old : State) (now : Option (Option Record)) → eq_by_cmp subject_cmp key q ≡ b
    → get subject_cmp old.last key ≡ None → now ≡ cond b (Some None) (get subject_cmp old.last q) → flat now ≡ said old q
none_said true key q old now same absent is =
    ap flat is ∙ sym (ap flat (sym (lookup_alike key q same old.last.entries) ∙ absent))
none_said false key q old now same absent is = ap flat is

pub room_made : (old new : State) (key : Subject) → get subject_cmp old.last key ≡ None
    → ((q : Subject) → get subject_cmp new.last q ≡ cond (is_at (subject_cmp key) q) (Some None) (get subject_cmp old.last q)) → IsSameState old new
room_made old new key absent is = λ q. none_said (eq_by_cmp subject_cmp key q) key q old (get subject_cmp new.last q) refl absent (is q)

-- a key more
kept_memory : (b : Bool) (old now : Option (Option Record)) (o : Option Record) → now ≡ cond b (Some o) old → IsSome old → IsSome now
kept_memory true old now o is some = subst (λ (t : Option (Option Record)). IsSome t) (sym is) refl
kept_memory false old now o is some = subst (λ (t : Option (Option Record)). IsSome t) (sym is) some

pub memory_kept : (old new : State) (key : Subject) (o : Option Record)
    → ((q : Subject) → get subject_cmp new.last q ≡ cond (is_at (subject_cmp key) q) (Some o) (get subject_cmp old.last q)) → KeepsMemory old new
memory_kept old new key o is = λ q some. kept_memory (eq_by_cmp subject_cmp key q) (get subject_cmp old.last q) (get subject_cmp new.last q) o (is q) some

applied_at : (b : Bool) (one : Record) (old : Option (Option Record)) → flat (cond b (Some (Some one)) old) ≡ cond b (Some (fact one)) (flat old)
applied_at true one old = refl
applied_at false one old = refl

pub applied : (old new : State) (key : Subject) (one : Record) → key ≡ subject_of (fact one)
    → ((q : Subject) → get subject_cmp new.last q ≡ cond (is_at (subject_cmp key) q) (Some (Some one)) (get subject_cmp old.last q))
    → IsAfter old (fact one ∷ []) new
applied old new key one about is = λ s.
    ap flat (is s) ∙ applied_at (eq_by_cmp subject_cmp key s) one (get subject_cmp old.last s)
    ∙ ap (λ (k : Subject). cond (eq_by_cmp subject_cmp k s) (Some (fact one)) (said old s)) about

no_memory : (o : Option (Option Record)) → o ≡ None → IsSome o → ⊥
no_memory None is some = absurd cc
no_memory (Some x) is some = absurd cc

pub was_full : (old : State) (key about : Subject) → key ≡ about → get subject_cmp old.last key ≡ None → HasMemory old about → ⊥
was_full old key about same absent = subst (λ (k : Subject). HasMemory old k → ⊥) same (no_memory (get subject_cmp old.last key) absent)

-- ---- one record after another

pub next_left : (s : Subject) (state new : State) (target : Option Fact) (items rest : List Record) (one : Record) → items ≡ one ∷ rest
    → IsAfter state (fact one ∷ []) new → fold (last_after s) (said state s) (facts items) ≡ target → fold (last_after s) (said new s) (facts rest) ≡ target
next_left s state new target items rest one is after h =
    ap (λ (o : Option Fact). fold (last_after s) o (facts rest)) (after s)
    ∙ ap (λ (xs : List Record). fold (last_after s) (said state s) (facts xs)) (sym is) ∙ h

none_left : (s : Subject) (state : State) (target : Option Fact) (items : List Record) → length items ≡ 0
    → fold (last_after s) (said state s) (facts items) ≡ target → said state s ≡ target
none_left s state target [] none h = h
none_left s state target (x ∷ xs) none h = absurd (omega arith)

pub all_applied : (state : State) (items : List Record) (target : Subject → Option Fact) → length items ≡ 0
    → ((s : Subject) → fold (last_after s) (said state s) (facts items) ≡ target s) → (s : Subject) → said state s ≡ target s
all_applied state items target none h = λ s. none_left s state (target s) items none (h s)

keep_all : (xs : List Fact) (old new : State) → KeepsMemory old new → HaveMemory old xs → HaveMemory new xs
keep_all [] old new keeps have = tt
keep_all (x ∷ xs) old new keeps have = (keeps (subject_of x) have.0, keep_all xs old new keeps have.1)

pub memory_stays : (xs : List Fact) (old new : State) → KeepsMemory old new → HaveMemory old xs → HaveMemory new xs
memory_stays xs old new keeps have = keep_all xs old new keeps have

pub memory_left : (state : State) (items rest : List Record) (one : Record) → items ≡ one ∷ rest → HaveMemory state (facts items)
    → HasMemory state (subject_of (fact one)) × HaveMemory state (facts rest)
memory_left state items rest one is have = subst (λ (xs : List Record). HaveMemory state (facts xs)) is have

memory_push : (xs : List Fact) (x : Fact) (state : State) → HaveMemory state xs → HasMemory state (subject_of x) → HaveMemory state (xs ++ x ∷ [])
memory_push [] x state have one = (one, tt)
memory_push (y ∷ ys) x state have one = (have.0, memory_push ys x state have.1 one)

-- a record that is noted
pub noted_memory : (xs new : List Fact) (x : Fact) (old state : State) → new ≡ xs ++ x ∷ [] → KeepsMemory old state → HaveMemory old xs
    → HasMemory state (subject_of x) → HaveMemory state new
noted_memory xs new x old state is keeps have one =
    subst (λ (fs : List Fact). HaveMemory state fs) (sym is) (memory_push xs x state (keep_all xs old state keeps have) one)

-- ---- records that stand, one after another

pub fact_push : (xs ys : List Record) (one copy : Record) → ys ≡ xs ++ copy ∷ [] → fact copy ≡ fact one → facts ys ≡ facts xs ++ standing_in (Some one ∷ [])
fact_push xs ys one copy is same =
    ap (λ (rs : List Record). facts rs) is ∙ map_push fact xs copy ∙ ap (λ (f : Fact). facts xs ++ f ∷ []) same

pub no_push : (xs : List Record) → facts xs ≡ facts xs ++ standing_in (None ∷ [])
no_push xs = sym (append-nil (facts xs))

first_of : (o : Option Record) (os : List (Option Record)) → standing_in (o ∷ os) ≡ standing_in (o ∷ []) ++ standing_in os
first_of None os = refl
first_of (Some one) os = refl

pub pushed : (xs new target : List Fact) (o : Option Record) (k : Subject) (es rest : List (Subject × Option Record)) → new ≡ xs ++ standing_in (o ∷ [])
    → es ≡ (k, o) ∷ rest → xs ++ standing_in (values_of es) ≡ target → new ++ standing_in (values_of rest) ≡ target
pushed xs new target o k es rest new_is is h =
    ap (λ (fs : List Fact). fs ++ standing_in (values_of rest)) new_is
    ∙ append_assoc xs (standing_in (o ∷ [])) (standing_in (values_of rest))
    ∙ ap (λ (fs : List Fact). xs ++ fs) (sym (first_of o (values_of rest)))
    ∙ ap (λ (fs : List (Subject × Option Record)). xs ++ standing_in (values_of fs)) (sym is) ∙ h

pub all_pushed : (xs target : List Fact) (es : List (Subject × Option Record)) → es ≡ [] → xs ++ standing_in (values_of es) ≡ target → xs ≡ target
all_pushed xs target es none h =
    sym (append-nil xs) ∙ ap (λ (fs : List (Subject × Option Record)). xs ++ standing_in (values_of fs)) (sym none) ∙ h

at_most_one : (o : Option Record) → length (standing_in (o ∷ [])) ≤ 1
at_most_one None = omega arith
at_most_one (Some one) = omega arith

pub counted : (o : Option Record) (k : Subject) (es rest : List (Subject × Option Record)) → es ≡ (k, o) ∷ rest
    → length (standing_in (values_of es)) ≡ length (standing_in (o ∷ [])) + length (standing_in (values_of rest))
counted o k es rest is =
    ap (λ (fs : List (Subject × Option Record)). length (standing_in (values_of fs))) is ∙ ap length (first_of o (values_of rest))
    ∙ length-append (standing_in (o ∷ [])) (standing_in (values_of rest))

pub weighs : (o : Option Record) (k : Subject) (es rest : List (Subject × Option Record)) → es ≡ (k, o) ∷ rest
    → length (standing_in (o ∷ [])) + length rest ≤ length es
weighs o k es rest is = omega (arith, at_most_one o, ap length is)
