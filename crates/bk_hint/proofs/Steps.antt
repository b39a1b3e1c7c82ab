-- Heads and steps with one step more.
use Rattle.std.proofs.Common.{◌≡◌, ℕ, zero, suc, ◌+◌, ◌-◌, ◌^◌, ◌<◌, ◌≤◌, List, [], ◌∷◌, ◌++◌, length, refl, sym, ap, subst, ◌∙◌, append_assoc, arith, inl, inr}
use Rattle.std.proofs.lemmas.Bool.{lt-ltb, le-ltb}
use Rattle.std.proofs.lemmas.List.{append-nil, length-append}
use Rattle.bk_hint.specs.declared.listed.Listed.{Listed}
use Rattle.bk_hint.specs.declared.head.Head.{Head}
use Rattle.bk_hint.specs.Entries.{IsLegal, past, AreFrom, last_of, origin, next_of, repeats, first_of, part_of, heads_behind, entries_of, begins, Lists, IsKept}
use Rattle.bk_hint.specs.Runs.{run_of}
use Rattle.bk_hint.specs.Noting.{Repeats, Gains}
use Rattle.bk_hint.specs.Pushing.{CanStand}

pub last_of-append : (before : Listed) (xs ys : List Listed) → last_of before (xs ++ ys) ≡ last_of (last_of before xs) ys
last_of-append before [] ys = refl
last_of-append before (x ∷ xs) ys = last_of-append x xs ys

-- ---- order

pub AreFrom-append : (before : Listed) (xs ys : List Listed) → AreFrom (past before) xs → AreFrom (past (last_of before xs)) ys → AreFrom (past before) (xs ++ ys)
AreFrom-append before [] ys first second = second
AreFrom-append before (x ∷ xs) ys first second = (first.0, (first.1.0, AreFrom-append x xs ys first.1.1 second))

pub past-below : (before : Listed) (xs : List Listed) → past before < 2 ^ 32 + 4 → AreFrom (past before) xs → past (last_of before xs) < 2 ^ 32 + 4
past-below before [] room each = room
past-below before (x ∷ xs) room each = past-below x xs each.0.ends each.1.1

pub past-above : (before : Listed) (xs : List Listed) → AreFrom (past before) xs → past before ≤ past (last_of before xs)
past-above before [] each = omega arith
past-above before (x ∷ xs) each = let rest = past-above x xs each.1.1 in let first = each.1.0 in omega arith

-- ---- one step

pub part-next : (last : Listed) (step : ℕ) (heads : List Head) → 0 < step → step < 2 ^ 31 → part_of last step heads ≡ next_of last (step + 4) ∷ []
part-next last zero heads some low = absurd (omega arith)
part-next last (suc step) heads some low = rw (lt-ltb (suc step) (2 ^ 31) low) refl

pub part-again : (last : Listed) (step : ℕ) (heads : List Head) → 2 ^ 31 ≤ step → part_of last step heads ≡ repeats (step - 2 ^ 31 + 1) last
part-again last zero heads high = absurd (omega arith)
part-again last (suc step) heads high = rw (le-ltb (suc step) (2 ^ 31) high) refl

pub run-next : (last : Listed) (step : ℕ) (heads : List Head) → 0 < step → step < 2 ^ 31
    → run_of last step heads ≡ record { first = next_of last (step + 4); again = 0 } ∷ []
run-next last zero heads some low = absurd (omega arith)
run-next last (suc step) heads some low = rw (lt-ltb (suc step) (2 ^ 31) low) refl

pub run-again : (last : Listed) (step : ℕ) (heads : List Head) → 2 ^ 31 ≤ step
    → run_of last step heads ≡ record { first = next_of last last.size; again = step - 2 ^ 31 } ∷ []
run-again last zero heads high = absurd (omega arith)
run-again last (suc step) heads high = rw (le-ltb (suc step) (2 ^ 31) high) refl

pub heads_behind-more : (step : ℕ) (heads : List Head) → 0 < step → heads_behind step heads ≡ heads
heads_behind-more zero heads some = absurd (omega arith)
heads_behind-more (suc step) heads some = refl

pub begins-more : (step : ℕ) (steps : List ℕ) → 0 < step → begins (step ∷ steps) ≡ begins steps
unfolding begins
begins-more zero steps some = absurd (omega arith)
begins-more (suc step) steps some = refl

pub begins-append : (xs ys : List ℕ) → begins (xs ++ ys) ≡ begins xs + begins ys
unfolding begins
begins-append [] ys = omega arith
begins-append (zero ∷ xs) ys = omega (arith, begins-append xs ys)
begins-append (suc x ∷ xs) ys = begins-append xs ys

pub repeats-more : (count : ℕ) (last : Listed)
    → repeats (suc count) last ≡ repeats count last ++ next_of (last_of last (repeats count last)) (last_of last (repeats count last)).size ∷ []
repeats-more zero last = refl
repeats-more (suc count) last = ap (λ (es : List Listed). next_of last last.size ∷ es) (repeats-more count (next_of last last.size))

-- ---- many steps

glue : (before : Listed) (part left whole : List Listed) (behind : Listed → List Listed) → whole ≡ left ++ behind (last_of (last_of before part) left)
    → part ++ whole ≡ (part ++ left) ++ behind (last_of before (part ++ left))
glue before part left whole behind is =
    ap (λ (w : List Listed). part ++ w) is
    ∙ sym (append_assoc part left (behind (last_of (last_of before part) left)))
    ∙ ap (λ (l : Listed). (part ++ left) ++ behind l) (sym (last_of-append before part left))

pub entries-append : (last : Listed) (heads more : List Head) (steps others : List ℕ) → begins steps ≡ length heads
    → entries_of last (heads ++ more) (steps ++ others) ≡ entries_of last heads steps ++ entries_of (last_of last (entries_of last heads steps)) more others
unfolding entries_of begins
entries-append last [] more [] others fit = refl
entries-append last (head ∷ heads) more [] others fit = absurd (omega (arith, fit))
entries-append last [] more (zero ∷ steps) others fit = absurd (omega (arith, fit))
entries-append last (head ∷ heads) more (zero ∷ steps) others fit =
    ap (λ (es : List Listed). first_of head ∷ es) (entries-append (first_of head) heads more steps others (omega (arith, fit)))
entries-append last heads more (suc step ∷ steps) others fit =
    glue last (part_of last (suc step) heads) (entries_of (last_of last (part_of last (suc step) heads)) heads steps)
    (entries_of (last_of last (part_of last (suc step) heads)) (heads ++ more) (steps ++ others)) (λ l. entries_of l more others)
    (entries-append (last_of last (part_of last (suc step) heads)) heads more steps others fit)

-- one step that begins no run, at the end
pub entries-step : (last : Listed) (heads : List Head) (steps : List ℕ) (step : ℕ) → begins steps ≡ length heads → 0 < step
    → entries_of last heads (steps ++ step ∷ []) ≡ entries_of last heads steps ++ part_of (last_of last (entries_of last heads steps)) step []
unfolding entries_of
entries-step last heads steps step fit some =
    let whole = entries-append last heads [] steps (step ∷ []) fit in
    let now = last_of last (entries_of last heads steps) in
    ap (λ (hs : List Head). entries_of last hs (steps ++ step ∷ [])) (sym (append-nil heads))
    ∙ whole
    ∙ ap (λ (es : List Listed). entries_of last heads steps ++ es) (append-nil (part_of now step []))

-- ---- one entry more

pub begun : (heads : List Head) (steps : List ℕ) (head : Head) (entry : Listed) → begins steps ≡ length heads → first_of head ≡ entry
    → Lists (heads ++ head ∷ []) (steps ++ 0 ∷ []) (entries_of origin heads steps ++ entry ∷ [])
unfolding entries_of begins
begun heads steps head entry fit is = record {
  heads_fit = omega (arith, fit, begins-append steps (0 ∷ []), length-append heads (head ∷ []));
  entries_are = entries-append origin heads (head ∷ []) steps (0 ∷ []) fit ∙ ap (λ (e : Listed). entries_of origin heads steps ++ e ∷ []) is;
}

pub begins-step : (steps : List ℕ) (step : ℕ) → 0 < step → begins (steps ++ step ∷ []) ≡ begins steps
unfolding begins
begins-step steps zero some = absurd (omega arith)
begins-step steps (suc step) some = omega (arith, begins-append steps (suc step ∷ []))

pub stepped : (heads : List Head) (steps : List ℕ) (step : ℕ) (entry : Listed) → begins steps ≡ length heads → 0 < step → step < 2 ^ 31
    → next_of (last_of origin (entries_of origin heads steps)) (step + 4) ≡ entry
    → Lists heads (steps ++ step ∷ []) (entries_of origin heads steps ++ entry ∷ [])
stepped heads steps step entry fit some low is = record {
  heads_fit = begins-step steps step some ∙ fit;
  entries_are = entries-step origin heads steps step fit some
      ∙ ap (λ (es : List Listed). entries_of origin heads steps ++ es) (part-next (last_of origin (entries_of origin heads steps)) step [] some low)
      ∙ ap (λ (e : Listed). entries_of origin heads steps ++ e ∷ []) is;
}

-- entry directly behind the last one, of its size
abbrev pub repeated_of : List Listed → Listed
repeated_of entries = next_of (last_of origin entries) (last_of origin entries).size

pub counted : (heads : List Head) (front : List ℕ) (step : ℕ) → begins front ≡ length heads → 2 ^ 31 ≤ step
    → entries_of origin heads (front ++ (step + 1) ∷ [])
    ≡ entries_of origin heads (front ++ step ∷ []) ++ repeated_of (entries_of origin heads (front ++ step ∷ [])) ∷ []
counted heads front step fit high =
    let before : List Listed = entries_of origin heads front in
    let last : Listed = last_of origin before in
    let count : ℕ = step - 2 ^ 31 + 1 in
    let some : 0 < step = omega arith in
    let more : 0 < step + 1 = omega arith in
    let higher : 2 ^ 31 ≤ step + 1 = omega arith in
    let many : step + 1 - 2 ^ 31 + 1 ≡ suc count = omega arith in
    let old : entries_of origin heads (front ++ step ∷ []) ≡ before ++ repeats count last =
    entries-step origin heads front step fit some ∙ ap (λ (es : List Listed). before ++ es) (part-again last step [] high) in
    let now : entries_of origin heads (front ++ (step + 1) ∷ []) ≡ before ++ repeats (suc count) last =
    entries-step origin heads front (step + 1) fit more ∙ ap (λ (es : List Listed). before ++ es) (part-again last (step + 1) [] higher)
    ∙ ap (λ (n : ℕ). before ++ repeats n last) many in
    let behind : before ++ repeats (suc count) last ≡ (before ++ repeats count last) ++ repeated_of (before ++ repeats count last) ∷ [] =
    ap (λ (es : List Listed). before ++ es) (repeats-more count last)
    ∙ sym (append_assoc before (repeats count last) (next_of (last_of last (repeats count last)) (last_of last (repeats count last)).size ∷ []))
    ∙ ap (λ (l : Listed). (before ++ repeats count last) ++ next_of l l.size ∷ []) (sym (last_of-append origin before (repeats count last))) in
    now ∙ behind ∙ ap (λ (es : List Listed). es ++ repeated_of es ∷ []) (sym old)

pub repeated : (heads : List Head) (steps now : List ℕ) (entry : Listed) → begins steps ≡ length heads → Repeats steps now
    → repeated_of (entries_of origin heads steps) ≡ entry
    → Lists heads now (entries_of origin heads steps ++ entry ∷ [])
repeated heads steps now entry fit (inl is) entry_is =
    let last : Listed = last_of origin (entries_of origin heads steps) in
    let some : 0 < 2147483648 = omega arith in
    let high : 2 ^ 31 ≤ 2147483648 = omega arith in
    let one : Lists heads (steps ++ 2147483648 ∷ []) (entries_of origin heads steps ++ entry ∷ []) = record {
      heads_fit = begins-step steps 2147483648 some ∙ fit;
      entries_are = entries-step origin heads steps 2147483648 fit some
          ∙ ap (λ (es : List Listed). entries_of origin heads steps ++ es) (part-again last 2147483648 [] high)
          ∙ ap (λ (e : Listed). entries_of origin heads steps ++ e ∷ []) entry_is;
    } in
    subst (λ (ws : List ℕ). Lists heads ws (entries_of origin heads steps ++ entry ∷ [])) (sym is) one
repeated heads steps now entry fit (inr counts) entry_is =
    let front = counts.front in
    let step = counts.step in
    let some : 0 < step = omega (arith, counts.many) in
    let front_fit : begins front ≡ length heads = sym (begins-step front step some) ∙ ap begins (sym counts.was) ∙ fit in
    let some_more : 0 < step + 1 = omega arith in
    let both : entries_of origin heads (front ++ (step + 1) ∷ []) ≡ entries_of origin heads steps ++ entry ∷ [] =
    counted heads front step front_fit counts.many
    ∙ ap (λ (ws : List ℕ). entries_of origin heads ws ++ repeated_of (entries_of origin heads ws) ∷ []) (sym counts.was)
    ∙ ap (λ (e : Listed). entries_of origin heads steps ++ e ∷ []) entry_is in
    record {
      heads_fit = ap begins counts.is ∙ begins-step front (step + 1) some_more ∙ front_fit;
      entries_are = ap (entries_of origin heads) counts.is ∙ both;
    }

-- ---- the fields of contents

pub kept_below : (heads : List Head) (steps : List ℕ) (last : Listed) → IsKept heads steps last → past last < 2 ^ 32 + 4
kept_below heads steps last kept =
    subst (λ (l : Listed). past l < 2 ^ 32 + 4) (sym kept.last_is) (past-below origin (entries_of origin heads steps) (omega arith) kept.sound.in_order)

pub kept_above : (heads : List Head) (steps : List ℕ) (last : Listed) → IsKept heads steps last → 1028 ≤ past last
kept_above heads steps last kept =
    subst (λ (l : Listed). 1028 ≤ past l) (sym kept.last_is) (past-above origin (entries_of origin heads steps) kept.sound.in_order)

pub gained : (heads : List Head) (steps : List ℕ) (last entry : Listed) (heads_now : List Head) (steps_now : List ℕ) → IsKept heads steps last
    → past last ≤ entry.at → IsLegal entry → Lists heads_now steps_now (entries_of origin heads steps ++ entry ∷ [])
    → Gains heads steps entry heads_now steps_now
gained heads steps last entry heads_now steps_now kept behind legal lists =
    let before : List Listed = entries_of origin heads steps in
    let placed : past (last_of origin before) ≤ entry.at = subst (λ (l : Listed). past l ≤ entry.at) kept.last_is behind in
    let each : AreFrom (past origin) (before ++ entry ∷ []) = AreFrom-append origin before (entry ∷ []) kept.sound.in_order (legal, (placed, tt)) in
    record {
      kept = record {
        sound = record {
          heads_fit = lists.heads_fit;
          in_order = subst (λ (es : List Listed). AreFrom (past origin) es) (sym lists.entries_are) each;
        };
        last_is = sym (last_of-append origin before (entry ∷ [])) ∙ ap (last_of origin) (sym lists.entries_are);
      };
      entries_are = lists.entries_are;
    }

-- a record that can stand behind the entries stands behind the last one
pub stands_behind : (heads : List Head) (steps : List ℕ) (last : Listed) (entries : List Listed) (at size : ℕ) → IsKept heads steps last
    → entries_of origin heads steps ≡ entries → CanStand entries at size → past last ≤ at
stands_behind heads steps last entries at size kept is stand =
    subst (λ (l : Listed). past l ≤ at) (ap (last_of origin) (sym is) ∙ sym kept.last_is) stand.behind

pub can_stand : (heads : List Head) (steps : List ℕ) (last : Listed) (entries : List Listed) (at size : ℕ) → IsKept heads steps last
    → entries_of origin heads steps ≡ entries → 20 ≤ size → size < 2 ^ 31 + 4 → past last ≤ at → at + size < 2 ^ 32 + 4 → CanStand entries at size
can_stand heads steps last entries at size kept is least most behind ends = record {
  least = least;
  most = most;
  behind = subst (λ (l : Listed). past l ≤ at) (kept.last_is ∙ ap (last_of origin) is) behind;
  ends = ends;
}

pub last_past : (heads : List Head) (steps : List ℕ) (last : Listed) (entries : List Listed) → IsKept heads steps last
    → entries_of origin heads steps ≡ entries → past last ≡ past (last_of origin entries)
last_past heads steps last entries kept is = ap past (kept.last_is ∙ ap (last_of origin) is)

pub kept_new : IsKept [] [] origin
unfolding entries_of begins
kept_new = record { sound = record { heads_fit = refl; in_order = tt }; last_is = refl }

pub none_new : entries_of origin [] [] ≡ []
unfolding entries_of
none_new = refl
