-- Sums of record sizes by ledger, run by run.
use Rattle.std.proofs.Common.{◌≡◌, ◌↔◌, ◌&&◌, ℕ, zero, suc, ◌+◌, ◌^◌, ◌<◌, ◌≤◌, Bool, true, false, cond, eqb, List, [], ◌∷◌, ◌++◌, Option, Some, None, Ordering, Less, Equal, Greater, unwrap_or, refl, sym, ap, subst, ◌∙◌, arith}
use Rattle.std.specs.BTreeMap as tree
use Rattle.std.specs.BTreeMap.{BTreeMap, is_at}
use Rattle.std.specs.Map.{lookup}
use Rattle.std.specs.Ordering.{nat_cmp, is_eq}
use Rattle.std.specs.Cmp.{nat_cmp_is, nat_cmp_total}
use Rattle.std.specs.Cmp.Lexicographic.{pointwise}
use Rattle.std.proofs.lemmas.Bool.{ne_eqb, eq-eqb, eqb-true}
use Rattle.std.proofs.lemmas.Map.Lookups.{exact_unsigned, btree_map_from_get}
use Rattle.bk_hint.specs.declared.listed.Listed.{Listed}
use Rattle.bk_hint.specs.declared.runs.ListedRun.{ListedRun}
use Rattle.bk_hint.specs.Entries.{past, origin, next_of, repeats, AreFrom, bytes_of}
use Rattle.bk_hint.specs.Runs.{entries_of_run, entries_of_runs}
use Rattle.bk_hint.specs.Sums.{bytes_in, summed_at, sum_of, IsSumAdded, IsMapOf}
use Rattle.bk_hint.proofs.Counts.{bytes_below}
use Rattle.bk_hint.proofs.Runwise.{LegalRuns, legal_first}

-- ---- the order of numbers

equal_of : (r : Ordering) → is_eq r ≡ true → r ≡ Equal
equal_of Less is = absurd cc
equal_of Equal is = refl
equal_of Greater is = absurd cc

at_true : (k q : ℕ) → is_at (nat_cmp k) q ≡ true → k ≡ q
at_true k q is = exact_unsigned k q (equal_of (nat_cmp k q) is)

at_same : (k q : ℕ) → k ≡ q → is_at (nat_cmp k) q ≡ true
at_same k q is = ap is_eq (sym (nat_cmp_is k q Equal is))

at_is : (k q : ℕ) (b : Bool) → is_at (nat_cmp k) q ≡ b → eqb k q ≡ b
at_is k q true is = eq-eqb k q (at_true k q is)
at_is k q false is = ne_eqb k q (λ same. let t : false ≡ true = sym is ∙ at_same k q same in absurd cc)

part_le : (b : Bool) (size : ℕ) → cond b size 0 ≤ size
part_le true size = omega arith
part_le false size = omega arith

-- ---- the sums so far

pub record Adds (sums : BTreeMap ℕ ℕ) (rest all : List Listed) : Type 0 where
  pub gets : (ledger : ℕ) → tree.get nat_cmp sums ledger ≡ sum_of (summed_at sums ledger)
  pub adds : (ledger : ℕ) → summed_at sums ledger + bytes_in rest ledger ≡ bytes_in all ledger

pub adds_start : (sums : BTreeMap ℕ ℕ) (all : List Listed) → sums.entries ≡ [] → Adds sums all all
adds_start sums all none =
    let empty : (ledger : ℕ) → tree.get nat_cmp sums ledger ≡ None = λ ledger. ap (lookup (is_at (nat_cmp ledger))) none in
    record {
      gets = λ ledger. empty ledger ∙ ap (λ (o : Option ℕ). sum_of (unwrap_or o 0)) (sym (empty ledger));
      adds = λ ledger. let zero_at : summed_at sums ledger ≡ 0 = ap (λ (o : Option ℕ). unwrap_or o 0) (empty ledger) in omega arith;
    }

some_sum : (bytes : ℕ) → 0 < bytes → sum_of bytes ≡ Some bytes
some_sum zero some = absurd (omega arith)
some_sum (suc bytes) some = refl

-- ---- one run more

-- the bytes of a run are those of its ledger
pub record IsRunOf (owner bytes : ℕ) (rest next : List Listed) : Type 0 where
  pub some : 0 < bytes
  pub parts : (ledger : ℕ) → bytes_in rest ledger ≡ cond (eqb owner ledger) bytes 0 + bytes_in next ledger

part_sum : (b : Bool) (first rest : ℕ) → cond b first 0 + cond b rest 0 ≡ cond b (first + rest) 0
part_sum true first rest = refl
part_sum false first rest = refl

bytes_in-repeats : (count : ℕ) (last : Listed) (next : List Listed) (ledger : ℕ)
    → bytes_in (repeats count last ++ next) ledger ≡ cond (eqb last.key.ledger ledger) (bytes_of (repeats count last)) 0 + bytes_in next ledger
bytes_in-repeats zero last next ledger =
    let none = part_le (eqb last.key.ledger ledger) 0 in
    omega arith
bytes_in-repeats (suc count) last next ledger =
    let rest = bytes_in-repeats count (next_of last last.size) next ledger in
    let sum = part_sum (eqb last.key.ledger ledger) last.size (bytes_of (repeats count (next_of last last.size))) in
    omega arith

pub run_sums : (runs others : List ListedRun) (run : ListedRun) → runs ≡ run ∷ others → LegalRuns runs
    → IsRunOf run.first.key.ledger (bytes_of (entries_of_run run)) (entries_of_runs runs) (entries_of_runs others)
run_sums runs others run is left =
    let behind : List Listed = entries_of_runs others in
    let legal = (legal_first runs others run is left) in
    let whole : entries_of_runs runs ≡ run.first ∷ (repeats run.again run.first ++ behind) = ap entries_of_runs is in
    record {
      some = omega (arith, legal.least);
      parts = λ ledger.
          let all : bytes_in (entries_of_runs runs) ledger ≡ bytes_in (run.first ∷ (repeats run.again run.first ++ behind)) ledger =
          ap (λ (es : List Listed). bytes_in es ledger) whole in
          let rest = bytes_in-repeats run.again run.first behind ledger in
          let sum = part_sum (eqb run.first.key.ledger ledger) run.first.size (bytes_of (repeats run.again run.first)) in
          omega arith;
    }

-- one ledger after one run more
record AddsAt (now : BTreeMap ℕ ℕ) (next all : List Listed) (ledger : ℕ) : Type 0 where
  gets : tree.get nat_cmp now ledger ≡ sum_of (summed_at now ledger)
  adds : summed_at now ledger + bytes_in next ledger ≡ bytes_in all ledger

adds_at : (sums now : BTreeMap ℕ ℕ) (rest next all : List Listed) (owner bytes total ledger : ℕ) (b : Bool) → is_at (nat_cmp owner) ledger ≡ b
    → Adds sums rest all → IsRunOf owner bytes rest next → total ≡ summed_at sums owner + bytes
    → tree.get nat_cmp now ledger ≡ cond b (Some total) (tree.get nat_cmp sums ledger) → AddsAt now next all ledger
adds_at sums now rest next all owner bytes total ledger true at so_far run total_is got =
    let same : owner ≡ ledger = at_true owner ledger at in
    let here : eqb owner ledger ≡ true = at_is owner ledger true at in
    let size : summed_at now ledger ≡ total = ap (λ (o : Option ℕ). unwrap_or o 0) got in
    let part : (cond (eqb owner ledger) bytes 0) ≡ bytes = ap (λ (t : Bool). cond t bytes 0) here in
    let before : summed_at sums owner ≡ summed_at sums ledger = ap (summed_at sums) same in
    let adds = so_far.adds ledger in
    let parts = run.parts ledger in
    let some = run.some in
    let whole : 0 < total = omega arith in
    record {
      gets = got ∙ sym (some_sum total whole) ∙ ap sum_of (sym size);
      adds = omega arith;
    }
adds_at sums now rest next all owner bytes total ledger false at so_far run total_is got =
    let here : eqb owner ledger ≡ false = at_is owner ledger false at in
    let size : summed_at now ledger ≡ summed_at sums ledger = ap (λ (o : Option ℕ). unwrap_or o 0) got in
    let part : (cond (eqb owner ledger) bytes 0) ≡ 0 = ap (λ (t : Bool). cond t bytes 0) here in
    let adds = so_far.adds ledger in
    let parts = run.parts ledger in
    record {
      gets = got ∙ so_far.gets ledger ∙ ap sum_of (sym size);
      adds = omega arith;
    }

pub adds_more : (sums now : BTreeMap ℕ ℕ) (rest next all : List Listed) (owner bytes : ℕ) → IsRunOf owner bytes rest next → Adds sums rest all
    → IsSumAdded sums now owner bytes → Adds now next all
adds_more sums now rest next all owner bytes run so_far added =
    let each : (ledger : ℕ) → AddsAt now next all ledger =
    λ ledger.
    adds_at sums now rest next all owner bytes (summed_at sums owner + bytes) ledger (is_at (nat_cmp owner) ledger) refl so_far run refl (added ledger) in
    record { gets = λ ledger. (each ledger).gets; adds = λ ledger. (each ledger).adds }

pub adds_end : (sums : BTreeMap ℕ ℕ) (rest all : List Listed) → rest ≡ [] → Adds sums rest all
    → (ledger : ℕ) → tree.get nat_cmp sums ledger ≡ sum_of (bytes_in all ledger)
adds_end sums rest all none so_far ledger =
    let here : Adds sums [] all = subst (λ (es : List Listed). Adds sums es all) none so_far in
    let adds = here.adds ledger in
    let same : summed_at sums ledger ≡ bytes_in all ledger = omega arith in
    here.gets ledger ∙ ap sum_of same

-- ---- no sum is too great

bytes_in-le : (entries : List Listed) (ledger : ℕ) → bytes_in entries ledger ≤ bytes_of entries
bytes_in-le [] ledger = omega arith
bytes_in-le (entry ∷ entries) ledger =
    let rest = bytes_in-le entries ledger in
    let part = part_le (eqb entry.key.ledger ledger) entry.size in
    omega arith

pub total_below : (sums : BTreeMap ℕ ℕ) (rest next all : List Listed) (owner bytes : ℕ) → Adds sums rest all → IsRunOf owner bytes rest next
    → AreFrom (past origin) all → summed_at sums owner + bytes < 2 ^ 32 + 4
total_below sums rest next all owner bytes so_far run each =
    let adds = so_far.adds owner in
    let here : eqb owner owner ≡ true = eq-eqb owner owner refl in
    let part : (cond (eqb owner owner) bytes 0) ≡ bytes = ap (λ (t : Bool). cond t bytes 0) here in
    let parts = run.parts owner in
    let below = bytes_below all each in
    let most = bytes_in-le all owner in
    omega arith

-- ---- two maps

both_true : (a b : Bool) → (a && b) ≡ true → (a ≡ true) × (b ≡ true)
both_true true true is = (refl, refl)
both_true true false is = absurd cc
both_true false b is = absurd cc

abbrev pub same_pair : ℕ × ℕ → ℕ × ℕ → Bool
same_pair p q = eqb p.0 q.0 && eqb p.1 q.1

pub same_pairs : (xs ys : List (ℕ × ℕ)) → pointwise same_pair xs ys ≡ true → xs ≡ ys
same_pairs [] [] is = refl
same_pairs [] (y ∷ ys) is = absurd cc
same_pairs (x ∷ xs) [] is = absurd cc
same_pairs (x ∷ xs) (y ∷ ys) is =
    let parts = both_true (same_pair x y) (pointwise same_pair xs ys) is in
    let pair = both_true (eqb x.0 y.0) (eqb x.1 y.1) parts.0 in
    let first : x.0 ≡ y.0 = eqb-true x.0 y.0 pair.0 in
    let second : x.1 ≡ y.1 = eqb-true x.1 y.1 pair.1 in
    let rest = same_pairs xs ys parts.1 in
    λ i. (first i, second i) ∷ rest i

pub same_lists : (xs : List (ℕ × ℕ)) → pointwise same_pair xs xs ≡ true
same_lists [] = refl
same_lists (x ∷ xs) = rw (eq-eqb x.0 x.0 refl, eq-eqb x.1 x.1 refl) (same_lists xs)

pub same_entries : (sums map : BTreeMap ℕ ℕ) (all : List Listed) → tree.IsOrdered nat_cmp sums → tree.IsOrdered nat_cmp map
    → ((ledger : ℕ) → tree.get nat_cmp sums ledger ≡ sum_of (bytes_in all ledger)) → IsMapOf all map → sums.entries ≡ map.entries
same_entries sums map all sums_ordered map_ordered sums_are map_is =
    btree_map_from_get nat_cmp_total sums map sums_ordered map_ordered (λ ledger. sums_are ledger ∙ sym (map_is ledger)) exact_unsigned

pub same_map : (sums map : BTreeMap ℕ ℕ) (all : List Listed) → ((ledger : ℕ) → tree.get nat_cmp sums ledger ≡ sum_of (bytes_in all ledger))
    → sums.entries ≡ map.entries → IsMapOf all map
same_map sums map all sums_are is = λ ledger. ap (lookup (is_at (nat_cmp ledger))) (sym is) ∙ sums_are ledger

pub map_decides : (sums map : BTreeMap ℕ ℕ) (all : List Listed) (same : Bool) → tree.IsOrdered nat_cmp sums → tree.IsOrdered nat_cmp map
    → ((ledger : ℕ) → tree.get nat_cmp sums ledger ≡ sum_of (bytes_in all ledger)) → same ≡ pointwise same_pair sums.entries map.entries
    → (same ≡ true) ↔ IsMapOf all map
map_decides sums map all same sums_ordered map_ordered sums_are same_is = (
  λ yes. same_map sums map all sums_are (same_pairs sums.entries map.entries (sym same_is ∙ yes)),
  λ fits.
      let entries = same_entries sums map all sums_ordered map_ordered sums_are fits in
      same_is ∙ ap (pointwise same_pair sums.entries) (sym entries) ∙ same_lists sums.entries,
)
