-- Files taken from a list, one after another, into a map.
use Rattle.std.proofs.Common.{◌≡◌, ℕ, suc, ◌+◌, ◌<◌, ◌^◌, false, cond, nat_eq, List, [], ◌∷◌, ◌++◌, map, length, take, get_or, None, Some, Vec, Global, sym}
use Rattle.std.proofs.Common.{◌∙◌, ap, refl, Ordering, Less, Equal, Greater, arith, eq-eqb}
use Rattle.std.specs.Ordering.{nat_cmp, eq_by_cmp, is_eq}
use Rattle.std.specs.Cmp.{nat_cmp_total, nat_eq_equiv}
use Rattle.std.specs.List.{IsDistinct, list_any}
use Rattle.std.proofs.lemmas.List.Elements.{All-nil, All-push}
use Rattle.std.specs.FinMap as files
use Rattle.std.specs.FinMap.{find}
use Rattle.std.proofs.lemmas.List.{map_push, take_more, length-map, get_or-map, get_or-take, length-take}
use Rattle.std.proofs.lemmas.Bool.{false≢true}
use Rattle.std.proofs.lemmas.Map.Keys.{apart_from_distinct, IsDistinct-push}
use Rattle.std.specs.BTreeMap.{BTreeMap}
use Rattle.std.specs.BTreeMap as tree
use Rattle.bk_disk.specs.Logs.{files_of, listed, IsListing}
use Rattle.bk_disk.proofs.FileMaps.{files_of-insert}

-- numbers that differ are told apart by their order
untied : (a b : ℕ) → nat_eq a b ≡ false → eq_by_cmp nat_cmp b a ≡ false
untied a b differ = go (nat_cmp b a) refl where
  go : (r : Ordering) → nat_cmp b a ≡ r → is_eq r ≡ false
  go Less e = refl
  go Equal e = absurd (false≢true (sym differ ∙ eq-eqb a b (sym (files.nat_cmp-IsAntisymmetric b a e))))
  go Greater e = refl

-- a key that differs from each is not found
find_none : {X : Type 0} (q : ℕ) (es : List (ℕ × X)) → ((k : ℕ) (d : ℕ × X) → k < length es → eq_by_cmp nat_cmp q (get_or es k d).0 ≡ false)
    → find nat_cmp q es ≡ None
find_none q [] apart = refl
find_none q (e ∷ es) apart =
    ap (λ b. cond b (Some e.1) (find nat_cmp q es)) (apart 0 e (omega arith)) ∙ find_none q es (λ k d low. apart (suc k) d (omega arith))

-- no id stands before its own place
apart_before : {X : Type 0} (found : List (ℕ × X)) (i k : ℕ) (d d' : ℕ × X) → IsDistinct nat_eq (map (λ f. f.0) found) → i < length found
    → k < length (take i found)
    → eq_by_cmp nat_cmp (get_or found i d).0 (get_or (take i found) k d').0 ≡ false
apart_before {X} found i k d d' apart low before =
    let below : k < i = omega (arith, length-take i found) in
    let there : k < length found = omega arith in
    let id : ℕ × X → ℕ = λ f. f.0 in
    let differ = apart_from_distinct nat_eq (map id found) k i 0 apart below (omega (arith, length-map found id)) in
    let first : get_or (map id found) k 0 ≡ (get_or (take i found) k d').0 = get_or-map id found k d' 0 there ∙ ap id (sym (get_or-take i found k d' below)) in
    let second : get_or (map id found) i 0 ≡ (get_or found i d).0 = get_or-map id found i d 0 low in
    untied (get_or (take i found) k d').0 (get_or found i d).0 (ap (λ n. nat_eq n (get_or found i d).0) (sym first)
    ∙ ap (nat_eq (get_or (map id found) k 0)) (sym second) ∙ differ)

-- one file more
pub from_entries_more : {X : Type 0} (found : List (ℕ × X)) (i : ℕ) (d : ℕ × X) → IsDistinct nat_eq (map (λ f. f.0) found) → i < length found
    → files.from_entries {R = nat_cmp} (take (i + 1) found) ≡ files.insert (files.from_entries (take i found)) (get_or found i d).0 (get_or found i d).1
from_entries_more found i d apart low =
    ap (files.from_entries {R = nat_cmp}) (take_more found i d low)
    ∙ files.from_entries_push nat_cmp_total files.nat_cmp-IsAntisymmetric (take i found) (get_or found i d).0 (get_or found i d).1
    (find_none _ (take i found) (λ k d' before. apart_before found i k d d' apart low before))

-- a file of a list, by its id and bytes
listed_at : (found : List (ℕ × Vec ℕ Global)) (i : ℕ) (entry : ℕ × Vec ℕ Global) (d : ℕ × List ℕ) → i < length found → entry ≡ get_or found i entry
    → get_or (listed found) i d ≡ (entry.0, entry.1.items)
listed_at found i entry d low here = get_or-map (λ f. (f.0, f.1.items)) found i entry d low ∙ ap (λ f. (f.0, f.1.items)) (sym here)

length-listed : (found : List (ℕ × Vec ℕ Global)) → length (listed found) ≡ length found
length-listed found = length-map {B = ℕ × List ℕ} found (λ f. (f.0, f.1.items))

pub size_listed : (found : List (ℕ × Vec ℕ Global)) (i : ℕ) (entry : ℕ × Vec ℕ Global) → IsListing (listed found) → i < length found
    → entry ≡ get_or found i entry
    → length entry.1.items < 2 ^ 32
size_listed found i entry listing low here =
    let d : ℕ × List ℕ = (0, []) in
    let size : length (get_or (listed found) i d).1 < 2 ^ 32 = listing.sizes i d (omega (arith, length-listed found)) in
    omega (arith, size, ap (λ f. length f.1) (listed_at found i entry d low here))

pub id_listed : (found : List (ℕ × Vec ℕ Global)) (i : ℕ) (entry : ℕ × Vec ℕ Global) → IsListing (listed found) → i < length found
    → entry ≡ get_or found i entry
    → entry.0 < 2 ^ 31
id_listed found i entry listing low here =
    let d : ℕ × List ℕ = (0, []) in
    let id : (get_or (listed found) i d).0 < 2 ^ 31 = listing.ids i d (omega (arith, length-listed found)) in
    omega (arith, id, ap (λ f. f.0) (listed_at found i entry d low here))

-- one file more of a list
pub one_more_listed : (m n : BTreeMap ℕ (List ℕ)) (found : List (ℕ × Vec ℕ Global)) (i : ℕ) (entry : ℕ × Vec ℕ Global) (file : List ℕ)
    → IsListing (listed found) → i < length found → entry ≡ get_or found i entry → file ≡ entry.1.items
    → files_of m ≡ files.from_entries (take i (listed found)) → tree.Updates nat_cmp m n entry.0 (Some file)
    → files_of n ≡ files.from_entries (take (i + 1) (listed found))
one_more_listed m n found i entry file listing low here bytes so_far updates =
    let d : ℕ × List ℕ = (0, []) in
    let is = listed_at found i entry d low here in
    files_of-insert m n entry.0 file updates
    ∙ ap (λ fs. files.insert fs entry.0 file) so_far
    ∙ ap (files.insert (files.from_entries (take i (listed found))) entry.0) bytes
    ∙ ap (λ (f : ℕ × List ℕ). files.insert (files.from_entries (take i (listed found))) f.0 f.1) (sym is)
    ∙ sym (from_entries_more (listed found) i d listing.apart (omega (arith, length-listed found)))

-- a list without files
pub IsListing-none : IsListing (listed [])
unfolding IsDistinct
IsListing-none = record { apart = tt; ids = All-nil _; sizes = All-nil _ }

-- a file of an id that no other has
pub IsListing-push : (found : List (ℕ × Vec ℕ Global)) (log : ℕ) (file : Vec ℕ Global) → IsListing (listed found) → log < 2 ^ 31 → length file.items < 2 ^ 32
    → list_any (nat_eq log) (map (λ f. f.0) (listed found)) ≡ false → IsListing (listed (found ++ (log, file) ∷ []))
IsListing-push found log file listing low short new =
    rw (map_push {Y = ℕ × List ℕ} (λ f. (f.0, f.1.items)) found (log, file)) (record {
      apart = rw (map_push (λ f. f.0) (listed found) (log, file.items)) (IsDistinct-push nat_eq_equiv (map (λ f. f.0) (listed found)) log listing.apart new);
      ids = All-push (λ f. f.0 < 2 ^ 31) (listed found) (log, file.items) listing.ids low;
      sizes = All-push (λ f. length f.1 < 2 ^ 32) (listed found) (log, file.items) listing.sizes short;
    })
