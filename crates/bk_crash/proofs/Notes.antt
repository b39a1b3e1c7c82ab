-- What is recorded of a log that was looked up, put or removed.
use Rattle.std.proofs.Common.{◌≡◌, ℕ, Bool, true, false, cond, List, map, Option, Some, None, option_map, Vec, Global, MutBor, BTreeMap, refl, sym, ap, ◌∙◌}
use Rattle.std.specs.Ordering.{nat_cmp, eq_by_cmp}
use Rattle.std.specs.Cmp.{nat_cmp_total}
use Rattle.std.specs.Map.{lookup}
use Rattle.std.specs.BTreeMap.{WritesThrough, Updates, is_at}
use Rattle.std.specs.Option.{is_some, option_map_or, option_copied_mut}
use Rattle.std.specs.FinMap as finite
use Rattle.std.specs.FinMap.{get-insert}
use Rattle.bk_record.specs.Files.{Files}
use Rattle.bk_record.proofs.NumberMaps.{get-entries, same_by_get, inserted, removed}
use Rattle.bk_store.proofs.Tables.{lent_at, changed_at}
use Rattle.bk_crash.specs.Noting.{NotedLog, NotedLogs, noted, with_removed}
use Rattle.bk_crash.proofs.Leaving.{get-mapped}

-- A log that was changed through a mutable reference.
pub noted_at : (m n : BTreeMap ℕ NotedLog) (log : ℕ) (r : Option (MutBor NotedLog)) (value : MutBor NotedLog) (change : NotedLog → NotedLog) (now : NotedLog)
    → option_copied_mut r ≡ lookup (is_at (nat_cmp log)) m.entries → r ≡ Some value → WritesThrough nat_cmp (nat_cmp log) m now n → now ≡ change value.now
    → finite.from_entries n.entries ≡ noted change (finite.from_entries m.entries) log
noted_at m n log r value change now lent is writes same =
    let table : NotedLogs = finite.from_entries m.entries in
    let found : finite.get table log ≡ Some value.now = lent_at m table log refl r value lent is in
    changed_at m table log refl n now writes (ap is_some found) ∙ ap (finite.insert table log) same
    ∙ ap (λ o. option_map_or (λ l. finite.insert table log (change l)) o table) (sym found)

-- There is no such log.
pub noted_none : (m n : BTreeMap ℕ NotedLog) (log : ℕ) (r : Option (MutBor NotedLog)) (change : NotedLog → NotedLog) → option_copied_mut r ≡ lookup (is_at (nat_cmp log)) m.entries
    → r ≡ None → n ≡ m → finite.from_entries n.entries ≡ noted change (finite.from_entries m.entries) log
noted_none m n log r change lent none same =
    let table : NotedLogs = finite.from_entries m.entries in
    let gone : finite.get table log ≡ None = get-entries m.entries log ∙ sym lent ∙ ap option_copied_mut none in
    ap (λ (t : BTreeMap ℕ NotedLog). finite.from_entries {R = nat_cmp} t.entries) same ∙ ap (λ o. option_map_or (λ l. finite.insert table log (change l)) o table) (sym gone)

-- A value that was inserted or removed.
pub put_at : {X : Type 0} (m n : BTreeMap ℕ X) (key : ℕ) (value : X) → Updates nat_cmp m n key (Some value)
    → finite.from_entries {R = nat_cmp} n.entries ≡ finite.insert (finite.from_entries m.entries) key value
put_at m n key value updates = inserted m.entries n.entries key value updates.0

pub removed_at : {X : Type 0} (m n : BTreeMap ℕ X) (key : ℕ) → Updates nat_cmp m n key None
    → finite.from_entries {R = nat_cmp} n.entries ≡ finite.remove (finite.from_entries m.entries) key
removed_at m n key updates = removed m.entries n.entries key updates.0

map_cond : {X Y : Type 0} (f : X → Y) (b : Bool) (x : X) (o : Option X) → option_map f (cond b (Some x) o) ≡ cond b (Some (f x)) (option_map f o)
map_cond f true x o = refl
map_cond f false x o = refl

-- A file that was inserted among the removed ones.
pub put_file : (m n : BTreeMap ℕ (Vec ℕ Global)) (key : ℕ) (file : Vec ℕ Global) → Updates nat_cmp m n key (Some file)
    → finite.from_entries {R = nat_cmp} (map (λ e. (e.0, e.1.items)) n.entries)
    ≡ finite.insert (finite.from_entries (map (λ e. (e.0, e.1.items)) m.entries)) key file.items
put_file m n key file updates =
    let items : Vec ℕ Global → List ℕ = λ v. v.items in
    let old = finite.from_entries {R = nat_cmp} m.entries in
    same_by_get _ _ (λ q.
    get-mapped items n.entries q ∙ ap (λ t. option_map items (finite.get t q)) (put_at m n key file updates)
    ∙ ap (option_map items) (get-insert nat_cmp_total old key file q) ∙ map_cond items (eq_by_cmp nat_cmp q key) file (finite.get old q)
    ∙ ap (cond (eq_by_cmp nat_cmp q key) (Some file.items)) (sym (get-mapped items m.entries q))
    ∙ sym (get-insert nat_cmp_total (finite.from_entries (map (λ e. (e.0, e.1.items)) m.entries)) key file.items q))

-- A log that was removed, and whose file is now among the removed ones.
pub with_it : (gone : Files) (logs : NotedLogs) (key : ℕ) (log : NotedLog) → finite.get logs key ≡ Some log
    → finite.insert gone key log.bytes ≡ with_removed gone key (finite.get logs key)
with_it gone logs key log there = ap (with_removed gone key) (sym there)

-- There was no such log.
pub without_it : (gone : Files) (logs : NotedLogs) (key : ℕ) → finite.get logs key ≡ None → gone ≡ with_removed gone key (finite.get logs key)
without_it gone logs key none = ap (with_removed gone key) (sym none)
