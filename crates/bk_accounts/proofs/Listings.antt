-- The list of all rooms after each change of the accounts and of the list.
use Rattle.std.proofs.Common.{◌≡◌, ℕ, ◌+◌, ◌<◌, ◌≤◌, Bool, true, false, cond, not, ◌==◌, ◌&&◌, ◌||◌, eqb-true, eq-eqb, if◌then◌else◌, List, [], Some, None}
use Rattle.std.proofs.Common.{Option, IfSome, is_some, nat_cmp, refl, sym, ap, subst, ◌∙◌, arith, BTreeMap, slice_get}
use mathlib.Core.Bool.{false≢true}
use Rattle.std.specs.declared.cmp.Ordering.{Ordering}
use Rattle.std.specs.declared.cmp.Ordering.TheVariants.{Less, Equal, Greater}
use Rattle.std.specs.declared.ops.Bound.TheVariants.{Included, Unbounded}
use Rattle.std.specs.Ordering.{ordering_then, is_eq, is_gt}
use Rattle.std.specs.Cmp.{nat_cmp_total, eq_by_cmp_equiv, tied_itself, unsigned_tied}
use Rattle.std.specs.List.{list_any}
use Rattle.std.specs.BTreeMap.{WritesThrough, is_at}
use Rattle.std.specs.BTreeMap.Range.{IsLeBy}
use Rattle.std.specs.BTreeSet.{BTreeSet, contains, Updates, IsKeyInRange, IsKeyRangeOf}
use Rattle.std.specs.Map.{lookup}
use Rattle.std.specs.Option.{option_map, option_map_or}
use Rattle.std.specs.FinMap.{get, from_entries, get-insert, get-remove, get-empty}
use Rattle.std.proofs.lemmas.Bool.{false_from_ne_true}
use Rattle.std.proofs.lemmas.Cmp.{ranked}
use Rattle.bk_accounts.specs.Account.{Account, has_room, fresh, with_room, without_size}
use Rattle.bk_accounts.specs.Book.{Book, IsNotOpen, is_ready, book_with, after_open, after_ready, after_forget, after_drop}
use Rattle.bk_accounts.specs.Listed.{room_cmp, AreListedRooms}
use Rattle.bk_accounts.proofs.LogAccounts.{account_of}
use Rattle.bk_accounts.proofs.Maps.{get-entries, same_by_get, none_is}
use Rattle.bk_accounts.proofs.Rooms.{room-with_room, room-without_size}
use Rattle.bk_accounts.proofs.ValueSums.{kept_absent, get-removed}
use Rattle.bk_accounts.proofs.Books.{changed_through, get-changed, get-after_forget}

both_eq : (r s : Ordering) → is_eq (ordering_then r s) ≡ (is_eq r && is_eq s)
both_eq Less s = refl
both_eq Equal s = refl
both_eq Greater s = refl

pub swapped : (a b : ℕ) → (a == b) ≡ (b == a)
swapped a b = sym (unsigned_tied a b) ∙ (eq_by_cmp_equiv nat_cmp_total).symm a b ∙ unsigned_tied b a

-- two rooms are equal if both ids are
same_room : (ledger log l g : ℕ) → is_eq (room_cmp (ledger, log) (l, g)) ≡ (ledger == l && g == log)
same_room ledger log l g =
    both_eq (nat_cmp ledger l) (nat_cmp log g) ∙ ap (λ b. b && is_eq (nat_cmp log g)) (unsigned_tied ledger l)
    ∙ ap (λ b. ledger == l && b) (unsigned_tied log g ∙ swapped log g)

-- the list after one room was added or removed
listed_after : (rooms new : BTreeSet (ℕ × ℕ)) (ledger log : ℕ) (b : Bool) → Updates room_cmp rooms new (ledger, log) b
    → (l g : ℕ) → contains room_cmp new (l, g) ≡ cond (ledger == l && g == log) b (contains room_cmp rooms (l, g))
listed_after rooms new ledger log b updates l g =
    updates.0 (l, g) ∙ ap (λ here. cond here b (contains room_cmp rooms (l, g))) (same_room ledger log l g)

-- rooms of other logs are unaffected
elsewhere : (a v x : Bool) → cond (a && false) v x ≡ x
elsewhere true v x = refl
elsewhere false v x = refl

came : (a x : Bool) → cond (a && true) true x ≡ (x || a)
came true true = refl
came true false = refl
came false true = refl
came false false = refl

went : (a x : Bool) → cond (a && true) false x ≡ (x && not a)
went true true = refl
went true false = refl
went false true = refl
went false false = refl

-- rooms of a log after one log's account is changed
ready-changed : (book : Book) (log g l : ℕ) (change : Account → Account)
    → is_ready (book_with book log change) g l ≡ option_map_or (λ a. has_room (if g == log then change a else a) l) (get book g) false
ready-changed book log g l change = ap (λ o. option_map_or (λ a. has_room a l) o false) (get-changed book log g change) ∙ mapped (get book g)
  where
    mapped : (o : Option Account) → option_map_or (λ a. has_room a l) (option_map (λ a. if g == log then change a else a) o) false
        ≡ option_map_or (λ a. has_room (if g == log then change a else a) l) o false
    mapped None = refl
    mapped (Some a) = refl

-- no rooms are listed if no log is open
pub listed_none : (m : BTreeMap ℕ Account) (rooms : BTreeSet (ℕ × ℕ)) → m.entries ≡ [] → rooms.keys ≡ [] → AreListedRooms (from_entries m.entries) rooms
listed_none m rooms no_logs no_rooms log ledger =
    ap (list_any (is_at (room_cmp (ledger, log)))) no_rooms
    ∙ sym (ap (λ o. option_map_or (λ a. has_room a ledger) o false) (get-entries m.entries log ∙ ap (lookup (is_at (nat_cmp log))) no_logs))

-- a newly opened log has no room
pub listed_opened : (book : Book) (rooms : BTreeSet (ℕ × ℕ)) (log : ℕ) → AreListedRooms book rooms → IsNotOpen book log → AreListedRooms (after_open book log) rooms
listed_opened book rooms log listed closed g l =
    listed g l
    ∙ elim (g == log) as (λ b. (g == log) ≡ b → is_ready book g l ≡ option_map_or (λ a. has_room a l) (cond b (Some fresh) (get book g)) false) [
      | true ↦ λ here.
          ap (λ o. option_map_or (λ a. has_room a l) o false) (ap (get book) (eqb-true g log here) ∙ none_is _ closed)
          ∙ sym (ap is_some (get-empty nat_cmp l))
      | false ↦ λ _. refl
    ] refl
    ∙ sym (ap (λ o. option_map_or (λ a. has_room a l) o false)
    (get-insert nat_cmp_total book log fresh g ∙ ap (λ b. cond b (Some fresh) (get book g)) (unsigned_tied g log)))

-- an account that is changed in place and keeps its rooms
pub listed_through : (m n : BTreeMap ℕ Account) (rooms : BTreeSet (ℕ × ℕ)) (log : ℕ) (account new : Account) (change : Account → Account)
    → AreListedRooms (from_entries m.entries) rooms → get (from_entries {R = nat_cmp} m.entries) log ≡ Some account → WritesThrough nat_cmp (nat_cmp log) m new n
    → new ≡ change account → ((l : ℕ) → has_room (change account) l ≡ has_room account l) → AreListedRooms (from_entries n.entries) rooms
listed_through m n rooms log account new change listed found writes new_is same =
    subst (λ b. AreListedRooms b rooms) (sym (changed_through m n book log account new change refl found writes new_is)) after
  where
    book : Book
    book = from_entries m.entries

    after : AreListedRooms (book_with book log change) rooms
    after g l = listed g l
        ∙ elim (g == log)
        as (λ b. (g == log) ≡ b → is_ready book g l ≡ option_map_or (λ a. has_room (if b then change a else a) l) (get book g) false) [
          | true ↦ λ here.
              let is = ap (get book) (eqb-true g log here) ∙ found in
              ap (λ o. option_map_or (λ a. has_room a l) o false) is ∙ sym (same l) ∙ sym (ap (λ o. option_map_or (λ a. has_room (change a) l) o false) is)
          | false ↦ λ _. refl
        ] refl
        ∙ sym (ready-changed book log g l change)

-- the same rooms
pub listed_same : (book : Book) (rooms new : BTreeSet (ℕ × ℕ)) → AreListedRooms book rooms → new.keys ≡ rooms.keys → AreListedRooms book new
listed_same book rooms new listed same log ledger = ap (list_any (is_at (room_cmp (ledger, log)))) same ∙ listed log ledger

-- one more room
pub listed_room : (book : Book) (rooms new : BTreeSet (ℕ × ℕ)) (log ledger : ℕ) (account : Account) → AreListedRooms book rooms → get book log ≡ Some account
    → Updates room_cmp rooms new (ledger, log) true → AreListedRooms (after_ready book log ledger) new
listed_room book rooms new log ledger account listed found updates g l =
    listed_after rooms new ledger log true updates l g ∙ ap (cond (ledger == l && g == log) true) (listed g l)
    ∙ elim (g == log)
    as (λ b. (g == log) ≡ b → cond (ledger == l && b) true (is_ready book g l)
    ≡ option_map_or (λ a. has_room (if b then with_room ledger a else a) l) (get book g) false) [
      | true ↦ λ here.
          let is = ap (get book) (eqb-true g log here) ∙ found in
          ap (λ o. cond (ledger == l && true) true (option_map_or (λ a. has_room a l) o false)) is ∙ came (ledger == l) (has_room account l)
          ∙ ap (λ b. has_room account l || b) (swapped ledger l) ∙ sym (room-with_room account ledger l)
          ∙ sym (ap (λ o. option_map_or (λ a. has_room (with_room ledger a) l) o false) is)
      | false ↦ λ _. elsewhere (ledger == l) true (is_ready book g l)
    ] refl
    ∙ sym (ready-changed book log g l (with_room ledger))

-- one room fewer
pub listed_forget : (book : Book) (rooms new : BTreeSet (ℕ × ℕ)) (log ledger : ℕ) → AreListedRooms book rooms
    → Updates room_cmp rooms new (ledger, log) false → AreListedRooms (book_with book log (without_size ledger)) new
listed_forget book rooms new log ledger listed updates g l =
    listed_after rooms new ledger log false updates l g ∙ ap (cond (ledger == l && g == log) false) (listed g l)
    ∙ elim (g == log)
    as (λ b. cond (ledger == l && b) false (is_ready book g l)
    ≡ option_map_or (λ a. has_room (if b then without_size ledger a else a) l) (get book g) false)
    [ true ↦ gone (get book g) | false ↦ elsewhere (ledger == l) false (is_ready book g l) ]
    ∙ sym (ready-changed book log g l (without_size ledger))
  where
    gone : (o : Option Account) → cond (ledger == l && true) false (option_map_or (λ a. has_room a l) o false)
        ≡ option_map_or (λ a. has_room (without_size ledger a) l) o false
    gone None = went (ledger == l) false
    gone (Some a) = went (ledger == l) (has_room a l) ∙ sym (room-without_size a ledger l)

-- a room that is added and removed again
pub listed_again : (book : Book) (rooms more new : BTreeSet (ℕ × ℕ)) (log ledger : ℕ) → AreListedRooms book rooms → is_ready book log ledger ≡ false
    → Updates room_cmp rooms more (ledger, log) true → Updates room_cmp more new (ledger, log) false → AreListedRooms book new
listed_again book rooms more new log ledger listed absent comes goes g l =
    listed_after more new ledger log false goes l g ∙ ap (cond (ledger == l && g == log) false) (listed_after rooms more ledger log true comes l g)
    ∙ elim (ledger == l)
    as (λ a. (ledger == l) ≡ a → cond (a && g == log) false (cond (a && g == log) true (contains room_cmp rooms (l, g))) ≡ is_ready book g l) [
      | true ↦ λ own. elim (g == log)
          as (λ b. (g == log) ≡ b → cond b false (cond b true (contains room_cmp rooms (l, g))) ≡ is_ready book g l) [
            | true ↦ λ here. sym absent ∙ ap (is_ready book log) (eqb-true ledger l own) ∙ ap (λ n. is_ready book n l) (sym (eqb-true g log here))
            | false ↦ λ _. listed g l
          ] refl
      | false ↦ λ _. listed g l
    ] refl

-- The account of a log is removed from the book, and its rooms are still listed.
abbrev pub AreLeft : Book → ℕ → Account → BTreeSet (ℕ × ℕ) → Type 0
AreLeft rest log account rooms = (g l : ℕ) → contains room_cmp rooms (l, g) ≡ (if g == log then has_room account l else is_ready rest g l)

ready-dropped : (book : Book) (log g l : ℕ) → is_ready (after_drop book log) g l ≡ (if g == log then false else is_ready book g l)
ready-dropped book log g l =
    ap (λ o. option_map_or (λ a. has_room a l) o false) (get-remove nat_cmp_total book log g ∙ ap (λ b. cond b None (get book g)) (unsigned_tied g log))
    ∙ elim (g == log) as (λ b. option_map_or (λ a. has_room a l) (cond b None (get book g)) false ≡ (if b then false else is_ready book g l))
    [ true ↦ refl | false ↦ refl ]

pub left_first : (book : Book) (log : ℕ) (account : Account) (rooms : BTreeSet (ℕ × ℕ)) → AreListedRooms book rooms → get book log ≡ Some account
    → AreLeft (after_drop book log) log account rooms
left_first book log account rooms listed found g l =
    listed g l
    ∙ elim (g == log)
    as (λ b. (g == log) ≡ b → is_ready book g l ≡ (if b then has_room account l else if b then false else is_ready book g l)) [
      | true ↦ λ here. ap (λ o. option_map_or (λ a. has_room a l) o false) (ap (get book) (eqb-true g log here) ∙ found)
      | false ↦ λ _. refl
    ] refl
    ∙ ap (λ r. if g == log then has_room account l else r) (sym (ready-dropped book log g l))

pub left_less : (rest : Book) (log ledger : ℕ) (account : Account) (rooms new : BTreeSet (ℕ × ℕ)) → AreLeft rest log account rooms
    → Updates room_cmp rooms new (ledger, log) false → AreLeft rest log (without_size ledger account) new
left_less rest log ledger account rooms new left updates g l =
    listed_after rooms new ledger log false updates l g ∙ ap (cond (ledger == l && g == log) false) (left g l)
    ∙ elim (g == log)
    as (λ b. cond (ledger == l && b) false (if b then has_room account l else is_ready rest g l)
    ≡ (if b then has_room (without_size ledger account) l else is_ready rest g l)) [
      | true ↦ went (ledger == l) (has_room account l) ∙ sym (room-without_size account ledger l)
      | false ↦ elsewhere (ledger == l) false (is_ready rest g l)
    ]

pub left_none : (book : Book) (log : ℕ) (account : Account) (rooms : BTreeSet (ℕ × ℕ)) → AreLeft (after_drop book log) log account rooms
    → ((l : ℕ) → has_room account l ≡ false) → AreListedRooms (after_drop book log) rooms
left_none book log account rooms left none g l =
    left g l
    ∙ ap (λ r. if g == log then has_room account l else r) (ready-dropped book log g l)
    ∙ elim (g == log)
    as (λ b. (if b then has_room account l else if b then false else is_ready book g l) ≡ (if b then false else is_ready book g l))
    [ true ↦ none l | false ↦ refl ]
    ∙ sym (ready-dropped book log g l)

-- such a room is listed
pub left_there : (rest : Book) (log ledger : ℕ) (account : Account) (rooms : BTreeSet (ℕ × ℕ)) → AreLeft rest log account rooms
    → has_room account ledger ≡ true → contains room_cmp rooms (ledger, log) ≡ true
left_there rest log ledger account rooms left there =
    left log ledger ∙ ap (λ b. if b then has_room account ledger else is_ready rest log ledger) (eq-eqb log log refl) ∙ there

-- an account without room for a ledger has no bytes of it
nothing_of : (account : Account) (ledger : ℕ) → get account.live ledger ≡ None → without_size ledger account ≡ account
nothing_of account ledger none =
    ap (account_of account.total account.named) (same_by_get _ _ (λ q. kept_absent account.live ledger q none))

-- if no log has room for the ledger, `forget` changes nothing
pub unready-forget : (book : Book) (ledger : ℕ) → ((log : ℕ) → is_ready book log ledger ≡ false) → after_forget book ledger ≡ book
unready-forget book ledger none = same_by_get _ _ (λ log. get-after_forget book ledger log ∙ same (get book log) (none log))
  where
    same : (o : Option Account) → option_map_or (λ a. has_room a ledger) o false ≡ false → option_map (without_size ledger) o ≡ o
    same None is = refl
    same (Some a) is = ap Some (nothing_of a ledger (none_is _ is))

-- forgetting a ledger in one log, then in all
pub forget-one : (book : Book) (log ledger : ℕ) → after_forget (book_with book log (without_size ledger)) ledger ≡ after_forget book ledger
forget-one book log ledger = same_by_get _ _ (λ g.
    get-after_forget (book_with book log (without_size ledger)) ledger g
    ∙ ap (option_map (without_size ledger)) (get-changed book log g (without_size ledger)) ∙ twice (get book g) (g == log)
    ∙ sym (get-after_forget book ledger g))
  where
    twice : (o : Option Account) (b : Bool)
        → option_map (without_size ledger) (option_map (λ a. if b then without_size ledger a else a) o) ≡ option_map (without_size ledger) o
    twice None b = refl
    twice (Some a) true = ap Some (nothing_of (without_size ledger a) ledger (get-removed a.live ledger))
    twice (Some a) false = refl

-- a room of the ledger is removed, and the ledger is forgotten in that log
pub forgotten_one : (book new initial : Book) (rooms less : BTreeSet (ℕ × ℕ)) (log ledger : ℕ) → AreListedRooms book rooms
    → after_forget book ledger ≡ after_forget initial ledger → Updates room_cmp rooms less (ledger, log) false → new ≡ book_with book log (without_size ledger)
    → AreListedRooms new less × (after_forget new ledger ≡ after_forget initial ledger)
forgotten_one book new initial rooms less log ledger listed same updates is = (
  subst (λ b. AreListedRooms b less) (sym is) (listed_forget book rooms less log ledger listed updates),
  ap (λ b. after_forget b ledger) is ∙ forget-one book log ledger ∙ same,
)

-- removing a listed room lowers their number
pub one_less : (taken : Bool) (now before : ℕ) → now + (if taken then 1 else 0) ≡ before → taken ≡ true → now < before
one_less true now before len is = omega (arith, len)
one_less false now before len is = absurd (false≢true is)

-- no room of a ledger is before its least one
pub from_least : (ledger log : ℕ) → is_gt (room_cmp (ledger, 0) (ledger, log)) ≡ false
from_least ledger log =
    ap (λ r. is_gt (ordering_then r (nat_cmp 0 log))) (tied_itself nat_cmp_total ledger)
    ∙ elim (nat_cmp 0 log) as (λ r. r ≡ nat_cmp 0 log → is_gt r ≡ false) [
      | Less ↦ λ _. refl
      | Equal ↦ λ _. refl
      | Greater ↦ λ past. let below : log < 0 = ranked 0 log Greater past in absurd (omega arith)
    ] refl

-- of two rooms in order the first has no greater ledger
ledger-le : (a b : ℕ × ℕ) → is_gt (room_cmp a b) ≡ false → a.0 ≤ b.0
ledger-le a b in_order =
    elim (nat_cmp a.0 b.0) as (λ r. r ≡ nat_cmp a.0 b.0 → is_gt (ordering_then r (nat_cmp a.1 b.1)) ≡ false → a.0 ≤ b.0) [
      | Less ↦ λ is _. let below : a.0 < b.0 = ranked a.0 b.0 Less is in omega arith
      | Equal ↦ λ is _. let same : a.0 ≡ b.0 = ranked a.0 b.0 Equal is in omega arith
      | Greater ↦ λ _ past. absurd (false≢true (sym past))
    ] refl in_order

-- if the first room from the ledger's least on is of another ledger, this ledger has none
pub other_first : (rooms : BTreeSet (ℕ × ℕ)) (found : List (ℕ × ℕ)) (first : ℕ × ℕ) (ledger : ℕ)
    → IsKeyRangeOf room_cmp (Included (ledger, 0)) Unbounded rooms found → slice_get found 0 ≡ Some first → (first.0 ≡ ledger → ⊥)
    → (log : ℕ) → contains room_cmp rooms (ledger, log) ≡ false
other_first rooms found first ledger range at other log = false_from_ne_true _ (λ there.
    let low : IsKeyInRange room_cmp (Included (ledger, 0)) Unbounded rooms first =
    subst (λ o. IfSome o (IsKeyInRange room_cmp (Included (ledger, 0)) Unbounded rooms)) at range.1 in
    let high : IsLeBy room_cmp first (ledger, log) =
    subst (λ o. IfSome o (λ k. IsLeBy room_cmp k (ledger, log))) at (range.2 (ledger, log) (from_least ledger log, tt) there) in
    let above : ledger ≤ first.0 = ledger-le (ledger, 0) first low.0.0 in
    let below : first.0 ≤ ledger = ledger-le first (ledger, log) high in
    other (omega (arith, above, below)))
