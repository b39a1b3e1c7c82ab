-- The map that a trail replays to has just the entries that came in and whose ledgers were not
-- deleted.
use Rattle.std.proofs.Common.{◌≡◌, inl, inr, ℕ, zero, suc, List, [], ◌∷◌, Option, Some, None, true, false, cond, not, IsTrue}
use Rattle.std.proofs.Common.{refl, sym, ap, ◌∙◌, subst}
use Rattle.std.specs.List.{filter_map}
use Rattle.std.specs.Ordering.{nat_cmp}
use Rattle.std.specs.FinMap as finite
use Rattle.std.specs.FinSet as set
use Rattle.bk_record.specs.Key.{EntryKey, key_cmp}
use Rattle.bk_record.specs.Keyed.{Keyed}
use Rattle.bk_record.specs.Scan.{Payloads}
use Rattle.bk_record.proofs.Keys.{key_cmp_total, key_cmp_antisymmetric}
use Rattle.bk_store.specs.declared.mark.Mark.{Mark}
use Rattle.bk_store.specs.declared.mark.Mark.TheVariants.{Add, Delete, Fence}
use Rattle.bk_store.specs.Trail.{MapMatchesTrail, HasAddMark, WasDeleted, HasDigest, added_pair, deleted_in, replay_of}
use Rattle.bk_store.specs.State.{State}
use Rattle.bk_store.specs.Contents.{IsContents}
use Rattle.bk_store.specs.Abstract.{SatisfiesInvariant}
use Rattle.bk_store.proofs.Cases.{same_or_apart}
use Rattle.bk_store.proofs.KeyMaps.{same_key, get-insert_other, inserted_cases, inserted_here}
use Rattle.bk_store.proofs.Ledgers.{inserted_is, inserted_else}
use Rattle.bk_store.proofs.RepresentedContents.{carries_meaning}

-- ---- what came in

abbrev added : List Mark → Keyed (List ℕ)
added trail = finite.from_entries (filter_map added_pair trail)

added_came : (trail : List Mark) (key : EntryKey) (digest : List ℕ) → finite.get (added trail) key ≡ Some digest → (n : ℕ) × HasAddMark trail n key digest
added_came [] key digest is = absurd (let wrong : ◌≡◌ {A = Option (List ℕ)} (Some digest) None = sym is ∙ finite.get-empty key_cmp key in cc)
added_came (Add k d ∷ ms) key digest is = elim (inserted_cases (added ms) k d key digest is) [
  | inl here ↦ (0, λ i. Some (Add (sym here.0 i) (here.1 i)))
  | inr else_is ↦ let came = added_came ms key digest else_is.1 in (suc came.0, came.1)
]
added_came (Delete l ∷ ms) key digest is = let came = added_came ms key digest is in (suc came.0, came.1)
added_came (Fence l ∷ ms) key digest is = let came = added_came ms key digest is in (suc came.0, came.1)

-- no key came in twice
abbrev IsOnce : List Mark → Type 0
IsOnce trail = (n m : ℕ) (key : EntryKey) (digest digest' : List ℕ) → HasAddMark trail n key digest → HasAddMark trail m key digest' → n ≡ m

later_once : (mark : Mark) (ms : List Mark) → IsOnce (mark ∷ ms) → IsOnce ms
later_once mark ms once n m key digest digest' at also = let same = once (suc n) (suc m) key digest digest' at also in cc

came_added : (trail : List Mark) → IsOnce trail → (n : ℕ) (key : EntryKey) (digest : List ℕ) → HasAddMark trail n key digest
    → finite.get (added trail) key ≡ Some digest
came_added [] once n key digest at = absurd (cc)
came_added (Add k d ∷ ms) once zero key digest at =
    let same : key ≡ k = cc in let told : d ≡ digest = cc in inserted_here (added ms) k d key same ∙ ap Some told
came_added (Add k d ∷ ms) once (suc n) key digest at = elim (same_key key k) [
  | inl here ↦ absurd (let wrong = once zero (suc n) key d digest (λ i. Some (Add (sym here i) d)) at in cc)
  | inr apart ↦ get-insert_other (added ms) k d key apart ∙ came_added ms (later_once (Add k d) ms once) n key digest at
]
came_added (Delete l ∷ ms) once zero key digest at = absurd (cc)
came_added (Delete l ∷ ms) once (suc n) key digest at = came_added ms (later_once (Delete l) ms once) n key digest at
came_added (Fence l ∷ ms) once zero key digest at = absurd (cc)
came_added (Fence l ∷ ms) once (suc n) key digest at = came_added ms (later_once (Fence l) ms once) n key digest at

-- ---- what was deleted

deleted_told : (trail : List Mark) (ledger : ℕ) → set.contains (deleted_in trail) ledger ≡ true → WasDeleted trail ledger
deleted_told [] ledger is = absurd (let wrong : true ≡ false = sym is ∙ set.contains-empty nat_cmp ledger in cc)
deleted_told (Add k d ∷ ms) ledger is = inr (deleted_told ms ledger is)
deleted_told (Delete l ∷ ms) ledger is = elim (same_or_apart ledger l) [
  | inl here ↦ inl (ap Delete (sym here))
  | inr apart ↦ inr (deleted_told ms ledger (sym (inserted_else (deleted_in ms) l ledger apart) ∙ is))
]
deleted_told (Fence l ∷ ms) ledger is = inr (deleted_told ms ledger is)

deleted_is : (trail : List Mark) (ledger : ℕ) → WasDeleted trail ledger → set.contains (deleted_in trail) ledger ≡ true
deleted_is [] ledger out = absurd out
deleted_is (Add k d ∷ ms) ledger out = elim out [ inl wrong ↦ absurd (cc) | inr later ↦ deleted_is ms ledger later ]
deleted_is (Delete l ∷ ms) ledger out = elim (same_or_apart ledger l) [
  | inl here ↦ ap (set.contains (set.insert (deleted_in ms) l)) here ∙ inserted_is (deleted_in ms) l
  | inr apart ↦ inserted_else (deleted_in ms) l ledger apart ∙ elim out [
    | inl wrong ↦ absurd (let same : l ≡ ledger = cc in apart (sym same))
    | inr later ↦ deleted_is ms ledger later
  ]
]
deleted_is (Fence l ∷ ms) ledger out = elim out [ inl wrong ↦ absurd (cc) | inr later ↦ deleted_is ms ledger later ]

-- ---- both

get-replay_of : (trail : List Mark) (key : EntryKey)
    → finite.get (replay_of trail) key ≡ cond (not (set.contains (deleted_in trail) key.ledger)) (finite.get (added trail) key) None
get-replay_of trail key = finite.get-retain_keys (added trail) (λ k. not (set.contains (deleted_in trail) k.ledger)) key
    (λ x tied. ap (λ (k : EntryKey). not (set.contains (deleted_in trail) k.ledger)) (sym (key_cmp_antisymmetric key x tied)))

pub replay_came : (trail : List Mark) (key : EntryKey) (digest : List ℕ) → finite.get (replay_of trail) key ≡ Some digest
    → (n : ℕ) × HasAddMark trail n key digest × ¬ (WasDeleted trail key.ledger)
replay_came trail key digest is =
    elim (set.contains (deleted_in trail) key.ledger) as (λ b. set.contains (deleted_in trail) key.ledger ≡ b
    → cond (not b) (finite.get (added trail) key) None ≡ Some digest → (n : ℕ) × HasAddMark trail n key digest × ¬ (WasDeleted trail key.ledger)) [
      | true ↦ λ _ none. absurd (cc)
      | false ↦ λ lives there.
          let came = added_came trail key digest there in
          (came.0, came.1, λ out. let wrong : true ≡ false = sym (deleted_is trail key.ledger out) ∙ lives in cc)
    ] refl (sym (get-replay_of trail key) ∙ is)

pub came_replays : (map : Payloads) (trail : List Mark) → MapMatchesTrail map trail → (n : ℕ) (key : EntryKey) (digest : List ℕ) → HasAddMark trail n key digest
    → ¬ (WasDeleted trail key.ledger) → finite.get (replay_of trail) key ≡ Some digest
came_replays map trail replays n key digest at lives =
    get-replay_of trail key
    ∙ elim (set.contains (deleted_in trail) key.ledger) as (λ b. set.contains (deleted_in trail) key.ledger ≡ b
    → cond (not b) (finite.get (added trail) key) None ≡ Some digest) [
      | true ↦ λ told. absurd (lives (deleted_told trail key.ledger told))
      | false ↦ λ _. came_added trail replays.once n key digest at
    ] refl

-- what it has of a key the map has, with that digest
pub replay_has : (map : Payloads) (trail : List Mark) → MapMatchesTrail map trail → (key : EntryKey) (digest : List ℕ)
    → finite.get (replay_of trail) key ≡ Some digest → HasDigest map key digest
replay_has map trail replays key digest is =
    let came = replay_came trail key digest is in replays.has came.0 key digest came.1 came.2

-- the logical contents of a store has what its trail says
pub kept_replays : (s : State) (map : Payloads) → SatisfiesInvariant s → IsTrue s.honest → IsContents map s → MapMatchesTrail map s.ledgers.trail
kept_replays s map kept honest means =
    let p = kept.parts in
    let reveal_invariant = kept.keeps.promises (subst (λ (x : State). IsTrue x.honest) (sym kept.seen) honest) in
    let means_p : IsContents map p.state = subst (IsContents map) (sym kept.seen) means in
    let same : reveal_invariant.map.carried ≡ map =
    finite.same_map key_cmp_total key_cmp_antisymmetric reveal_invariant.map.carried map (λ key. carries_meaning p.state.files reveal_invariant.map.carries key ∙ sym (means_p key)) in
    subst (λ (m : Payloads). MapMatchesTrail m s.ledgers.trail) same (subst (λ (x : State). MapMatchesTrail reveal_invariant.map.carried x.ledgers.trail) kept.seen reveal_invariant.map.replays)
