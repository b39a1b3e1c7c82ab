-- The trail: one mark for each change that a store accepted since its opening, in order; and what a
-- trail implies.
use Rattle.std.specs.Prelude.{◌≡◌, ℕ, not, List, Option, Some, None, slice_get, refl}
use Rattle.std.specs.Coded.{Coded, code_by, coded×, coded⊎, coded_ℕ, coded_list}
use Rattle.std.specs.List.{filter_map}
use Rattle.std.proofs.Common.{◌⊎◌, inl, inr}
use Rattle.std.specs.FinMap as finite
use Rattle.std.specs.FinSet as set
use Rattle.bk_record.specs.Key.{EntryKey}
use Rattle.bk_record.specs.Keyed.{Keyed, key_code}
use Rattle.bk_record.specs.Files.{In}
use Rattle.bk_record.specs.Scan.{Payloads, Ledgers}
use Rattle.sha2.specs.Sha256.{sha256}
use Rattle.bk_store.specs.declared.mark.Mark.{Mark}
use Rattle.bk_store.specs.declared.mark.Mark.TheVariants.{Add, Delete, Fence}

-- ---- what a trail implies

-- the mark of this number is the add of an entry with this key and digest
abbrev pub HasAddMark : List Mark → ℕ → EntryKey → List ℕ → Type 0
HasAddMark trail number key digest = slice_get trail number ≡ Some (Add key digest)

-- the ledger was deleted
abbrev pub WasDeleted : List Mark → ℕ → Type 0
WasDeleted trail ledger = In (Delete ledger) trail

-- the ledger was fenced
abbrev pub WasFenced : List Mark → ℕ → Type 0
WasFenced trail ledger = In (Fence ledger) trail

-- the map has a payload of the key, with this digest
abbrev pub HasDigest : Payloads → EntryKey → List ℕ → Type 0
HasDigest map key digest = (payload : List ℕ) × (finite.get map key ≡ Some payload) × (digest ≡ sha256 payload)

-- The map has each entry that the trail adds, with a payload of that digest, unless its ledger was
-- deleted; and each key was added once.
pub record MapMatchesTrail (map : Payloads) (trail : List Mark) : Type 0 where
  pub has : (number : ℕ) (key : EntryKey) (digest : List ℕ) → HasAddMark trail number key digest → ¬ (WasDeleted trail key.ledger)
      → HasDigest map key digest
  pub once : (number other : ℕ) (key : EntryKey) (digest digest' : List ℕ) → HasAddMark trail number key digest → HasAddMark trail other key digest'
      → number ≡ other

-- ---- the replay of a trail

-- the key and the digest of an add
abbrev pub added_pair : Mark → Option (EntryKey × List ℕ)
added_pair (Add key digest) = Some (key, digest)
added_pair (Delete ledger) = None
added_pair (Fence ledger) = None

-- the ledger of a deletion
abbrev pub deleted_ledger : Mark → Option ℕ
deleted_ledger (Add key digest) = None
deleted_ledger (Delete ledger) = Some ledger
deleted_ledger (Fence ledger) = None

-- the deleted ledgers
abbrev pub deleted_in : List Mark → Ledgers
deleted_in trail = set.from_list (filter_map deleted_ledger trail)

-- from key to digest of the added entries, without those of deleted ledgers
abbrev pub replay_of : List Mark → Keyed (List ℕ)
replay_of trail = finite.retain_keys (finite.from_entries (filter_map added_pair trail)) (λ key. not (set.contains (deleted_in trail) key.ledger))

-- ---- representation in a model

abbrev parted : Mark → (EntryKey × List ℕ) ⊎ (ℕ ⊎ ℕ)
parted (Add key digest) = inl (key, digest)
parted (Delete ledger) = inr (inl ledger)
parted (Fence ledger) = inr (inr ledger)

abbrev joined : (EntryKey × List ℕ) ⊎ (ℕ ⊎ ℕ) → Mark
joined (inl p) = Add p.0 p.1
joined (inr (inl ledger)) = Delete ledger
joined (inr (inr ledger)) = Fence ledger

pub joined-parted : (m : Mark) → joined (parted m) ≡ m
joined-parted (Add key digest) = refl
joined-parted (Delete ledger) = refl
joined-parted (Fence ledger) = refl

abbrev pub mark_code : Coded Mark
mark_code = code_by ((EntryKey × List ℕ) ⊎ (ℕ ⊎ ℕ)) (coded⊎ (coded× key_code (coded_list coded_ℕ)) (coded⊎ coded_ℕ coded_ℕ)) parted joined joined-parted

-- a trail in memory: its marks, and how many more fit without an allocation
pub record HeldTrail : Type 0 where
  pub marks : List Mark
  pub room : ℕ

abbrev pub held_trail_code : Coded HeldTrail
held_trail_code = code_by (List Mark × ℕ) (coded× (coded_list mark_code) coded_ℕ) (λ t. (t.marks, t.room)) (λ p. record { marks = p.0; room = p.1 }) (λ _. refl)
