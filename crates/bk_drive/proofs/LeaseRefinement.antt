-- Leases of the readers against abstract leases (`LeasesRefine`), by position: look-up, grant and
-- release.
use Rattle.std.proofs.Common.{◌≡◌, ℕ, zero, suc, List, [], ◌∷◌, length, Option, Some, None, refl, subst, slice_set, arith}
use Rattle.bk_drive.specs.Abstract.{AbstractLease, IsIdleReader, IsBusy, HasAt}
use Rattle.bk_drive.specs.Machine.{ReaderLease}
use Rattle.bk_drive.specs.Headline.{LeaseRefines, LeasesRefine}

pub length_owed : (hs : List (Option ReaderLease)) (os : List (Option AbstractLease)) → LeasesRefine hs os → length hs ≡ length os
length_owed [] [] owed = refl
length_owed [] (o ∷ os) owed = absurd owed
length_owed (None ∷ hs) [] owed = absurd owed
length_owed (Some h ∷ hs) [] owed = absurd owed
length_owed (None ∷ hs) (None ∷ os) owed = omega (arith, length_owed hs os owed)
length_owed (None ∷ hs) (Some o ∷ os) owed = absurd owed
length_owed (Some h ∷ hs) (None ∷ os) owed = absurd owed
length_owed (Some h ∷ hs) (Some o ∷ os) owed = omega (arith, length_owed hs os owed.1)

-- A reader without a lease has no abstract lease.
pub free_owed : (hs : List (Option ReaderLease)) (os : List (Option AbstractLease)) (i : ℕ) → LeasesRefine hs os → IsIdleReader hs i → IsIdleReader os i
free_owed [] os i owed is = cc
free_owed (None ∷ hs) [] i owed is = absurd owed
free_owed (Some h ∷ hs) [] i owed is = absurd owed
free_owed (None ∷ hs) (Some o ∷ os) i owed is = absurd owed
free_owed (Some h ∷ hs) (None ∷ os) i owed is = absurd owed
free_owed (None ∷ hs) (None ∷ os) zero owed is = refl
free_owed (None ∷ hs) (None ∷ os) (suc i) owed is = free_owed hs os i owed is
free_owed (Some h ∷ hs) (Some o ∷ os) zero owed is = cc
free_owed (Some h ∷ hs) (Some o ∷ os) (suc i) owed is = free_owed hs os i owed.1 is

-- A reader with a lease has an abstract lease.
pub busy_owed : (hs : List (Option ReaderLease)) (os : List (Option AbstractLease)) (i : ℕ) → LeasesRefine hs os → IsBusy hs i → IsBusy os i
busy_owed [] os i owed is = let e = is.1 in cc
busy_owed (None ∷ hs) [] i owed is = absurd owed
busy_owed (Some h ∷ hs) [] i owed is = absurd owed
busy_owed (None ∷ hs) (Some o ∷ os) i owed is = absurd owed
busy_owed (Some h ∷ hs) (None ∷ os) i owed is = absurd owed
busy_owed (None ∷ hs) (None ∷ os) zero owed is = let e = is.1 in cc
busy_owed (None ∷ hs) (None ∷ os) (suc i) owed is = busy_owed hs os i owed is
busy_owed (Some h ∷ hs) (Some o ∷ os) zero owed is = (o, refl)
busy_owed (Some h ∷ hs) (Some o ∷ os) (suc i) owed is = busy_owed hs os i owed.1 is

-- A grant to one reader on both sides keeps `LeasesRefine`.
pub set_owed : (hs : List (Option ReaderLease)) (os : List (Option AbstractLease)) (i : ℕ) (h : ReaderLease) (o : AbstractLease) → LeasesRefine hs os → LeaseRefines h o
    → LeasesRefine (slice_set hs i (Some h)) (slice_set os i (Some o))
set_owed [] [] i h o owed is = tt
set_owed [] (y ∷ os) i h o owed is = absurd owed
set_owed (None ∷ hs) [] i h o owed is = absurd owed
set_owed (Some x ∷ hs) [] i h o owed is = absurd owed
set_owed (None ∷ hs) (Some y ∷ os) i h o owed is = absurd owed
set_owed (Some x ∷ hs) (None ∷ os) i h o owed is = absurd owed
set_owed (None ∷ hs) (None ∷ os) zero h o owed is = (is, owed)
set_owed (None ∷ hs) (None ∷ os) (suc i) h o owed is = set_owed hs os i h o owed is
set_owed (Some x ∷ hs) (Some y ∷ os) zero h o owed is = (is, owed.1)
set_owed (Some x ∷ hs) (Some y ∷ os) (suc i) h o owed is = (owed.0, set_owed hs os i h o owed.1 is)

-- The lease and the abstract lease of one reader refine each other.
pub owed_at : (hs : List (Option ReaderLease)) (os : List (Option AbstractLease)) (i : ℕ) (h : ReaderLease) → LeasesRefine hs os → HasAt hs i h → (o : AbstractLease) × (HasAt os i o × LeaseRefines h o)
owed_at [] os i h owed is = cc
owed_at (None ∷ hs) [] i h owed is = absurd owed
owed_at (Some x ∷ hs) [] i h owed is = absurd owed
owed_at (None ∷ hs) (Some o ∷ os) i h owed is = absurd owed
owed_at (Some x ∷ hs) (None ∷ os) i h owed is = absurd owed
owed_at (None ∷ hs) (None ∷ os) zero h owed is = cc
owed_at (None ∷ hs) (None ∷ os) (suc i) h owed is = owed_at hs os i h owed is
owed_at (Some x ∷ hs) (Some o ∷ os) zero h owed is = let same : x ≡ h = cc in (o, (refl, subst (λ (y : ReaderLease). LeaseRefines y o) same owed.0))
owed_at (Some x ∷ hs) (Some o ∷ os) (suc i) h owed is = owed_at hs os i h owed.1 is

-- A release on both sides keeps `LeasesRefine`.
pub unset_owed : (hs : List (Option ReaderLease)) (os : List (Option AbstractLease)) (i : ℕ) → LeasesRefine hs os → LeasesRefine (slice_set hs i None) (slice_set os i None)
unset_owed [] [] i owed = tt
unset_owed [] (o ∷ os) i owed = absurd owed
unset_owed (None ∷ hs) [] i owed = absurd owed
unset_owed (Some x ∷ hs) [] i owed = absurd owed
unset_owed (None ∷ hs) (Some o ∷ os) i owed = absurd owed
unset_owed (Some x ∷ hs) (None ∷ os) i owed = absurd owed
unset_owed (None ∷ hs) (None ∷ os) zero owed = owed
unset_owed (None ∷ hs) (None ∷ os) (suc i) owed = unset_owed hs os i owed
unset_owed (Some x ∷ hs) (Some o ∷ os) zero owed = owed.1
unset_owed (Some x ∷ hs) (Some o ∷ os) (suc i) owed = (owed.0, unset_owed hs os i owed.1)
