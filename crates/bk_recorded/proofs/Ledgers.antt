-- Ledgers stay recorded.
use Rattle.std.proofs.Common.{◌≡◌, ◌⊎◌, inl, inr, ℕ, ◌<◌, ◌^◌, Bool, true, false, not, ◌&&◌, ◌||◌, is_some, List, [], ◌∷◌, ◌++◌, refl, sym, ap, subst, ◌∙◌}
use Rattle.std.specs.List.{list_any}
use Rattle.std.specs.Ordering.{nat_cmp, eq_by_cmp}
use Rattle.std.specs.Cmp.{nat_cmp_total}
use Rattle.std.specs.FinSet as set
use Rattle.std.specs.FinMap.{nat_cmp-IsAntisymmetric}
use Rattle.std.proofs.lemmas.List.Folds.{list_any-append}
use Rattle.std.proofs.lemmas.Map.Views.{tells_apart}
use Rattle.bk_manifest.specs.Fact.{Fact}
use Rattle.bk_manifest.specs.State.{the_deletion, the_fence, is_about, last_about}
use Rattle.bk_manifest.specs.declared.subject.Subject.{Subject}
use Rattle.bk_store.specs.Ledgers.{KnownLedgers, with_deletion, with_fence}
use Rattle.bk_recorded.specs.Ledgers.{is_deleted, is_fenced, AreLedgersRecorded}
use Rattle.bk_recorded.proofs.Listed.{any_about}

-- ---- more records

or_kept : (a b : Bool) → a ≡ true → (a || b) ≡ true
or_kept true b is = refl
or_kept false b is = absurd cc

pub still_about : (s : Subject) (xs ys : List Fact) → is_some (last_about s xs) ≡ true → is_some (last_about s (xs ++ ys)) ≡ true
still_about s xs ys is =
    any_about s (xs ++ ys) ∙ list_any-append (is_about s) xs ys
    ∙ or_kept (list_any (is_about s) xs) (list_any (is_about s) ys) (sym (any_about s xs) ∙ is)

or_there : (a : Bool) → (a || (true || false)) ≡ true
or_there true = refl
or_there false = refl

pub now_about : (s : Subject) (xs : List Fact) (x : Fact) → is_about s x ≡ true → is_some (last_about s (xs ++ x ∷ [])) ≡ true
now_about s xs x is =
    any_about s (xs ++ x ∷ []) ∙ list_any-append (is_about s) xs (x ∷ [])
    ∙ ap (λ b. list_any (is_about s) xs || (b || false)) is ∙ or_there (list_any (is_about s) xs)

pub more_recorded : (known : KnownLedgers) (xs ys : List Fact) → AreLedgersRecorded known xs → AreLedgersRecorded known (xs ++ ys)
more_recorded known xs ys was = record {
  deleted = λ ledger below is. still_about (the_deletion ledger) xs ys (was.deleted ledger below is);
  fenced = λ ledger below is. still_about (the_fence ledger) xs ys (was.fenced ledger below is);
}

-- ---- other ledgers

-- the known ledgers are the same, apart from the trail
pub same_recorded : (known now : KnownLedgers) (xs : List Fact) → now.dead ≡ known.dead → now.fenced ≡ known.fenced → AreLedgersRecorded known xs → AreLedgersRecorded now xs
same_recorded known now xs dead fenced was = record {
  deleted = λ ledger below is. was.deleted ledger below (sym (ap (λ d. set.contains d ledger) dead) ∙ is);
  fenced = λ ledger below is. was.fenced ledger below (sym (ap (λ d. set.contains d ledger) fenced) ∙ is);
}

inserted : (a b : Bool) → (a || b) ≡ true → (a ≡ true) ⊎ (b ≡ true)
inserted true b is = inl refl
inserted false b is = inr is

kept_of : (a b : Bool) → (not a && b) ≡ true → b ≡ true
kept_of true b is = absurd cc
kept_of false b is = is

-- a ledger is deleted, and its deletion is recorded
pub deletion_recorded : (known : KnownLedgers) (xs : List Fact) (deleted : ℕ) → (deleted < 2 ^ 63 → is_deleted xs deleted ≡ true)
    → AreLedgersRecorded known xs → AreLedgersRecorded (with_deletion known deleted) xs
deletion_recorded known xs deleted there was = record {
  deleted = λ ledger below is.
      elim (inserted (eq_by_cmp nat_cmp ledger deleted) (set.contains known.dead ledger) (sym (set.contains-insert nat_cmp_total known.dead deleted ledger) ∙ is)) [
        | inl same ↦
            let one : ledger ≡ deleted = tells_apart nat_cmp-IsAntisymmetric ledger deleted same in
            subst (λ l. is_deleted xs l ≡ true) (sym one) (there (subst (λ l. l < 2 ^ 63) one below))
        | inr before ↦ was.deleted ledger below before
      ];
  fenced = λ ledger below is. was.fenced ledger below
      (kept_of (eq_by_cmp nat_cmp ledger deleted) (set.contains known.fenced ledger) (sym (set.contains-remove nat_cmp_total known.fenced deleted ledger) ∙ is));
}

-- a ledger is fenced, and its fence is recorded
pub fence_recorded : (known : KnownLedgers) (xs : List Fact) (fenced : ℕ) → (fenced < 2 ^ 63 → is_fenced xs fenced ≡ true)
    → AreLedgersRecorded known xs → AreLedgersRecorded (with_fence known fenced) xs
fence_recorded known xs fenced there was = record {
  deleted = λ ledger below is. was.deleted ledger below is;
  fenced = λ ledger below is.
      elim (inserted (eq_by_cmp nat_cmp ledger fenced) (set.contains known.fenced ledger) (sym (set.contains-insert nat_cmp_total known.fenced fenced ledger) ∙ is)) [
        | inl same ↦
            let one : ledger ≡ fenced = tells_apart nat_cmp-IsAntisymmetric ledger fenced same in
            subst (λ l. is_fenced xs l ≡ true) (sym one) (there (subst (λ l. l < 2 ^ 63) one below))
        | inr before ↦ was.fenced ledger below before
      ];
}
