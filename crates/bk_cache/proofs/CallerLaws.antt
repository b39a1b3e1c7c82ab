-- Lemmas on the caches for the proofs of callers.
use Rattle.std.proofs.Common.{◌≡◌, ℕ, zero, suc, ◌-◌, Bool, true, false, cond, not, eqb, List, [], ◌∷◌, take, Option, Some, None, IfSome}
use Rattle.std.proofs.Common.{is_some, ◌⊎◌, inl, inr, refl, sym, ap, ◌∙◌}
use Rattle.std.specs.Map.{lookup, remove_entry}
use Rattle.std.proofs.lemmas.Map.Entries.{lookup-filter-keys}
use Rattle.bk_record.specs.Key.{EntryKey}
use Rattle.bk_record.proofs.SortedPairs.{Some-same}
use Rattle.bk_cache.specs.Recents.{Recents, same_key, recent_of, recents_with, without_recent, IsOldOrRemembered}
use Rattle.bk_cache.proofs.RecentPuts.{same_key_exact}

-- a ledger's recent entries are removed, the others are unchanged
pub recent_of-without_recent : (r : Recents) (ledger : ℕ) (key : EntryKey)
    → recent_of (without_recent r ledger) key ≡ cond (not (eqb key.ledger ledger)) (recent_of r key) None
recent_of-without_recent r ledger key =
    lookup-filter-keys (same_key key) (λ k. not (eqb k.ledger ledger)) (not (eqb key.ledger ledger))
    (λ k same. ap (λ (q : EntryKey). not (eqb q.ledger ledger)) (sym (same_key_exact key k same))) r.entries

-- a look-up in a prefix of the pairs finds what one in all pairs finds
lookup-take : {X : Type 0} (test : EntryKey → Bool) (n : ℕ) (es : List (EntryKey × X)) (v : X) → lookup test (take n es) ≡ Some v → lookup test es ≡ Some v
lookup-take test zero es v found = cc
lookup-take test (suc n) [] v found = found
lookup-take test (suc n) (e ∷ es) v found =
    elim (test e.0) as (λ b. cond b (Some e.1) (lookup test (take n es)) ≡ Some v → cond b (Some e.1) (lookup test es) ≡ Some v) [
      | true ↦ λ is. is
      | false ↦ λ is. lookup-take test n es v is
    ] found

-- removing the entry of another key does not change a look-up
lookup-remove_other : {X : Type 0} (key q : EntryKey) (es : List (EntryKey × X)) → same_key q key ≡ false
    → lookup (same_key q) (remove_entry (same_key key) es) ≡ lookup (same_key q) es
lookup-remove_other key q [] other = refl
lookup-remove_other key q (e ∷ es) other =
    elim (same_key key e.0)
    as (λ b. same_key key e.0 ≡ b → lookup (same_key q) (cond b es (e ∷ remove_entry (same_key key) es))
    ≡ cond (same_key q e.0) (Some e.1) (lookup (same_key q) es)) [
      | true ↦ λ is. rw (ap (same_key q) (sym (same_key_exact key e.0 is)) ∙ other)
      | false ↦ λ _. ap (cond (same_key q e.0) (Some e.1)) (lookup-remove_other key q es other)
    ] refl

-- after `remember`, a recent entry is an old one or the one remembered
pub recent_of-remembered : (r : Recents) (key : EntryKey) (payload : List ℕ) (q : EntryKey) (p : List ℕ)
    → recent_of (recents_with r key payload) q ≡ Some p → IsOldOrRemembered r key payload q p
recent_of-remembered r key payload q p =
    elim (same_key q key)
    as (λ b. same_key q key ≡ b
    → cond b (Some payload)
    (lookup (same_key q) (cond (is_some (recent_of r key)) (remove_entry (same_key key) r.entries) (take (r.most - 1) r.entries))) ≡ Some p
    → IsOldOrRemembered r key payload q p) [
      | true ↦ λ is found. inr (same_key_exact q key is, sym (Some-same found))
      | false ↦ λ other. elim (is_some (recent_of r key))
          as (λ b. lookup (same_key q) (cond b (remove_entry (same_key key) r.entries) (take (r.most - 1) r.entries)) ≡ Some p
          → IsOldOrRemembered r key payload q p) [
            | true ↦ λ found. inl (sym (lookup-remove_other key q r.entries other) ∙ found)
            | false ↦ λ found. inl (lookup-take (same_key q) (r.most - 1) r.entries p found)
          ]
    ] refl

pub IfSome-recent_of_changed : (old new : Recents) (key : EntryKey) (payload : List ℕ) → (new ≡ old) ⊎ (new ≡ recents_with old key payload)
    → (q : EntryKey) → IfSome (recent_of new q) (IsOldOrRemembered old key payload q)
IfSome-recent_of_changed old new key payload changed q = each (recent_of new q) refl
  where
    each : (o : Option (List ℕ)) → recent_of new q ≡ o → IfSome o (IsOldOrRemembered old key payload q)
    each None is = tt
    each (Some p) is = elim changed [
      | inl same ↦ inl (ap (λ r. recent_of r q) (sym same) ∙ is)
      | inr put ↦ recent_of-remembered old key payload q p (ap (λ r. recent_of r q) (sym put) ∙ is)
    ]
