-- The shared state of a bookie, which its mutex guards, and its invariant.
use Rattle.std.specs.Prelude.{◌≡◌, ℕ, Bool, IsTrue, ◌+◌, ◌≤◌, refl}
use Rattle.std.specs.Coded.{Coded, code_by, coded×, coded_ℕ}
use Rattle.bk_cache.specs.Caches as caches
use Rattle.bk_store.specs.State.{State, state_code}
use Rattle.bk_bookie.specs.Adds.{add_count}

-- A store, the number of passes that may be created, and the number created so far.
pub record GuardedState : Type 0 where
  pub store : State
  pub most : ℕ
  pub made : ℕ

abbrev pub desk_code : Coded GuardedState
desk_code = code_by (State × (ℕ × ℕ)) (coded× state_code (coded× coded_ℕ coded_ℕ))
    (λ d. (d.store, (d.most, d.made))) (λ p. record { store = p.0; most = p.1.0; made = p.1.1 }) (λ _. refl)

-- Each payload of the two write caches is stored under its key.
pub record AreKeyed (c : caches.CacheState) : Type 0 where
  pub active : caches.AllKeyed c.active
  pub flush : caches.AllKeyed (caches.flush_of c)

-- Invariant of the shared state. The book holds the sum of the counts of all passes, which is the
-- number of adds in the trail (`adds`). The parts of the ledger that no pass holds have amount 0
-- and are one for each pass that may still be created, and one more (`idle`, `all`, `left`). The
-- store is as honest as the ledger says. On an honest disk each cached payload is stored under its
-- key.
pub record GuardedInvariant (d : GuardedState) (honest : Bool) (parts total rest amount : ℕ) : Type 0 where
  pub honest_is : d.store.honest ≡ honest
  pub keyed : IsTrue honest → AreKeyed d.store.caches
  pub adds : total ≡ add_count d.store.ledgers.trail
  pub idle : amount ≡ 0
  pub within : d.made ≤ d.most
  pub all : d.most + 1 ≡ parts
  pub left : rest + d.made ≡ parts
