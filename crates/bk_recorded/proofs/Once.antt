-- A record that is made, or refused.
use Rattle.std.proofs.Common.{◌≡◌, ℕ, ◌<◌, ◌^◌, Bool, Result, Ok, Err, is_ok, sym, subst, arith}
use Rattle.bk_manifest.specs.Fact.{Fact}
use Rattle.bk_manifest.specs.Keeping.{Kept}
use Rattle.bk_manifest.specs.declared.fault.ManifestError.{ManifestError}
use Rattle.bk_manifest.specs.declared.subject.Subject.{Subject}
use Rattle.bk_ledgers.specs.Recording.{OnceTransition}
use Rattle.bk_recorded.specs.Recording.{RecordsOne}

by_result : (one : Fact) (subject : Subject) (ledger : ℕ) (m m' : Kept) (r : Result (Unit {0}) ManifestError) → ledger < 2 ^ 63
    → OnceTransition one subject m r m' → RecordsOne one subject ledger m (is_ok r) m'
by_result one subject ledger m m' (Ok done) below once = (λ _. once, λ past. absurd (omega (arith, below, past)))
by_result one subject ledger m m' (Err error) below once = (below, once.1)

pub recorded_once : (one : Fact) (subject : Subject) (ledger : ℕ) (m mid m' : Kept) (r : Result (Unit {0}) ManifestError) (allowed : Bool) → ledger < 2 ^ 63
    → OnceTransition one subject m r mid → allowed ≡ is_ok r → m' ≡ mid → RecordsOne one subject ledger m allowed m'
recorded_once one subject ledger m mid m' r allowed below once is same =
    subst (λ b. RecordsOne one subject ledger m b m') (sym is)
    (subst (λ (k : Kept). RecordsOne one subject ledger m (is_ok r) k) (sym same) (by_result one subject ledger m mid r below once))
