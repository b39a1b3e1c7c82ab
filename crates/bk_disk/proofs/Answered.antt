-- What a call's relation says of one answer.
use Rattle.std.proofs.Common.{◌≡◌, ℕ, List, take, drop, Result, Ok, Err, IfOk, MatchResult, IsErrAnd, OnOk, OnErr, ◌∙◌, sym, ap, subst}
use Rattle.bk_disk.specs.Disk.{ReadsView}
use Rattle.bk_disk.specs.declared.fault.DiskFault.{DiskFault}

-- what holds whatever the answer is
pub IfOk-always : {T E : Type 0} (P : Type 0) (result : Result T E) → P → IfOk result (λ _. P)
IfOk-always P (Ok x) holds = holds
IfOk-always P (Err e) holds = tt

-- what a read of a view found
pub IfOk-reads_view : {T : Type 0} (bytes : T → List ℕ) (file want : List ℕ) (at n : ℕ) (result : Result T DiskFault) → ReadsView bytes file at n result
    → take n (drop at file) ≡ want → IfOk result (λ found. bytes found ≡ want)
IfOk-reads_view bytes file want at n (Ok found) reads is = reads.1 ∙ is
IfOk-reads_view bytes file want at n (Err e) reads is = tt

-- an answer whose fault was put in another's place by `map_err`
pub answer_of-map_err : {T E F : Type 0} (P : Result T F → Type 0) (Post : E → F → Type 0) (fault : F) {A B : Type 0} (asked : Result T E) (result : Result T F)
    → MatchResult asked (λ x. result ≡ Ok x) (λ e. IsErrAnd result (Post e)) → ((e : E) (f : F) → Post e f → f ≡ fault)
    → OnOk asked A → OnErr asked B → ((x : T) → A → P (Ok x)) → (B → P (Err fault)) → P result
answer_of-map_err P Post fault (Ok x) result is same ok err done failed = subst P (sym is) (done x ok)
answer_of-map_err P Post fault (Err e) (Ok x) is same ok err done failed = absurd is
answer_of-map_err P Post fault (Err e) (Err f) is same ok err done failed = subst P (ap Err (sym (same e f is))) (failed err)
