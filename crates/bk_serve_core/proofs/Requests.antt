-- A request that was written is read, and what is read was written so.
use Rattle.std.proofs.Common.{◌≡◌, ℕ, zero, suc, ◌≤◌, Bool, true, false, ◌||◌, eqb, ltb, List, [], ◌∷◌, length, drop, Result, Ok, refl, sym, subst, arith}
use Rattle.bk_serve_core.specs.declared.fault.Fault.{Fault}
use Rattle.bk_serve_core.specs.declared.fault.Fault.TheVariants.{UnknownKind, BadLength}
use Rattle.bk_serve_core.specs.Fields.{IsBytes}
use Rattle.std.proofs.lemmas.Bool.{ltb-false}
use Rattle.bk_serve_core.specs.Layouts.{fits, request_layout}
use Rattle.bk_serve_core.specs.Requests.{Ask, ask_bytes, ask_at, asked, Fits}
use Rattle.bk_serve_core.specs.Requests.Ask.{hello, add, add_recovery, read, read_last, read_back, last_entry, holds, entries, ledgers, fence, is_fenced, delete, set_master_key, master_key, set_explicit_lac, explicit_lac, flush, checkpoint, compact, stats, seal, close}
use Rattle.bk_serve_core.proofs.Numbers.{exact, tailed, words_at, words_below, written, chosen, taken_else, IsBytes-drop, Each, each_below, by_1, by_2, by_3}

abbrev good : Ask → Result Ask Fault
good a = Ok a

pub again : (a : Ask) → Fits a → asked (ask_bytes a) ≡ good a
unfolding asked ask_bytes ask_at Fits
again (hello magic lowest highest) fit = by_3 (λ (x0 x1 x2 : ℕ). good (hello x0 x1 x2)) magic lowest highest fit.0
again (add ledger entry_id content) fit = chosen _ _ _ _ fit.1 (by_2 (λ (x0 x1 : ℕ). good (add x0 x1 content)) ledger entry_id fit.0)
again (add_recovery ledger entry_id content) fit = chosen _ _ _ _ fit.1 (by_2 (λ (x0 x1 : ℕ). good (add_recovery x0 x1 content)) ledger entry_id fit.0)
again (read ledger entry_id) fit = by_2 (λ (x0 x1 : ℕ). good (read x0 x1)) ledger entry_id fit.0
again (read_last ledger) fit = by_1 (λ (x0 : ℕ). good (read_last x0)) ledger fit.0
again (read_back number ledger entry_id digest) fit = chosen _ _ _ _ fit.1 (by_3 (λ (x0 x1 x2 : ℕ). good (read_back x0 x1 x2 digest)) number ledger entry_id fit.0)
again (last_entry ledger) fit = by_1 (λ (x0 : ℕ). good (last_entry x0)) ledger fit.0
again (holds ledger entry_id) fit = by_2 (λ (x0 x1 : ℕ). good (holds x0 x1)) ledger entry_id fit.0
again (entries ledger from most) fit = by_3 (λ (x0 x1 x2 : ℕ). good (entries x0 x1 x2)) ledger from most fit.0
again (ledgers from most) fit = by_2 (λ (x0 x1 : ℕ). good (ledgers x0 x1)) from most fit.0
again (fence ledger) fit = by_1 (λ (x0 : ℕ). good (fence x0)) ledger fit.0
again (is_fenced ledger) fit = by_1 (λ (x0 : ℕ). good (is_fenced x0)) ledger fit.0
again (delete ledger) fit = by_1 (λ (x0 : ℕ). good (delete x0)) ledger fit.0
again (set_master_key ledger key) fit = chosen _ _ _ _ fit.1 (by_1 (λ (x0 : ℕ). good (set_master_key x0 key)) ledger fit.0)
again (master_key ledger) fit = by_1 (λ (x0 : ℕ). good (master_key x0)) ledger fit.0
again (set_explicit_lac ledger lac) fit = chosen _ _ _ _ fit.1 (by_1 (λ (x0 : ℕ). good (set_explicit_lac x0 lac)) ledger fit.0)
again (explicit_lac ledger) fit = by_1 (λ (x0 : ℕ). good (explicit_lac x0)) ledger fit.0
again flush fit = refl
again checkpoint fit = refl
again (compact minor major) fit = by_2 (λ (x0 x1 : ℕ). good (compact x0 x1)) minor major fit.0
again stats fit = refl
again seal fit = refl
again close fit = refl

-- the request of a call with fields that fit has these bytes
abbrev CallIsWritten : ℕ → Type 0
CallIsWritten k = (body : List ℕ) → IsBytes body → fits (request_layout (suc k)) (length body) ≡ true
    → (ask_bytes (ask_at (suc k) body) ≡ suc k ∷ body) × Fits (ask_at (suc k) body)

call_0 : CallIsWritten 0
unfolding ask_at ask_bytes Fits
call_0 = λ body each is. written request_layout 1 (words_at 0 3 body) [] body (exact 3 body each is) (words_below 0 3 body each) is

call_1 : CallIsWritten 1
unfolding ask_at ask_bytes Fits
call_1 = λ body each is. written request_layout 2 (words_at 0 2 body) (drop 16 body) body (tailed 2 0 4999984 body each is) (words_below 0 2 body each) is

call_2 : CallIsWritten 2
unfolding ask_at ask_bytes Fits
call_2 = λ body each is. written request_layout 3 (words_at 0 2 body) (drop 16 body) body (tailed 2 0 4999984 body each is) (words_below 0 2 body each) is

call_3 : CallIsWritten 3
unfolding ask_at ask_bytes Fits
call_3 = λ body each is. written request_layout 4 (words_at 0 2 body) [] body (exact 2 body each is) (words_below 0 2 body each) is

call_4 : CallIsWritten 4
unfolding ask_at ask_bytes Fits
call_4 = λ body each is. written request_layout 5 (words_at 0 1 body) [] body (exact 1 body each is) (words_below 0 1 body each) is

call_5 : CallIsWritten 5
unfolding ask_at ask_bytes Fits
call_5 = λ body each is. written request_layout 6 (words_at 0 3 body) (drop 24 body) body (tailed 3 32 32 body each is) (words_below 0 3 body each) is

call_6 : CallIsWritten 6
unfolding ask_at ask_bytes Fits
call_6 = λ body each is. written request_layout 7 (words_at 0 1 body) [] body (exact 1 body each is) (words_below 0 1 body each) is

call_7 : CallIsWritten 7
unfolding ask_at ask_bytes Fits
call_7 = λ body each is. written request_layout 8 (words_at 0 2 body) [] body (exact 2 body each is) (words_below 0 2 body each) is

call_8 : CallIsWritten 8
unfolding ask_at ask_bytes Fits
call_8 = λ body each is. written request_layout 9 (words_at 0 3 body) [] body (exact 3 body each is) (words_below 0 3 body each) is

call_9 : CallIsWritten 9
unfolding ask_at ask_bytes Fits
call_9 = λ body each is. written request_layout 10 (words_at 0 2 body) [] body (exact 2 body each is) (words_below 0 2 body each) is

call_10 : CallIsWritten 10
unfolding ask_at ask_bytes Fits
call_10 = λ body each is. written request_layout 11 (words_at 0 1 body) [] body (exact 1 body each is) (words_below 0 1 body each) is

call_11 : CallIsWritten 11
unfolding ask_at ask_bytes Fits
call_11 = λ body each is. written request_layout 12 (words_at 0 1 body) [] body (exact 1 body each is) (words_below 0 1 body each) is

call_12 : CallIsWritten 12
unfolding ask_at ask_bytes Fits
call_12 = λ body each is. written request_layout 13 (words_at 0 1 body) [] body (exact 1 body each is) (words_below 0 1 body each) is

call_13 : CallIsWritten 13
unfolding ask_at ask_bytes Fits
call_13 = λ body each is. written request_layout 14 (words_at 0 1 body) (drop 8 body) body (tailed 1 0 256 body each is) (words_below 0 1 body each) is

call_14 : CallIsWritten 14
unfolding ask_at ask_bytes Fits
call_14 = λ body each is. written request_layout 15 (words_at 0 1 body) [] body (exact 1 body each is) (words_below 0 1 body each) is

call_15 : CallIsWritten 15
unfolding ask_at ask_bytes Fits
call_15 = λ body each is. written request_layout 16 (words_at 0 1 body) (drop 8 body) body (tailed 1 0 256 body each is) (words_below 0 1 body each) is

call_16 : CallIsWritten 16
unfolding ask_at ask_bytes Fits
call_16 = λ body each is. written request_layout 17 (words_at 0 1 body) [] body (exact 1 body each is) (words_below 0 1 body each) is

call_17 : CallIsWritten 17
unfolding ask_at ask_bytes Fits
call_17 = λ body each is. written request_layout 18 (words_at 0 0 body) [] body (exact 0 body each is) (words_below 0 0 body each) is

call_18 : CallIsWritten 18
unfolding ask_at ask_bytes Fits
call_18 = λ body each is. written request_layout 19 (words_at 0 0 body) [] body (exact 0 body each is) (words_below 0 0 body each) is

call_19 : CallIsWritten 19
unfolding ask_at ask_bytes Fits
call_19 = λ body each is. written request_layout 20 (words_at 0 2 body) [] body (exact 2 body each is) (words_below 0 2 body each) is

call_20 : CallIsWritten 20
unfolding ask_at ask_bytes Fits
call_20 = λ body each is. written request_layout 21 (words_at 0 0 body) [] body (exact 0 body each is) (words_below 0 0 body each) is

call_21 : CallIsWritten 21
unfolding ask_at ask_bytes Fits
call_21 = λ body each is. written request_layout 22 (words_at 0 0 body) [] body (exact 0 body each is) (words_below 0 0 body each) is

call_22 : CallIsWritten 22
unfolding ask_at ask_bytes Fits
call_22 = λ body each is. written request_layout 23 (words_at 0 0 body) [] body (exact 0 body each is) (words_below 0 0 body each) is

call : Each CallIsWritten 23
call = (((((((((((((((((((((((tt, call_0), call_1), call_2), call_3), call_4), call_5), call_6), call_7), call_8), call_9), call_10), call_11), call_12), call_13), call_14), call_15), call_16), call_17), call_18), call_19), call_20), call_21), call_22)

second_false : (a b : Bool) → (a || b) ≡ false → b ≡ false
second_false false b is = is
second_false true b is = absurd cc

pub one : (bytes : List ℕ) (a : Ask) → IsBytes bytes → asked bytes ≡ good a → (bytes ≡ ask_bytes a) × Fits a
unfolding asked
one [] a each is = absurd cc
one (zero ∷ body) a each is = absurd cc
one (suc k ∷ body) a each is =
    let t = taken_else (eqb (suc k) 0 || ltb 23 (suc k)) (fits (request_layout (suc k)) (length body)) (UnknownKind (suc k)) (BadLength (suc k) (length body)) (ask_at (suc k) body) a is in
    let known : suc k ≤ 23 = ltb-false 23 (suc k) (second_false (eqb (suc k) 0) (ltb 23 (suc k)) t.known) in
    let w = each_below CallIsWritten 23 k call (omega (arith, known)) body (IsBytes-drop 1 (suc k ∷ body) each) t.fit in
    subst (λ (b : Ask). (suc k ∷ body ≡ ask_bytes b) × Fits b) t.same (sym w.0, w.1)
