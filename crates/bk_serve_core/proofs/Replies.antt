-- A reply that was written is read, and what is read was written so.
use Rattle.std.proofs.Common.{◌≡◌, ◌+◌, ◌-◌, ℕ, ◌<◌, ◌≤◌, true, List, [], ◌∷◌, length, drop, Result, Ok, refl, sym, subst, arith}
use Rattle.bk_serve_core.specs.declared.fault.Fault.{Fault}
use Rattle.bk_serve_core.specs.declared.fault.Fault.TheVariants.{UnknownKind, BadLength}
use Rattle.bk_serve_core.specs.Fields.{IsBytes}
use Rattle.bk_serve_core.proofs.Statuses.{IsInRange, range_of}
use Rattle.bk_serve_core.proofs.Statuses.IsInRange.{of_done, of_refusal, of_end}
use Rattle.bk_serve_core.specs.declared.refusal.Refusal.TheVariants as f
use Rattle.bk_serve_core.specs.declared.ended.Ended.TheVariants as e
use Rattle.bk_serve_core.specs.Layouts.{fits, reply_layout}
use Rattle.bk_serve_core.specs.Replies.{Told, told_bytes, told_at, answer_at, refusal_at, ended_at, is_status, replied, Fits}
use Rattle.bk_serve_core.specs.Replies.Told.{done, refused, ended}
use Rattle.bk_serve_core.specs.Replies.Answer.{welcome, accepted, held, entry, not_held, last, says_yes, says_no, page, fenced_now, fenced_before, dropped, stored, attribute, no_attribute, flushed, durable, compacted, figures, sealed, nothing_open, closed}
use Rattle.bk_serve_core.proofs.Numbers.{exact, tailed, words_at, words_below, written, chosen, taken_then, IsBytes-drop, Each, each_below, by_1, by_2, by_4, by_10}

abbrev good : Told → Result Told Fault
good t = Ok t

pub again : (t : Told) → Fits t → replied (told_bytes t) ≡ good t
unfolding replied told_bytes told_at answer_at refusal_at ended_at Fits
again (done (welcome version largest in_flight page_ids)) fit = by_4 (λ (x0 x1 x2 x3 : ℕ). good (done (welcome x0 x1 x2 x3))) version largest in_flight page_ids fit.0
again (done (accepted number digest)) fit = chosen _ _ _ _ fit.1 (by_1 (λ (x0 : ℕ). good (done (accepted x0 digest))) number fit.0)
again (done held) fit = refl
again (done (entry ledger entry_id content)) fit = chosen _ _ _ _ fit.1 (by_2 (λ (x0 x1 : ℕ). good (done (entry x0 x1 content))) ledger entry_id fit.0)
again (done not_held) fit = refl
again (done (last entry_id)) fit = by_1 (λ (x0 : ℕ). good (done (last x0))) entry_id fit.0
again (done says_yes) fit = refl
again (done says_no) fit = refl
again (done (page ids)) fit = chosen _ _ _ _ fit.1 refl
again (done fenced_now) fit = refl
again (done fenced_before) fit = refl
again (done (dropped entries)) fit = by_1 (λ (x0 : ℕ). good (done (dropped x0))) entries fit.0
again (done stored) fit = refl
again (done (attribute value)) fit = chosen _ _ _ _ fit.1 refl
again (done no_attribute) fit = refl
again (done (flushed entries)) fit = by_1 (λ (x0 : ℕ). good (done (flushed x0))) entries fit.0
again (done (durable front)) fit = by_1 (λ (x0 : ℕ). good (done (durable x0))) front fit.0
again (done (compacted logs entries)) fit = by_2 (λ (x0 x1 : ℕ). good (done (compacted x0 x1))) logs entries fit.0
again (done (figures logs bytes live cached indexed lasting next_log front leases failures)) fit = by_10 (λ (x0 x1 x2 x3 x4 x5 x6 x7 x8 x9 : ℕ). good (done (figures x0 x1 x2 x3 x4 x5 x6 x7 x8 x9))) logs bytes live cached indexed lasting next_log front leases failures fit.0
again (done (sealed log)) fit = by_1 (λ (x0 : ℕ). good (done (sealed x0))) log fit.0
again (done nothing_open) fit = refl
again (done (closed front)) fit = by_1 (λ (x0 : ℕ). good (done (closed x0))) front fit.0
again (refused (f.Backwards seen front)) fit = by_2 (λ (x0 x1 : ℕ). good (refused (f.Backwards x0 x1))) seen front fit.0
again (refused f.Negative) fit = refl
again (refused (f.TooLong size)) fit = by_1 (λ (x0 : ℕ). good (refused (f.TooLong x0))) size fit.0
again (refused f.Deleted) fit = refl
again (refused f.Fenced) fit = refl
again (refused (f.Full used limit)) fit = by_2 (λ (x0 x1 : ℕ). good (refused (f.Full x0 x1))) used limit fit.0
again (refused f.Memory) fit = refl
again (refused f.NoSeat) fit = refl
again (refused f.TooMany) fit = refl
again (refused f.AlreadyDeleted) fit = refl
again (refused (f.Missing front)) fit = by_1 (λ (x0 : ℕ). good (refused (f.Missing x0))) front fit.0
again (refused f.Differs) fit = refl
again (refused f.NotThere) fit = refl
again (refused f.Disk) fit = refl
again (refused f.Odd) fit = refl
again (refused f.LogsFull) fit = refl
again (refused f.NoMoreIds) fit = refl
again (refused f.Settings) fit = refl
again (refused (f.BadLog log)) fit = by_1 (λ (x0 : ℕ). good (refused (f.BadLog x0))) log fit.0
again (refused (f.LogTooLong log)) fit = by_1 (λ (x0 : ℕ). good (refused (f.LogTooLong x0))) log fit.0
again (refused f.InUse) fit = refl
again (refused f.Busy) fit = refl
again (refused f.OutOfRange) fit = refl
again (refused f.NoThread) fit = refl
again (refused f.NotOffered) fit = refl
again (ended e.NoHello) fit = refl
again (ended (e.Version lowest highest)) fit = by_2 (λ (x0 x1 : ℕ). good (ended (e.Version x0 x1))) lowest highest fit.0
again (ended e.SecondHello) fit = refl
again (ended (e.Cut size read)) fit = by_2 (λ (x0 x1 : ℕ). good (ended (e.Cut x0 x1))) size read fit.0
again (ended (e.Short size)) fit = by_1 (λ (x0 : ℕ). good (ended (e.Short x0))) size fit.0
again (ended (e.Oversized size largest)) fit = by_2 (λ (x0 x1 : ℕ). good (ended (e.Oversized x0 x1))) size largest fit.0
again (ended (e.UnknownCall call)) fit = by_1 (λ (x0 : ℕ). good (ended (e.UnknownCall x0))) call fit.0
again (ended (e.BadFields call size)) fit = by_2 (λ (x0 x1 : ℕ). good (ended (e.BadFields x0 x1))) call size fit.0
again (ended (e.NotRising next previous)) fit = by_2 (λ (x0 x1 : ℕ). good (ended (e.NotRising x0 x1))) next previous fit.0
again (ended e.InputFailed) fit = refl
again (ended e.NoMemory) fit = refl

-- the reply of a status with fields that fit has these bytes
abbrev IsWritten : ℕ → Type 0
IsWritten kind = (body : List ℕ) → IsBytes body → fits (reply_layout kind) (length body) ≡ true
    → (told_bytes (told_at kind body) ≡ kind ∷ body) × Fits (told_at kind body)

abbrev DoneIsWritten : ℕ → Type 0
DoneIsWritten k = IsWritten (32 + k)

abbrev RefusalIsWritten : ℕ → Type 0
RefusalIsWritten k = IsWritten (64 + k)

abbrev EndIsWritten : ℕ → Type 0
EndIsWritten k = IsWritten (96 + k)

outcome_0 : DoneIsWritten 0
unfolding told_at answer_at refusal_at ended_at told_bytes Fits
outcome_0 = λ body each is. written reply_layout 32 (words_at 0 4 body) [] body (exact 4 body each is) (words_below 0 4 body each) is

outcome_1 : DoneIsWritten 1
unfolding told_at answer_at refusal_at ended_at told_bytes Fits
outcome_1 = λ body each is. written reply_layout 33 (words_at 0 1 body) (drop 8 body) body (tailed 1 32 32 body each is) (words_below 0 1 body each) is

outcome_2 : DoneIsWritten 2
unfolding told_at answer_at refusal_at ended_at told_bytes Fits
outcome_2 = λ body each is. written reply_layout 34 (words_at 0 0 body) [] body (exact 0 body each is) (words_below 0 0 body each) is

outcome_3 : DoneIsWritten 3
unfolding told_at answer_at refusal_at ended_at told_bytes Fits
outcome_3 = λ body each is. written reply_layout 35 (words_at 0 2 body) (drop 16 body) body (tailed 2 0 4999984 body each is) (words_below 0 2 body each) is

outcome_4 : DoneIsWritten 4
unfolding told_at answer_at refusal_at ended_at told_bytes Fits
outcome_4 = λ body each is. written reply_layout 36 (words_at 0 0 body) [] body (exact 0 body each is) (words_below 0 0 body each) is

outcome_5 : DoneIsWritten 5
unfolding told_at answer_at refusal_at ended_at told_bytes Fits
outcome_5 = λ body each is. written reply_layout 37 (words_at 0 1 body) [] body (exact 1 body each is) (words_below 0 1 body each) is

outcome_6 : DoneIsWritten 6
unfolding told_at answer_at refusal_at ended_at told_bytes Fits
outcome_6 = λ body each is. written reply_layout 38 (words_at 0 0 body) [] body (exact 0 body each is) (words_below 0 0 body each) is

outcome_7 : DoneIsWritten 7
unfolding told_at answer_at refusal_at ended_at told_bytes Fits
outcome_7 = λ body each is. written reply_layout 39 (words_at 0 0 body) [] body (exact 0 body each is) (words_below 0 0 body each) is

outcome_8 : DoneIsWritten 8
unfolding told_at answer_at refusal_at ended_at told_bytes Fits
outcome_8 = λ body each is. written reply_layout 40 (words_at 0 0 body) body body (refl) (words_below 0 0 body each) is

outcome_9 : DoneIsWritten 9
unfolding told_at answer_at refusal_at ended_at told_bytes Fits
outcome_9 = λ body each is. written reply_layout 41 (words_at 0 0 body) [] body (exact 0 body each is) (words_below 0 0 body each) is

outcome_10 : DoneIsWritten 10
unfolding told_at answer_at refusal_at ended_at told_bytes Fits
outcome_10 = λ body each is. written reply_layout 42 (words_at 0 0 body) [] body (exact 0 body each is) (words_below 0 0 body each) is

outcome_11 : DoneIsWritten 11
unfolding told_at answer_at refusal_at ended_at told_bytes Fits
outcome_11 = λ body each is. written reply_layout 43 (words_at 0 1 body) [] body (exact 1 body each is) (words_below 0 1 body each) is

outcome_12 : DoneIsWritten 12
unfolding told_at answer_at refusal_at ended_at told_bytes Fits
outcome_12 = λ body each is. written reply_layout 44 (words_at 0 0 body) [] body (exact 0 body each is) (words_below 0 0 body each) is

outcome_13 : DoneIsWritten 13
unfolding told_at answer_at refusal_at ended_at told_bytes Fits
outcome_13 = λ body each is. written reply_layout 45 (words_at 0 0 body) body body (tailed 0 0 256 body each is) (words_below 0 0 body each) is

outcome_14 : DoneIsWritten 14
unfolding told_at answer_at refusal_at ended_at told_bytes Fits
outcome_14 = λ body each is. written reply_layout 46 (words_at 0 0 body) [] body (exact 0 body each is) (words_below 0 0 body each) is

outcome_15 : DoneIsWritten 15
unfolding told_at answer_at refusal_at ended_at told_bytes Fits
outcome_15 = λ body each is. written reply_layout 47 (words_at 0 1 body) [] body (exact 1 body each is) (words_below 0 1 body each) is

outcome_16 : DoneIsWritten 16
unfolding told_at answer_at refusal_at ended_at told_bytes Fits
outcome_16 = λ body each is. written reply_layout 48 (words_at 0 1 body) [] body (exact 1 body each is) (words_below 0 1 body each) is

outcome_17 : DoneIsWritten 17
unfolding told_at answer_at refusal_at ended_at told_bytes Fits
outcome_17 = λ body each is. written reply_layout 49 (words_at 0 2 body) [] body (exact 2 body each is) (words_below 0 2 body each) is

outcome_18 : DoneIsWritten 18
unfolding told_at answer_at refusal_at ended_at told_bytes Fits
outcome_18 = λ body each is. written reply_layout 50 (words_at 0 10 body) [] body (exact 10 body each is) (words_below 0 10 body each) is

outcome_19 : DoneIsWritten 19
unfolding told_at answer_at refusal_at ended_at told_bytes Fits
outcome_19 = λ body each is. written reply_layout 51 (words_at 0 1 body) [] body (exact 1 body each is) (words_below 0 1 body each) is

outcome_20 : DoneIsWritten 20
unfolding told_at answer_at refusal_at ended_at told_bytes Fits
outcome_20 = λ body each is. written reply_layout 52 (words_at 0 0 body) [] body (exact 0 body each is) (words_below 0 0 body each) is

outcome_21 : DoneIsWritten 21
unfolding told_at answer_at refusal_at ended_at told_bytes Fits
outcome_21 = λ body each is. written reply_layout 53 (words_at 0 1 body) [] body (exact 1 body each is) (words_below 0 1 body each) is

outcome : Each DoneIsWritten 22
outcome = ((((((((((((((((((((((tt, outcome_0), outcome_1), outcome_2), outcome_3), outcome_4), outcome_5), outcome_6), outcome_7), outcome_8), outcome_9), outcome_10), outcome_11), outcome_12), outcome_13), outcome_14), outcome_15), outcome_16), outcome_17), outcome_18), outcome_19), outcome_20), outcome_21)

refusal_0 : RefusalIsWritten 0
unfolding told_at answer_at refusal_at ended_at told_bytes Fits
refusal_0 = λ body each is. written reply_layout 64 (words_at 0 2 body) [] body (exact 2 body each is) (words_below 0 2 body each) is

refusal_1 : RefusalIsWritten 1
unfolding told_at answer_at refusal_at ended_at told_bytes Fits
refusal_1 = λ body each is. written reply_layout 65 (words_at 0 0 body) [] body (exact 0 body each is) (words_below 0 0 body each) is

refusal_2 : RefusalIsWritten 2
unfolding told_at answer_at refusal_at ended_at told_bytes Fits
refusal_2 = λ body each is. written reply_layout 66 (words_at 0 1 body) [] body (exact 1 body each is) (words_below 0 1 body each) is

refusal_3 : RefusalIsWritten 3
unfolding told_at answer_at refusal_at ended_at told_bytes Fits
refusal_3 = λ body each is. written reply_layout 67 (words_at 0 0 body) [] body (exact 0 body each is) (words_below 0 0 body each) is

refusal_4 : RefusalIsWritten 4
unfolding told_at answer_at refusal_at ended_at told_bytes Fits
refusal_4 = λ body each is. written reply_layout 68 (words_at 0 0 body) [] body (exact 0 body each is) (words_below 0 0 body each) is

refusal_5 : RefusalIsWritten 5
unfolding told_at answer_at refusal_at ended_at told_bytes Fits
refusal_5 = λ body each is. written reply_layout 69 (words_at 0 2 body) [] body (exact 2 body each is) (words_below 0 2 body each) is

refusal_6 : RefusalIsWritten 6
unfolding told_at answer_at refusal_at ended_at told_bytes Fits
refusal_6 = λ body each is. written reply_layout 70 (words_at 0 0 body) [] body (exact 0 body each is) (words_below 0 0 body each) is

refusal_7 : RefusalIsWritten 7
unfolding told_at answer_at refusal_at ended_at told_bytes Fits
refusal_7 = λ body each is. written reply_layout 71 (words_at 0 0 body) [] body (exact 0 body each is) (words_below 0 0 body each) is

refusal_8 : RefusalIsWritten 8
unfolding told_at answer_at refusal_at ended_at told_bytes Fits
refusal_8 = λ body each is. written reply_layout 72 (words_at 0 0 body) [] body (exact 0 body each is) (words_below 0 0 body each) is

refusal_9 : RefusalIsWritten 9
unfolding told_at answer_at refusal_at ended_at told_bytes Fits
refusal_9 = λ body each is. written reply_layout 73 (words_at 0 0 body) [] body (exact 0 body each is) (words_below 0 0 body each) is

refusal_10 : RefusalIsWritten 10
unfolding told_at answer_at refusal_at ended_at told_bytes Fits
refusal_10 = λ body each is. written reply_layout 74 (words_at 0 1 body) [] body (exact 1 body each is) (words_below 0 1 body each) is

refusal_11 : RefusalIsWritten 11
unfolding told_at answer_at refusal_at ended_at told_bytes Fits
refusal_11 = λ body each is. written reply_layout 75 (words_at 0 0 body) [] body (exact 0 body each is) (words_below 0 0 body each) is

refusal_12 : RefusalIsWritten 12
unfolding told_at answer_at refusal_at ended_at told_bytes Fits
refusal_12 = λ body each is. written reply_layout 76 (words_at 0 0 body) [] body (exact 0 body each is) (words_below 0 0 body each) is

refusal_13 : RefusalIsWritten 13
unfolding told_at answer_at refusal_at ended_at told_bytes Fits
refusal_13 = λ body each is. written reply_layout 77 (words_at 0 0 body) [] body (exact 0 body each is) (words_below 0 0 body each) is

refusal_14 : RefusalIsWritten 14
unfolding told_at answer_at refusal_at ended_at told_bytes Fits
refusal_14 = λ body each is. written reply_layout 78 (words_at 0 0 body) [] body (exact 0 body each is) (words_below 0 0 body each) is

refusal_15 : RefusalIsWritten 15
unfolding told_at answer_at refusal_at ended_at told_bytes Fits
refusal_15 = λ body each is. written reply_layout 79 (words_at 0 0 body) [] body (exact 0 body each is) (words_below 0 0 body each) is

refusal_16 : RefusalIsWritten 16
unfolding told_at answer_at refusal_at ended_at told_bytes Fits
refusal_16 = λ body each is. written reply_layout 80 (words_at 0 0 body) [] body (exact 0 body each is) (words_below 0 0 body each) is

refusal_17 : RefusalIsWritten 17
unfolding told_at answer_at refusal_at ended_at told_bytes Fits
refusal_17 = λ body each is. written reply_layout 81 (words_at 0 0 body) [] body (exact 0 body each is) (words_below 0 0 body each) is

refusal_18 : RefusalIsWritten 18
unfolding told_at answer_at refusal_at ended_at told_bytes Fits
refusal_18 = λ body each is. written reply_layout 82 (words_at 0 1 body) [] body (exact 1 body each is) (words_below 0 1 body each) is

refusal_19 : RefusalIsWritten 19
unfolding told_at answer_at refusal_at ended_at told_bytes Fits
refusal_19 = λ body each is. written reply_layout 83 (words_at 0 1 body) [] body (exact 1 body each is) (words_below 0 1 body each) is

refusal_20 : RefusalIsWritten 20
unfolding told_at answer_at refusal_at ended_at told_bytes Fits
refusal_20 = λ body each is. written reply_layout 84 (words_at 0 0 body) [] body (exact 0 body each is) (words_below 0 0 body each) is

refusal_21 : RefusalIsWritten 21
unfolding told_at answer_at refusal_at ended_at told_bytes Fits
refusal_21 = λ body each is. written reply_layout 85 (words_at 0 0 body) [] body (exact 0 body each is) (words_below 0 0 body each) is

refusal_22 : RefusalIsWritten 22
unfolding told_at answer_at refusal_at ended_at told_bytes Fits
refusal_22 = λ body each is. written reply_layout 86 (words_at 0 0 body) [] body (exact 0 body each is) (words_below 0 0 body each) is

refusal_23 : RefusalIsWritten 23
unfolding told_at answer_at refusal_at ended_at told_bytes Fits
refusal_23 = λ body each is. written reply_layout 87 (words_at 0 0 body) [] body (exact 0 body each is) (words_below 0 0 body each) is

refusal_24 : RefusalIsWritten 24
unfolding told_at answer_at refusal_at ended_at told_bytes Fits
refusal_24 = λ body each is. written reply_layout 88 (words_at 0 0 body) [] body (exact 0 body each is) (words_below 0 0 body each) is

refusal : Each RefusalIsWritten 25
refusal = (((((((((((((((((((((((((tt, refusal_0), refusal_1), refusal_2), refusal_3), refusal_4), refusal_5), refusal_6), refusal_7), refusal_8), refusal_9), refusal_10), refusal_11), refusal_12), refusal_13), refusal_14), refusal_15), refusal_16), refusal_17), refusal_18), refusal_19), refusal_20), refusal_21), refusal_22), refusal_23), refusal_24)

end_0 : EndIsWritten 0
unfolding told_at answer_at refusal_at ended_at told_bytes Fits
end_0 = λ body each is. written reply_layout 96 (words_at 0 0 body) [] body (exact 0 body each is) (words_below 0 0 body each) is

end_1 : EndIsWritten 1
unfolding told_at answer_at refusal_at ended_at told_bytes Fits
end_1 = λ body each is. written reply_layout 97 (words_at 0 2 body) [] body (exact 2 body each is) (words_below 0 2 body each) is

end_2 : EndIsWritten 2
unfolding told_at answer_at refusal_at ended_at told_bytes Fits
end_2 = λ body each is. written reply_layout 98 (words_at 0 0 body) [] body (exact 0 body each is) (words_below 0 0 body each) is

end_3 : EndIsWritten 3
unfolding told_at answer_at refusal_at ended_at told_bytes Fits
end_3 = λ body each is. written reply_layout 99 (words_at 0 2 body) [] body (exact 2 body each is) (words_below 0 2 body each) is

end_4 : EndIsWritten 4
unfolding told_at answer_at refusal_at ended_at told_bytes Fits
end_4 = λ body each is. written reply_layout 100 (words_at 0 1 body) [] body (exact 1 body each is) (words_below 0 1 body each) is

end_5 : EndIsWritten 5
unfolding told_at answer_at refusal_at ended_at told_bytes Fits
end_5 = λ body each is. written reply_layout 101 (words_at 0 2 body) [] body (exact 2 body each is) (words_below 0 2 body each) is

end_6 : EndIsWritten 6
unfolding told_at answer_at refusal_at ended_at told_bytes Fits
end_6 = λ body each is. written reply_layout 102 (words_at 0 1 body) [] body (exact 1 body each is) (words_below 0 1 body each) is

end_7 : EndIsWritten 7
unfolding told_at answer_at refusal_at ended_at told_bytes Fits
end_7 = λ body each is. written reply_layout 103 (words_at 0 2 body) [] body (exact 2 body each is) (words_below 0 2 body each) is

end_8 : EndIsWritten 8
unfolding told_at answer_at refusal_at ended_at told_bytes Fits
end_8 = λ body each is. written reply_layout 104 (words_at 0 2 body) [] body (exact 2 body each is) (words_below 0 2 body each) is

end_9 : EndIsWritten 9
unfolding told_at answer_at refusal_at ended_at told_bytes Fits
end_9 = λ body each is. written reply_layout 105 (words_at 0 0 body) [] body (exact 0 body each is) (words_below 0 0 body each) is

end_10 : EndIsWritten 10
unfolding told_at answer_at refusal_at ended_at told_bytes Fits
end_10 = λ body each is. written reply_layout 106 (words_at 0 0 body) [] body (exact 0 body each is) (words_below 0 0 body each) is

end : Each EndIsWritten 11
end = (((((((((((tt, end_0), end_1), end_2), end_3), end_4), end_5), end_6), end_7), end_8), end_9), end_10)

in_range : (first count kind : ℕ) (P : ℕ → Type 0) → ((k : ℕ) → k < count → P (first + k)) → first ≤ kind → kind < first + count → P kind
in_range first count kind P all least most =
    let at : first + (kind - first) ≡ kind = omega arith in
    subst P at (all (kind - first) (omega arith))

in_some : (kind : ℕ) → IsInRange kind → IsWritten kind
in_some kind (of_done a b) = in_range 32 22 kind IsWritten (λ k lt. each_below DoneIsWritten 22 k outcome lt) a (omega (arith, b))
in_some kind (of_refusal a b) = in_range 64 25 kind IsWritten (λ k lt. each_below RefusalIsWritten 25 k refusal lt) a (omega (arith, b))
in_some kind (of_end a b) = in_range 96 11 kind IsWritten (λ k lt. each_below EndIsWritten 11 k end lt) a (omega (arith, b))

each_status : (kind : ℕ) → is_status kind ≡ true → IsWritten kind
each_status kind is = in_some kind (range_of kind is)

pub one : (bytes : List ℕ) (t : Told) → IsBytes bytes → replied bytes ≡ good t → (bytes ≡ told_bytes t) × Fits t
unfolding replied
one [] t each is = absurd cc
one (kind ∷ body) t each is =
    let p = taken_then (is_status kind) (fits (reply_layout kind) (length body)) (UnknownKind kind) (BadLength kind (length body)) (told_at kind body) t is in
    let w = each_status kind p.known body (IsBytes-drop 1 (kind ∷ body) each) p.fit in
    subst (λ (b : Told). (kind ∷ body ≡ told_bytes b) × Fits b) p.same (sym w.0, w.1)
