-- The frames of replies that are pending.
use Rattle.std.proofs.Common.{◌≡◌, ◌∙◌, ◌<◌, ◌==◌, ℕ, zero, suc, List, [], ◌∷◌, ◌++◌, length, Option, Some, None, Bool, true, false, ap, sym, subst, refl, arith}
use Rattle.std.specs.Io.KnownBytes.{Appends}
use Rattle.bk_serve_core.specs.Fields.{frame_of}
use Rattle.bk_serve_core.specs.Requests as q
use Rattle.bk_serve_core.specs.Requests.{Ask}
use Rattle.bk_serve_core.specs.Replies.{Told, told_bytes}
use Rattle.bk_serve_dispatch.specs.declared.begun.Begun.{Begun}
use Rattle.bk_serve_dispatch.specs.declared.begun.Stage.{Stage}
use Rattle.bk_serve_dispatch.specs.declared.begun.Stage.TheVariants.{Waits, Said, Unsaid}
use Rattle.bk_serve_dispatch.specs.Jobs.{CarriesStage, AreCarried, CarriedRun, Owes, IsFrame, IsRun, AreRun}
use Rattle.bk_serve_dispatch.specs.Runs.{is_add, ReadsOn}
use Rattle.bk_serve_dispatch.specs.Session.{Pending, Point, point, with_pending, CarriesOut, Exchange, IsReply, Exchanges, none, more, defers, writes_first, rests, writes_out, Unanswered, carried, Breaks, unread, unsaid, EndsAt, EndsInput, Answers, Turns, TurnsBy, Serves, ReadsNext, is_close, is_lost}
use Rattle.bk_serve_dispatch.specs.Session as session

-- a list that is not empty has an item
pub not_empty : (n : ℕ) (is : Bool) → is ≡ (n == 0) → is ≡ false → 0 < n
not_empty zero is means off = absurd (let e : true ≡ false = sym means ∙ off in cc)
not_empty (suc n) is means off = omega arith

-- an add is no close
pub add_is_no_close : (request : Ask) → is_add request ≡ true → is_close request ≡ false
add_is_no_close (q.hello magic lowest highest) is = refl
add_is_no_close (q.add ledger entry_id content) is = refl
add_is_no_close (q.add_recovery ledger entry_id content) is = refl
add_is_no_close (q.read ledger entry_id) is = refl
add_is_no_close (q.read_last ledger) is = refl
add_is_no_close (q.read_back number ledger entry_id digest) is = refl
add_is_no_close (q.last_entry ledger) is = refl
add_is_no_close (q.holds ledger entry_id) is = refl
add_is_no_close (q.entries ledger from most) is = refl
add_is_no_close (q.ledgers from most) is = refl
add_is_no_close (q.fence ledger) is = refl
add_is_no_close (q.is_fenced ledger) is = refl
add_is_no_close (q.delete ledger) is = refl
add_is_no_close (q.set_master_key ledger key) is = refl
add_is_no_close (q.master_key ledger) is = refl
add_is_no_close (q.set_explicit_lac ledger lac) is = refl
add_is_no_close (q.explicit_lac ledger) is = refl
add_is_no_close q.flush is = refl
add_is_no_close q.checkpoint is = refl
add_is_no_close (q.compact minor major) is = refl
add_is_no_close q.stats is = refl
add_is_no_close q.seal is = refl
add_is_no_close q.close is = sym is

-- a close is no add
pub no_add_closes : (request : Ask) → is_add request ≡ true → request ≡ q.close → ⊥
no_add_closes request is same =
    let e : false ≡ true = sym (ap is_add same) ∙ is in
    cc

-- a run that was carried out, one by one
pub carried_run : {J : Type 0} (gives : J → Told → Type 0) (run after : List (Begun J)) → AreCarried gives run after → CarriedRun gives run after
carried_run gives [] [] c = tt
carried_run gives [] (y ∷ ys) c = absurd (omega (arith, c.0))
carried_run gives (x ∷ xs) [] c = absurd (omega (arith, c.0))
carried_run gives (x ∷ xs) (y ∷ ys) c = (c.1 0 x (omega arith), carried_run gives xs ys (omega (arith, c.0), λ i d inside. c.1 (suc i) d (omega (arith, inside))))

left_stage : {J : Type 0} (gives : J → Told → Type 0) (id : ℕ) (stage : Stage J) → CarriesStage gives id stage stage
left_stage gives id (Waits job) = refl
left_stage gives id (Said reply) = refl
left_stage gives id Unsaid = refl

left_run : {J : Type 0} (gives : J → Told → Type 0) (run : List (Begun J)) → CarriedRun gives run run
left_run gives [] = tt
left_run gives (x ∷ xs) = (record { id = refl; stage = left_stage gives x.id x.stage }, left_run gives xs)

-- and what was begun after it is left
pub carried_both : {J : Type 0} (gives : J → Told → Type 0) (run after rest : List (Begun J)) → CarriedRun gives run after → CarriedRun gives (run ++ rest) (after ++ rest)
carried_both gives [] [] rest c = left_run gives rest
carried_both gives [] (y ∷ ys) rest c = absurd c
carried_both gives (x ∷ xs) [] rest c = absurd c
carried_both gives (x ∷ xs) (y ∷ ys) rest c = (c.0, carried_both gives xs ys rest c.1)

-- runs that were carried out, one after another
pub are_both : {J : Type 0} (gives : J → Told → Type 0) (run rest : List (Begun J)) → AreRun gives run → AreRun gives rest → AreRun gives (run ++ rest)
are_both gives [] rest first second = second
are_both gives (x ∷ xs) rest first second = (first.0, are_both gives xs rest first.1 second)

-- the frame of the reply to a begun request, or none if it was not encoded
abbrev pub IsChoice : {J : Type 0} → (J → Told → Type 0) → ℕ → Stage J → Option (List ℕ) → Type 0
IsChoice gives id (Waits job) frame = (t : Told) × gives job t × IsReply id t frame
IsChoice gives id (Said reply) frame = frame ≡ Some reply.items
IsChoice gives id Unsaid frame = frame ≡ None

-- the same of a run
abbrev pub AreFrames : {J : Type 0} → (J → Told → Type 0) → List (Begun J) → List Pending → Type 0
AreFrames gives [] [] = Unit {0}
AreFrames gives (one ∷ run) (o ∷ pending) = (o.id ≡ one.id) × IsChoice gives one.id one.stage o.frame × AreFrames gives run pending
AreFrames gives _ _ = ⊥

-- a frame that was chosen is that of a reply that answers
pub chosen : {J : Type 0} (gives : J → Told → Type 0) (answered : Told → Type 0) (id : ℕ) (stage : Stage J) (frame : Option (List ℕ))
    → Owes gives answered id stage → IsChoice gives id stage frame → (t : Told) × answered t × IsReply id t frame
chosen gives answered id (Waits job) frame pending is = (is.0, pending is.0 is.1, is.2)
chosen gives answered id (Said reply) frame pending is = (pending.0, pending.1, subst (λ f. IsReply id pending.0 f) (sym is) pending.2)
chosen gives answered id Unsaid frame pending is = (pending.0, pending.1, subst (λ f. IsReply id pending.0 f) (sym is) tt)

-- what is chosen after a job was carried out could be chosen before
chosen_before : {J : Type 0} (gives : J → Told → Type 0) (id : ℕ) (before after : Stage J) (frame : Option (List ℕ))
    → CarriesStage gives id before after → IsChoice gives id after frame → IsChoice gives id before frame
chosen_before gives id (Waits job) (Waits after) frame c is = (is.0, subst (λ j. gives j is.0) c is.1, is.2)
chosen_before gives id (Waits job) (Said reply) frame c is = (c.0, c.1, subst (λ f. IsReply id c.0 f) (sym is) c.2)
chosen_before gives id (Waits job) Unsaid frame c is = (c.0, c.1, subst (λ f. IsReply id c.0 f) (sym is) tt)
chosen_before gives id (Said reply) after frame c is = subst (λ s. IsChoice gives id s frame) c is
chosen_before gives id Unsaid after frame c is = subst (λ s. IsChoice gives id s frame) c is

pub frames_before : {J : Type 0} (gives : J → Told → Type 0) (run after : List (Begun J)) (pending : List Pending) → CarriedRun gives run after → AreFrames gives after pending → AreFrames gives run pending
frames_before gives [] [] pending c are = are
frames_before gives [] (y ∷ ys) pending c are = absurd c
frames_before gives (x ∷ xs) [] pending c are = absurd c
frames_before gives (x ∷ xs) (y ∷ ys) [] c are = absurd are
frames_before gives (x ∷ xs) (y ∷ ys) (o ∷ os) c are =
    let stage : CarriesStage gives y.id x.stage y.stage = subst (λ n. CarriesStage gives n x.stage y.stage) (sym c.0.id) c.0.stage in
    (are.0 ∙ c.0.id, subst (λ n. IsChoice gives n x.stage o.frame) c.0.id (chosen_before gives y.id x.stage y.stage o.frame stage are.1), frames_before gives xs ys os c.1 are.2)

-- the frame that is written is one that can be chosen
pub frame_chosen : {J : Type 0} (gives : J → Told → Type 0) (id : ℕ) (stage : Stage J) (bytes : List ℕ) → IsFrame gives id stage bytes → IsChoice gives id stage (Some bytes)
frame_chosen gives id (Waits job) bytes is = is
frame_chosen gives id (Said reply) bytes is = ap (λ b. Some b) is
frame_chosen gives id Unsaid bytes is = absurd is

-- of a run that was carried out, frames can be chosen
run_chosen : {J : Type 0} (gives : J → Told → Type 0) (id : ℕ) (stage : Stage J) → IsRun gives stage → (frame : Option (List ℕ)) × IsChoice gives id stage frame
run_chosen gives id (Waits job) is = (Some (frame_of id (told_bytes is.0)), (is.0, is.1, refl))
run_chosen gives id (Said reply) is = (Some reply.items, refl)
run_chosen gives id Unsaid is = (None, refl)

pub runs_chosen : {J : Type 0} (gives : J → Told → Type 0) (run : List (Begun J)) → AreRun gives run → (pending : List Pending) × AreFrames gives run pending
runs_chosen gives [] are = ([], tt)
runs_chosen gives (x ∷ xs) are =
    let first = run_chosen gives x.id x.stage are.0 in
    let rest = runs_chosen gives xs are.1 in
    (record { id = x.id; frame = first.0 } ∷ rest.0, (refl, first.1, rest.1))

-- the last of a run
abbrev pub LastFrames : {J : Type 0} → (J → Told → Type 0) → List (Begun J) → Begun J → List Pending → Type 0
LastFrames gives run one pending =
    (earlier : List Pending) × (frame : Option (List ℕ)) × (pending ≡ earlier ++ record { id = one.id; frame = frame } ∷ []) × AreFrames gives run earlier × IsChoice gives one.id one.stage frame

pub last_frames : {J : Type 0} (gives : J → Told → Type 0) (run : List (Begun J)) (one : Begun J) (pending : List Pending) → AreFrames gives (run ++ one ∷ []) pending → LastFrames gives run one pending
last_frames gives [] one [] are = absurd are
last_frames gives [] one (o ∷ []) are = ([], o.frame, ap (λ n. record { id = n; frame = o.frame } ∷ []) are.0, tt, are.1)
last_frames gives [] one (o ∷ p ∷ os) are = absurd are.2
last_frames gives (x ∷ xs) one [] are = absurd are
last_frames gives (x ∷ xs) one (o ∷ os) are =
    let rest = last_frames gives xs one os are.2 in
    (o ∷ rest.0, rest.1, ap (λ l. o ∷ l) rest.2, (are.0, are.1, rest.3), rest.4)

-- an add is answered while replies are pending
pub overtaking : {S : Type 0} (answers : S → Ask → Told → S → Type 0) (last : ℕ) (s t : S) (input input_after output output_after : Option (List ℕ)) (pending : List Pending) (request : Ask) (id : ℕ) (reply : Told)
    → is_add request ≡ true → CarriesOut answers last s input request id reply t input_after → Appends output output_after (frame_of id (told_bytes reply))
    → Exchange answers (with_pending last s input output pending) request (with_pending id t input_after output_after pending)
overtaking answers last s t input input_after output output_after pending request id reply is out written = record {
  reply = reply;
  carries_out = out;
  written = written;
  pending = refl;
  overtakes = λ off. absurd (let e : true ≡ false = sym is ∙ off in cc);
}

-- a run that was carried out has as many requests as before
pub carried_some : {J : Type 0} (gives : J → Told → Type 0) (run after : List (Begun J)) → CarriedRun gives run after → 0 < length after → 0 < length run
carried_some gives [] [] c some = some
carried_some gives [] (y ∷ ys) c some = absurd c
carried_some gives (x ∷ xs) after c some = omega arith

-- the first reply that is pending is not written
pub first_pending : {S J : Type 0} (answers : S → Ask → Told → S → Type 0) (gives : J → Told → Type 0) (one : Begun J) (rest : List (Begun J)) (last id : ℕ) (s : S) (input input_after output : Option (List ℕ)) (pending : List Pending)
    → AreFrames gives (one ∷ rest) pending → id ≡ one.id → ReadsOn input input_after → Unanswered answers (with_pending last s input output pending) id s input_after
first_pending answers gives one rest last id s input input_after output [] are same read = absurd are
first_pending answers gives one rest last id s input input_after output (o ∷ os) are same read = session.pending refl (are.0 ∙ sym same) refl read
