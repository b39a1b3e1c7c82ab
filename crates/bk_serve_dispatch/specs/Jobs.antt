-- Reads that were begun, and their replies. Read `Carries` and `Tells` first.
use Rattle.std.specs.Prelude.{◌≡◌, ℕ, ◌<◌, ◌⊎◌, true, false, List, [], ◌∷◌, ◌++◌, length, slice_index_or, Option, Some, None}
use Rattle.std.specs.Io.KnownBytes.{Appends}
use Rattle.bk_serve_core.specs.declared.ended.Ended.TheVariants as e
use Rattle.bk_serve_core.specs.Fields.{frame_of}
use Rattle.bk_serve_core.specs.Requests.{Ask}
use Rattle.bk_serve_core.specs.Replies.{Told, told_bytes}
use Rattle.bk_serve_dispatch.specs.declared.answering.Turn.TheVariants as turn
use Rattle.bk_serve_dispatch.specs.declared.begun.Begun.{Begun}
use Rattle.bk_serve_dispatch.specs.declared.begun.Stage.{Stage}
use Rattle.bk_serve_dispatch.specs.declared.begun.Stage.TheVariants.{Waits, Said, Unsaid}
use Rattle.bk_serve_dispatch.specs.declared.ending.End.{End}
use Rattle.bk_serve_dispatch.specs.declared.ending.End.TheVariants as end
use Rattle.bk_serve_dispatch.specs.declared.runs.Next.{Next}
use Rattle.bk_serve_dispatch.specs.declared.runs.Next.TheVariants as next
use Rattle.bk_serve_dispatch.specs.declared.runs.Step.{Step}
use Rattle.bk_serve_dispatch.specs.declared.runs.Step.TheVariants as step
use Rattle.bk_serve_dispatch.specs.declared.telling.Rest.{Rest}
use Rattle.bk_serve_dispatch.specs.declared.telling.Rest.TheVariants as rest
use Rattle.bk_serve_dispatch.specs.declared.threads.Sent.{Sent}
use Rattle.bk_serve_dispatch.specs.declared.threads.Sent.TheVariants as sent
use Rattle.bk_serve_dispatch.specs.Frames.{Asks}
use Rattle.bk_serve_dispatch.specs.Runs.{is_add, is_read}
use Rattle.bk_serve_dispatch.specs.Session.{Answers, IsAnswered, is_lost}

-- A job is carried out once, or left. What was carried out stays.
abbrev pub CarriesStage : {J : Type 0} → (J → Told → Type 0) → ℕ → Stage J → Stage J → Type 0
CarriesStage gives id (Waits job) (Waits after) = after ≡ job
CarriesStage gives id (Waits job) (Said reply) = (t : Told) × gives job t × (reply.items ≡ frame_of id (told_bytes t))
CarriesStage gives id (Waits job) Unsaid = (t : Told) × gives job t
CarriesStage gives id (Said reply) after = after ≡ Said reply
CarriesStage gives id Unsaid after = after ≡ Unsaid

-- The same of a begun request.
pub record Carries {J : Type 0} (gives : J → Told → Type 0) (one after : Begun J) : Type 0 where
  pub id : after.id ≡ one.id
  pub stage : CarriesStage gives one.id one.stage after.stage

-- The same of each of a run.
abbrev pub CarryEach : {J : Type 0} → (J → Told → Type 0) → List (Begun J) → List (Begun J) → Type 0
CarryEach {J} gives run after = (i : ℕ) (d : Begun J) → i < length run → Carries gives (slice_index_or run i d) (slice_index_or after i d)

-- The same of a run.
abbrev pub AreCarried : {J : Type 0} → (J → Told → Type 0) → List (Begun J) → List (Begun J) → Type 0
AreCarried gives run after = (length after ≡ length run) × CarryEach gives run after

-- The same of a run, one by one.
abbrev pub CarriedRun : {J : Type 0} → (J → Told → Type 0) → List (Begun J) → List (Begun J) → Type 0
CarriedRun gives [] [] = Unit {0}
CarriedRun gives (one ∷ run) (after ∷ rest) = Carries gives one after × CarriedRun gives run rest
CarriedRun gives _ _ = ⊥

-- A run stays here, or other threads will carry it out: the run that their promise names.
abbrev pub IsSent : {J : Type 0} → (J → Told → Type 0) → List (Begun J) → Sent J → Type 0
IsSent gives run (sent.Here after) = AreCarried gives run after.items
IsSent gives run (sent.Away away) = AreCarried gives run away.first.promise.0.value.items

-- Each reply that the job may have answers the request, or the reply that is kept does.
abbrev pub Owes : {J : Type 0} → (J → Told → Type 0) → (Told → Type 0) → ℕ → Stage J → Type 0
Owes gives answered id (Waits job) = (t : Told) → gives job t → answered t
Owes gives answered id (Said reply) = (t : Told) × answered t × (reply.items ≡ frame_of id (told_bytes t))
Owes gives answered id Unsaid = (t : Told) × answered t

-- A read is begun with this id, as the last of a run. Or nothing is done.
abbrev pub BeginsRead : {S J : Type 0} → (S → Ask → Told → S → Type 0) → (J → Told → Type 0) → ℕ → Ask → S → List (Begun J) → Step → S → List (Begun J) → Type 0
BeginsRead {S} {J} answers gives id request s run (step.Begun with_id) t after =
    (one : Begun J) × (with_id ≡ id) × (after ≡ run ++ one ∷ []) × (one.id ≡ id) × (is_read request ≡ true)
    × Owes gives (λ reply. answers s request reply t) one.id one.stage
BeginsRead answers gives id request s run step.Alone t after = (after ≡ run) × (t ≡ s)
BeginsRead answers gives id request s run _ t after = ⊥

-- A frame's request is begun if it is a read, and answered if it is an add. Or nothing is done.
abbrev pub BeginsOne : {S J : Type 0} → (S → Ask → Told → S → Type 0) → (J → Told → Type 0) → ℕ → List ℕ → S → List (Begun J) → Option (List ℕ)
    → Step → S → List (Begun J) → Option (List ℕ) → Type 0
BeginsOne {S} {J} answers gives last frame s run output (step.Begun id) t after output_after =
    (request : Ask) × Asks last frame id request × (output_after ≡ output) × BeginsRead answers gives id request s run (step.Begun id) t after
BeginsOne answers gives last frame s run output (step.Answered id) t after output_after =
    (request : Ask) × Asks last frame id request × (is_add request ≡ true) × (after ≡ run) × IsAnswered answers s request id t output output_after
BeginsOne answers gives last frame s run output (step.Ended how) t after output_after =
    (id : ℕ) × (request : Ask) × Asks last frame id request × (is_add request ≡ true) × (after ≡ run) × Answers answers s request id t output output_after (turn.Ended how)
BeginsOne answers gives last frame s run output step.Alone t after output_after = (after ≡ run) × (t ≡ s) × (output_after ≡ output)

-- the frame of the reply to a begun request
abbrev pub IsFrame : {J : Type 0} → (J → Told → Type 0) → ℕ → Stage J → List ℕ → Type 0
IsFrame gives id (Waits job) bytes = (t : Told) × gives job t × (bytes ≡ frame_of id (told_bytes t))
IsFrame gives id (Said reply) bytes = bytes ≡ reply.items
IsFrame gives id Unsaid bytes = ⊥

-- the job is carried out
abbrev pub IsRun : {J : Type 0} → (J → Told → Type 0) → Stage J → Type 0
IsRun gives (Waits job) = (t : Told) × gives job t
IsRun gives (Said reply) = Unit {0}
IsRun gives Unsaid = Unit {0}

abbrev pub AreRun : {J : Type 0} → (J → Told → Type 0) → List (Begun J) → Type 0
AreRun gives [] = Unit {0}
AreRun gives (one ∷ rest) = IsRun gives one.stage × AreRun gives rest

-- The reply to a begun request is written. Or the session ends, since it has none or cannot be
-- written.
abbrev pub TellsOne : {J : Type 0} → (J → Told → Type 0) → Begun J → Option End → Option (List ℕ) → Option (List ℕ) → Type 0
TellsOne gives one None output output_after = (bytes : List ℕ) × IsFrame gives one.id one.stage bytes × Appends output output_after bytes
TellsOne gives one (Some (end.OutputFailed id)) output output_after = (id ≡ one.id) × IsRun gives one.stage
TellsOne gives one (Some (end.Fault id why)) output output_after =
    (id ≡ one.id) × (why ≡ e.NoMemory) × (output_after ≡ output) × IsRun gives one.stage
TellsOne gives one (Some _) output output_after = ⊥

-- The replies are written in the order of the requests. If the session ends, the jobs that are left
-- are carried out.
pub data Tells {J : Type 0} (gives : J → Told → Type 0) : Option (List ℕ) → List (Begun J) → Option End → Option (List ℕ) → Type 0 where
  no_reply : {output : Option (List ℕ)} → Tells gives output [] None output
  one_reply : {one : Begun J} {rest : List (Begun J)} {how : Option End} {output middle output_after : Option (List ℕ)}
      → TellsOne gives one None output middle → Tells gives middle rest how output_after → Tells gives output (one ∷ rest) how output_after
  ends : {one : Begun J} {rest : List (Begun J)} {how : End} {output output_after : Option (List ℕ)}
      → TellsOne gives one (Some how) output output_after → AreRun gives rest → Tells gives output (one ∷ rest) (Some how) output_after

-- A run is answered, and what was begun after it is left. Or the session ends, and all of it is
-- carried out.
abbrev pub TellsRun : {J : Type 0} → (J → Told → Type 0) → Next → List (Begun J) → List (Begun J) → Rest J → Option (List ℕ) → Option (List ℕ) → Type 0
TellsRun gives what run more (rest.Left left) output output_after = (left.items ≡ more) × (is_lost what ≡ false) × Tells gives output run None output_after
TellsRun gives what run more (rest.Ended how) output output_after =
    AreRun gives more × (((what ≡ next.Lost how) × AreRun gives run × (output_after ≡ output)) ⊎ ((is_lost what ≡ false) × Tells gives output run (Some how) output_after))
