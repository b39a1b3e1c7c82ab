-- Runs of reads: begun, carried out and answered.
use Rattle.std.proofs.Common.{◌≡◌, ◌∙◌, ◌<◌, ℕ, List, [], ◌∷◌, length, Option, Some, None, slice_get, ap, sym, subst, refl, arith}
use Rattle.bk_serve_core.specs.Replies.{Told}
use Rattle.bk_serve_dispatch.specs.declared.begun.Begun.{Begun}
use Rattle.bk_serve_dispatch.specs.declared.begun.Stage.{Stage}
use Rattle.bk_serve_dispatch.specs.declared.begun.Stage.TheVariants.{Waits, Said, Unsaid}
use Rattle.bk_serve_dispatch.specs.declared.ending.End.{End}
use Rattle.bk_serve_dispatch.specs.declared.ending.End.TheVariants as end
use Rattle.bk_serve_dispatch.specs.Jobs.{Carries, CarriesStage, CarryEach, IsRun, AreRun, TellsOne, Tells, no_reply, one_reply, ends}

-- a job that is left
left_stage : {J : Type 0} (gives : J → Told → Type 0) (id : ℕ) (stage : Stage J) → CarriesStage gives id stage stage
left_stage gives id (Waits job) = refl
left_stage gives id (Said reply) = refl
left_stage gives id Unsaid = refl

pub left_each : {J : Type 0} (gives : J → Told → Type 0) (run : List (Begun J)) → CarryEach gives run run
left_each gives run = λ i d inside. record { id = refl; stage = left_stage gives _ _ }

-- what was carried out in two steps
stage_through : {J : Type 0} (gives : J → Told → Type 0) (id : ℕ) (a b c : Stage J) → CarriesStage gives id a b → CarriesStage gives id b c → CarriesStage gives id a c
stage_through gives id (Waits job) (Waits after) c first second = subst (λ j. CarriesStage gives id (Waits j) c) first second
stage_through gives id (Waits job) (Said reply) c first second = subst (λ s. CarriesStage gives id (Waits job) s) (sym second) first
stage_through gives id (Waits job) Unsaid c first second = subst (λ s. CarriesStage gives id (Waits job) s) (sym second) first
stage_through gives id (Said reply) b c first second = subst (λ s. CarriesStage gives id s c) first second
stage_through gives id Unsaid b c first second = subst (λ s. CarriesStage gives id s c) first second

one_through : {J : Type 0} (gives : J → Told → Type 0) (a b c : Begun J) → Carries gives a b → Carries gives b c → Carries gives a c
one_through gives a b c first second = record {
  id = second.id ∙ first.id;
  stage = stage_through gives a.id a.stage b.stage c.stage first.stage (subst (λ n. CarriesStage gives n b.stage c.stage) first.id second.stage);
}

pub each_through : {J : Type 0} (gives : J → Told → Type 0) (a b c : List (Begun J)) → length b ≡ length a → CarryEach gives a b → CarryEach gives b c → CarryEach gives a c
each_through gives a b c len first second = λ i d inside. one_through gives _ _ _ (first i d inside) (second i d (subst (λ n. i < n) (sym len) inside))

-- what the replies that are left do, or the jobs that are left, from the start
abbrev pub TellsSoFar : {J : Type 0} → (J → Told → Type 0) → Option (List ℕ) → List (Begun J) → Option (List ℕ) → List (Begun J) → Option End → Type 0
TellsSoFar gives output run output_now rest None =
    (how : Option End) (output_after : Option (List ℕ)) → Tells gives output_now rest how output_after → Tells gives output run how output_after
TellsSoFar gives output run output_now rest (Some how) = AreRun gives rest → Tells gives output run (Some how) output_now

-- one more reply
pub tells_more : {J : Type 0} (gives : J → Told → Type 0) (output middle now : Option (List ℕ)) (run rest items : List (Begun J)) (one : Begun J) (before how : Option End)
    → before ≡ None → items ≡ one ∷ rest → TellsSoFar gives output run middle items before → TellsOne gives one how middle now
    → TellsSoFar gives output run now rest how
tells_more gives output middle now run rest items one before None none_yet same so_far told =
    let all : TellsSoFar gives output run middle (one ∷ rest) None =
    subst (λ xs. TellsSoFar gives output run middle xs None) same (subst (λ h. TellsSoFar gives output run middle items h) none_yet so_far) in
    λ h after tells. all h after (one_reply told tells)
tells_more gives output middle now run rest items one before (Some how) none_yet same so_far told =
    let all : TellsSoFar gives output run middle (one ∷ rest) None =
    subst (λ xs. TellsSoFar gives output run middle xs None) same (subst (λ h. TellsSoFar gives output run middle items h) none_yet so_far) in
    λ are. all (Some how) now (ends told are)

-- no reply is left
pub tells_whole : {J : Type 0} (gives : J → Told → Type 0) (output now : Option (List ℕ)) (run items : List (Begun J)) (how : Option End)
    → length items ≡ 0 → TellsSoFar gives output run now items how → Tells gives output run how now
tells_whole gives output now run [] None empty so_far = so_far None now no_reply
tells_whole gives output now run [] (Some how) empty so_far = so_far tt
tells_whole gives output now run (x ∷ xs) how empty so_far = absurd (omega (arith, empty))

-- one more job was carried out, whose reply is dropped
pub drops_more : {J : Type 0} (gives : J → Told → Type 0) (run rest items : List (Begun J)) (one : Begun J)
    → items ≡ one ∷ rest → (AreRun gives items → AreRun gives run) → IsRun gives one.stage → AreRun gives rest → AreRun gives run
drops_more gives run rest items one same so_far is are = so_far (subst (λ xs. AreRun gives xs) (sym same) (is, are))

-- no job is left
pub drops_whole : {J : Type 0} (gives : J → Told → Type 0) (run items : List (Begun J)) → length items ≡ 0 → (AreRun gives items → AreRun gives run) → AreRun gives run
drops_whole gives run [] empty so_far = so_far tt
drops_whole gives run (x ∷ xs) empty so_far = absurd (omega (arith, empty))

-- the first reply cannot be written, and all jobs are carried out
pub ends_unwritten : {J : Type 0} (gives : J → Told → Type 0) (output output_after : Option (List ℕ)) (run : List (Begun J)) (one : Begun J)
    → Some one ≡ slice_get run 0 → AreRun gives run → Tells gives output run (Some (end.OutputFailed one.id)) output_after
ends_unwritten gives output output_after [] one first are = absurd cc
ends_unwritten gives output output_after (x ∷ xs) one first are =
    let same : one ≡ x = cc in
    ends (ap (λ b. b.id) same, are.0) are.1
