-- A turn whose reads are begun ahead.
use Rattle.std.proofs.Common.{◌≡◌, ◌∙◌, ◌<◌, ◌≤◌, ◌⊎◌, inl, inr, ℕ, List, [], ◌∷◌, ◌++◌, length, Option, Some, None, Bool, true, false, ap, sym, subst, refl, arith}
use Rattle.std.proofs.lemmas.List.{append_assoc, append-nil}
use Rattle.bk_serve_core.specs.Reading.{ReadsFrame}
use Rattle.bk_serve_core.specs.Requests.{Ask}
use Rattle.bk_serve_core.specs.Replies.{Told}
use Rattle.bk_serve_dispatch.specs.declared.answering.Turn.{Turn}
use Rattle.bk_serve_dispatch.specs.declared.answering.Turn.TheVariants as turn
use Rattle.bk_serve_dispatch.specs.declared.begun.Begun.{Begun}
use Rattle.bk_serve_dispatch.specs.declared.ending.End.{End}
use Rattle.bk_serve_dispatch.specs.declared.ending.End.TheVariants as end
use Rattle.bk_serve_dispatch.specs.declared.runs.Gathered.{Gathered}
use Rattle.bk_serve_dispatch.specs.declared.runs.Next.{Next}
use Rattle.bk_serve_dispatch.specs.declared.runs.Next.TheVariants as next
use Rattle.bk_serve_dispatch.specs.declared.runs.Step.TheVariants as step
use Rattle.bk_serve_dispatch.specs.Frames.{Asks}
use Rattle.bk_serve_dispatch.specs.Jobs.{AreCarried, BeginsOne, AreRun, TellsOne, Tells, no_reply, one_reply, ends}
use Rattle.bk_serve_dispatch.specs.Rounds.{Goes, stands, begins, adds, carries, tells, keeps, Stands}
use Rattle.bk_serve_dispatch.specs.Runs.{is_add, is_read, ReadsOn}
use Rattle.bk_serve_dispatch.specs.Runs as on
use Rattle.bk_serve_dispatch.specs.Session.{Pending, Point, point, with_pending, Exchanges, none, more, defers, writes_first, rests, writes_out, carried, Breaks, unread, unsaid, EndsInput, Answers, Turns, TurnsBy, Serves, ReadsNext, is_lost}
use Rattle.bk_serve_dispatch.proofs.PendingFrames.{AreFrames, add_is_no_close, are_both, carried_both, carried_run, carried_some, chosen, first_pending, frame_chosen, frames_before, last_frames, no_add_closes, overtaking, runs_chosen}

module _ {S J : Type 0} (is_ahead : Bool) (answers : S → Ask → Told → S → Type 0) (works : S → S → Type 0) (gives : J → Told → Type 0) (start : Point S) where
  abbrev pub Gone : List (Begun J) → ℕ → S → Option (List ℕ) → Option (List ℕ) → Type 0
  Gone = Goes is_ahead answers works gives start

  -- reads are begun only ahead
  pub goes_ahead : (run : List (Begun J)) (last : ℕ) (s : S) (input output : Option (List ℕ)) → Gone run last s input output → 0 < length run → is_ahead ≡ true
  goes_ahead run last s input output (stands so_far) some = absurd (omega (arith, some))
  goes_ahead run last s input output (begins one earlier ahead reads asks is pending) some = ahead
  goes_ahead run last s input output (adds {s = b} {input = i} {output = o} earlier is out written) some = goes_ahead run _ b i o earlier some
  goes_ahead run last s input output (carries {run = r} earlier c) some = goes_ahead r last s input output earlier (carried_some gives r run c some)
  goes_ahead run last s input output (tells {output = o} {one = one} bytes earlier is written) some = goes_ahead (one ∷ run) last s input o earlier (omega arith)
  goes_ahead run last s input output (keeps {output = o} earlier kept) some = goes_ahead run last s input o earlier some

  -- however the replies that are pending turn out, the exchanges lead here
  pub converts : (run : List (Begun J)) (last : ℕ) (s : S) (input output : Option (List ℕ)) → Gone run last s input output → (pending : List Pending) → AreFrames gives run pending
      → Exchanges is_ahead answers works start (with_pending last s input output pending)
  converts run last s input output (stands so_far) [] are = so_far
  converts run last s input output (stands so_far) (o ∷ os) are = absurd are
  converts run last s input output (begins {last = l} {s = b} {input = i} {run = r} one {frame = frame} {request = request} earlier ahead reads asks is pending_reply) pending are =
      let parts = last_frames gives r one pending are in
      let reply = chosen gives (λ t. answers b request t s) one.id one.stage parts.1 pending_reply parts.4 in
      subst (λ l. Exchanges is_ahead answers works start (with_pending one.id s input output l)) (sym parts.2)
      (defers parts.1 (converts r l b i output earlier parts.0 parts.3) ahead is (record { frame = frame; reads = reads; asks = asks; carried_out = reply.1 }) reply.2)
  converts run last s input output (adds {last = l} {s = b} {input = i} {output = o} {request = request} {reply = reply} earlier is out written) pending are =
      more (converts run l b i o earlier pending are) (overtaking answers l b s i input o output pending request last reply is out written) (add_is_no_close request is)
  converts run last s input output (carries {run = r} earlier c) pending are = converts r last s input output earlier pending (frames_before gives r run pending c are)
  converts run last s input output (tells {output = o} {one = one} bytes earlier is written) pending are =
      writes_first (converts (one ∷ run) last s input o earlier (record { id = one.id; frame = Some bytes } ∷ pending) (refl, frame_chosen gives one.id one.stage bytes is, are)) written
  converts run last s input output (keeps {output = o} earlier kept) pending are = writes_out (converts run last s input o earlier pending are) kept

  -- one more read was begun
  pub goes_begun : (before run run_after : List (Begun J)) (last id : ℕ) (s t : S) (input input_after output output_after : Option (List ℕ)) (frame : List ℕ)
      → is_ahead ≡ true → Gone (before ++ run) last s input output → ReadsFrame true input input_after frame
      → BeginsOne answers gives last frame s run output (step.Begun id) t run_after output_after → Gone (before ++ run_after) id t input_after output_after
  goes_begun before run run_after last id s t input input_after output output_after frame ahead goes reads b =
      let one : Begun J = b.3.0 in
      let is : Gone ((before ++ run) ++ one ∷ []) one.id t input_after output =
      begins one goes ahead reads (subst (λ n. Asks last frame n b.0) (sym b.3.3) b.1) b.3.4 b.3.5 in
      subst (λ o. Gone (before ++ run_after) id t input_after o) (sym b.2)
      (subst (λ n. Gone (before ++ run_after) n t input_after output) b.3.3
      (subst (λ xs. Gone (before ++ xs) one.id t input_after output) (sym b.3.2)
      (subst (λ xs. Gone xs one.id t input_after output) (append_assoc before run (one ∷ [])) is)))

  -- one more add was answered
  pub goes_answered : (before run run_after : List (Begun J)) (last id : ℕ) (s t : S) (input input_after output output_after : Option (List ℕ)) (frame : List ℕ)
      → Gone (before ++ run) last s input output → ReadsFrame true input input_after frame
      → BeginsOne answers gives last frame s run output (step.Answered id) t run_after output_after → Gone (before ++ run_after) id t input_after output_after
  goes_answered before run run_after last id s t input input_after output output_after frame goes reads b =
      subst (λ xs. Gone (before ++ xs) id t input_after output_after) (sym b.3)
      (adds goes b.2 (record { frame = frame; reads = reads; asks = b.1; carried_out = b.4.1 }) b.4.2)

  -- another request was read
  pub stands_alone : (before run run_after : List (Begun J)) (at : Gathered) (s t : S) (input input_after output output_after : Option (List ℕ)) (frame : List ℕ)
      → at.next ≡ next.Frame → Gone (before ++ run) at.last s input output → ReadsFrame true input input_after frame
      → BeginsOne answers gives at.last frame s run output step.Alone t run_after output_after
      → Stands is_ahead answers works gives start (before ++ run_after) at t input_after frame output_after
  stands_alone before run run_after at s t input input_after output output_after frame what goes reads b = record {
    before = s;
    read = input;
    told = output;
    goes = subst (λ xs. Gone (before ++ xs) at.last s input output) (sym b.0) goes;
    reads = subst (λ n. ReadsNext answers at.last s input output frame n t input_after output_after) (sym what) (b.1, reads, b.2);
  }

  -- an add was carried out and not answered
  lost_next : (last id : ℕ) (s t : S) (input input_after output output_after : Option (List ℕ)) (frame : List ℕ) (request : Ask) (how : End)
      → ReadsFrame true input input_after frame → Asks last frame id request → is_add request ≡ true → Answers answers s request id t output output_after (turn.Ended how)
      → ReadsNext answers last s input output frame (next.Lost how) t input_after output_after
  lost_next last id s t input input_after output output_after frame request (end.Closed is_flushed) reads asks is a = absurd (no_add_closes request is a.0)
  lost_next last id s t input input_after output output_after frame request end.Over reads asks is a = absurd a
  lost_next last id s t input input_after output output_after frame request (end.Fault with_id why) reads asks is a =
      (a.1, a.2, request, a.3.0, record { frame = frame; reads = reads; asks = subst (λ n. Asks last frame n request) (sym a.0) asks; carried_out = a.3.1 })
  lost_next last id s t input input_after output output_after frame request (end.OutputFailed with_id) reads asks is a =
      (request, a.1.0, record { frame = frame; reads = reads; asks = subst (λ n. Asks last frame n request) (sym a.0) asks; carried_out = a.1.1 })
  lost_next last id s t input input_after output output_after frame request end.NotWrittenOut reads asks is a = absurd a

  pub stands_lost : (before run run_after : List (Begun J)) (at : Gathered) (s t : S) (input input_after output output_after : Option (List ℕ)) (frame : List ℕ) (how : End)
      → at.next ≡ next.Lost how → Gone (before ++ run) at.last s input output → ReadsFrame true input input_after frame
      → BeginsOne answers gives at.last frame s run output (step.Ended how) t run_after output_after
      → Stands is_ahead answers works gives start (before ++ run_after) at t input_after frame output_after
  stands_lost before run run_after at s t input input_after output output_after frame how what goes reads b = record {
    before = s;
    read = input;
    told = output;
    goes = subst (λ xs. Gone (before ++ xs) at.last s input output) (sym b.4) goes;
    reads = subst (λ n. ReadsNext answers at.last s input output frame n t input_after output_after) (sym what)
        (lost_next at.last b.0 s t input input_after output output_after frame b.1 how reads b.2 b.3 b.5);
  }

  -- a run was carried out
  pub stands_carried : (run after rest : List (Begun J)) (at : Gathered) (s : S) (input output : Option (List ℕ)) (frame : List ℕ) → AreCarried gives run after
      → Stands is_ahead answers works gives start (run ++ rest) at s input frame output → Stands is_ahead answers works gives start (after ++ rest) at s input frame output
  stands_carried run after rest at s input output frame c is = record {
    before = is.before;
    read = is.read;
    told = is.told;
    goes = carries is.goes (carried_both gives run after rest (carried_run gives run after c));
    reads = is.reads;
  }

  -- what was read stays so after further output, unless the session is lost
  reads_still : (last : ℕ) (b s : S) (read input told output : Option (List ℕ)) (frame : List ℕ) (what : Next) → is_lost what ≡ false
      → ReadsNext answers last b read told frame what s input output
      → (output ≡ told) × ((now : Option (List ℕ)) → ReadsNext answers last b read now frame what s input now)
  reads_still last b s read input told output frame next.Pause on reads = (reads.2, λ now. (reads.0, reads.1, refl))
  reads_still last b s read input told output frame next.Frame on reads = (reads.2, λ now. (reads.0, reads.1, refl))
  reads_still last b s read input told output frame (next.Ended how) on reads = (reads.2, λ now. (reads.0, reads.1, refl))
  reads_still last b s read input told output frame (next.Lost how) on reads = absurd cc

  -- the replies of a run were written
  goes_told : (run rest : List (Begun J)) (last : ℕ) (s : S) (input output output_after : Option (List ℕ)) → Gone (run ++ rest) last s input output
      → Tells gives output run None output_after → Gone rest last s input output_after
  goes_told [] rest last s input output output_after goes no_reply = goes
  goes_told (x ∷ xs) rest last s input output output_after goes (one_reply {middle = middle} told later) =
      goes_told xs rest last s input middle output_after (tells told.0 goes told.1 told.2) later

  pub stands_told : (run rest : List (Begun J)) (at : Gathered) (s : S) (input output output_after : Option (List ℕ)) (frame : List ℕ) → is_lost at.next ≡ false
      → Stands is_ahead answers works gives start (run ++ rest) at s input frame output → Tells gives output run None output_after
      → Stands is_ahead answers works gives start rest at s input frame output_after
  stands_told run rest at s input output output_after frame on is told =
      let still = reads_still at.last is.before s is.read input is.told output frame at.next on is.reads in record {
        before = is.before;
        read = is.read;
        told = output_after;
        goes = goes_told run rest at.last is.before is.read is.told output_after is.goes (subst (λ o. Tells gives o run None output_after) still.0 told);
        reads = still.1 output_after;
      }

  -- the session ends at the first reply that is pending
  ends_first : (one : Begun J) (rest : List (Begun J)) (last : ℕ) (s : S) (input input_after output output_after : Option (List ℕ)) (how : End)
      → Gone (one ∷ rest) last s input output → TellsOne gives one (Some how) output output_after → AreRun gives rest → ReadsOn input input_after
      → Serves is_ahead answers works start s input_after output_after how
  ends_first one rest last s input input_after output output_after (end.Closed is_flushed) goes told are read = absurd told
  ends_first one rest last s input input_after output output_after end.Over goes told are read = absurd told
  ends_first one rest last s input input_after output output_after (end.Fault id why) goes told are read =
      let pending = runs_chosen gives (one ∷ rest) (told.3, are) in (
        with_pending last s input output pending.0,
        converts (one ∷ rest) last s input output goes pending.0 pending.1,
        (told.2, subst (λ w. Breaks answers (with_pending last s input output pending.0) s input_after id w) (sym told.1) (unsaid (first_pending answers gives one rest last id s input input_after output pending.0 pending.1 told.0 read))),
      )
  ends_first one rest last s input input_after output output_after (end.OutputFailed id) goes told are read =
      let pending = runs_chosen gives (one ∷ rest) (told.1, are) in
      (with_pending last s input output pending.0, converts (one ∷ rest) last s input output goes pending.0 pending.1, first_pending answers gives one rest last id s input input_after output pending.0 pending.1 told.0 read)
  ends_first one rest last s input input_after output output_after end.NotWrittenOut goes told are read = absurd told

  goes_ends : (run rest : List (Begun J)) (last : ℕ) (s : S) (input input_after output output_after : Option (List ℕ)) (how : End) → Gone (run ++ rest) last s input output
      → Tells gives output run (Some how) output_after → AreRun gives rest → ReadsOn input input_after → Serves is_ahead answers works start s input_after output_after how
  goes_ends [] rest last s input input_after output output_after how goes told are read = elim told [ ]
  goes_ends (x ∷ xs) rest last s input input_after output output_after how goes (one_reply {middle = middle} told later) are read =
      goes_ends xs rest last s input input_after middle output_after how (tells told.0 goes told.1 told.2) later are read
  goes_ends (x ∷ xs) rest last s input input_after output output_after how goes (ends told first) are read =
      ends_first x (xs ++ rest) last s input input_after output output_after how goes told (are_both gives xs rest first are) read

  -- what else was read
  reads_on : (last : ℕ) (b s : S) (read input told output : Option (List ℕ)) (frame : List ℕ) (what : Next) → is_lost what ≡ false
      → ReadsNext answers last b read told frame what s input output → (s ≡ b) × ReadsOn read input
  reads_on last b s read input told output frame next.Pause off reads = (reads.0, subst (λ i. ReadsOn read i) (sym reads.1) on.nothing)
  reads_on last b s read input told output frame next.Frame off reads = (reads.0, on.frame reads.1)
  reads_on last b s read input told output frame (next.Ended how) off reads = (reads.0, on.unread)
  reads_on last b s read input told output frame (next.Lost how) off reads = absurd cc

  pub stands_ends : (run rest : List (Begun J)) (at : Gathered) (s : S) (input output output_after : Option (List ℕ)) (frame : List ℕ) (how : End) → is_lost at.next ≡ false
      → Stands is_ahead answers works gives start (run ++ rest) at s input frame output → Tells gives output run (Some how) output_after → AreRun gives rest
      → Serves is_ahead answers works start s input output_after how
  stands_ends run rest at s input output output_after frame how off is told are =
      let still = reads_still at.last is.before s is.read input is.told output frame at.next off is.reads in
      let read = reads_on at.last is.before s is.read input is.told output frame at.next off is.reads in
      subst (λ t. Serves is_ahead answers works start t input output_after how) (sym read.0)
      (goes_ends run rest at.last is.before is.read input is.told output_after how is.goes (subst (λ o. Tells gives o run (Some how) output_after) still.0 told) are read.1)

  -- nothing more can be written
  ends_lost : (run : List (Begun J)) (last : ℕ) (b s : S) (read input told output : Option (List ℕ)) (frame : List ℕ) (how : End) → Gone run last b read told → AreRun gives run
      → ReadsNext answers last b read told frame (next.Lost how) s input output → Serves is_ahead answers works start s input output how
  ends_lost run last b s read input told output frame (end.Closed is_flushed) goes are reads = absurd reads
  ends_lost run last b s read input told output frame end.Over goes are reads = absurd reads
  ends_lost run last b s read input told output frame (end.Fault id why) goes are reads =
      let pending = runs_chosen gives run are in (
        with_pending last b read told pending.0,
        converts run last b read told goes pending.0 pending.1,
        (reads.1, subst (λ w. Breaks answers (with_pending last b read told pending.0) s input id w) (sym reads.0) (unsaid (carried {reply = reads.3} reads.4))),
      )
  ends_lost run last b s read input told output frame (end.OutputFailed id) goes are reads =
      let pending = runs_chosen gives run are in
      (with_pending last b read told pending.0, converts run last b read told goes pending.0 pending.1, carried {reply = reads.1} reads.2)
  ends_lost run last b s read input told output frame end.NotWrittenOut goes are reads =
      let pending = runs_chosen gives run are in
      (with_pending last b read told pending.0, converts run last b read told goes pending.0 pending.1, (reads.0, reads.1))

  pub stands_drops : (run rest : List (Begun J)) (at : Gathered) (s : S) (input output : Option (List ℕ)) (frame : List ℕ) (how : End) → at.next ≡ next.Lost how
      → Stands is_ahead answers works gives start (run ++ rest) at s input frame output → AreRun gives run → AreRun gives rest
      → Serves is_ahead answers works start s input output how
  stands_drops run rest at s input output frame how lost is first are =
      ends_lost (run ++ rest) at.last is.before s is.read input is.told output frame how is.goes (are_both gives run rest first are)
      (subst (λ n. ReadsNext answers at.last is.before is.read is.told frame n s input output) lost is.reads)

  -- the session ends after a run
  pub tells_ends : (run rest : List (Begun J)) (at : Gathered) (s : S) (input output output_after : Option (List ℕ)) (frame : List ℕ) (how : End)
      → Stands is_ahead answers works gives start (run ++ rest) at s input frame output → AreRun gives rest
      → (((at.next ≡ next.Lost how) × AreRun gives run × (output_after ≡ output)) ⊎ ((is_lost at.next ≡ false) × Tells gives output run (Some how) output_after))
      → Serves is_ahead answers works start s input output_after how
  tells_ends run rest at s input output output_after frame how is are (inl lost) =
      subst (λ o. Serves is_ahead answers works start s input o how) (sym lost.2) (stands_drops run rest at s input output frame how lost.0 is lost.1 are)
  tells_ends run rest at s input output output_after frame how is are (inr told) = stands_ends run rest at s input output output_after frame how told.0 is told.1 are

  -- a run of which nothing is left
  pub stands_last : (run empty : List (Begun J)) (at : Gathered) (s : S) (input output : Option (List ℕ)) (frame : List ℕ) → empty ≡ []
      → Stands is_ahead answers works gives start run at s input frame output → Stands is_ahead answers works gives start (run ++ empty) at s input frame output
  stands_last run empty at s input output frame same is =
      subst (λ xs. Stands is_ahead answers works gives start xs at s input frame output) (sym (ap (λ m. run ++ m) same ∙ append-nil run)) is

  -- no reply is pending any more
  pub stands_paid : (at : Gathered) (s : S) (input output : Option (List ℕ)) (frame : List ℕ) → at.next ≡ next.Pause
      → Stands is_ahead answers works gives start [] at s input frame output → Exchanges is_ahead answers works start (point at.last s input output)
  stands_paid at s input output frame what is =
      let reads = subst (λ n. ReadsNext answers at.last is.before is.read is.told frame n s input output) what is.reads in
      subst (λ t. Exchanges is_ahead answers works start (point at.last t input output)) (sym reads.0)
      (subst (λ i. Exchanges is_ahead answers works start (point at.last is.before i output)) (sym reads.1)
      (subst (λ o. Exchanges is_ahead answers works start (point at.last is.before is.read o)) (sym reads.2) (converts [] at.last is.before is.read is.told is.goes [] tt)))

  -- a frame is taken
  takes_frame : (last : ℕ) (b t : S) (read input told output : Option (List ℕ)) (by : Turn) → Exchanges is_ahead answers works start (point last b read told)
      → TurnsBy answers (point last b read told) t input output by → Turns is_ahead answers works start t input output by
  takes_frame last b t read input told output (turn.Answered id) so_far taken = more so_far taken.2 taken.1
  takes_frame last b t read input told output (turn.Ended how) so_far taken = (point last b read told, so_far, taken)

  pub stands_takes : (at : Gathered) (s t : S) (input now output : Option (List ℕ)) (frame : List ℕ) (by : Turn) → at.next ≡ next.Frame
      → (is : Stands is_ahead answers works gives start [] at s input frame now)
      → ((read : Option (List ℕ)) → ReadsFrame true read input frame → TurnsBy answers (point at.last s read now) t input output by)
      → Turns is_ahead answers works start t input output by
  stands_takes at s t input now output frame by what is takes =
      let reads = subst (λ n. ReadsNext answers at.last is.before is.read is.told frame n s input now) what is.reads in
      takes_frame at.last s t is.read input now output by
      (subst (λ b. Exchanges is_ahead answers works start (point at.last b is.read now)) (sym reads.0)
      (subst (λ o. Exchanges is_ahead answers works start (point at.last is.before is.read o)) (sym reads.2) (converts [] at.last is.before is.read is.told is.goes [] tt)))
      (takes is.read reads.1)

  -- the frame that was read
  pub stands_frame : (at : Gathered) (s : S) (input output : Option (List ℕ)) (frame : List ℕ) (run : List (Begun J)) → at.next ≡ next.Frame
      → Stands is_ahead answers works gives start run at s input frame output → 9 ≤ length frame
  stands_frame at s input output frame run what is =
      let reads = subst (λ n. ReadsNext answers at.last is.before is.read is.told frame n s input output) what is.reads in
      reads.1.least

  -- the input ends, or a frame cannot be read
  ends_input : (last : ℕ) (b s : S) (read input told output : Option (List ℕ)) (how : End) → Exchanges is_ahead answers works start (point last b read told)
      → s ≡ b → output ≡ told → EndsInput input how → Serves is_ahead answers works start s input output how
  ends_input last b s read input told output (end.Closed is_flushed) so_far same kept reads = absurd reads
  ends_input last b s read input told output end.Over so_far same kept reads = (point last b read told, so_far, (same, kept, reads, refl))
  ends_input last b s read input told output (end.Fault id why) so_far same kept reads =
      (point last b read told, so_far, (kept, subst (λ n. Breaks answers (point last b read told) s input n why) (sym reads) (unread refl same)))
  ends_input last b s read input told output (end.OutputFailed id) so_far same kept reads = absurd reads
  ends_input last b s read input told output end.NotWrittenOut so_far same kept reads = absurd reads

  pub stands_over : (at : Gathered) (s : S) (input output : Option (List ℕ)) (frame : List ℕ) (how : End) → at.next ≡ next.Ended how
      → Stands is_ahead answers works gives start [] at s input frame output → Serves is_ahead answers works start s input output how
  stands_over at s input output frame how what is =
      let reads = subst (λ n. ReadsNext answers at.last is.before is.read is.told frame n s input output) what is.reads in
      ends_input at.last is.before s is.read input is.told output how (converts [] at.last is.before is.read is.told is.goes [] tt) reads.0 reads.2 reads.1

-- exchanges, and further ones
pub chained : {S : Type 0} (is_ahead : Bool) (answers : S → Ask → Told → S → Type 0) (works : S → S → Type 0) (a b c : Point S) → Exchanges is_ahead answers works a b → Exchanges is_ahead answers works b c
    → Exchanges is_ahead answers works a c
chained is_ahead answers works a b c so_far none = so_far
chained is_ahead answers works a b c so_far (more {middle = m} later exchange is) = more (chained is_ahead answers works a b m so_far later) exchange is
chained is_ahead answers works a b c so_far (defers {last = last} {state = state} {input = input} {output = output} {pending = pending} frame later ahead is out reply) =
    defers frame (chained is_ahead answers works a b (with_pending last state input output pending) so_far later) ahead is out reply
chained is_ahead answers works a b c so_far (writes_first {last = last} {id = id} {state = state} {input = input} {output = output} {frame = frame} {pending = pending} later written) =
    writes_first (chained is_ahead answers works a b (with_pending last state input output (record { id = id; frame = Some frame } ∷ pending)) so_far later) written
chained is_ahead answers works a b c so_far (rests {last = last} {state = state} {input = input} {output = output} later rest) =
    rests (chained is_ahead answers works a b (point last state input output) so_far later) rest
chained is_ahead answers works a b c so_far (writes_out {last = last} {state = state} {input = input} {output = output} {pending = pending} later kept) =
    writes_out (chained is_ahead answers works a b (with_pending last state input output pending) so_far later) kept
