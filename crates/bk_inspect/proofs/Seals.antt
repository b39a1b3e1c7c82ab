-- A log that is to be sealed: the sizes of its entries as a scan counts them, and what is written behind them.
use Rattle.std.proofs.Common.{◌≡◌, inl, inr, ℕ, ◌+◌, ◌≤◌, ◌<◌, Bool, true, IsTrue, List, [], ◌∷◌, length, take, drop, cond, Some, None, Ok, slice_get}
use Rattle.std.proofs.Common.{refl, sym, ap, ap₂, ◌∙◌, subst, arith}
use Rattle.std.specs.Prelude.{◌^◌, ◌⊎◌}
use Rattle.std.proofs.lemmas.Bool.{lt-ltb}
use Rattle.std.proofs.lemmas.List.{take_all}
use Rattle.std.specs.FinMap.{empty}
use Rattle.std.specs.FinMap as map
use Rattle.bk_record.specs.Body.{Body}
use Rattle.bk_record.specs.Files.{Files, header_length, records_of, rest_of}
use Rattle.bk_record.specs.Scan.{entries_of}
use Rattle.bk_record.specs.Spelling.{all_pieces, all_leftover}
use Rattle.bk_head.specs.Written.{IsWritable}
use Rattle.bk_log.specs.declared.found.Found.{Found}
use Rattle.bk_log.specs.Ranges.{entries_in}
use Rattle.bk_log.specs.Scanned.{new_scan}
use Rattle.bk_log.specs.Scanning.{Scan, part_of, IsGiven, IsFinished, NextMoves}
use Rattle.bk_log.specs.Sizes.{Sizes, Tally, with_bytes, sizes_of, CountsNext}
use Rattle.bk_log.specs.Writing.{IsCounted}
use Rattle.bk_log.proofs.Ranges.{all_pieces-file, all_leftover-file, entries_in-file}
use Rattle.bk_log.proofs.Sums.{counted_none, counted_put, counted_is_writable}
use Rattle.bk_disk.specs.Disk.{IsFile, files_after_append, files_after_patch}
use Rattle.bk_head.specs.declared.header.Header.{Header}
use Rattle.bk_head.specs.Header.{IsHeader, patch_of}
use Rattle.bk_log.specs.Sealing.{files_with_map}
use Rattle.bk_inspect.specs.declared.header.Head.{Head}
use Rattle.bk_inspect.specs.declared.header.Head.TheVariants.{Short, Bad, Whole}
use Rattle.bk_inspect.specs.declared.seal.Plan.{Plan}
use Rattle.bk_inspect.specs.Heads.{IsHead}
use Rattle.bk_inspect.specs.Reading.{OfFile}
use Rattle.bk_inspect.specs.Sealing.{AreSizesOf, IsBroken, IsOpenHead, IsPlan, IsSealable, IsSealedBy, LeavesPart, open_header, writer_of}

-- how far a scan has come of which each entry was counted
pub record Counting (first now : Scan) (sizes : Sizes) : Type 0 where
  pub given : ℕ
  pub moved : now ≡ record first { left = now.left; given = given; foreign = now.foreign }
  pub done : ℕ
  pub counted : IsCounted 0 done given sizes
  pub room : done + now.left ≤ header_length + first.left
  pub tallied : IsTrue first.honest → sizes ≡ sizes_of (take given (entries_in first.from (part_of first)))

take_none : {X : Type 0} (xs : List X) → take 0 xs ≡ []
take_none [] = refl
take_none (x ∷ xs) = refl

pub counting_first : (first : Scan) (bytes : List ℕ) (honest sound : Bool) (end : ℕ) (tally : Tally) → first ≡ new_scan bytes honest sound header_length end
    → tally ≡ record { sizes = empty; ledger = 0 } → Counting first first tally.sizes
unfolding sizes_of
counting_first first bytes honest sound end tally begins none = record {
  given = 0;
  moved = ap (λ (n : ℕ). record first { given = n }) (ap (λ (s : Scan). s.given) begins);
  done = header_length;
  counted = counted_none 0 header_length tally.sizes (omega arith) (omega arith) (ap (λ (t : Tally). t.sizes) none);
  room = omega arith;
  tallied = λ h. ap (λ (t : Tally). t.sizes) none ∙ sym (ap sizes_of (take_none (entries_in first.from (part_of first))));
}

-- one entry more was counted
pub counting_next : (first now next : Scan) (found : Found) (before after : Sizes) → Counting first now before → NextMoves now (Ok (Some found)) next
    → (IsTrue now.honest → IsGiven now found next.foreign) → found.key.ledger < 2 ^ 63 → after ≡ with_bytes before found.key.ledger found.size
    → CountsNext before found after → Counting first next after
counting_next first now next found before after counting moves given low is counts = record {
  given = counting.given + 1;
  moved = moves.2 ∙ ap (λ (s : Scan). record s { left = next.left; given = s.given + 1; foreign = next.foreign }) counting.moved;
  done = counting.done + found.size;
  counted = counted_put 0 counting.done counting.given found.size found.key.ledger before after counting.counted moves.1.long low is;
  room = omega (arith, counting.room, moves.1.fewer);
  tallied = λ honest.
      let one = given (subst (λ (b : Bool). IsTrue b) (sym (ap (λ (s : Scan). s.honest) counting.moved)) honest) in
      let listed = subst (λ (s : Scan). slice_get (entries_in s.from (part_of s)) s.given ≡ Some (found.at, one.payload)) counting.moved one.listed in
      counts (entries_in first.from (part_of first)) counting.given one.payload listed one.stands.keyed one.sized (counting.tallied honest);
}

nothing_left : (bytes : List ℕ) → length bytes ≡ 0 → bytes ≡ []
nothing_left [] none = refl
nothing_left (b ∷ bytes) none = absurd (omega arith)

-- all entries of a log that ends with a whole record were counted
pub counting_last : (first now next : Scan) (file : List ℕ) (sizes : Sizes) → Counting first now sizes → NextMoves now (Ok None) next
    → (IsTrue now.honest → IsFinished next) → next.torn ≡ 0 → IsTrue first.honest → first.from ≡ header_length → part_of first ≡ drop header_length file
    → AreSizesOf file sizes
counting_last first now next file sizes counting moves finished whole honest from_is part_is =
    let is : next ≡ record first { left = next.left; given = counting.given; foreign = next.foreign; torn = next.torn; ended = true } =
    moves.1 ∙ ap (λ (s : Scan). record s { left = next.left; foreign = next.foreign; torn = next.torn; ended = true }) counting.moved in
    let done = subst IsFinished is (finished (subst (λ (b : Bool). IsTrue b) (sym (ap (λ (s : Scan). s.honest) counting.moved)) honest)) in
    let listed : entries_in first.from (part_of first) ≡ entries_of file = ap₂ entries_in from_is part_is ∙ entries_in-file file in
    let given : counting.given ≡ length (entries_of file) = done.given ∙ ap length listed in
    let torn : next.torn ≡ length (rest_of file) = done.torn ∙ ap (λ (b : List ℕ). length (all_leftover b)) part_is ∙ ap length (all_leftover-file file) in
    let rest : rest_of file ≡ [] = nothing_left (rest_of file) (sym torn ∙ whole) in
    record {
      whole = subst (λ (r : List ℕ). Body header_length (drop header_length file) (records_of file) r) rest
          (subst (λ (r : List (ℕ × List ℕ)). Body header_length (drop header_length file) r (rest_of file)) (all_pieces-file file)
          (subst (λ (r : List ℕ). Body header_length (drop header_length file) (all_pieces header_length (drop header_length file)) r)
          (all_leftover-file file)
          (subst (λ (b : List ℕ). Body header_length b (all_pieces header_length b) (all_leftover b)) part_is
          (subst (λ n. Body n (part_of first) (all_pieces n (part_of first)) (all_leftover (part_of first))) from_is done.spelled))));
      are = counting.tallied honest ∙ ap sizes_of (ap (take counting.given) listed ∙ take_all counting.given (entries_of file) (omega (arith, given)));
    }

-- the sizes that were counted can be written as a map
pub counting_writable : (first now : Scan) (sizes : Sizes) → Counting first now sizes → header_length + first.left < 2 ^ 32 → IsWritable sizes
counting_writable first now sizes counting small =
    counted_is_writable 0 counting.done counting.given sizes counting.counted (omega (arith, counting.room))

-- ---- the log

-- the log's header is that of a log that was never sealed
open_head : (file : List ℕ) (head : Head) → IsHead file head → IsOpenHead head
    → (header_length ≤ length file) × IsHeader (take header_length file) open_header
open_head file Short is opens = absurd opens
open_head file (Bad fault) is opens = absurd opens
open_head file (Whole header) is opens = (is.0, subst (λ (h : Header). IsHeader (take header_length file) h) opens is.1)

-- What was known of a log before a plan was written to it: its header, which names no map, and the plan, of the same bytes.
pub record IsReady (files : Files) (log : ℕ) (plan : Plan) : Type 0 where
  pub file : List ℕ
  pub stands : IsFile files log file
  pub long : header_length ≤ length file
  pub headed : IsHeader (take header_length file) open_header
  pub planned : IsPlan file plan
  pub fits : plan.offset + length plan.map.items < 2 ^ 32

-- a log whose header was read, and then a view of it
pub seal_ready : (files mid now : Files) (log long : ℕ) (head : Head) (bytes : List ℕ) (plan : Plan)
    → OfFile files log (λ file. (long ≡ length file) × IsHead file head) → IsOpenHead head → mid ≡ files → IsFile mid log bytes → now ≡ mid
    → IsPlan bytes plan → plan.offset + length plan.map.items < 2 ^ 32 → IsReady now log plan
seal_ready files mid now log long head bytes plan found opens same viewed still planned fits =
    let stands : map.get files log ≡ Some bytes = ap (λ (fs : Files). map.get fs log) (sym same) ∙ viewed in
    let before : map.get files log ≡ Some found.0 = found.1 in
    let here : found.0 ≡ bytes = cc in
    let headed = open_head bytes head (subst (λ (f : List ℕ). IsHead f head) here found.2.1) opens in
    record {
      file = bytes;
      stands = ap (λ (fs : Files). map.get fs log) still ∙ viewed;
      long = headed.0;
      headed = headed.1;
      planned = planned;
      fits = fits;
    }

can_seal : (files : Files) (log : ℕ) (plan : Plan) (ready : IsReady files log plan) → IsSealable log ready.file
can_seal files log plan ready = record {
  long = ready.long;
  headed = ready.headed;
  whole = ready.planned.whole;
  writable = ready.planned.writable;
  fits = lt-ltb _ (2 ^ 32) (omega (arith, ready.fits, ready.planned.offset, ready.long, ap length ready.planned.bytes));
}

-- the plan was written
pub seal_done : (files now files' : Files) (log : ℕ) (plan : Plan) → now ≡ files → IsReady now log plan
    → files' ≡ files_after_patch (files_after_append now log plan.map.items) log (patch_of plan.offset plan.ledgers)
    → IsSealedBy files log (record { offset = plan.offset; ledgers = plan.ledgers }) files'
seal_done files now files' log plan same is wrote =
    let ready = subst (λ (fs : Files). IsReady fs log plan) same is in
    let file = ready.file in
    let able = can_seal files log plan ready in
    let offset : plan.offset ≡ length file = omega (arith, ready.planned.offset, ready.long) in
    let w = writer_of log file in
    record {
      file = file;
      stands = ready.stands;
      sealable = able;
      now = wrote ∙ ap (λ (fs : Files). files_after_patch (files_after_append fs log plan.map.items) log (patch_of plan.offset plan.ledgers)) same
          ∙ ap (λ (b : List ℕ). files_after_patch (files_after_append files log b) log (patch_of plan.offset plan.ledgers)) ready.planned.bytes
          ∙ ap (λ (n : ℕ). files_after_patch (files_with_map files w) log (patch_of n plan.ledgers)) offset
          ∙ ap (λ (n : ℕ). files_after_patch (files_with_map files w) log (patch_of (length file) n)) ready.planned.ledgers
          ∙ sym (ap (λ (b : Bool). cond b (files_after_patch (files_with_map files w) log (patch_of w.end (map.len w.sizes))) files) able.fits);
      offset = offset;
      ledgers = ready.planned.ledgers;
    }

-- it was written in part
part_left : (files files' : Files) (log : ℕ) (plan : Plan) → IsReady files log plan → LeavesPart files log plan files'
    → (files' ≡ files) ⊎ IsBroken files log files'
part_left files files' log plan ready (inl same) = inl same
part_left files files' log plan ready (inr (inl (n, now))) = inr (record {
  file = ready.file;
  stands = ready.stands;
  sealable = can_seal files log plan ready;
  now = inl (n, now ∙ ap (λ (b : List ℕ). files_after_append files log (take n b)) ready.planned.bytes);
})
part_left files files' log plan ready (inr (inr (left, (twelve, now)))) = inr (record {
  file = ready.file;
  stands = ready.stands;
  sealable = can_seal files log plan ready;
  now = inr (left, (twelve, now ∙ ap (λ (b : List ℕ). files_after_patch (files_after_append files log b) log left) ready.planned.bytes));
})

pub seal_left : (files now files' : Files) (log : ℕ) (plan : Plan) → now ≡ files → IsReady now log plan → LeavesPart now log plan files'
    → (files' ≡ files) ⊎ IsBroken files log files'
seal_left files now files' log plan same is leaves =
    part_left files files' log plan (subst (λ (fs : Files). IsReady fs log plan) same is)
    (subst (λ (fs : Files). LeavesPart fs log plan files') same leaves)
