-- Requests, their bytes, and what bytes ask. Read `Ask`, `ask_parts` and `asked` first.
use Rattle.std.specs.Prelude.{ℕ, ◌==◌, ◌||◌, List, [], ◌∷◌, length, drop, Result, Ok, Err, nat_lt, if◌then◌else◌}
use Rattle.bk_serve_core.specs.declared.fault.Fault.{Fault}
use Rattle.bk_serve_core.specs.declared.fault.Fault.TheVariants.{NoKind, UnknownKind, BadLength}
use Rattle.bk_serve_core.specs.declared.request.Request.{Request}
use Rattle.bk_serve_core.specs.declared.request.Request.TheVariants as r
use Rattle.bk_serve_core.specs.Fields.{Parts, parts, word, body_of, FitsLayout}
use Rattle.bk_serve_core.specs.Layouts.{fits, request_layout}

-- a request without where its bytes lie in memory
pub data Ask : Type 0 where
  hello : (magic lowest highest : ℕ) → Ask
  add : (ledger entry_id : ℕ) (content : List ℕ) → Ask
  add_recovery : (ledger entry_id : ℕ) (content : List ℕ) → Ask
  read : (ledger entry_id : ℕ) → Ask
  read_last : (ledger : ℕ) → Ask
  read_back : (number ledger entry_id : ℕ) (digest : List ℕ) → Ask
  last_entry : (ledger : ℕ) → Ask
  holds : (ledger entry_id : ℕ) → Ask
  entries : (ledger from most : ℕ) → Ask
  ledgers : (from most : ℕ) → Ask
  fence : (ledger : ℕ) → Ask
  is_fenced : (ledger : ℕ) → Ask
  delete : (ledger : ℕ) → Ask
  set_master_key : (ledger : ℕ) (key : List ℕ) → Ask
  master_key : (ledger : ℕ) → Ask
  set_explicit_lac : (ledger : ℕ) (lac : List ℕ) → Ask
  explicit_lac : (ledger : ℕ) → Ask
  flush : Ask
  checkpoint : Ask
  compact : (minor major : ℕ) → Ask
  stats : Ask
  seal : Ask
  close : Ask

abbrev pub ask : Request → Ask
ask (r.Hello magic lowest highest) = hello magic lowest highest
ask (r.Add ledger entry_id content) = add ledger entry_id content.now
ask (r.AddRecovery ledger entry_id content) = add_recovery ledger entry_id content.now
ask (r.Read ledger entry_id) = read ledger entry_id
ask (r.ReadLast ledger) = read_last ledger
ask (r.ReadBack number ledger entry_id digest) = read_back number ledger entry_id digest
ask (r.LastEntry ledger) = last_entry ledger
ask (r.Holds ledger entry_id) = holds ledger entry_id
ask (r.Entries ledger from most) = entries ledger from most
ask (r.Ledgers from most) = ledgers from most
ask (r.Fence ledger) = fence ledger
ask (r.IsFenced ledger) = is_fenced ledger
ask (r.Delete ledger) = delete ledger
ask (r.SetMasterKey ledger key) = set_master_key ledger key.now
ask (r.MasterKey ledger) = master_key ledger
ask (r.SetExplicitLac ledger lac) = set_explicit_lac ledger lac.now
ask (r.ExplicitLac ledger) = explicit_lac ledger
ask r.Flush = flush
ask r.Checkpoint = checkpoint
ask (r.Compact minor major) = compact minor major
ask r.Stats = stats
ask r.Seal = seal
ask r.Close = close

-- call, numbers and bytes of a request
abbrev pub ask_parts : Ask → Parts
ask_parts (hello magic lowest highest) = parts 1 (magic ∷ lowest ∷ highest ∷ []) []
ask_parts (add ledger entry_id content) = parts 2 (ledger ∷ entry_id ∷ []) content
ask_parts (add_recovery ledger entry_id content) = parts 3 (ledger ∷ entry_id ∷ []) content
ask_parts (read ledger entry_id) = parts 4 (ledger ∷ entry_id ∷ []) []
ask_parts (read_last ledger) = parts 5 (ledger ∷ []) []
ask_parts (read_back number ledger entry_id digest) = parts 6 (number ∷ ledger ∷ entry_id ∷ []) digest
ask_parts (last_entry ledger) = parts 7 (ledger ∷ []) []
ask_parts (holds ledger entry_id) = parts 8 (ledger ∷ entry_id ∷ []) []
ask_parts (entries ledger from most) = parts 9 (ledger ∷ from ∷ most ∷ []) []
ask_parts (ledgers from most) = parts 10 (from ∷ most ∷ []) []
ask_parts (fence ledger) = parts 11 (ledger ∷ []) []
ask_parts (is_fenced ledger) = parts 12 (ledger ∷ []) []
ask_parts (delete ledger) = parts 13 (ledger ∷ []) []
ask_parts (set_master_key ledger key) = parts 14 (ledger ∷ []) key
ask_parts (master_key ledger) = parts 15 (ledger ∷ []) []
ask_parts (set_explicit_lac ledger lac) = parts 16 (ledger ∷ []) lac
ask_parts (explicit_lac ledger) = parts 17 (ledger ∷ []) []
ask_parts flush = parts 18 [] []
ask_parts checkpoint = parts 19 [] []
ask_parts (compact minor major) = parts 20 (minor ∷ major ∷ []) []
ask_parts stats = parts 21 [] []
ask_parts seal = parts 22 [] []
ask_parts close = parts 23 [] []

-- its bytes after the id
unfoldable pub ask_bytes : Ask → List ℕ
ask_bytes a = body_of (ask_parts a)

-- every field fits its bytes
unfoldable pub Fits : Ask → Type 0
Fits a = FitsLayout request_layout (ask_parts a)

-- the request of a call with these fields
unfoldable pub ask_at : ℕ → List ℕ → Ask
ask_at kind body =
    if kind == 1 then hello (word 0 body) (word 1 body) (word 2 body)
    else if kind == 2 then add (word 0 body) (word 1 body) (drop 16 body)
    else if kind == 3 then add_recovery (word 0 body) (word 1 body) (drop 16 body)
    else if kind == 4 then read (word 0 body) (word 1 body)
    else if kind == 5 then read_last (word 0 body)
    else if kind == 6 then read_back (word 0 body) (word 1 body) (word 2 body) (drop 24 body)
    else if kind == 7 then last_entry (word 0 body)
    else if kind == 8 then holds (word 0 body) (word 1 body)
    else if kind == 9 then entries (word 0 body) (word 1 body) (word 2 body)
    else if kind == 10 then ledgers (word 0 body) (word 1 body)
    else if kind == 11 then fence (word 0 body)
    else if kind == 12 then is_fenced (word 0 body)
    else if kind == 13 then delete (word 0 body)
    else if kind == 14 then set_master_key (word 0 body) (drop 8 body)
    else if kind == 15 then master_key (word 0 body)
    else if kind == 16 then set_explicit_lac (word 0 body) (drop 8 body)
    else if kind == 17 then explicit_lac (word 0 body)
    else if kind == 18 then flush
    else if kind == 19 then checkpoint
    else if kind == 20 then compact (word 0 body) (word 1 body)
    else if kind == 21 then stats
    else if kind == 22 then seal
    else close

-- the request that bytes are, or why they are none
unfoldable pub asked : List ℕ → Result Ask Fault
asked [] = Err NoKind
asked (kind ∷ body) =
    if (kind == 0 || nat_lt 23 kind) then Err (UnknownKind kind)
    else if fits (request_layout kind) (length body) then Ok (ask_at kind body)
    else Err (BadLength kind (length body))
