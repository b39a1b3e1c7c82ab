-- Answers to reads. Read `ReadAnswers` first.
use Rattle.std.specs.Prelude.{◌≡◌, ◌⊎◌, ℕ, ◌<◌, ◌≤◌, ◌^◌, Bool, List, length, drop, Some, slice_get, Result, Ok, Err, IsTrue, Vec}
use Rattle.std.specs.declared.alloc.Global.{Global}
use Rattle.bk_record.specs.Key.{EntryKey}
use Rattle.bk_record.specs.Location.{Place}
use Rattle.bk_log.specs.Places.{Fetches}
use Rattle.bk_log.specs.declared.fault.FetchFault.{FetchFault}
use Rattle.bk_store.specs.LedgerReads.{HasLiveEntry}
use Rattle.bk_store.specs.State.{State}
use Rattle.bk_store.specs.Transitions.{TakeTransition}
use Rattle.bk_store.specs.declared.answer.Taken.{Taken}
use Rattle.bk_store.specs.declared.answer.Taken.TheVariants.{Deleted, Cached, NotHeld, Leased}
use Rattle.bk_store.specs.declared.answer.TakeFault.{TakeFault}
use Rattle.bk_store.specs.declared.mark.Mark.{Mark}
use Rattle.bk_store.specs.declared.mark.Mark.TheVariants.{Add}
use Rattle.bk_serve_core.specs.Replies.{Told, done, refused, entry, not_held, says_yes, says_no}
use Rattle.bk_serve_core.specs.declared.refusal.Refusal.TheVariants as f
use Rattle.bk_serve.specs.Refusals.{of_take, of_fetch}
use Rattle.bk_serve.specs.declared.reading.Found.{Found}
use Rattle.bk_serve.specs.declared.reading.Found.TheVariants as found
use Rattle.bk_serve.specs.declared.reading.ReadJob.{ReadJob}
use Rattle.bk_serve.specs.declared.reading.ReadJob.TheVariants as job

abbrev pub key_of : ℕ → ℕ → EntryKey
key_of ledger entry_id = record { ledger = ledger; entry = entry_id }

-- an id is greater than the greatest one
abbrev pub IsNegative : ℕ → ℕ → Type 0
IsNegative ledger entry_id = (2 ^ 63 ≤ ledger) ⊎ (2 ^ 63 ≤ entry_id)

-- The reply has the bytes of this entry after its ids; `Odd` if it is too short for these.
abbrev pub GivesPayload : EntryKey → List ℕ → Told → Type 0
GivesPayload key payload reply = (reply ≡ done (entry key.ledger key.entry (drop 16 payload))) ⊎ ((reply ≡ refused f.Odd) × (length payload < 16))

-- The reply has what was fetched at a place of a view, or why nothing was.
abbrev pub GivesFetched : EntryKey → Result (Vec ℕ Global) FetchFault → Told → Type 0
GivesFetched key (Ok payload) reply = GivesPayload key payload.items reply
GivesFetched key (Err fault) reply = reply ≡ refused (of_fetch fault)

-- The reply has what the view of a lease shows at a place: on an honest view the entry of the key.
pub record GivesLeased {V : Type 0} (bytes : V → List ℕ) (honest : V → Bool) (view : V) (place : Place) (key : EntryKey) (reply : Told) : Type 0 where
  pub fetched : Result (Vec ℕ Global) FetchFault
  pub shown : IsTrue (honest view) → Fetches (λ v. v.items) (bytes view) place.at key fetched
  pub says : GivesFetched key fetched reply

-- The reply has what the store returned for the key.
abbrev pub Gives : {V : Type 0} → (V → List ℕ) → (V → Bool) → EntryKey → Result (Taken V) TakeFault → Told → Type 0
Gives bytes honest key (Ok Deleted) reply = reply ≡ refused f.Deleted
Gives bytes honest key (Ok (Cached payload)) reply = GivesPayload key payload.value.items reply
Gives bytes honest key (Ok NotHeld) reply = reply ≡ done not_held
Gives bytes honest key (Ok (Leased lease place)) reply = GivesLeased bytes honest lease.view place key reply
Gives bytes honest key (Err fault) reply = reply ≡ refused (of_take fault)

-- The reply is made of what a read took from the store.
abbrev pub JobGives : {V : Type 0} → (V → List ℕ) → (V → Bool) → ReadJob V → Told → Type 0
JobGives bytes honest job.NotHeld reply = reply ≡ done not_held
JobGives bytes honest (job.Refused refusal) reply = reply ≡ refused refusal
JobGives bytes honest (job.Cached key payload) reply = GivesPayload key payload.value.items reply
JobGives bytes honest (job.Leased alloc lease place key) reply = GivesLeased bytes honest lease.view place key reply

-- A take of the key is answered.
pub record IsRead {V : Type 0} (bytes : V → List ℕ) (honest sound : V → Bool) (key : EntryKey) (s : State) (reply : Told) (t : State) : Type 0 where
  pub result : Result (Taken V) TakeFault
  pub takes : TakeTransition bytes honest sound s key result t
  pub gives : Gives bytes honest key result reply

-- An id is out of range.
pub record IsRefused (ledger entry_id : ℕ) (s : State) (reply : Told) (t : State) : Type 0 where
  pub says : reply ≡ refused f.Negative
  pub negative : IsNegative ledger entry_id
  pub same : t ≡ s

abbrev pub ReadAnswers : {V : Type 0} → (V → List ℕ) → (V → Bool) → (V → Bool) → ℕ → ℕ → State → Told → State → Type 0
ReadAnswers bytes honest sound ledger entry_id s reply t =
    IsRefused ledger entry_id s reply t ⊎ IsRead bytes honest sound (key_of ledger entry_id) s reply t

-- The trail has the mark of an accepted entry at a number, or ends before it, or has another mark.
abbrev pub LooksUp : List Mark → ℕ → EntryKey → List ℕ → Found → Type 0
LooksUp trail number key digest found.Stands = slice_get trail number ≡ Some (Add key digest)
LooksUp trail number key digest found.Missing = length trail ≤ number
LooksUp trail number key digest (found.Differs mark) = (slice_get trail number ≡ Some mark) × ¬ (mark ≡ Add key digest)

-- A read-back reads only if the trail has the mark of the receipt at its number.
pub data ReadBackAnswers {V : Type 0} (bytes : V → List ℕ) (honest sound : V → Bool) (number ledger entry_id : ℕ) (digest : List ℕ)
    (s : State) (reply : Told) (t : State) : Type 0 where
  refuses : IsRefused ledger entry_id s reply t → ReadBackAnswers bytes honest sound number ledger entry_id digest s reply t
  misses : length s.ledgers.trail ≤ number → reply ≡ refused (f.Missing (length s.ledgers.trail)) → t ≡ s
      → ReadBackAnswers bytes honest sound number ledger entry_id digest s reply t
  differs : {mark : Mark} → slice_get s.ledgers.trail number ≡ Some mark → ¬ (mark ≡ Add (key_of ledger entry_id) digest)
      → reply ≡ refused f.Differs → t ≡ s → ReadBackAnswers bytes honest sound number ledger entry_id digest s reply t
  reads : slice_get s.ledgers.trail number ≡ Some (Add (key_of ledger entry_id) digest) → IsRead bytes honest sound (key_of ledger entry_id) s reply t
      → ReadBackAnswers bytes honest sound number ledger entry_id digest s reply t

-- The reply says whether the ledger is live and the store holds the entry.
pub data HoldsAnswers (ledger entry_id : ℕ) (s : State) (reply : Told) : Type 0 where
  refuses : reply ≡ refused f.Negative → IsNegative ledger entry_id → HoldsAnswers ledger entry_id s reply
  yes : HasLiveEntry s ledger entry_id → reply ≡ done says_yes → HoldsAnswers ledger entry_id s reply
  no : ¬ (HasLiveEntry s ledger entry_id) → reply ≡ done says_no → HoldsAnswers ledger entry_id s reply
