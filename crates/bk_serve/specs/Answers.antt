-- Which reply a request has, and what it does to the store and to the manifest of its ledgers.
use Rattle.std.specs.Prelude.{◌≡◌, ℕ, Bool, List}
use Rattle.bk_manifest.specs.Keeping.{Kept}
use Rattle.bk_store.specs.State.{State}
use Rattle.bk_store.specs.declared.adding.AddKind.TheVariants.{Ordinary, Recovery}
use Rattle.bk_serve_core.specs.Requests as q
use Rattle.bk_serve_core.specs.Requests.{Ask}
use Rattle.bk_serve_core.specs.Replies.{Told, refused}
use Rattle.bk_serve_core.specs.declared.refusal.Refusal.TheVariants as f
use Rattle.bk_serve.specs.Adds.{AddAnswers, payload_of}
use Rattle.bk_serve.specs.Figures.{FiguresAnswers}
use Rattle.bk_serve.specs.Flushes.{FlushAnswers, CheckpointAnswers, SealAnswers, CloseAnswers, CompactAnswers}
use Rattle.bk_serve.specs.Ledgers.{DeleteAnswers, FenceAnswers, IsFencedAnswers, SetAnswers, GetAnswers, Same}
use Rattle.bk_serve.specs.Listings.{EntriesAnswers, LastEntryAnswers, LedgersAnswers, ReadLastAnswers}
use Rattle.bk_serve.specs.Reads.{ReadAnswers, ReadBackAnswers, HoldsAnswers}

-- The server does not have the call. Nothing changes.
abbrev pub NotOffered : State → Kept → Told → State → Kept → Type 0
NotOffered s m reply t m' = (reply ≡ refused f.NotOffered) × Same s m t m'

abbrev pub Answers : {V : Type 0} → (V → List ℕ) → (V → Bool) → (V → Bool) → State → Kept → Ask → Told → State → Kept → Type 0
Answers bytes honest sound s m (q.hello magic lowest highest) reply t m' = NotOffered s m reply t m'
Answers bytes honest sound s m (q.add ledger entry content) reply t m' = AddAnswers Ordinary ledger (payload_of ledger entry content) s m reply t m'
Answers bytes honest sound s m (q.add_recovery ledger entry content) reply t m' = AddAnswers Recovery ledger (payload_of ledger entry content) s m reply t m'
Answers bytes honest sound s m (q.read ledger entry) reply t m' = ReadAnswers bytes honest sound ledger entry s reply t × (m' ≡ m)
Answers bytes honest sound s m (q.read_last ledger) reply t m' = ReadLastAnswers bytes honest sound ledger s reply t × (m' ≡ m)
Answers bytes honest sound s m (q.read_back number ledger entry digest) reply t m' =
    ReadBackAnswers bytes honest sound number ledger entry digest s reply t × (m' ≡ m)
Answers bytes honest sound s m (q.last_entry ledger) reply t m' = LastEntryAnswers ledger s reply × Same s m t m'
Answers bytes honest sound s m (q.holds ledger entry) reply t m' = HoldsAnswers ledger entry s reply × Same s m t m'
Answers bytes honest sound s m (q.entries ledger from most) reply t m' = EntriesAnswers ledger from most s reply × Same s m t m'
Answers bytes honest sound s m (q.ledgers from most) reply t m' = LedgersAnswers from most s reply × Same s m t m'
Answers bytes honest sound s m (q.fence ledger) reply t m' = FenceAnswers ledger s m reply t m'
Answers bytes honest sound s m (q.is_fenced ledger) reply t m' = IsFencedAnswers ledger s m reply × Same s m t m'
Answers bytes honest sound s m (q.delete ledger) reply t m' = DeleteAnswers ledger s m reply t m'
Answers bytes honest sound s m (q.set_master_key ledger key) reply t m' = SetAnswers 0 ledger key s m reply m' × (t ≡ s)
Answers bytes honest sound s m (q.master_key ledger) reply t m' = GetAnswers 0 ledger s m reply × Same s m t m'
Answers bytes honest sound s m (q.set_explicit_lac ledger lac) reply t m' = SetAnswers 1 ledger lac s m reply m' × (t ≡ s)
Answers bytes honest sound s m (q.explicit_lac ledger) reply t m' = GetAnswers 1 ledger s m reply × Same s m t m'
Answers bytes honest sound s m q.flush reply t m' = FlushAnswers s reply t × (m' ≡ m)
Answers bytes honest sound s m q.checkpoint reply t m' = CheckpointAnswers s reply t × (m' ≡ m)
Answers bytes honest sound s m (q.compact minor major) reply t m' = CompactAnswers s reply t × (m' ≡ m)
Answers bytes honest sound s m q.stats reply t m' = FiguresAnswers s reply × Same s m t m'
Answers bytes honest sound s m q.seal reply t m' = SealAnswers s reply t × (m' ≡ m)
Answers bytes honest sound s m q.close reply t m' = CloseAnswers s reply t × (m' ≡ m)
