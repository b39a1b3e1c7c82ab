-- Lines that add an entry, from their parts.
use Rattle.std.proofs.Common.{◌≡◌, ◌≢◌, ℕ, ◌<◌, ◌≤◌, ◌^◌, List, [], ◌∷◌, ◌++◌, replicate, codes, Option, Some, All, Result, Ok, Err, arith, sym, ◌∙◌}
use Rattle.std.specs.Fmt.{decimal}
use Rattle.std.specs.Result.{IfOk, MatchResult}
use Rattle.bk_record.specs.Limits.{max_pad}
use Rattle.bk_drive.specs.declared.step.Step.{Step}
use Rattle.bk_store.specs.declared.adding.AddKind.{AddKind}
use Rattle.bk_store.specs.declared.adding.AddKind.TheVariants.{Ordinary}
use Rattle.bk_script.specs.Line.{IsPrintable, IsWord, IsAdd, words, followed, numbered, add_word, Spells, add, add_text, pad}
use Rattle.bk_script.specs.declared.line.LineFault.{LineFault}
use Rattle.bk_script.specs.declared.line.LineFault.TheVariants.{Memory}
use Rattle.bk_script.proofs.Printable.{printable_behind}
use Rattle.bk_script.proofs.Words.{IsWord-decimal, followed-injective, behind_number}
use Rattle.bk_script.proofs.Parts.{IsAddText}

pub spelled_pad : (readers ledger entry size : ℕ) (text : List ℕ) (r : Result Step LineFault) → ledger < 2 ^ 63 → entry < 2 ^ 63 → size ≤ max_pad
    → Some text ≡ numbered (ledger ∷ entry ∷ size ∷ [])
    → MatchResult r (IsAdd Ordinary ledger entry (replicate size 0)) (λ fault. fault ≡ Memory) → IfOk r (Spells readers (codes "pad" ++ 32 ∷ text))
spelled_pad readers ledger entry size text (Ok step) low high small is added =
    let whole : text ≡ words (decimal ledger ∷ decimal entry ∷ decimal size ∷ []) = cc in
    rw whole (pad {ledger = ledger} {entry = entry} {size = size} low high small added)
spelled_pad readers ledger entry size text (Err fault) low high small is added = tt

pub spelled_add : (readers : ℕ) (kind : AddKind) (ledger entry : ℕ) (text last : List ℕ) (r : Result Step LineFault) → ledger < 2 ^ 63 → entry < 2 ^ 63
    → text ≡ decimal ledger ++ 32 ∷ last → last ≡ decimal entry
    → MatchResult r (IsAdd kind ledger entry []) (λ fault. fault ≡ Memory) → IfOk r (Spells readers (add_word kind ++ 32 ∷ text))
spelled_add readers kind ledger entry text last (Ok step) low high e f is = rw (e, f) (add kind {ledger = ledger} {entry = entry} low high is)
spelled_add readers kind ledger entry text last (Err fault) low high e f is = tt

pub spelled_add_text : (readers : ℕ) (kind : AddKind) (ledger entry : ℕ) (text behind last : List ℕ) (r : Result Step LineFault) → ledger < 2 ^ 63 → entry < 2 ^ 63
    → All IsPrintable text → text ≡ decimal ledger ++ 32 ∷ behind → behind ≡ decimal entry ++ 32 ∷ last → last ≢ []
    → MatchResult r (IsAdd kind ledger entry last) (λ fault. fault ≡ Memory) → IfOk r (Spells readers (add_word kind ++ 32 ∷ text))
spelled_add_text readers kind ledger entry text behind last (Ok step) low high all e f some is =
    let all' = printable_behind (decimal entry) last (rw f at (printable_behind (decimal ledger) behind (rw e at all))) in
    rw (e, f) (add_text kind {ledger = ledger} {entry = entry} low high some all' is)
spelled_add_text readers kind ledger entry text behind last (Err fault) low high all e f some is = tt

-- The rest after the first number of an add, and the words in it.
pub add_behind : (text behind : List ℕ) (n : ℕ) (t : IsAddText text) → n < 2 ^ 64 → text ≡ decimal n ++ 32 ∷ behind
    → behind ≡ followed (decimal t.entry) t.rest
add_behind text behind n t small is =
    behind_number text behind n t.ledger (followed (decimal t.entry) t.rest) small (let h = t.ledger_fits in omega arith) is t.is

pub add_words : (text behind word : List ℕ) (rest : Option (List ℕ)) (n : ℕ) (t : IsAddText text) → n < 2 ^ 64 → IsWord word
    → text ≡ decimal n ++ 32 ∷ behind → behind ≡ followed word rest → (word ≡ decimal t.entry) × (rest ≡ t.rest)
add_words text behind word rest n t small is-word is then =
    followed-injective word (decimal t.entry) rest t.rest is-word (IsWord-decimal t.entry (let h = t.entry_fits in omega arith))
    (sym then ∙ add_behind text behind n t small is)
