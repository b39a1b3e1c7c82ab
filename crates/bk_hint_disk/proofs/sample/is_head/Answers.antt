use Rattle.std.proofs.Common.{◌≡◌, ◌∙◌, ℕ, ◌+◌, List, drop, sym, ap, arith}
use Rattle.std.proofs.lemmas.List.{length-drop, take_all}
use Rattle.std.specs.Int.{w32, w64, from_be_bytes}
use Rattle.std.proofs.lemmas.Bool.{eqb-true}
use Rattle.byteorder.specs.Endian.{big_number}
use Rattle.bk_head.proofs.Bytes.{big_number-4, big_number-8}
use Rattle.bk_hint_disk.proofs.Sampling.{head_read}
use Rattle.bk_hint_disk.proofs.sample.is_head.Goals.{then-from, else-from}
use Rattle.bk_hint_disk.proofs.sample.is_head.Goals as goal

pub returns-then-ledger : goal.returns-then-ledger
returns-then-ledger c = λ same. elim c.if-from.branch [
  | then-from w ↦
      let head = c.args.head.now in
      let size : from_be_bytes w32 head + 4 ≡ c.args.entry.now.size =
      omega (arith, big_number-4 head, c.read_u32-length.ensures, c.from.ensures, c.from-2.ensures, w.if-from.true) in
      let equal : c.read_u64-ledger.result ≡ w.ledger.result = eqb-true _ _ (sym w.value-is ∙ c.if-ledger.true) in
      let last : c.read_u64-id.result ≡ c.entry.result = eqb-true _ _ same in
      let read : c.read_u64-ledger.result ≡ big_number 8 (drop 4 head) =
      c.read_u64-ledger.ensures ∙ ap (λ (x : List ℕ). big_number 8 x) (take_all 16 (drop 4 head) (omega (arith, length-drop 4 head, c.told-head))) in
      let wanted : w.ledger.result ≡ c.args.entry.now.key.ledger = w.ledger.ensures.value in
      let ledger : from_be_bytes w64 (drop 4 head) ≡ c.args.entry.now.key.ledger = sym (big_number-8 (drop 4 head)) ∙ sym read ∙ equal ∙ wanted in
      let read_last : c.read_u64-id.result ≡ big_number 8 (drop 12 head) =
      c.read_u64-id.ensures ∙ ap (λ (x : List ℕ). big_number 8 x) (take_all 8 (drop 12 head) (omega (arith, length-drop 12 head, c.told-head))) in
      let wanted_last : c.entry.result ≡ c.args.entry.now.key.entry = c.entry.ensures.value in
      let id : from_be_bytes w64 (drop 12 head) ≡ c.args.entry.now.key.entry = sym (big_number-8 (drop 12 head)) ∙ sym read_last ∙ last ∙ wanted_last in
      head_read head c.args.entry.now c.told-head (λ i. omega (arith, c.fits-head i)) size ledger id
  | else-from w ↦
      let equal : c.from.result + 4 ≡ c.from-2.result = eqb-true _ _ (sym w.value-is ∙ c.if-ledger.true) in
      absurd (omega (arith, equal, w.if-from.false))
]
