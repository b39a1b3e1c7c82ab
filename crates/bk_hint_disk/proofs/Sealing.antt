-- The ledgers map of a sealed log, and what a check of it compared.
use Rattle.std.proofs.Common.{◌≡◌, ◌∙◌, ℕ, ◌+◌, List, length, take, drop, Option, Some, None, Result, Ok, Err, subst, arith}
use Rattle.std.specs.BTreeMap.{BTreeMap}
use Rattle.std.proofs.lemmas.List.{length-drop, take_all}
use Rattle.bk_disk.specs.Disk.{view_end}
use Rattle.bk_head.specs.declared.header.Header.{Header}
use Rattle.bk_head.specs.declared.fault.HeadFault.{HeadFault}
use Rattle.bk_head.specs.Ledgers.{LedgersMap, map_of, SpellsMap}
use Rattle.bk_head.specs.Reading.{map_place, AnswerAt, MapAnswer, UnlessMemory, answer_value}
use Rattle.bk_hint.specs.declared.facts.LogFacts.{LogFacts}
use Rattle.bk_hint.specs.declared.listed.Listed.{Listed}
use Rattle.bk_hint_disk.specs.Usable.{FitsTail, IsFrontOf, IsSample, IsSealedAt, IsUsable}

spelled : (place : Result (Option (ℕ × ℕ)) HeadFault) (tail : List ℕ) (map : LedgersMap) → AnswerAt place tail (Ok (Some map)) → SpellsMap tail map
spelled (Err fault) tail map is = absurd cc
spelled (Ok None) tail map is = absurd cc
spelled (Ok (Some place)) tail map is = is.0

read_spelled : (tail : List ℕ) (length : ℕ) (header : Header) (map : LedgersMap) → MapAnswer tail length header (Ok (Some map)) → SpellsMap tail map
unfolding MapAnswer
read_spelled tail length header map is = spelled (map_place length header.map_offset header.count) tail map is

-- the map that was read is that of the tail
pub map_read : (tail : List ℕ) (length : ℕ) (header : Header) (tree : BTreeMap ℕ ℕ) (result : Result (Option (BTreeMap ℕ ℕ)) HeadFault) (wants : Type 0) → result ≡ Ok (Some tree)
    → UnlessMemory (answer_value result) wants (MapAnswer tail length header (answer_value result)) → SpellsMap tail (map_of tree)
map_read tail length header tree result wants is answer =
    read_spelled tail length header (map_of tree)
    (subst (λ (r : Result (Option (BTreeMap ℕ ℕ)) HeadFault). UnlessMemory (answer_value r) wants (MapAnswer tail length header (answer_value r))) is answer)

-- the bytes from a position to the end of a view are all from there on
pub whole_tail : (file : List ℕ) (at left : ℕ) → at + left ≡ view_end file → take left (drop at file) ≡ drop at file
whole_tail file at left is = take_all left (drop at file) (omega (arith, length-drop at file, is))

-- front, ledgers map and sample of a hint were compared
pub usable : (header file hint tail : List ℕ) (length log : ℕ) (facts : LogFacts) (entries : List Listed) (at : ℕ) → length ≡ view_end file
    → IsFrontOf header length hint log facts entries at → tail ≡ drop at file → FitsTail header tail facts entries → IsSample file entries
    → IsUsable header file hint log entries
usable header file hint tail length log facts entries at ends front read fits sample = record {
  facts = facts;
  at = at;
  is = front.is;
  of_log = front.of_log;
  length_is = front.length_is ∙ ends;
  sealed = subst (λ (n : ℕ). IsSealedAt header n at) ends front.sealed;
  before_map = front.before_map;
  tail = subst (λ (t : List ℕ). FitsTail header t facts entries) read fits;
  sample = sample;
}
