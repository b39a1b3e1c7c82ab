-- From the bytes to the result of `read_map`.
use Rattle.std.proofs.Common.{◌≡◌, ◌≢◌, ℕ, ℤ, pos, negsuc, Bool, true, false, cond, ◌&&◌, nat_le, List, Option, Some, None, Result, Ok, Err}
use Rattle.std.proofs.Common.{refl, sym, ap, subst, ◌∙◌}
use Rattle.std.specs.Prelude.{◌==◌}
use Rattle.std.specs.Ordering.{nat_cmp}
use Rattle.std.specs.BTreeMap as tree
use Rattle.std.specs.BTreeMap.{BTreeMap, btree_map_len}
use Rattle.bk_record.specs.Files.{header_length}
use Rattle.bk_head.specs.declared.header.Header.{Header}
use Rattle.bk_head.specs.declared.fault.HeadFault.{HeadFault}
use Rattle.bk_head.specs.declared.fault.HeadFault.TheVariants.{BadMagic, Version, Negative, NotAMap, MapLength, Repeated, CountDiffers, Memory}
use Rattle.bk_head.specs.Ledgers.{LedgersMap, map_of, SpellsMap}
use Rattle.bk_head.specs.Faults.{FirstFault, AsksForMemory, OrMemory}
use Rattle.bk_head.specs.Reading.{MapAnswer, AnswerAt, TailAnswer, WantsMemory, UnlessMemory, map_place}
use Rattle.bk_head.proofs.Batching.{or_fault, or_memory-map}
use Rattle.bk_head.proofs.MapViews.{len-map_of}
use Rattle.bk_head.proofs.OneReading.{one_answer}

-- result for the offset and count of the header
at_place : (place : Result (Option (ℕ × ℕ)) HeadFault) (tail : List ℕ) (long : ℕ) (header : Header) (answer : Result (Option LedgersMap) HeadFault)
    → place ≡ map_place long header.map_offset header.count → AnswerAt place tail answer → MapAnswer tail long header answer
unfolding MapAnswer
at_place place tail long header answer is h = subst (λ (p : Result (Option (ℕ × ℕ)) HeadFault). AnswerAt p tail answer) is h

pub unsealed : (place : Option (ℕ × ℕ)) (tail : List ℕ) (long : ℕ) (header : Header) → Ok place ≡ map_place long header.map_offset header.count
    → place ≡ None → MapAnswer tail long header (Ok None)
unsealed place tail long header is none = at_place (Ok None) tail long header (Ok None) (ap (λ p. Ok p) (sym none) ∙ is) refl

-- an error of the offset and count is not `Memory`
place_without_memory : (long : ℕ) (offset count : ℤ) (fault : HeadFault) → Err fault ≡ map_place long offset count → fault ≢ Memory
place_without_memory long (negsuc n) count fault is e = cc
place_without_memory long (pos offset) (negsuc n) fault is e = cc
place_without_memory long (pos offset) (pos count) fault is e =
    let within = nat_le header_length offset && nat_le offset long in
    let placed : Bool → Result (Option (ℕ × ℕ)) HeadFault = λ b. cond b (Ok (Some (offset, count))) (Err (NotAMap offset)) in
    elim (offset == 0 && count == 0) as (λ b. Err fault ≡ cond b (Ok None) (placed within) → ⊥) [
      | true ↦ λ i. cc
      | false ↦ λ i. elim within as (λ b. Err fault ≡ placed b → ⊥) [ true ↦ λ j. cc | false ↦ λ j. cc ] i
    ] is

pub misplaced : (tail : List ℕ) (long : ℕ) (header : Header) (fault : HeadFault) → Err fault ≡ map_place long header.map_offset header.count
    → UnlessMemory (Err fault) (WantsMemory tail long header) (MapAnswer tail long header (Err fault))
misplaced tail long header fault is =
    or_fault fault (WantsMemory tail long header) (MapAnswer tail long header (Err fault))
    (place_without_memory long header.map_offset header.count fault is) (at_place (Err fault) tail long header (Err fault) is refl)

tail_fault : (offset count : ℕ) (tail : List ℕ) (fault : HeadFault) → FirstFault offset tail fault → TailAnswer offset count tail (Err fault)
tail_fault offset count tail BadMagic h = h
tail_fault offset count tail (Version version) h = h
tail_fault offset count tail Negative h = h
tail_fault offset count tail (NotAMap at) h = h
tail_fault offset count tail (MapLength at) h = h
tail_fault offset count tail (Repeated ledger) h = h
tail_fault offset count tail (CountDiffers found) h = absurd h.stands.1.1
tail_fault offset count tail Memory h = h

-- offset and count of a header
abbrev pub IsPlace : Option (ℕ × ℕ) → ℕ → ℕ → ℕ → Header → Type 0
IsPlace place offset count long header = (Ok place ≡ map_place long header.map_offset header.count) × (place ≡ Some (offset, count))

pub faulty : (place : Option (ℕ × ℕ)) (offset count : ℕ) (tail : List ℕ) (long : ℕ) (header : Header) (fault : HeadFault)
    → IsPlace place offset count long header
    → OrMemory fault (AsksForMemory tail) (FirstFault offset tail fault)
    → UnlessMemory (Err fault) (WantsMemory tail long header) (MapAnswer tail long header (Err fault))
faulty place offset count tail long header fault is h =
    let stands : Ok (Some (offset, count)) ≡ map_place long header.map_offset header.count = ap (λ p. Ok p) (sym is.1) ∙ is.0 in
    or_memory-map fault (AsksForMemory tail) (WantsMemory tail long header) (FirstFault offset tail fault) (MapAnswer tail long header (Err fault))
    (λ asks. (((offset, count), stands), asks))
    (λ t. at_place (Ok (Some (offset, count))) tail long header (Err fault) stands (tail_fault offset count tail fault t)) h

pub other_count : (place : Option (ℕ × ℕ)) (offset count : ℕ) (tail : List ℕ) (long : ℕ) (header : Header) (map : BTreeMap ℕ ℕ) (found : ℕ)
    → IsPlace place offset count long header
    → SpellsMap tail (map_of map) → tree.IsOrdered nat_cmp map → found ≡ btree_map_len map → found ≢ count
    → MapAnswer tail long header (Err (CountDiffers found))
other_count place offset count tail long header map found is spells ordered long-is other =
    at_place (Ok (Some (offset, count))) tail long header (Err (CountDiffers found)) (ap (λ p. Ok p) (sym is.1) ∙ is.0)
    (map_of map, (spells, (long-is ∙ sym (len-map_of map ordered), other)))

pub spelled_map : (place : Option (ℕ × ℕ)) (offset count : ℕ) (tail : List ℕ) (long : ℕ) (header : Header) (map : BTreeMap ℕ ℕ) (found : ℕ)
    → IsPlace place offset count long header
    → SpellsMap tail (map_of map) → tree.IsOrdered nat_cmp map → found ≡ btree_map_len map → found ≡ count
    → MapAnswer tail long header (Ok (Some (map_of map)))
spelled_map place offset count tail long header map found is spells ordered long-is same =
    at_place (Ok (Some (offset, count))) tail long header (Ok (Some (map_of map))) (ap (λ p. Ok p) (sym is.1) ∙ is.0)
    (spells, len-map_of map ordered ∙ sym long-is ∙ same)

-- no other result is possible
pub only : (tail : List ℕ) (long : ℕ) (header : Header) (fault : HeadFault)
    → UnlessMemory (Err fault) (WantsMemory tail long header) (MapAnswer tail long header (Err fault))
    → (answer : Result (Option LedgersMap) HeadFault) → MapAnswer tail long header answer → UnlessMemory (Err fault) (Unit {0}) (Err fault ≡ answer)
only tail long header fault h answer k =
    or_memory-map fault (WantsMemory tail long header) (Unit {0}) (MapAnswer tail long header (Err fault)) (Err fault ≡ answer)
    (λ _. tt) (λ g. one_answer tail long header (Err fault) answer g k) h
