-- A hint that was written is read, and what is read was written.
use Rattle.std.proofs.Common.{◌≡◌, ℕ, zero, suc, ◌+◌, ◌-◌, ◌*◌, ◌^◌, ◌<◌, ◌≤◌, List, [], ◌∷◌, ◌++◌, length, take, drop, Result, Ok, Err, refl, sym, ap, subst, ◌∙◌, append_assoc, arith}
use Rattle.std.specs.Prelude.{IfOk, IfErr}
use Rattle.std.specs.Int.{w32, w64, to_be_bytes, from_be_bytes}
use Rattle.std.specs.List.{flat_map}
use Rattle.std.proofs.lemmas.List.{length-append, length-drop, take_at, drop_at, drop-drop, nil_from_length, append-nil}
use Rattle.bk_record.specs.Spelling.{IsBytes}
use Rattle.bk_record.proofs.Records.{bytes_drop}
use Rattle.bk_crc.specs.Checksum.{IsChecksum}
use Rattle.bk_crc.specs.declared.polynomial.Polynomial.TheVariants.{Castagnoli}
use Rattle.bk_crc.proofs.Words.{one_of}
use Rattle.bk_hint.specs.declared.facts.LogFacts.{LogFacts}
use Rattle.bk_hint.specs.declared.listed.Listed.{Listed}
use Rattle.bk_hint.specs.declared.head.Head.{Head}
use Rattle.bk_hint.specs.declared.fault.HintFault.{HintFault}
use Rattle.bk_hint.specs.declared.fault.HintFault.TheVariants.{Memory, Short, BadMagic, Version, Length, Checksum, Entries}
use Rattle.bk_hint.specs.Entries.{origin, entries_of, IsSound}
use Rattle.bk_hint.specs.Hint.{magic, front_of, facts_bytes, head_bytes, step_bytes, body_of, FactsFit, Spells, IsHint}
use Rattle.bk_hint.specs.Decoding.{facts_at, heads_at, steps_at, length_of, head_at, heads_in, steps_in, IsFront, HasChecksum, HasNoChecksum, HasNoEntries, HasFault, GivesHint}
use Rattle.bk_hint.proofs.Fields.{below_4, below_8, cut_4, cut_8, again_4, again_8, head_cut, length-heads, length-steps, heads_in_fit, steps_in_fit, length-heads_in, length-steps_in, same_heads, same_steps}

-- ---- the front

pub front_cut : (bytes : List ℕ) → IsBytes bytes → 32 ≤ length bytes → from_be_bytes w32 bytes ≡ magic → from_be_bytes w32 (drop 4 bytes) ≡ 1
    → bytes ≡ front_of (facts_at bytes) (heads_at bytes) (steps_at bytes) ++ drop 32 bytes
unfolding front_of facts_bytes
front_cut bytes each long begin version =
    let b : ℕ → List ℕ = λ n. drop n bytes in
    let four : (n : ℕ) → n + 4 ≤ length bytes → b n ≡ to_be_bytes w32 (from_be_bytes w32 (b n)) ++ b (n + 4) =
    λ n le. cut_4 (b n) (bytes_drop n bytes each) (omega (arith, length-drop n bytes))
    ∙ ap (λ (rest : List ℕ). to_be_bytes w32 (from_be_bytes w32 (b n)) ++ rest) (drop-drop 4 n bytes) in
    let eight : b 12 ≡ to_be_bytes w64 (from_be_bytes w64 (b 12)) ++ b 20 =
    cut_8 (b 12) (bytes_drop 12 bytes each) (omega (arith, length-drop 12 bytes))
    ∙ ap (λ (rest : List ℕ). to_be_bytes w64 (from_be_bytes w64 (b 12)) ++ rest) (drop-drop 8 12 bytes) in
    let one : bytes ≡ to_be_bytes w32 magic ++ b 4 =
    cut_4 bytes each (omega arith) ∙ ap (λ (n : ℕ). to_be_bytes w32 n ++ b 4) begin in
    let two : b 4 ≡ to_be_bytes w32 1 ++ b 8 = four 4 (omega arith) ∙ ap (λ (n : ℕ). to_be_bytes w32 n ++ b 8) version in
    one
    ∙ ap (λ (r : List ℕ). to_be_bytes w32 magic ++ r)
    (two ∙ ap (λ (r : List ℕ). to_be_bytes w32 1 ++ r)
    (four 8 (omega arith) ∙ ap (λ (r : List ℕ). to_be_bytes w32 (from_be_bytes w32 (b 8)) ++ r)
    (eight ∙ ap (λ (r : List ℕ). to_be_bytes w64 (from_be_bytes w64 (b 12)) ++ r)
    (four 20 (omega arith) ∙ ap (λ (r : List ℕ). to_be_bytes w32 (from_be_bytes w32 (b 20)) ++ r)
    (four 24 (omega arith) ∙ ap (λ (r : List ℕ). to_be_bytes w32 (from_be_bytes w32 (b 24)) ++ r) (four 28 (omega arith)))))))

pub facts_at_fit : (bytes : List ℕ) → IsBytes bytes → FactsFit (facts_at bytes)
facts_at_fit bytes each = record {
  log = below_4 (drop 8 bytes) (bytes_drop 8 bytes each);
  bytes = below_8 (drop 12 bytes) (bytes_drop 12 bytes each);
  checksum = below_4 (drop 20 bytes) (bytes_drop 20 bytes each);
}

-- ---- the rest

heads_cut_more : (count : ℕ) (bytes : List ℕ) → IsBytes bytes → 24 * count ≤ length bytes
    → flat_map head_bytes (heads_in count bytes) ++ drop (24 * count) bytes ≡ bytes
unfolding heads_in
heads_cut_more zero bytes each long = refl
heads_cut_more (suc count) bytes each long =
    let rest = heads_cut_more count (drop 24 bytes) (bytes_drop 24 bytes each) (omega (arith, length-drop 24 bytes, long)) in
    let front : List ℕ = head_bytes (head_at bytes) in
    let others : List ℕ = flat_map head_bytes (heads_in count (drop 24 bytes)) in
    let many : 24 + 24 * count ≡ 24 * suc count = omega arith in
    append_assoc front others (drop (24 * suc count) bytes)
    ∙ ap (λ (r : List ℕ). front ++ (others ++ r)) (ap (λ (n : ℕ). drop n bytes) (sym many) ∙ sym (drop-drop (24 * count) 24 bytes))
    ∙ ap (λ (r : List ℕ). front ++ r) rest ∙ sym (head_cut bytes each (omega (arith, long)))

steps_cut_more : (count : ℕ) (bytes : List ℕ) → IsBytes bytes → 4 * count ≤ length bytes
    → flat_map step_bytes (steps_in count bytes) ++ drop (4 * count) bytes ≡ bytes
unfolding steps_in
steps_cut_more zero bytes each long = refl
steps_cut_more (suc count) bytes each long =
    let rest = steps_cut_more count (drop 4 bytes) (bytes_drop 4 bytes each) (omega (arith, length-drop 4 bytes, long)) in
    let front : List ℕ = step_bytes (from_be_bytes w32 bytes) in
    let others : List ℕ = flat_map step_bytes (steps_in count (drop 4 bytes)) in
    let many : 4 + 4 * count ≡ 4 * suc count = omega arith in
    append_assoc front others (drop (4 * suc count) bytes)
    ∙ ap (λ (r : List ℕ). front ++ (others ++ r)) (ap (λ (n : ℕ). drop n bytes) (sym many) ∙ sym (drop-drop (4 * count) 4 bytes))
    ∙ ap (λ (r : List ℕ). front ++ r) rest ∙ sym (cut_4 bytes each (omega (arith, long)))

regroup : (a b d e : List ℕ) → a ++ (b ++ (d ++ e)) ≡ (a ++ (b ++ d)) ++ e
regroup a b d e = ap (λ (r : List ℕ). a ++ r) (sym (append_assoc b d e)) ∙ sym (append_assoc a (b ++ d) e)

-- number that the last four bytes are
abbrev pub sum_at : List ℕ → ℕ
sum_at bytes = from_be_bytes w32 (drop (length bytes - 4) bytes)

abbrev pub heads_of : ℕ → List ℕ → List Head
heads_of heads bytes = heads_in heads (drop 32 bytes)

abbrev pub steps_of : ℕ → ℕ → List ℕ → List ℕ
steps_of heads steps bytes = steps_in steps (drop (32 + 24 * heads) bytes)

pub spelled : (bytes : List ℕ) (facts : LogFacts) (heads steps : ℕ) → IsBytes bytes → IsFront bytes facts heads steps
    → Spells bytes facts (heads_of heads bytes) (steps_of heads steps bytes) (sum_at bytes)
spelled bytes facts heads steps each front =
    let all_heads : List Head = heads_of heads bytes in
    let all_steps : List ℕ = steps_of heads steps bytes in
    let long : length bytes ≡ 36 + (24 * heads + 4 * steps) = front.long in
    let rest : List ℕ = drop 32 bytes in
    let behind : List ℕ = drop (32 + 24 * heads) bytes in
    let last : List ℕ = drop (length bytes - 4) bytes in
    let rest_each : IsBytes rest = bytes_drop 32 bytes each in
    let behind_each : IsBytes behind = bytes_drop (32 + 24 * heads) bytes each in
    let last_each : IsBytes last = bytes_drop (length bytes - 4) bytes each in
    let rest_long : length rest ≡ length bytes - 32 = length-drop 32 bytes in
    let behind_long : length behind ≡ length bytes - (32 + 24 * heads) = length-drop (32 + 24 * heads) bytes in
    let last_long : length last ≡ length bytes - (length bytes - 4) = length-drop (length bytes - 4) bytes in
    let many_heads : length all_heads ≡ heads = length-heads_in heads rest in
    let many_steps : length all_steps ≡ steps = length-steps_in steps behind in
    let first : bytes ≡ front_of (facts_at bytes) (heads_at bytes) (steps_at bytes) ++ rest = front_cut bytes each (omega arith) front.begins front.version in
    let second : flat_map head_bytes all_heads ++ behind ≡ rest =
    ap (λ (r : List ℕ). flat_map head_bytes all_heads ++ r) (sym (drop-drop (24 * heads) 32 bytes))
    ∙ heads_cut_more heads rest rest_each (omega arith) in
    let end : 32 + 24 * heads + 4 * steps ≡ length bytes - 4 = omega arith in
    let third : flat_map step_bytes all_steps ++ last ≡ behind =
    ap (λ (r : List ℕ). flat_map step_bytes all_steps ++ r) (ap (λ (n : ℕ). drop n bytes) (sym end) ∙ sym (drop-drop (4 * steps) (32 + 24 * heads) bytes))
    ∙ steps_cut_more steps behind behind_each (omega arith) in
    let none : drop 4 last ≡ [] = nil_from_length (drop 4 last) (omega (arith, length-drop 4 last)) in
    let fourth : last ≡ to_be_bytes w32 (sum_at bytes) =
    cut_4 last last_each (omega arith) ∙ ap (λ (r : List ℕ). to_be_bytes w32 (sum_at bytes) ++ r) none ∙ append-nil (to_be_bytes w32 (sum_at bytes)) in
    let heads_same : heads_at bytes ≡ length all_heads = sym front.heads_are ∙ sym many_heads in
    let steps_same : steps_at bytes ≡ length all_steps = sym front.steps_are ∙ sym many_steps in
    let face : front_of (facts_at bytes) (heads_at bytes) (steps_at bytes) ≡ front_of facts (length all_heads) (length all_steps) =
    λ i. front_of (sym front.facts_are i) (heads_same i) (steps_same i) in
    record {
      bytes_are = first
          ∙ ap (λ (f : List ℕ). f ++ rest) face
          ∙ ap (λ (r : List ℕ). front_of facts (length all_heads) (length all_steps) ++ r)
          (sym second ∙ ap (λ (r : List ℕ). flat_map head_bytes all_heads ++ r) (sym third ∙ ap (λ (r : List ℕ). flat_map step_bytes all_steps ++ r) fourth))
          ∙ regroup (front_of facts (length all_heads) (length all_steps)) (flat_map head_bytes all_heads) (flat_map step_bytes all_steps) (to_be_bytes w32 (sum_at bytes));
      facts_fit = subst FactsFit (sym front.facts_are) (facts_at_fit bytes each);
      heads_fit = heads_in_fit heads rest rest_each;
      steps_fit = steps_in_fit steps behind behind_each;
      few_heads = omega (arith, many_heads, front.heads_are, below_4 (drop 24 bytes) (bytes_drop 24 bytes each));
      few_steps = omega (arith, many_steps, front.steps_are, below_4 (drop 28 bytes) (bytes_drop 28 bytes each));
      sum_fits = below_4 last last_each;
    }

-- ---- what is spelled is read again

front_long : (facts : LogFacts) (heads steps : ℕ) → length (front_of facts heads steps) ≡ 32
unfolding front_of facts_bytes
front_long facts heads steps = refl

record FrontIs (bytes : List ℕ) (facts : LogFacts) (heads steps : ℕ) : Type 0 where
  begins : from_be_bytes w32 bytes ≡ magic
  version : from_be_bytes w32 (drop 4 bytes) ≡ 1
  facts_are : facts_at bytes ≡ facts
  heads_are : heads_at bytes ≡ heads
  steps_are : steps_at bytes ≡ steps

front_again : (facts : LogFacts) (heads steps : ℕ) (rest : List ℕ) → FactsFit facts → heads < 2 ^ 32 → steps < 2 ^ 32
    → FrontIs (front_of facts heads steps ++ rest) facts heads steps
unfolding front_of facts_bytes
front_again facts heads steps rest fit few_heads few_steps =
    let log = again_4 facts.log [] fit.log in
    let size = again_8 facts.length [] fit.bytes in
    let checksum = again_4 facts.checksum [] fit.checksum in
    record {
      begins = again_4 magic [] (omega arith);
      version = again_4 1 [] (omega arith);
      facts_are = λ i. record { log = log i; length = size i; checksum = checksum i };
      heads_are = again_4 heads [] few_heads;
      steps_are = again_4 steps [] few_steps;
    }

spells_front : (bytes : List ℕ) (facts : LogFacts) (heads : List Head) (steps : List ℕ) (sum : ℕ) → Spells bytes facts heads steps sum
    → FrontIs bytes facts (length heads) (length steps)
spells_front bytes facts heads steps sum s =
    let front : List ℕ = front_of facts (length heads) (length steps) in
    let middle : List ℕ = flat_map head_bytes heads ++ flat_map step_bytes steps in
    let is : front ++ (middle ++ to_be_bytes w32 sum) ≡ bytes = sym (append_assoc front middle (to_be_bytes w32 sum)) ∙ sym s.bytes_are in
    subst (λ (b : List ℕ). FrontIs b facts (length heads) (length steps)) is
    (front_again facts (length heads) (length steps) (middle ++ to_be_bytes w32 sum) s.facts_fit s.few_heads s.few_steps)

body_long : (facts : LogFacts) (heads : List Head) (steps : List ℕ) → length (body_of facts heads steps) ≡ 32 + (24 * length heads + 4 * length steps)
body_long facts heads steps =
    let front : List ℕ = front_of facts (length heads) (length steps) in
    omega (
      arith,
      length-append front (flat_map head_bytes heads ++ flat_map step_bytes steps),
      length-append (flat_map head_bytes heads) (flat_map step_bytes steps),
      front_long facts (length heads) (length steps),
      length-heads heads,
      length-steps steps,
    )

pub spells_long : (bytes : List ℕ) (facts : LogFacts) (heads : List Head) (steps : List ℕ) (sum : ℕ) → Spells bytes facts heads steps sum
    → length bytes ≡ length_of (length heads) (length steps)
spells_long bytes facts heads steps sum s =
    omega (arith, ap length s.bytes_are, length-append (body_of facts heads steps) (to_be_bytes w32 sum), body_long facts heads steps)

pub spells_body : (bytes : List ℕ) (facts : LogFacts) (heads : List Head) (steps : List ℕ) (sum : ℕ) → Spells bytes facts heads steps sum
    → (take (length bytes - 4) bytes ≡ body_of facts heads steps) × (sum_at bytes ≡ sum)
spells_body bytes facts heads steps sum s =
    let body : List ℕ = body_of facts heads steps in
    let short : length body ≡ length bytes - 4 = omega (arith, body_long facts heads steps, spells_long bytes facts heads steps sum s) in
    let n : ℕ = length bytes - 4 in (
      ap (take n) s.bytes_are ∙ take_at body (to_be_bytes w32 sum) n short,
      ap (from_be_bytes w32) (ap (drop n) s.bytes_are ∙ drop_at body (to_be_bytes w32 sum) n short) ∙ again_4 sum [] s.sum_fits,
    )

heads_part : (bytes : List ℕ) (facts : LogFacts) (heads : List Head) (steps : List ℕ) (sum : ℕ) → Spells bytes facts heads steps sum
    → take (24 * heads_at bytes) (drop 32 bytes) ≡ flat_map head_bytes heads
heads_part bytes facts heads steps sum s =
    let front : List ℕ = front_of facts (length heads) (length steps) in
    let first : List ℕ = flat_map head_bytes heads in
    let second : List ℕ = flat_map step_bytes steps in
    let is : bytes ≡ front ++ (first ++ (second ++ to_be_bytes w32 sum)) = s.bytes_are ∙ sym (regroup front first second (to_be_bytes w32 sum)) in
    let many : length first ≡ 24 * heads_at bytes = omega (arith, length-heads heads, (spells_front bytes facts heads steps sum s).heads_are) in
    ap (λ (b : List ℕ). take (24 * heads_at bytes) (drop 32 b)) is
    ∙ ap (take (24 * heads_at bytes)) (drop_at front (first ++ (second ++ to_be_bytes w32 sum)) 32 (front_long facts (length heads) (length steps)))
    ∙ take_at first (second ++ to_be_bytes w32 sum) (24 * heads_at bytes) many

steps_part : (bytes : List ℕ) (facts : LogFacts) (heads : List Head) (steps : List ℕ) (sum : ℕ) → Spells bytes facts heads steps sum
    → take (4 * steps_at bytes) (drop (24 * heads_at bytes) (drop 32 bytes)) ≡ flat_map step_bytes steps
steps_part bytes facts heads steps sum s =
    let front : List ℕ = front_of facts (length heads) (length steps) in
    let first : List ℕ = flat_map head_bytes heads in
    let second : List ℕ = flat_map step_bytes steps in
    let at = spells_front bytes facts heads steps sum s in
    let is : bytes ≡ front ++ (first ++ (second ++ to_be_bytes w32 sum)) = s.bytes_are ∙ sym (regroup front first second (to_be_bytes w32 sum)) in
    let many : length first ≡ 24 * heads_at bytes = omega (arith, length-heads heads, at.heads_are) in
    let more : length second ≡ 4 * steps_at bytes = omega (arith, length-steps steps, at.steps_are) in
    ap (λ (b : List ℕ). take (4 * steps_at bytes) (drop (24 * heads_at bytes) (drop 32 b))) is
    ∙ ap (λ (b : List ℕ). take (4 * steps_at bytes) (drop (24 * heads_at bytes) b))
    (drop_at front (first ++ (second ++ to_be_bytes w32 sum)) 32 (front_long facts (length heads) (length steps)))
    ∙ ap (take (4 * steps_at bytes)) (drop_at first (second ++ to_be_bytes w32 sum) (24 * heads_at bytes) many)
    ∙ take_at second (to_be_bytes w32 sum) (4 * steps_at bytes) more

-- ---- one spelling

pub one_facts : (bytes : List ℕ) (facts others : LogFacts) (heads more : List Head) (steps behind : List ℕ) (sum total : ℕ) → Spells bytes facts heads steps sum
    → Spells bytes others more behind total → facts ≡ others
one_facts bytes facts others heads more steps behind sum total p q =
    sym (spells_front bytes facts heads steps sum p).facts_are ∙ (spells_front bytes others more behind total q).facts_are

pub one_heads : (bytes : List ℕ) (facts others : LogFacts) (heads more : List Head) (steps behind : List ℕ) (sum total : ℕ) → Spells bytes facts heads steps sum
    → Spells bytes others more behind total → heads ≡ more
one_heads bytes facts others heads more steps behind sum total p q =
    same_heads heads more p.heads_fit q.heads_fit (sym (heads_part bytes facts heads steps sum p) ∙ heads_part bytes others more behind total q)

pub one_steps : (bytes : List ℕ) (facts others : LogFacts) (heads more : List Head) (steps behind : List ℕ) (sum total : ℕ) → Spells bytes facts heads steps sum
    → Spells bytes others more behind total → steps ≡ behind
one_steps bytes facts others heads more steps behind sum total p q =
    same_steps steps behind p.steps_fit q.steps_fit (sym (steps_part bytes facts heads steps sum p) ∙ steps_part bytes others more behind total q)

pub one_hint : (bytes : List ℕ) (facts others : LogFacts) (entries list : List Listed) → IsHint bytes facts entries → IsHint bytes others list
    → (entries ≡ list) × (facts ≡ others)
one_hint bytes facts others entries list p q =
    let heads : p.heads ≡ q.heads = one_heads bytes facts others p.heads q.heads p.steps q.steps p.sum q.sum p.spells q.spells in
    let steps : p.steps ≡ q.steps = one_steps bytes facts others p.heads q.heads p.steps q.steps p.sum q.sum p.spells q.spells in (
      p.entries_are ∙ (λ i. entries_of origin (heads i) (steps i)) ∙ sym q.entries_are,
      one_facts bytes facts others p.heads q.heads p.steps q.steps p.sum q.sum p.spells q.spells,
    )

-- ---- a hint has no fault

pub no_fault : (bytes : List ℕ) (facts : LogFacts) (entries : List Listed) (fault : HintFault) → IsHint bytes facts entries → HasFault bytes fault → fault ≡ Memory
no_fault bytes facts entries Memory p h = refl
no_fault bytes facts entries (Short count) p h = absurd (omega (arith, h.1, spells_long bytes facts p.heads p.steps p.sum p.spells))
no_fault bytes facts entries BadMagic p h = absurd (h (spells_front bytes facts p.heads p.steps p.sum p.spells).begins)
no_fault bytes facts entries (Version version) p h = absurd (h.1 (h.0 ∙ (spells_front bytes facts p.heads p.steps p.sum p.spells).version))
no_fault bytes facts entries (Length count) p h =
    let at = spells_front bytes facts p.heads p.steps p.sum p.spells in
    let long = spells_long bytes facts p.heads p.steps p.sum p.spells in
    absurd (h.1 (omega (arith, long, at.heads_are, at.steps_are)))
no_fault bytes facts entries Checksum p h =
    let body = spells_body bytes facts p.heads p.steps p.sum p.spells in
    absurd (h (subst (λ (m : List ℕ). IsChecksum Castagnoli m (sum_at bytes)) (sym body.0)
    (subst (λ (n : ℕ). IsChecksum Castagnoli (body_of facts p.heads p.steps) n) (sym body.1) p.checked)))
no_fault bytes facts entries Entries p h =
    let heads : p.heads ≡ h.heads = one_heads bytes facts h.facts p.heads h.heads p.steps h.steps p.sum h.sum p.spells h.spells in
    let steps : p.steps ≡ h.steps = one_steps bytes facts h.facts p.heads h.heads p.steps h.steps p.sum h.sum p.spells h.spells in
    absurd (h.unsound (subst (λ (x : List Head × List ℕ). IsSound x.0 x.1) (λ i. (heads i, steps i)) p.sound))

-- what the function returned is what the hint says
pub gives : (bytes : List ℕ) (r : Result (List Listed × LogFacts) HintFault) (facts : LogFacts) (entries : List Listed)
    → IfOk r (λ hint. IsHint bytes hint.1 hint.0) → IfErr r (λ fault. HasFault bytes fault) → IsHint bytes facts entries → GivesHint r entries facts
gives bytes (Ok hint) facts entries found err p = one_hint bytes hint.1 facts hint.0 entries found p
gives bytes (Err fault) facts entries found err p = no_fault bytes facts entries fault p err

-- ---- what is read

pub decoded : (bytes : List ℕ) (facts : LogFacts) (heads steps : ℕ) (all_heads : List Head) (all_steps : List ℕ) (entries : List Listed) → IsBytes bytes
    → IsFront bytes facts heads steps → HasChecksum bytes → all_heads ≡ heads_of heads bytes → all_steps ≡ steps_of heads steps bytes → IsSound all_heads all_steps
    → entries ≡ entries_of origin all_heads all_steps → IsHint bytes facts entries
decoded bytes facts heads steps all_heads all_steps entries each front checked heads_are steps_are sound entries_are =
    let s = spelled bytes facts heads steps each front in
    let body = spells_body bytes facts (heads_of heads bytes) (steps_of heads steps bytes) (sum_at bytes) s in
    let both : IsSound (heads_of heads bytes) (steps_of heads steps bytes) =
    subst (λ (x : List Head × List ℕ). IsSound x.0 x.1) (λ i. (heads_are i, steps_are i)) sound in
    record {
      heads = heads_of heads bytes;
      steps = steps_of heads steps bytes;
      sum = sum_at bytes;
      spells = s;
      checked = subst (λ (m : List ℕ). IsChecksum Castagnoli m (sum_at bytes)) body.0 checked;
      sound = both;
      entries_are = entries_are ∙ (λ i. entries_of origin (heads_are i) (steps_are i));
    }

pub undecoded : (bytes : List ℕ) (facts : LogFacts) (heads steps : ℕ) (all_heads : List Head) (all_steps : List ℕ) → IsBytes bytes
    → IsFront bytes facts heads steps → all_heads ≡ heads_of heads bytes → all_steps ≡ steps_of heads steps bytes → ¬ (IsSound all_heads all_steps)
    → HasNoEntries bytes
undecoded bytes facts heads steps all_heads all_steps each front heads_are steps_are unsound = record {
  facts = facts;
  heads = heads_of heads bytes;
  steps = steps_of heads steps bytes;
  sum = sum_at bytes;
  spells = spelled bytes facts heads steps each front;
  unsound = λ sound. unsound (subst (λ (x : List Head × List ℕ). IsSound x.0 x.1) (λ i. (sym heads_are i, sym steps_are i)) sound);
}

pub sum_fits : (bytes message : List ℕ) (sum stored : ℕ) → message ≡ take (length bytes - 4) bytes → IsChecksum Castagnoli message sum → stored ≡ sum_at bytes
    → sum ≡ stored → HasChecksum bytes
sum_fits bytes message sum stored is checked stored_is same =
    subst (λ (n : ℕ). IsChecksum Castagnoli (take (length bytes - 4) bytes) n) (same ∙ stored_is)
    (subst (λ (m : List ℕ). IsChecksum Castagnoli m sum) is checked)

pub sum_differs : (bytes message : List ℕ) (sum stored : ℕ) → message ≡ take (length bytes - 4) bytes → IsChecksum Castagnoli message sum → stored ≡ sum_at bytes
    → (sum ≡ stored → ⊥) → HasNoChecksum bytes
sum_differs bytes message sum stored is checked stored_is differ = λ fits.
    differ (one_of Castagnoli (take (length bytes - 4) bytes) sum (sum_at bytes) (subst (λ (m : List ℕ). IsChecksum Castagnoli m sum) is checked) fits ∙ sym stored_is)

-- ---- loops

pub heads_start : (count : ℕ) (bytes : List ℕ) (read : List Head) → read ≡ [] → read ++ heads_in (count - 0) (drop (32 + 24 * 0) bytes) ≡ heads_in count (drop 32 bytes)
heads_start count bytes read none =
    let same : count - 0 ≡ count = omega arith in
    ap (λ (r : List Head). r ++ heads_in (count - 0) (drop 32 bytes)) none ∙ ap (λ (n : ℕ). heads_in n (drop 32 bytes)) same

heads_suc : (count k : ℕ) (bytes : List ℕ) → k < count
    → heads_in (count - k) (drop (32 + 24 * k) bytes) ≡ head_at (drop (32 + 24 * k) bytes) ∷ heads_in (count - (k + 1)) (drop (32 + 24 * (k + 1)) bytes)
unfolding heads_in
heads_suc count k bytes more =
    let left : count - k ≡ suc (count - (k + 1)) = omega arith in
    let at : 32 + 24 * k + 24 ≡ 32 + 24 * (k + 1) = omega arith in
    ap (λ (n : ℕ). heads_in n (drop (32 + 24 * k) bytes)) left
    ∙ ap (λ (b : List ℕ). head_at (drop (32 + 24 * k) bytes) ∷ heads_in (count - (k + 1)) b)
    (drop-drop 24 (32 + 24 * k) bytes ∙ ap (λ (n : ℕ). drop n bytes) at)

pub heads_more : (count k : ℕ) (bytes : List ℕ) (read now : List Head) (head : Head) → k < count
    → read ++ heads_in (count - k) (drop (32 + 24 * k) bytes) ≡ heads_in count (drop 32 bytes) → now ≡ read ++ head ∷ [] → head ≡ head_at (drop (32 + 24 * k) bytes)
    → now ++ heads_in (count - (k + 1)) (drop (32 + 24 * (k + 1)) bytes) ≡ heads_in count (drop 32 bytes)
heads_more count k bytes read now head more so_far now_is head_is =
    let rest : List Head = heads_in (count - (k + 1)) (drop (32 + 24 * (k + 1)) bytes) in
    ap (λ (r : List Head). r ++ rest) (now_is ∙ ap (λ (h : Head). read ++ h ∷ []) head_is)
    ∙ append_assoc read (head_at (drop (32 + 24 * k) bytes) ∷ []) rest
    ∙ ap (λ (r : List Head). read ++ r) (sym (heads_suc count k bytes more)) ∙ so_far

heads_zero : (bytes : List ℕ) → heads_in 0 bytes ≡ []
unfolding heads_in
heads_zero bytes = refl

pub heads_end : (count k : ℕ) (bytes : List ℕ) (read : List Head) → count ≤ k
    → read ++ heads_in (count - k) (drop (32 + 24 * k) bytes) ≡ heads_in count (drop 32 bytes) → read ≡ heads_in count (drop 32 bytes)
heads_end count k bytes read all so_far =
    let none : count - k ≡ 0 = omega arith in
    sym (append-nil read)
    ∙ ap (λ (r : List Head). read ++ r) (sym (heads_zero (drop (32 + 24 * k) bytes)) ∙ ap (λ (n : ℕ). heads_in n (drop (32 + 24 * k) bytes)) (sym none))
    ∙ so_far

pub steps_start : (count from : ℕ) (bytes read : List ℕ) → read ≡ [] → read ++ steps_in (count - 0) (drop (from + 4 * 0) bytes) ≡ steps_in count (drop from bytes)
steps_start count from bytes read none =
    let same : count - 0 ≡ count = omega arith in
    let at : from + 4 * 0 ≡ from = omega arith in
    ap (λ (r : List ℕ). r ++ steps_in (count - 0) (drop (from + 4 * 0) bytes)) none ∙ (λ i. steps_in (same i) (drop (at i) bytes))

steps_suc : (count k from : ℕ) (bytes : List ℕ) → k < count
    → steps_in (count - k) (drop (from + 4 * k) bytes)
    ≡ from_be_bytes w32 (drop (from + 4 * k) bytes) ∷ steps_in (count - (k + 1)) (drop (from + 4 * (k + 1)) bytes)
unfolding steps_in
steps_suc count k from bytes more =
    let left : count - k ≡ suc (count - (k + 1)) = omega arith in
    let at : from + 4 * k + 4 ≡ from + 4 * (k + 1) = omega arith in
    ap (λ (n : ℕ). steps_in n (drop (from + 4 * k) bytes)) left
    ∙ ap (λ (b : List ℕ). from_be_bytes w32 (drop (from + 4 * k) bytes) ∷ steps_in (count - (k + 1)) b)
    (drop-drop 4 (from + 4 * k) bytes ∙ ap (λ (n : ℕ). drop n bytes) at)

pub steps_more : (count k from : ℕ) (bytes read now : List ℕ) (step : ℕ) → k < count
    → read ++ steps_in (count - k) (drop (from + 4 * k) bytes) ≡ steps_in count (drop from bytes) → now ≡ read ++ step ∷ []
    → step ≡ from_be_bytes w32 (drop (from + 4 * k) bytes)
    → now ++ steps_in (count - (k + 1)) (drop (from + 4 * (k + 1)) bytes) ≡ steps_in count (drop from bytes)
steps_more count k from bytes read now step more so_far now_is step_is =
    let rest : List ℕ = steps_in (count - (k + 1)) (drop (from + 4 * (k + 1)) bytes) in
    ap (λ (r : List ℕ). r ++ rest) (now_is ∙ ap (λ (w : ℕ). read ++ w ∷ []) step_is)
    ∙ append_assoc read (from_be_bytes w32 (drop (from + 4 * k) bytes) ∷ []) rest
    ∙ ap (λ (r : List ℕ). read ++ r) (sym (steps_suc count k from bytes more)) ∙ so_far

steps_zero : (bytes : List ℕ) → steps_in 0 bytes ≡ []
unfolding steps_in
steps_zero bytes = refl

pub steps_end : (count k from : ℕ) (bytes read : List ℕ) → count ≤ k
    → read ++ steps_in (count - k) (drop (from + 4 * k) bytes) ≡ steps_in count (drop from bytes) → read ≡ steps_in count (drop from bytes)
steps_end count k from bytes read all so_far =
    let none : count - k ≡ 0 = omega arith in
    sym (append-nil read)
    ∙ ap (λ (r : List ℕ). read ++ r) (sym (steps_zero (drop (from + 4 * k) bytes)) ∙ ap (λ (n : ℕ). steps_in n (drop (from + 4 * k) bytes)) (sym none))
    ∙ so_far
