-- A sample of a log's records, compared one by one.
use Rattle.std.proofs.Common.{◌≡◌, ◌∙◌, inl, inr, ℕ, zero, suc, ◌+◌, ◌-◌, ◌/◌, ◌%◌, ◌^◌, ◌<◌, ◌≤◌, min, leb, true, false, List, [], ◌∷◌, ◌++◌, length, drop, get_or, Some, Result, Ok, Err, slice_get, refl, sym, ap, subst, arith}
use Rattle.std.specs.Prelude.{IsOk, OnOk}
use Rattle.std.proofs.lemmas.Bool.{leb-true, leb-false}
use Rattle.std.specs.List.{All}
use Rattle.std.specs.Int.{w32, w64, to_be_bytes, from_be_bytes}
use Rattle.std.proofs.lemmas.List.{append-nil, drop-drop, get_or_read_under, length-drop, nil_from_length, take-append-drop}
use Rattle.std.proofs.lemmas.List.Elements.{All-take, All-drop}
use Rattle.std.proofs.lemmas.Option.{same_Some, slice_get_within}
use Rattle.std.proofs.Math.Nat.{mod-eq_of_lt, mod-add-mod, add-mod_right}
use Rattle.std.proofs.Math.Seq.{take-append_seam, drop-append_seam}
use Rattle.bk_record.specs.Spelling.{IsBytes}
use Rattle.bk_record.proofs.Records.{bytes_drop}
use Rattle.bk_disk.specs.declared.fault.DiskFault.{DiskFault}
use Rattle.bk_disk.specs.Blocks.{HasPrefix}
use Rattle.bk_disk.specs.Disk.{ReadsInto}
use Rattle.bk_hint.specs.declared.listed.Listed.{Listed}
use Rattle.bk_hint.proofs.Fields.{cut_4, cut_8}
use Rattle.bk_hint_view.specs.Rows.{head_of, AreRecords}
use Rattle.bk_hint_disk.specs.declared.sample.Probe.{Probe}
use Rattle.bk_hint_disk.specs.Usable.{spacing_of, AreProbesOf, HasListedRecord, IsHead, IsMet, IsNoted, IsRecordIn, IsSample}

-- ---- one record

-- twenty bytes whose fields are those of an entry are its head
pub head_read : (bytes : List ℕ) (entry : Listed) → length bytes ≡ 20 → IsBytes bytes → from_be_bytes w32 bytes + 4 ≡ entry.size
    → from_be_bytes w64 (drop 4 bytes) ≡ entry.key.ledger → from_be_bytes w64 (drop 12 bytes) ≡ entry.key.entry → IsHead bytes entry
unfolding head_of
head_read bytes entry long each size ledger id =
    let less : from_be_bytes w32 bytes ≡ entry.size - 4 = omega (arith, size) in
    let last : drop 8 (drop 12 bytes) ≡ [] = nil_from_length _ (omega (arith, length-drop 8 (drop 12 bytes), length-drop 12 bytes, long)) in
    let three : drop 12 bytes ≡ to_be_bytes w64 entry.key.entry =
    cut_8 (drop 12 bytes) (bytes_drop 12 bytes each) (omega (arith, length-drop 12 bytes, long))
    ∙ ap (λ (l : List ℕ). to_be_bytes w64 (from_be_bytes w64 (drop 12 bytes)) ++ l) last ∙ append-nil _ ∙ ap (to_be_bytes w64) id in
    let two : drop 4 bytes ≡ to_be_bytes w64 entry.key.ledger ++ to_be_bytes w64 entry.key.entry =
    cut_8 (drop 4 bytes) (bytes_drop 4 bytes each) (omega (arith, length-drop 4 bytes, long))
    ∙ ap (λ (n : ℕ). to_be_bytes w64 n ++ drop 8 (drop 4 bytes)) ledger
    ∙ ap (λ (l : List ℕ). to_be_bytes w64 entry.key.ledger ++ l) (drop-drop 8 4 bytes ∙ three) in
    cut_4 bytes each (omega (arith, long)) ∙ ap (λ (n : ℕ). to_be_bytes w32 n ++ drop 4 bytes) less ∙ ap (λ (l : List ℕ). to_be_bytes w32 (entry.size - 4) ++ l) two

-- bytes that were read are those of the record of a probe
pub met : {T : Type 0} (file out : List ℕ) (probe : Probe) (read : Result T DiskFault) → ReadsInto file probe.at 20 read out → IsOk read → IsHead out probe.entry → IsMet file probe
met file out probe (Ok x) turn ok is =
    let here = drop probe.at file in (drop 20 here, sym (take-append-drop 20 here) ∙ ap (λ (l : List ℕ). l ++ drop 20 here) (sym turn.1 ∙ is))
met file out probe (Err fault) turn ok is = absurd cc

pub compared : {S T E : Type 0} (file out : List ℕ) (probe : Probe) (read : Result S DiskFault) (result : Result T E) → ReadsInto file probe.at 20 read out
    → OnOk result (IsOk read) → OnOk result (IsHead out probe.entry) → OnOk result (IsMet file probe)
compared file out probe read (Ok x) turn ok is = met file out probe read turn ok is
compared file out probe read (Err e) turn ok is = tt

-- one probe more is met
pub met_more : (file : List ℕ) (probes : List Probe) (n : ℕ) (probe : Probe) → ((k : ℕ) (d : Probe) → k < n → IsMet file (get_or probes k d))
    → probe ≡ get_or probes n probe → n < length probes → IsMet file probe → (k : ℕ) (d : Probe) → k < n + 1 → IsMet file (get_or probes k d)
met_more file probes n probe before is there here k d within =
    elim (leb (k + 1) n) as (λ b. leb (k + 1) n ≡ b → IsMet file (get_or probes k d)) [
      | true ↦ λ yes. before k d (omega (arith, leb-true (k + 1) n yes))
      | false ↦ λ no.
          let at : n ≡ k = omega (arith, leb-false (k + 1) n no, within) in
          subst (λ (m : ℕ). IsMet file (get_or probes m d)) at (subst (IsMet file) (get_or_read_under probes n (length probes) probe d is there refl) here)
    ] refl

-- ---- the places one by one

-- the first elements of a list, and the last one
all_before : (P : Probe → Type 0) (xs : List Probe) (x : Probe) → All P (xs ++ x ∷ []) → All P xs
all_before P xs x each = subst (All P) (take-append_seam xs (x ∷ [])) (All-take P (length xs) (xs ++ x ∷ []) each)

all_last : (P : Probe → Type 0) (xs : List Probe) (x : Probe) → All P (xs ++ x ∷ []) → P x
all_last P xs x each =
    let last : All P (x ∷ []) = subst (All P) (drop-append_seam xs (x ∷ [])) (All-drop P (length xs) (xs ++ x ∷ []) each) in
    last 0 x (omega arith)

pub noted : (entries : List Listed) (place at : ℕ) (old new : List Probe) (entry : Listed) → slice_get entries place ≡ Some entry → at ≡ entry.at - 4
    → new ≡ old ++ (record { at = at; entry = entry }) ∷ [] → IsNoted entries place old new
noted entries place at old new entry is placed pushed = λ file each.
    let probe : Probe = record { at = at; entry = entry } in
    let both : All (IsMet file) (old ++ probe ∷ []) = subst (All (IsMet file)) pushed each in (
      all_before (IsMet file) old probe both,
      λ other also.
          let here : HasPrefix (drop at file) (head_of entry) = all_last (IsMet file) old probe both in
          subst (IsRecordIn file) (same_Some entry other (sym is ∙ also)) (subst (λ n. HasPrefix (drop n file) (head_of entry)) placed here),
    )

-- if a file has the records of the probes, it has those of the entries at the multiples of the
-- spacing before a place
abbrev pub AreEven : List Listed → ℕ → ℕ → List Probe → Type 0
AreEven entries spacing place probes = (file : List ℕ) → All (IsMet file) probes → (k : ℕ) → k < place → k % spacing ≡ 0 → HasListedRecord file entries k

-- the probes so far: those of the multiples of the spacing before a place, which is the next one
-- unless it is past the last place
pub record Samples (entries : List Listed) (spacing last place : ℕ) (probes : List Probe) : Type 0 where
  pub even : AreEven entries spacing place probes
  pub multiple : place < last → place % spacing ≡ 0

-- the only multiple between a multiple and the next one is the first of them
next_multiple : (spacing place k : ℕ) → place % spacing ≡ 0 → k % spacing ≡ 0 → place ≤ k → k < place + spacing → place ≡ k
next_multiple spacing place k one other above below =
    let d = k - place in
    let less : d < spacing = omega arith in
    let sum : place % spacing + d ≡ d = omega arith in
    let here : k ≡ place + d = omega arith in
    let none : d ≡ 0 =
    sym (mod-eq_of_lt less) ∙ ap (λ n. n % spacing) (sym sum) ∙ mod-add-mod place spacing d ∙ ap (λ n. n % spacing) (sym here) ∙ other in
    omega arith

pub samples_more : (entries : List Listed) (spacing last place next : ℕ) (probes now : List Probe) → place < last → last < 2 ^ 64 → next ≡ min (place + spacing) (2 ^ 64 - 1)
    → IsNoted entries place probes now → Samples entries spacing last place probes → Samples entries spacing last next now
samples_more entries spacing last place next probes now before fits is noted samples = record {
  even = λ file each k below divides.
      let parts = noted file each in
      elim (leb (k + 1) place) as (λ b. leb (k + 1) place ≡ b → HasListedRecord file entries k) [
        | true ↦ λ yes. samples.even file parts.0 k (omega (arith, leb-true (k + 1) place yes)) divides
        | false ↦ λ no.
            let above : place ≤ k = omega (arith, leb-false (k + 1) place no) in
            let less : k < place + spacing = omega arith in
            subst (HasListedRecord file entries) (next_multiple spacing place k (samples.multiple before) divides above less) parts.1
      ] refl;
  multiple = λ more.
      let same : next ≡ place + spacing = omega arith in
      ap (λ n. n % spacing) same ∙ add-mod_right place spacing ∙ samples.multiple before;
}

pub samples_all : (entries : List Listed) (last place : ℕ) (probes now : List Probe) → last + 1 ≡ length entries → last ≤ place
    → IsNoted entries last probes now → Samples entries (last / 15 + 1) last place probes → AreProbesOf entries now
samples_all entries last place probes now many past noted samples = λ file each k entry is sampled.
    let parts = noted file each in
    let within = slice_get_within entries k entry is in
    let spacing : spacing_of (length entries) ≡ last / 15 + 1 =
    let less : length entries - 1 ≡ last = omega arith in ap (λ n. n / 15 + 1) less in
    elim (leb (k + 1) last) as (λ b. leb (k + 1) last ≡ b → IsRecordIn file entry) [
      | true ↦ λ yes.
          let before : k < last = omega (arith, leb-true (k + 1) last yes) in
          elim sampled [
            | inl divides ↦ samples.even file parts.0 k (omega arith) (subst (λ n. k % n ≡ 0) spacing divides) entry is
            | inr final ↦ absurd (omega arith)
          ]
      | false ↦ λ no.
          let here : last ≡ k = omega (arith, leb-false (k + 1) last no) in
          subst (HasListedRecord file entries) here parts.1 entry is
    ] refl

-- ---- entries that are records

record_at : (file : List ℕ) (k : ℕ) (entries : List Listed) (entry : Listed) → AreRecords file entries → slice_get entries k ≡ Some entry → IsRecordIn file entry
record_at file k [] entry are is = absurd cc
record_at file zero (x ∷ xs) entry are is = subst (IsRecordIn file) (same_Some x entry is) (are 0 x (omega arith))
record_at file (suc k) (x ∷ xs) entry are is = record_at file k xs entry (λ j d within. are (suc j) d (omega (arith, within))) is

-- the sample of entries that are all records
pub sample_of : (file : List ℕ) (entries : List Listed) → AreRecords file entries → IsSample file entries
sample_of file entries are = λ k entry is at. record_at file k entries entry are is
