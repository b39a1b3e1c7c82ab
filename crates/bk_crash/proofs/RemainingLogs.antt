-- What remains of the logs of a test disk on a device that leaves any bytes after the synced part.
use Rattle.std.proofs.Common.{◌≡◌, ◌⊎◌, inl, inr, ℕ, ◌≤◌, List, [], ◌++◌, length, take, drop, Option, Some, None, option_map, unwrap_or, Vec, Global}
use Rattle.std.proofs.Common.{refl, sym, ap, ◌∙◌, subst, arith, length-append, length-take}
use Rattle.std.proofs.lemmas.List.{take-append-le, nil_from_length, take-take}
use Rattle.std.proofs.lemmas.Option.{same_Some, none-some}
use Rattle.std.specs.FinMap as finite
use Rattle.bk_record.specs.Files.{Files, file_of, header_length}
use Rattle.bk_record.specs.Longer.{IsLonger}
use Rattle.bk_record.proofs.Longer.{longer_same, longer_trans}
use Rattle.bk_manifest.specs.Fact.{Fact}
use Rattle.bk_manifest.specs.State.{IsStateOf, said, the_log, log_state}
use Rattle.bk_manifest.specs.declared.state.State.{State}
use Rattle.bk_manifest.specs.declared.state.LogState.{LogState}
use Rattle.bk_manifest.specs.declared.state.LogState.TheVariants.{Made, Durable, Removed}
use Rattle.bk_manifest_disk.specs.Table.{recorded}
use Rattle.bk_manifest_disk.specs.Recording.{promised, if_there}
use Rattle.bk_manifest_disk.proofs.Fronts.{longer_fronts}
use Rattle.bk_store.specs.Crash.{IsCut}
use Rattle.bk_crash.specs.Damage.{IsDamaged}
use Rattle.bk_crash.specs.Noting.{NotedLog}
use Rattle.bk_crash.specs.Leaving.{IsBegun, IsDamagedFrom, by_id}
use Rattle.bk_crash.specs.AllLogs.{logs_of, files_of, gone_of, AreSynced, ArePutBack}
use Rattle.bk_crash.specs.Remaining.{IsDamagedBy, IsBackBy, MayRemain, AreWritten, HasDurableBytes, RemainsOf, IsBackOfBy}
use Rattle.bk_crash.specs.declared.written.Written.{Written}
use Rattle.bk_crash.proofs.Damage.{cut_take}
use Rattle.bk_crash.proofs.Leaving.{cut_of_take, begun_left, length_spoiled, as_it_is, damaged_behind, AreLeftSoFar, IsLeftAt, left_at, file_at}
use Rattle.bk_disk.specs.Logs.{listed}

-- ---- one file

longer_none : (left : List ℕ) → IsLonger [] left
longer_none left = record {
  behind = drop header_length left;
  is = ap (λ (l : List ℕ). l ++ drop header_length left) (sym (nil_from_length (drop header_length []) refl));
}

-- The first bytes of a file do not change if other bytes come after them.
front_stays : (n m : ℕ) (left more : List ℕ) → n ≤ m → n ≤ length left → take n (take m left ++ more) ≡ take n left
front_stays n m left more order within =
    take-append-le n (take m left) more (omega (arith, order, within, length-take m left)) ∙ take-take n m left order

length_stays : (n m : ℕ) (left more : List ℕ) → n ≤ m → n ≤ length left → n ≤ length (take m left ++ more)
length_stays n m left more order within = omega (arith, order, within, length-take m left, length-append (take m left) more)

-- A log that was begun and then damaged.
module _ (log : NotedLog) (least end : ℕ) (left now : List ℕ) (begun : IsBegun log least left) (beyond : least ≤ end) (headed : header_length ≤ end)
    (synced : unwrap_or log.synced 0 ≤ least) (damage : IsDamagedFrom end left now) where
  size : length left ≡ length (take begun.0 log.bytes)
  size = length_spoiled (take begun.0 log.bytes) left begun.2

  parts : IsCut log.bytes left × IsLonger (take (unwrap_or log.synced 0) log.bytes) left
  parts = begun_left (record log { synced = Some (unwrap_or log.synced 0) }) least left
      (longer_fronts (unwrap_or log.synced 0) least log.bytes log.bytes synced (longer_same log.bytes)) begun

  is_damaged : IsDamaged (take (unwrap_or log.synced 0) log.bytes) log.bytes now
  is_damaged = elim damage [
    | inl same ↦ subst (λ l. IsDamaged (take (unwrap_or log.synced 0) log.bytes) log.bytes l) (sym same)
        (as_it_is log.bytes left (unwrap_or log.synced 0) parts.0 parts.1)
    | inr other ↦ subst (λ l. IsDamaged (take (unwrap_or log.synced 0) log.bytes) log.bytes l) (sym other.4)
        (damaged_behind log.bytes left (unwrap_or log.synced 0) parts.0 parts.1 other.1 other.3
        (omega (arith, synced, beyond, other.2)) (omega (arith, headed, other.2)) (omega (arith, headed, other.0)))
  ]

  has_bytes : (n : ℕ) → n ≤ least → HasDurableBytes (Some n) log.bytes now
  has_bytes n order = elim damage [
    | inl same ↦ subst (HasDurableBytes (Some n) log.bytes) (sym same)
        (cut_take n log.bytes left parts.0, λ within. omega (arith, order, within, begun.1, size, length-take begun.0 log.bytes))
    | inr other ↦
        let low : n ≤ other.1 = omega (arith, order, beyond, other.2) in
        let inside : n ≤ length left = omega (arith, order, beyond, other.0) in
        subst (HasDurableBytes (Some n) log.bytes) (sym other.4) (
          subst (IsCut log.bytes) (sym (front_stays n other.1 left other.3 low inside)) (cut_take n log.bytes left parts.0),
          λ within. length_stays n other.1 left other.3 low inside,
        )
  ]

  has_durable : (o : Option ℕ) → unwrap_or o 0 ≤ least → HasDurableBytes o log.bytes now
  has_durable None order = tt
  has_durable (Some n) order = has_bytes n order

  pub remains : (state : Option LogState) → unwrap_or (promised state) 0 ≤ least → RemainsOf state log (Some now)
  remains state order = (is_damaged, has_durable (promised state) order)

-- A removed file that is back and damaged.
pub back_damaged : (state : Option LogState) (file now : List ℕ) (least count : ℕ) → least ≡ unwrap_or (promised state) 0
    → IsDamagedFrom least (take count file) now → IsBackBy state file now
back_damaged None file now least count is damage = tt
back_damaged (Some Made) file now least count is damage = tt
back_damaged (Some (Durable n)) file now least count is damage = tt
back_damaged (Some (Removed n)) file now least count is damage =
    let cut : IsCut file (take n (take count file)) = cut_take n file (take count file) (cut_of_take count file) in
    elim damage [
      | inl same ↦ subst (λ l. IsCut file (take n l)) (sym same) cut
      | inr other ↦
          let low : n ≤ other.1 = omega (arith, is, other.2) in
          let inside : n ≤ length (take count file) = omega (arith, is, other.0) in
          subst (IsCut file) (sym (ap (take n) other.4 ∙ front_stays n other.1 (take count file) other.3 low inside)) cut
    ]

-- ---- all files

-- what the last record about a log has, by a state
abbrev pub known : State → ℕ → Option LogState
known state id = log_state (said state (the_log id))

-- A log that is damaged after its own synced part is damaged after a part of it.
damaged_by : (s : Option LogState) (kept part bytes left : List ℕ) → IsLonger kept part → IsDamaged part bytes left
    → HasDurableBytes (promised s) bytes left → IsDamagedBy s kept bytes left
damaged_by s kept part bytes left longer damaged has = by_state s has where
  less : IsDamaged kept bytes left
  less = record {
    begins = longer_trans kept part bytes longer damaged.begins;
    stands = longer_trans kept part left longer damaged.stands;
    headed = damaged.headed;
  }

  by_state : (s : Option LogState) → HasDurableBytes (promised s) bytes left → IsDamagedBy s kept bytes left
  by_state None has = less
  by_state (Some Made) has = less
  by_state (Some (Durable n)) has = less
  by_state (Some (Removed n)) has = has.0

module _ (written : Written) (kept : Files) (records : List Fact) (state : State) (synced : AreSynced written kept) (means : IsStateOf records state)
    (wrote : AreWritten (files_of written) records) (before left : List (ℕ × Vec ℕ Global))
    (so_far : AreLeftSoFar (λ id. RemainsOf (known state id)) written.logs.entries (listed before))
    (back : ArePutBack (λ id. IsBackOfBy (known state id)) written before left) where
  same_state : (id : ℕ) → known state id ≡ recorded records id
  same_state id = ap log_state (means (the_log id))

  there : (id : ℕ) (log : NotedLog) → finite.get (logs_of written) id ≡ Some log → finite.get (files_of written) id ≡ Some log.bytes
  there id log is = file_at written id ∙ ap (option_map (λ log. log.bytes)) is

  -- The synced part of a log by the record begins with what is kept of it.
  kept_part : (id : ℕ) (log : NotedLog) → finite.get (logs_of written) id ≡ Some log
      → IsLonger (file_of kept id) (take (unwrap_or log.synced 0) log.bytes)
  kept_part id log is = by_file (finite.get kept id) refl where
    by_file : (o : Option (List ℕ)) → finite.get kept id ≡ o → IsLonger (unwrap_or o []) (take (unwrap_or log.synced 0) log.bytes)
    by_file None none = longer_none (take (unwrap_or log.synced 0) log.bytes)
    by_file (Some file) has =
        let own = synced.each id file has in
        let same : own.0 ≡ log = same_Some _ _ (sym own.2 ∙ is) in
        let count : unwrap_or log.synced 0 ≡ own.1 = ap (λ (l : NotedLog). unwrap_or l.synced 0) (sym same) ∙ ap (λ (o : Option ℕ). unwrap_or o 0) own.3 in
        subst (λ k. IsLonger file (take k log.bytes)) (sym count) (subst (λ (l : NotedLog). IsLonger file (take own.1 l.bytes)) same own.4)

  abbrev IsHere : ℕ → Option NotedLog → Option (List ℕ) → Option (List ℕ) → Type 0
  IsHere id log removed now = IsLeftAt written (λ id. RemainsOf (known state id)) (λ id. IsBackOfBy (known state id)) id log removed now

  here : (id : ℕ) → IsHere id (finite.get (logs_of written) id) (finite.get (gone_of written) id) (finite.get (by_id left) id)
  here id = left_at written (λ id. RemainsOf (known state id)) (λ id. IsBackOfBy (known state id)) before left so_far back id

  promised_there : (o : Option (List ℕ)) (p : Option ℕ) (n : ℕ) → if_there o p ≡ Some n → p ≡ Some n
  promised_there None p n is = absurd (none-some n is)
  promised_there (Some file) p n is = is

  -- A log with synced bytes and a record of them is there.
  stands_of : (id n : ℕ) (log : NotedLog) (own : ℕ) (file : List ℕ) → finite.get (logs_of written) id ≡ Some log → log.synced ≡ Some own
      → promised (known state id) ≡ Some n → IsLonger file (take own log.bytes) → (now : Option (List ℕ)) → RemainsOf (known state id) log now
      → (found : List ℕ) × (now ≡ Some found) × IsLonger file found × (n ≤ length found)
  stands_of id n log own file is count due longer None (inl none) = absurd (none-some own (sym none ∙ count))
  stands_of id n log own file is count due longer None (inr none) = absurd (none-some n (sym none ∙ due))
  stands_of id n log own file is count due longer (Some now) of =
      let part : IsLonger (take own log.bytes) now =
      subst (λ k. IsLonger (take k log.bytes) now) (ap (λ (o : Option ℕ). unwrap_or o 0) count) of.0.stands in
      let has : HasDurableBytes (Some n) log.bytes now = subst (λ p. HasDurableBytes p log.bytes now) due of.1 in
      (now, refl, longer_trans file (take own log.bytes) now longer part, has.1 (wrote.each id n log.bytes (there id log is) (ap promised (sym (same_state id)) ∙ due)))

  each_of : (id : ℕ) (now : List ℕ) (log : Option NotedLog) (removed found : Option (List ℕ)) → finite.get (logs_of written) id ≡ log
      → finite.get (gone_of written) id ≡ removed → found ≡ Some now → IsHere id log removed found
      → ((file : List ℕ) × (finite.get (files_of written) id ≡ Some file) × IsDamagedBy (recorded records id) (file_of kept id) file now)
      ⊎ ((file : List ℕ) × (finite.get (files_of written) id ≡ None) × (finite.get (gone_of written) id ≡ Some file) × IsBackBy (recorded records id) file now)
  each_of id now (Some log) removed found is was found_is of =
      let one : RemainsOf (known state id) log (Some now) = subst (RemainsOf (known state id) log) found_is of in
      inl (
        log.bytes,
        there id log is,
        subst (λ s. IsDamagedBy s (file_of kept id) log.bytes now) (same_state id)
            (damaged_by (known state id) (file_of kept id) (take (unwrap_or log.synced 0) log.bytes) log.bytes now (kept_part id log is) one.0 one.1),
      )
  each_of id now None (Some old) found is was found_is of =
      inr (
        old,
        file_at written id ∙ ap (option_map (λ log. log.bytes)) is,
        was,
        subst (λ s. IsBackBy s old now) (same_state id) (subst (IsBackOfBy (known state id) old) found_is of),
      )
  each_of id now None None found is was found_is of = absurd (none-some now (sym of ∙ found_is))

  pub all_remain : MayRemain (files_of written) (gone_of written) kept records (by_id left)
  all_remain = record {
    stands = λ id n file due has.
        let own = synced.each id file has in
        let promise : promised (known state id) ≡ Some n = ap promised (same_state id) ∙ promised_there (finite.get (files_of written) id) _ n due in
        let of = subst (λ o. IsHere id o (finite.get (gone_of written) id) (finite.get (by_id left) id)) own.2 (here id) in
        stands_of id n own.0 own.1 file own.2 own.3 promise own.4 (finite.get (by_id left) id) of;
    each = λ id now has. each_of id now (finite.get (logs_of written) id) (finite.get (gone_of written) id) (finite.get (by_id left) id) refl refl has (here id);
  }
