-- A log that is truncated after a record that no more bytes are durable.
use Rattle.std.proofs.Common.{◌≡◌, ◌≢◌, ◌⊎◌, inl, inr, ℕ, ◌≤◌, min, List, [], ◌∷◌, ◌++◌, length, take, drop, Option, Some, None, IsSome, option_map, Result, Ok, Err}
use Rattle.std.proofs.Common.{refl, sym, ap, ◌∙◌, subst, arith, append_assoc, length-take, length-drop}
use Rattle.std.proofs.Math.Decide.{dec_le}
use Rattle.std.proofs.lemmas.List.{append-nil, take_all, take-take}
use Rattle.std.proofs.lemmas.Option.{none-some, same_Some}
use Rattle.std.specs.Cmp.{nat_cmp_total}
use Rattle.std.specs.FinMap as map
use Rattle.std.specs.FinMap.{nat_cmp-IsAntisymmetric}
use Rattle.bk_record.specs.Files.{Files, header_length}
use Rattle.bk_record.specs.Longer.{IsLonger}
use Rattle.bk_record.proofs.Maps.{get-insert_else}
use Rattle.bk_record.proofs.NumberMaps.{get-insert_same}
use Rattle.bk_disk.specs.declared.fault.DiskFault.{DiskFault}
use Rattle.bk_disk.specs.declared.fault.DiskFault.TheVariants.{Disk, Exists, NoLog, PastEnd, TooLong, Memory}
use Rattle.bk_disk.specs.Disk.{Measures}
use Rattle.bk_disk.specs.Cutting.{IsCutTo, Cuts, KeepsFrontDurable}
use Rattle.bk_disk.specs.Durable.{IsDurableUpTo}
use Rattle.bk_manifest.specs.declared.state.LogState.{LogState}
use Rattle.bk_manifest.specs.declared.state.LogState.TheVariants.{Made, Durable, Removed}
use Rattle.bk_manifest.specs.Fact.{Fact}
use Rattle.bk_manifest.specs.State.{the_log, subject_of, log_state}
use Rattle.bk_manifest_disk.specs.Table.{recorded}
use Rattle.bk_manifest_disk.specs.Recording.{promised, if_there, promise, durable_fronts, shorter, Fits, Rises, AreRecorded}
use Rattle.bk_manifest_disk.proofs.Shown.{none_is}
use Rattle.bk_manifest_disk.proofs.Fronts.{longer_fronts, length-take-within}
use Rattle.bk_manifest_disk.proofs.Recorded.{push_else, holds_more, holds_settled, rises_equal, commit_rises, fits_now, no_fewer, recorded_changed}
use Rattle.bk_manifest_disk.proofs.DurableFronts.{front_more, front_there, front_is}
use Rattle.bk_manifest_disk.proofs.Kept.{last_record}

-- ---- the record

about_shorter : (s : Option LogState) (log n : ℕ) → subject_of (shorter s log n) ≡ the_log log
about_shorter None log n = refl
about_shorter (Some Made) log n = refl
about_shorter (Some (Durable m)) log n = refl
about_shorter (Some (Removed m)) log n = refl

some_shorter : (s : Option LogState) (log n : ℕ) → IsSome (log_state (Some (shorter s log n)))
some_shorter None log n = refl
some_shorter (Some Made) log n = refl
some_shorter (Some (Durable m)) log n = refl
some_shorter (Some (Removed m)) log n = refl

promised_shorter : (s : Option LogState) (log n m : ℕ) → promised s ≡ Some m → promised (log_state (Some (shorter s log n))) ≡ Some (min m n)
promised_shorter None log n m is = absurd (none-some m is)
promised_shorter (Some Made) log n m is = absurd (none-some m is)
promised_shorter (Some (Durable k)) log n m is = ap (option_map (λ i. min i n)) is
promised_shorter (Some (Removed k)) log n m is = ap (option_map (λ i. min i n)) is

fits_shorter : (kept kept' : Files) (log n : ℕ) (file now : List ℕ) (s : Option LogState) → Fits kept log s (Some file)
    → ((m : ℕ) → m ≤ n → m ≤ length file → m ≤ length now) → ((m : ℕ) → m ≤ n → IsDurableUpTo kept log m → IsDurableUpTo kept' log m)
    → Fits kept' log (log_state (Some (shorter s log n))) (Some now)
fits_shorter kept kept' log n file now None fits inside up = tt
fits_shorter kept kept' log n file now (Some Made) fits inside up = tt
fits_shorter kept kept' log n file now (Some (Durable m)) fits inside up = (
  inside (min m n) (omega arith) (omega (arith, fits.0)),
  up (min m n) (omega arith) (fits.1.0, fits.1.1, omega (arith, fits.1.2)),
)
fits_shorter kept kept' log n file now (Some (Removed m)) fits inside up = inside (min m n) (omega arith) (omega (arith, fits))

front_up_to : (log n : ℕ) (kept gone kept' gone' : Files) → KeepsFrontDurable log n kept gone kept' gone' → (m : ℕ) → m ≤ n → IsDurableUpTo kept log m → IsDurableUpTo kept' log m
front_up_to log n kept gone kept' gone' keeps m order has =
    let now = keeps.front has.0 has.1 in (
      now.0,
      now.1,
      omega (arith, order, has.2, no_fewer (take n has.0) now.0 now.2, length-drop header_length (take n has.0), length-drop header_length has.0, length-take n has.0),
    )

-- ---- the truncation

others_uncut : (files files' : Files) (log n : ℕ) (result : Result (Unit {0}) DiskFault) → Cuts files log n result files' → (q : ℕ) → q ≢ log → map.get files' q ≡ map.get files q
others_uncut files files' log n result turn q apart = by_result result turn where
  cut_else : IsCutTo files log n files' → map.get files' q ≡ map.get files q
  cut_else cut = ap (λ fs. map.get fs q) cut.2 ∙ get-insert_else nat_cmp_total nat_cmp-IsAntisymmetric files log (take n cut.0) q apart

  by_result : (result : Result (Unit {0}) DiskFault) → Cuts files log n result files' → map.get files' q ≡ map.get files q
  by_result (Ok x) turn = cut_else turn
  by_result (Err Disk) (inl same) = ap (λ fs. map.get fs q) same
  by_result (Err Disk) (inr cut) = cut_else cut
  by_result (Err NoLog) turn = ap (λ fs. map.get fs q) turn.1
  by_result (Err Memory) turn = ap (λ fs. map.get fs q) turn.1
  by_result (Err Exists) turn = absurd turn
  by_result (Err PastEnd) turn = absurd turn
  by_result (Err TooLong) turn = absurd turn

-- the log is there, and has as many of its first bytes as it is truncated to
record Left (files' : Files) (log n : ℕ) (file : List ℕ) : Type 0 where
  pub now : List ℕ
  pub there : map.get files' log ≡ Some now
  pub inside : (m : ℕ) → m ≤ n → m ≤ length file → m ≤ length now

left_uncut : (files files' : Files) (log n : ℕ) (file : List ℕ) (result : Result (Unit {0}) DiskFault) → map.get files log ≡ Some file → Cuts files log n result files' → Left files' log n file
left_uncut files files' log n file result there turn = by_result result turn where
  left_same : files' ≡ files → Left files' log n file
  left_same same = record { now = file; there = ap (λ fs. map.get fs log) same ∙ there; inside = λ m order within. within }

  left_cut : IsCutTo files log n files' → Left files' log n file
  left_cut cut = record {
    now = take n cut.0;
    there = ap (λ fs. map.get fs log) cut.2 ∙ get-insert_same files log (take n cut.0);
    inside = λ m order within.
        let same : file ≡ cut.0 = same_Some _ _ (sym there ∙ cut.1) in omega (arith, order, within, ap length same, length-take n cut.0);
  }

  by_result : (result : Result (Unit {0}) DiskFault) → Cuts files log n result files' → Left files' log n file
  by_result (Ok x) turn = left_cut turn
  by_result (Err Disk) (inl same) = left_same same
  by_result (Err Disk) (inr cut) = left_cut cut
  by_result (Err NoLog) turn = absurd (none-some file (sym (none_is (map.get files log) turn.0) ∙ there))
  by_result (Err Memory) turn = left_same turn.1
  by_result (Err Exists) turn = absurd turn
  by_result (Err PastEnd) turn = absurd turn
  by_result (Err TooLong) turn = absurd turn

-- first bytes of the first bytes
take_both : (m n : ℕ) (file : List ℕ) → take n (take m file) ≡ take (min m n) (take n file)
take_both m n file = first ∙ sym (take-take (min m n) n file (omega arith)) where
  first : take n (take m file) ≡ take (min m n) file
  first = elim (dec_le n m) [
    | yes within ↦ take-take n m file within ∙ ap (λ k. take k file) (omega (arith, within))
    | no past ↦ take_all n (take m file) (omega (arith, past, length-take-within m file)) ∙ ap (λ k. take k file) (omega (arith, past))
  ]

module _ (files files' kept gone kept' gone' : Files) (R N R' : List Fact) (log n : ℕ) (file : List ℕ) (result : Result (Unit {0}) DiskFault) (was : AreRecorded files kept gone R N)
    (there : map.get files log ≡ Some file) (is : R' ≡ R ++ (N ++ shorter (recorded R log) log n ∷ [])) (keeps : KeepsFrontDurable log n kept gone kept' gone')
    (turn : Cuts files log n result files') where
  abbrev one : Fact
  one = shorter (recorded R log) log n

  about : subject_of one ≡ the_log log
  about = about_shorter (recorded R log) log n

  fits_was : Fits kept log (recorded R log) (Some file)
  fits_was = subst (Fits kept log (recorded R log)) there (fits_now files kept gone R N was log)

  none : (k : ℕ) → (R ++ (N ++ one ∷ [])) ++ take k [] ≡ R ++ (N ++ one ∷ [])
  none k = ap (λ (ys : List Fact). (R ++ (N ++ one ∷ [])) ++ ys) (take_all k [] (omega arith)) ∙ append-nil (R ++ (N ++ one ∷ []))

  middle : AreRecorded files kept gone (R ++ (N ++ one ∷ [])) []
  middle = record {
    each = holds_settled (λ l s. Fits kept l s (map.get files l)) R (N ++ one ∷ [])
        (holds_more (λ l s. Fits kept l s (map.get files l)) R N was.each one log about
        (subst (Fits kept log (log_state (Some one))) (sym there)
        (fits_shorter kept kept log n file file (recorded R log) fits_was (λ m order within. within) (λ m order has. has))));
    rises = λ k q. rises_equal _ _ (ap (λ xs. promise files xs q) (none k));
    back = holds_settled (λ l s. (f : List ℕ) → map.get gone l ≡ Some f → IsSome s) R (N ++ one ∷ [])
        (holds_more (λ l s. (f : List ℕ) → map.get gone l ≡ Some f → IsSome s) R N was.back one log about (λ f back. some_shorter (recorded R log) log n));
  }

  last : recorded R' log ≡ log_state (Some one)
  last = last_record R N R' one log is about

  left : Left files' log n file
  left = left_uncut files files' log n file result there turn

  pub cut_recorded : (N' : List Fact) → N' ≡ [] → AreRecorded files' kept' gone' R' N'
  cut_recorded N' empty =
      subst (AreRecorded files' kept' gone' R') (sym empty)
      (recorded_changed files kept gone files' kept' gone' R' log (subst (λ xs. AreRecorded files kept gone xs []) (sym is) middle) (others_uncut files files' log n result turn)
      (subst (λ s. Fits kept' log s (map.get files' log)) (sym last)
      (subst (Fits kept' log (log_state (Some one))) (sym left.there)
      (fits_shorter kept kept' log n file left.now (recorded R log) fits_was left.inside (front_up_to log n kept gone kept' gone' keeps))))
      (subst IsSome (sym last) (some_shorter (recorded R log) log n)) (λ q f apart has. keeps.others q f apart has) (λ q f back. inl (keeps.back q f back)))

  rises_else : (q : ℕ) → q ≢ log → Rises (promise files R q) (promise files' R' q)
  rises_else q apart =
      let same : promise files' R' q ≡ promise files (R ++ N) q =
      (λ i. if_there (others_uncut files files' log n result turn q apart i)
      (promised ((ap (λ xs. recorded xs q) (is ∙ sym (append_assoc R N (one ∷ []))) ∙ push_else (R ++ N) one log q about apart) i))) in
      subst (Rises (promise files R q)) (sym same) (commit_rises files kept gone R N was q)

  pub cut_fronts : KeepsFrontDurable log n (durable_fronts files R kept) gone (durable_fronts files' R' kept') gone'
  cut_fronts = record {
    others = λ q front apart is. front_more files files' R R' kept kept' q front (λ f has. keeps.others q f apart has) (rises_else q apart) is;
    front = λ front is.
        let old = front_there files R kept log front is in
        let now = keeps.front old.file old.there in
        let before : promised (recorded R log) ≡ Some old.n = sym (ap (λ o. if_there o (promised (recorded R log))) there) ∙ old.durable in
        let after : promise files' R' log ≡ Some (min old.n n) =
        (λ i. if_there (left.there i) (promised (last i))) ∙ promised_shorter (recorded R log) log n old.n before in (
          take (min old.n n) now.0,
          front_is files' R' kept' log (min old.n n) now.0 now.1 after,
          subst (λ (f : List ℕ). IsLonger f (take (min old.n n) now.0)) (sym (take_both old.n n old.file) ∙ ap (take n) old.is)
              (longer_fronts (min old.n n) (min old.n n) (take n old.file) now.0 (omega arith) now.2),
        );
    back = keeps.back;
  }

-- ---- a log whose length cannot be measured, or whose record fails

pub unmeasured_uncut : (old new : Files) (log n : ℕ) (fault : DiskFault) → Measures old log (Err fault) new → Cuts {T = Unit {0}} old log n (Err fault) new
unmeasured_uncut old new log n Disk turn = inl turn
unmeasured_uncut old new log n NoLog turn = turn
unmeasured_uncut old new log n Memory turn = turn
unmeasured_uncut old new log n Exists turn = absurd turn
unmeasured_uncut old new log n PastEnd turn = absurd turn
unmeasured_uncut old new log n TooLong turn = absurd turn

pub unrecorded_uncut : (old new : Files) (log n : ℕ) (file : List ℕ) (fault : DiskFault) → map.get old log ≡ Some file → new ≡ old → (fault ≡ Disk) ⊎ (fault ≡ Memory)
    → Cuts {T = Unit {0}} old log n (Err fault) new
unrecorded_uncut old new log n file fault there same (inl is) = subst (λ (f : DiskFault). Cuts {T = Unit {0}} old log n (Err f) new) (sym is) (inl same)
unrecorded_uncut old new log n file fault there same (inr is) =
    subst (λ (f : DiskFault). Cuts {T = Unit {0}} old log n (Err f) new) (sym is) (subst IsSome (sym there) refl, same)

-- no record is noted any more
pub forgotten : (files kept gone : Files) (R N R' N' : List Fact) → AreRecorded files kept gone R N → R' ≡ R → N' ≡ [] → AreRecorded files kept gone R' N'
forgotten files kept gone R N R' N' was same empty =
    subst (λ xs. AreRecorded files kept gone xs N') (sym same) (subst (AreRecorded files kept gone R) (sym empty) (record {
      each = λ k q. subst (λ ys. Fits kept q (recorded (R ++ ys) q) (map.get files q)) (sym (nothing k)) (was.each 0 q);
      rises = λ k q. subst (λ ys. Rises (promise files R q) (promise files (R ++ ys) q)) (sym (nothing k)) (was.rises 0 q);
      back = λ k q f back. subst (λ ys. IsSome (recorded (R ++ ys) q)) (sym (nothing k)) (was.back 0 q f back);
    })) where
      nothing : (k : ℕ) → take {A = Fact} k [] ≡ []
      nothing k = take_all k [] (omega arith)
