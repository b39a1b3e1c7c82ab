-- What an opening by the manifest shows of a damaged disk is what a crash may leave.
use Rattle.std.proofs.Common.{◌≡◌, inl, inr, ℕ, ◌+◌, ◌≤◌, List, [], ◌++◌, length, take, drop, Option, Some, None, IsSome, option_map, unwrap_or}
use Rattle.std.proofs.Common.{refl, sym, ap, ◌∙◌, subst, arith, length-drop, length-take}
use Rattle.std.proofs.lemmas.List.{take-take}
use Rattle.std.proofs.lemmas.Option.{same_Some, none-some}
use Rattle.std.specs.FinMap as map
use Rattle.bk_record.specs.Files.{Files, file_of, header_length}
use Rattle.bk_record.specs.Longer.{IsLonger}
use Rattle.bk_record.proofs.Longer.{longer_same, longer_trans}
use Rattle.bk_disk.proofs.Cutting.{longer_than_front}
use Rattle.bk_manifest.specs.Fact.{Fact}
use Rattle.bk_manifest.specs.declared.state.LogState.{LogState}
use Rattle.bk_manifest.specs.declared.state.LogState.TheVariants.{Made, Durable, Removed}
use Rattle.bk_manifest_disk.specs.declared.lack.Lack.{Lack}
use Rattle.bk_manifest_disk.specs.declared.lack.Lack.TheVariants as lack
use Rattle.bk_manifest_disk.specs.Table.{recorded}
use Rattle.bk_manifest_disk.specs.Limiting.{LogLimits, shown, shown_files}
use Rattle.bk_manifest_disk.specs.Recording.{promised, if_there, promise, durable_fronts, Fits, AreRecorded, limit_of}
use Rattle.bk_manifest_disk.specs.Opening.{AreOpened, LacksBy}
use Rattle.bk_manifest_disk.proofs.Fronts.{longer_fronts, length-shown}
use Rattle.bk_manifest_disk.proofs.Shown.{get-shown, shown_is, shown_there}
use Rattle.bk_manifest_disk.proofs.Recorded.{rises_some}
use Rattle.bk_manifest_disk.proofs.DurableFronts.{front_there}
use Rattle.bk_store.specs.Crash.{IsCut, IsLeft, MayLeave}
use Rattle.bk_crash.specs.Remaining.{IsDamagedBy, IsBackBy, MayRemain}
use Rattle.bk_crash.proofs.Damage.{front_cut}

-- ---- one file

empty_cut : (file : List ℕ) → IsCut file []
empty_cut file = record { within = omega arith; front = refl; behind = refl }

-- a cut that is not longer than a prefix is a cut of the prefix
cut_in_front : (limit : Option ℕ) (file left : List ℕ) → IsCut file left → length left ≤ length (shown limit file) → IsCut (shown limit file) left
cut_in_front None file left cut within = cut
cut_in_front (Some l) file left cut within =
    let order : length left ≤ l = omega (arith, within, length-take l file) in
    let same : take (length left) (take l file) ≡ take (length left) file = take-take (length left) l file order in
    record {
      within = within;
      front = cut.front ∙ ap (take 8) (sym same);
      behind = cut.behind ∙ ap (drop 20) (sym same);
    }

front_longer : (limit : Option ℕ) (file : List ℕ) → IsLonger (shown limit file) file
front_longer None file = longer_same file
front_longer (Some l) file = longer_than_front l file

limit_promised : (s : Option LogState) (n : ℕ) → promised s ≡ Some n → limit_of s ≡ Some n
limit_promised None n is = absurd (none-some n is)
limit_promised (Some Made) n is = absurd (none-some n is)
limit_promised (Some (Durable m)) n is = is
limit_promised (Some (Removed m)) n is = is

promised_there : (o : Option (List ℕ)) (p : Option ℕ) (n : ℕ) → if_there o p ≡ Some n → p ≡ Some n
promised_there None p n is = absurd (none-some n is)
promised_there (Some file) p n is = is

-- ---- all files

module _ (files gone kept left : Files) (limits : LogLimits) (records noted : List Fact) (k : ℕ)
    (was : AreRecorded (shown_files limits files) (shown_files limits kept) gone records noted) (damage : MayRemain files gone kept (records ++ take k noted) left) where
  there_same : (log : ℕ) (p : Option ℕ) → if_there (map.get (shown_files limits files) log) p ≡ if_there (map.get files log) p
  there_same log p = ap (λ o. if_there o p) (get-shown limits files log) ∙ by_file (map.get files log) where
    by_file : (o : Option (List ℕ)) → if_there (option_map (shown (map.get limits log)) o) p ≡ if_there o p
    by_file None = refl
    by_file (Some file) = refl

  -- the first bytes of a log were synced
  covers : (log n : ℕ) (front : List ℕ) → map.get (shown_files limits kept) log ≡ Some front → n ≤ header_length + length (drop header_length front)
      → n ≤ header_length + length (drop header_length (file_of kept log))
  covers log n front is within =
      let held = shown_there limits kept log front is in
      let same : file_of kept log ≡ held.file = ap (λ (o : Option (List ℕ)). unwrap_or o []) held.there in
      omega (arith, within, ap length same, ap length held.is, length-shown (map.get limits log) held.file, length-drop header_length front, length-drop header_length (file_of kept log))

  held_cut : (log : ℕ) (s : Option LogState) (file now : List ℕ) → Fits (shown_files limits kept) log s (Some (shown (map.get limits log) file))
      → IsDamagedBy s (file_of kept log) file now → IsCut (shown (map.get limits log) file) (shown (limit_of s) now)
  held_cut log None file now fits damaged = absurd fits
  held_cut log (Some Made) file now fits damaged = empty_cut (shown (map.get limits log) file)
  held_cut log (Some (Durable n)) file now fits damaged =
      cut_in_front (map.get limits log) file (take n now) (front_cut (file_of kept log) file now damaged n (covers log n fits.1.0 fits.1.1 fits.1.2))
      (omega (arith, fits.0, length-take n now))
  held_cut log (Some (Removed n)) file now fits damaged = cut_in_front (map.get limits log) file (take n now) damaged (omega (arith, fits, length-take n now))

  back_cut : (log : ℕ) (s : Option LogState) (file now : List ℕ) → IsSome s → Fits (shown_files limits kept) log s None → IsBackBy s file now → IsCut file (shown (limit_of s) now)
  back_cut log None file now some fits back = cc
  back_cut log (Some Made) file now some fits back = empty_cut file
  back_cut log (Some (Durable n)) file now some fits back = absurd fits
  back_cut log (Some (Removed n)) file now some fits back = back

  module _ (seen : Files) (opens : AreOpened left (records ++ take k noted) seen) where
    left_seen : (log : ℕ) (front : List ℕ) → map.get seen log ≡ Some front → (o : Option (List ℕ)) → map.get left log ≡ o → IsLeft (shown_files limits files) gone log front
    left_seen log front is None gone_is =
        absurd (none-some front (sym (opens.each log ∙ ap (option_map (shown (limit_of (recorded (records ++ take k noted) log)))) gone_is) ∙ is))
    left_seen log front is (Some now) there =
        let same : shown (limit_of (recorded (records ++ take k noted) log)) now ≡ front =
        same_Some _ _ (sym (opens.each log ∙ ap (option_map (shown (limit_of (recorded (records ++ take k noted) log)))) there) ∙ is) in
        elim (damage.each log now there) [
          | inl held ↦
              let has = shown_is limits files log held.0 held.1 in inl (
                shown (map.get limits log) held.0,
                has,
                subst (IsCut (shown (map.get limits log) held.0)) same
                    (held_cut log (recorded (records ++ take k noted) log) held.0 now
                    (subst (Fits (shown_files limits kept) log (recorded (records ++ take k noted) log)) has (was.each k log)) held.2),
              )
          | inr back ↦
              let none : map.get (shown_files limits files) log ≡ None = get-shown limits files log ∙ ap (option_map (shown (map.get limits log))) back.1 in inr (
                back.0,
                none,
                back.2,
                subst (IsCut back.0) same
                    (back_cut log (recorded (records ++ take k noted) log) back.0 now (was.back k log back.0 back.2)
                    (subst (Fits (shown_files limits kept) log (recorded (records ++ take k noted) log)) none (was.each k log)) back.3),
              )
        ]

    pub opened_leaves : MayLeave (shown_files limits files) gone (durable_fronts (shown_files limits files) records (shown_files limits kept)) seen
    opened_leaves = record {
      stands = λ log front is.
          let one = front_there (shown_files limits files) records (shown_files limits kept) log front is in
          let up = rises_some (promise (shown_files limits files) records log) (promise (shown_files limits files) (records ++ take k noted) log) one.n (was.rises k log) one.durable in
          let held = shown_there limits kept log one.file one.there in
          let due = sym (there_same log (promised (recorded (records ++ take k noted) log))) ∙ up.1 in
          let now = damage.stands log up.0 held.file due held.there in
          let limit = limit_promised _ _ (promised_there (map.get files log) _ _ due) in (
            take up.0 now.0,
            opens.each log ∙ ap (option_map (shown (limit_of (recorded (records ++ take k noted) log)))) now.1 ∙ ap (λ l. Some (shown l now.0)) limit,
            subst (λ (f : List ℕ). IsLonger f (take up.0 now.0)) one.is
                (longer_fronts one.n up.0 one.file now.0 up.2
                (longer_trans one.file held.file now.0 (subst (λ (f : List ℕ). IsLonger f held.file) held.is (front_longer (map.get limits log) held.file)) now.2)),
          );
      each = λ log front is. left_seen log front is (map.get left log) refl;
    }

  remains : (log n : ℕ) → recorded (records ++ take k noted) log ≡ Some (Durable n) → (now : List ℕ) × (map.get left log ≡ Some now) × (n ≤ length now)
  remains log n durable = by_file (map.get files log) refl where
    fits : (o : Option (List ℕ)) → map.get files log ≡ o → Fits (shown_files limits kept) log (Some (Durable n)) (option_map (shown (map.get limits log)) o)
    fits o is =
        subst (λ s. Fits (shown_files limits kept) log s (option_map (shown (map.get limits log)) o)) durable
        (subst (Fits (shown_files limits kept) log (recorded (records ++ take k noted) log)) (get-shown limits files log ∙ ap (option_map (shown (map.get limits log))) is) (was.each k log))

    by_file : (o : Option (List ℕ)) → map.get files log ≡ o → (now : List ℕ) × (map.get left log ≡ Some now) × (n ≤ length now)
    by_file None none = absurd (fits None none)
    by_file (Some file) there =
        let held = fits (Some file) there in
        let one = shown_there limits kept log held.1.0 held.1.1 in
        let now = damage.stands log n one.file (ap (λ o. if_there o (promised (recorded (records ++ take k noted) log))) there ∙ ap promised durable) one.there in
        (now.0, now.1, now.3)

  pub nothing_lacks : (l : Lack) → LacksBy (records ++ take k noted) left l → ⊥
  nothing_lacks (lack.Shorter log durable n) one =
      let now = remains log durable one.0 in
      let same : file_of left log ≡ now.0 = ap (λ (o : Option (List ℕ)). unwrap_or o []) now.1 in
      absurd (omega (arith, one.1, one.2, now.2, ap length same))
  nothing_lacks (lack.Missing log durable) one = let now = remains log durable one.0 in none-some now.0 (sym one.1 ∙ now.1)
