-- What a crash left of a file is the beginning of it after the header, and has what was synced.
use Rattle.std.proofs.Common.{◌≡◌, ◌⊎◌, inl, inr, ℕ, ◌≤◌, List, [], ◌++◌, length, take, drop, Some, Option, unwrap_or}
use Rattle.std.proofs.Common.{sym, ap, ◌∙◌, subst, arith, append_assoc}
use Rattle.std.proofs.lemmas.List.{drop-drop, take-append-drop, take-append-le, length-take-le}
use Rattle.std.specs.FinMap as finite
use Rattle.bk_record.specs.Key.{EntryKey}
use Rattle.bk_record.specs.Location.{Place}
use Rattle.bk_record.specs.Files.{Files, file_of, header_length}
use Rattle.bk_record.specs.Longer.{IsLonger}
use Rattle.bk_record.proofs.Longer.{longer_append, longer_trans}
use Rattle.bk_store.proofs.LongerRecords.{records-longer}
use Rattle.bk_store.specs.Entries.{Bytes, HasEntry}
use Rattle.bk_store.specs.Crash.{IsCut, MayLeave, AreSynced, Survives, OpensAs}
use Rattle.bk_store.proofs.Cases.{some_or_none}
use Rattle.bk_store.proofs.Growing.{none_stands}

-- ---- one file

-- the first bytes of a file, and all of it
longer_front : (n : ℕ) (file : List ℕ) → IsLonger (take n file) file
longer_front n file = subst (IsLonger (take n file)) (take-append-drop n file) (longer_append (take n file) (drop n file))

-- a cut is as the first bytes of its file, after byte 20 and so after the header
behind_header : (file left : List ℕ) → IsCut file left → drop header_length left ≡ drop header_length (take (length left) file)
behind_header file left cut =
    sym (drop-drop 1004 20 left) ∙ ap (drop 1004) cut.behind ∙ drop-drop 1004 20 (take (length left) file)

pub cut_front : (file left : List ℕ) → IsCut file left → IsLonger left file
cut_front file left cut =
    let front = longer_front (length left) file in
    record { behind = front.behind; is = front.is ∙ ap (λ (b : List ℕ). b ++ front.behind) (sym (behind_header file left cut)) }

-- fewer of the first bytes
take_fewer : (n m : ℕ) (file : List ℕ) → n ≤ m → m ≤ length file → take n (take m file) ≡ take n file
take_fewer n m file fewer within =
    sym (take-append-le n (take m file) (drop m file) (omega (arith, fewer, length-take-le m file within)))
    ∙ ap (take n) (take-append-drop m file)

-- a cut is judged as its file is
pub cut_opens : (file left : List ℕ) → IsCut file left → OpensAs file left
cut_opens file left cut = record {
  shorter = cut.within;
  headed = λ headed. cut.front ∙ take_fewer 8 (length left) file (omega (arith, headed)) cut.within;
  spelled = λ whole at value bad.
      let front = cut_front file left cut in
      whole at value (record {
        before = bad.before;
        field = bad.field;
        behind = bad.behind ++ front.behind;
        records = bad.records;
        bytes_are = front.is ∙ ap (λ (b : List ℕ). b ++ front.behind) bad.bytes_are
            ∙ append_assoc (bad.before ++ bad.field) bad.behind front.behind;
        whole = bad.whole;
        four = bad.four;
        value_is = bad.value_is;
        below = bad.below;
        place = bad.place;
      });
}

-- ---- all files

pub entry_longer : {bytes bytes' : Bytes} (place : Place) (key : EntryKey) (payload : List ℕ) → IsLonger (bytes place.log) (bytes' place.log)
    → HasEntry bytes place key payload → HasEntry bytes' place key payload
entry_longer {bytes = bytes} {bytes' = bytes'} place key payload longer entry = record {
  stands = records-longer (bytes place.log) (bytes' place.log) (place.at, payload) longer entry.stands;
  keyed = entry.keyed;
}

-- the bytes of a log that has a file
file_is : (files : Files) (id : ℕ) (file : List ℕ) → finite.get files id ≡ Some file → file_of files id ≡ file
file_is files id file is = ap (λ (o : Option (List ℕ)). unwrap_or o []) is

module _ {files gone kept left : Files} (leaves : MayLeave files gone kept left) where
  -- each entry that a crash left was in a file, or in a removed one
  left_entry : (place : Place) (key : EntryKey) (payload : List ℕ) → HasEntry (file_of left) place key payload
      → HasEntry (file_of files) place key payload ⊎ HasEntry (file_of gone) place key payload
  left_entry place key payload entry = elim (some_or_none (finite.get left place.log)) [
    | inl none ↦ absurd (none_stands place key payload (ap (λ (o : Option (List ℕ)). unwrap_or o []) none) entry)
    | inr there ↦
        let here = file_is left place.log there.0 there.1 in
        elim (leaves.each place.log there.0 there.1) [
          | inl one ↦ inl (entry_longer place key payload
              (subst (λ (f : List ℕ). IsLonger f (file_of files place.log)) (sym here)
              (subst (IsLonger there.0) (sym (file_is files place.log one.0 one.1)) (cut_front one.0 there.0 one.2))) entry)
          | inr back ↦ inr (entry_longer place key payload
              (subst (λ (f : List ℕ). IsLonger f (file_of gone place.log)) (sym here)
              (subst (IsLonger there.0) (sym (file_is gone place.log back.0 back.2)) (cut_front back.0 there.0 back.3))) entry)
        ]
  ]

  pub survives : (parts : Bytes) → AreSynced kept parts → Survives (file_of files) (file_of gone) parts (file_of left)
  survives parts safe = record {
    kept = λ place key payload entry. elim (safe.each place.log) [
      | inl none ↦ absurd (none_stands place key payload none entry)
      | inr there ↦
          let now = leaves.stands place.log there.0 there.1 in
          let longer = longer_trans (parts place.log) there.0 now.0 there.2 now.2 in
          entry_longer place key payload (subst (λ (f : List ℕ). IsLonger (parts place.log) f) (sym (file_is left place.log now.0 now.1)) longer) entry
    ];
    only = left_entry;
  }
