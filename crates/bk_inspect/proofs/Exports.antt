-- The records that an export writes are those of the entries that it is asked for.
use Rattle.std.proofs.Common.{◌≡◌, ℕ, ◌+◌, ◌-◌, ◌≤◌, ◌↔◌, IsTrue, List, [], ◌∷◌, ◌++◌, length, take, drop, map, Option, Some, None, IsNone, inl, inr}
use Rattle.std.proofs.Common.{refl, sym, ap, ap₂, ◌∙◌, subst, arith, nat_cmp, append_assoc, unwrap_or}
use Rattle.std.specs.Prelude.{flat_map}
use Rattle.std.specs.FinMap as finite
use Rattle.std.specs.Io.KnownBytes.{Appends, Keeps}
use Rattle.std.proofs.lemmas.List.{append-nil}
use Rattle.std.proofs.lemmas.Grind.{flat_map-append}
use Rattle.bk_record.specs.Files.{Files, In, file_of}
use Rattle.bk_record.proofs.Growth.{In-append_right}
use Rattle.bk_disk.specs.Disk.{IsFile}
use Rattle.bk_inspect.specs.declared.entries.Standing.{Standing}
use Rattle.bk_inspect.specs.declared.export.DataForm.{DataForm}
use Rattle.bk_inspect.specs.declared.export.DataForm.TheVariants.{Hex, Raw}
use Rattle.bk_inspect.specs.declared.form.Form.{Form}
use Rattle.bk_inspect.specs.declared.form.Form.TheVariants.{Text, Json}
use Rattle.bk_inspect.specs.Exporting.{record_in, records_in, recorded}
use Rattle.bk_inspect.specs.Shown.{WritesText}
use Rattle.bk_inspect.proofs.Lines.{appends_then}

-- ---- writing

-- some records were written, and the rest is to be written
pub record WroteRecords (files : Files) (rest all : List (ℕ × Standing)) (before now : Option (List ℕ)) : Type 0 where
  pub done : List (ℕ × Standing)
  pub split : done ++ rest ≡ all
  pub appended : Appends before now (records_in files done)

pub record_more : (files : Files) (rest behind all : List (ℕ × Standing)) (e : ℕ × Standing) (file : List ℕ) (before mid now : Option (List ℕ))
    → rest ≡ e ∷ behind → IsFile files e.1.log file → WroteRecords files rest all before mid → Appends mid now (record_in file e.1.found)
    → WroteRecords files behind all before now
record_more files rest behind all e file before mid now is here w line =
    let one : ℕ × Standing → List ℕ = λ r. record_in (file_of files r.1.log) r.1.found in
    let bytes : one e ≡ record_in file e.1.found = ap (λ (o : Option (List ℕ)). record_in (unwrap_or o []) e.1.found) here in
    let more : records_in files (w.done ++ e ∷ []) ≡ records_in files w.done ++ record_in file e.1.found =
    flat_map-append one w.done (e ∷ [])
    ∙ ap (λ (l : List ℕ). records_in files w.done ++ l) (append-nil (one e) ∙ bytes) in
    record {
      done = w.done ++ e ∷ [];
      split = append_assoc w.done (e ∷ []) behind ∙ ap (λ (l : List (ℕ × Standing)). w.done ++ l) (sym is) ∙ w.split;
      appended = subst (λ (l : List ℕ). Appends before now l) (sym more)
          (appends_then before mid now (records_in files w.done) (record_in file e.1.found) w.appended line);
    }

pub records_all : (files : Files) (rest all : List (ℕ × Standing)) (before now : Option (List ℕ)) → rest ≡ [] → WroteRecords files rest all before now
    → Appends before now (records_in files all)
records_all files rest all before now is w =
    subst (λ (l : List (ℕ × Standing)). Appends before now (records_in files l))
    (sym (append-nil w.done) ∙ ap (λ (l : List (ℕ × Standing)). w.done ++ l) (sym is) ∙ w.split) w.appended

-- the next record is one of all
pub next_listed : (files : Files) (rest behind all : List (ℕ × Standing)) (e : ℕ × Standing) (before now : Option (List ℕ)) → rest ≡ e ∷ behind
    → WroteRecords files rest all before now → In e all
next_listed files rest behind all e before now is w =
    subst (In e) (ap (λ (l : List (ℕ × Standing)). w.done ++ l) (sym is) ∙ w.split) (In-append_right e w.done (e ∷ behind) (inl refl))

-- ---- flushing

keeps_recorded : (form : Form) (kind : DataForm) (o p : Option (List ℕ)) → Keeps o p → Keeps (recorded form kind o) (recorded form kind p)
keeps_recorded Json kind o p kept = tt
keeps_recorded Text Raw o p kept = kept
keeps_recorded Text Hex o p kept = tt

appends_kept : (before mid after : Option (List ℕ)) (bytes : List ℕ) → Appends before mid bytes → Keeps mid after → Appends before after bytes
appends_kept None mid after bytes wrote kept = tt
appends_kept (Some xs) None after bytes wrote kept = absurd wrote
appends_kept (Some xs) (Some ys) None bytes wrote kept = absurd kept
appends_kept (Some xs) (Some ys) (Some zs) bytes wrote kept = kept ∙ wrote

-- what was written stays when it is flushed
pub text_flushed : (form : Form) (kind : DataForm) (Is : List ℕ → Type 0) (before mid after : Option (List ℕ))
    → WritesText Is (recorded form kind before) (recorded form kind mid) → Keeps mid after → WritesText Is (recorded form kind before) (recorded form kind after)
text_flushed form kind Is before mid after wrote kept =
    (wrote.0, wrote.1, appends_kept (recorded form kind before) (recorded form kind mid) (recorded form kind after) wrote.0 wrote.2 (keeps_recorded form kind mid after kept))
