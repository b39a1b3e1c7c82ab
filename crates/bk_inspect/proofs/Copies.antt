-- The draft of a log's copy, as it grows piece by piece and takes the place of the copy; and what a copy that stands has of the log.
use Rattle.std.proofs.Common.{◌≡◌, inl, inr, ℕ, ◌+◌, ◌-◌, ◌≤◌, ◌<◌, min, Bool, IsTrue, true, false, cond, List, [], ◌++◌, length, take, drop, Option, Some, None, IsNone}
use Rattle.std.proofs.Common.{Result, Ok, Err, nat_cmp, refl, sym, ap, ◌∙◌, subst, arith, append_assoc, length-drop}
use Rattle.std.specs.Cmp.{nat_cmp_total}
use Rattle.std.specs.Ordering.{eq_by_cmp}
use Rattle.std.proofs.lemmas.Map.Views.{tells_apart}
use Rattle.std.specs.Prelude.{◌⊎◌}
use Rattle.std.specs.Option.{option_map_or}
use Rattle.std.specs.FinMap.{get, insert, remove, get-insert, get-remove, nat_cmp-IsAntisymmetric}
use Rattle.std.proofs.lemmas.List.{drop-take, length-take, length-take-le, take_all, take_at}
use Rattle.std.proofs.Math.Seq as seq
use Rattle.bk_record.specs.Files.{Files}
use Rattle.bk_record.proofs.NumberMaps.{get-insert_same, same_by_get}
use Rattle.bk_disk.specs.Disk.{IsFile, files_after_append}
use Rattle.bk_disk.proofs.Cuts.{take-add}
use Rattle.bk_disk.proofs.Failures.{grown-nil}
use Rattle.bk_disk.proofs.FileMaps.{grown-insert}
use Rattle.bk_log.proofs.Files.{grown-stands}
use Rattle.bk_inspect.specs.Reading.{OfFile}
use Rattle.bk_inspect.specs.declared.aside.Standing.TheVariants.{Part, More, Other}
use Rattle.bk_inspect.specs.declared.fault.DirFault.{DirFault}
use Rattle.bk_inspect.specs.declared.aside.CopyFault.{CopyFault}
use Rattle.bk_inspect.specs.declared.aside.CopyFault.TheVariants.{Taken, Blocked, Broken}
use Rattle.bk_inspect.specs.Copying.{BeginAlike, CopiesAside, CopiesBytes, CopiesPiece, HasAside, IsCopied, IsFrontOf, PiecesAgree, StandsAs, WritesCopy}
use Rattle.bk_inspect.specs.Sealing.{AppendsMap}

grown-none : (files : Files) (log : ℕ) (piece : List ℕ) → get files log ≡ None → files_after_append files log piece ≡ files
grown-none files log piece none = ap (λ (o : Option (List ℕ)). option_map_or (λ file. insert files log (file ++ piece)) o files) none

-- a piece behind a piece
pub grown-grown : (files : Files) (log : ℕ) (first second : List ℕ) → files_after_append (files_after_append files log first) log second ≡ files_after_append files log (first ++ second)
grown-grown files log first second =
    elim (get files log) as (λ o. get files log ≡ o → files_after_append (files_after_append files log first) log second ≡ files_after_append files log (first ++ second)) [
      | None ↦ λ none.
          ap (λ (fs : Files). files_after_append fs log second) (grown-none files log first none) ∙ grown-none files log second none
          ∙ sym (grown-none files log (first ++ second) none)
      | Some file ↦ λ there.
          ap (λ (fs : Files). files_after_append fs log second) (grown-stands files log file first there) ∙ grown-insert files log (file ++ first) second
          ∙ ap (insert files log) (append_assoc file first second) ∙ sym (grown-stands files log file (first ++ second) there)
    ] refl

-- How much of a log was copied: some bytes stand behind the draft, which are the log's first ones, up to a position.
pub record HasCopied (files copies : Files) (log at : ℕ) (copies' : Files) : Type 0 where
  pub piece : List ℕ
  pub now : copies' ≡ files_after_append copies log piece
  pub front : (file : List ℕ) → IsFile files log file → piece ≡ take at file

pub copied_none : (files copies : Files) (log : ℕ) → HasCopied files copies log 0 copies
copied_none files copies log = record { piece = []; now = sym (grown-nil copies log); front = λ file stands. refl }

-- one piece more
pub copied_next : (files mid copies now copies' : Files) (log at n next : ℕ) → HasCopied files copies log at now → mid ≡ files
    → CopiesPiece mid now log at n (Ok tt) copies' → next ≡ at + n → HasCopied files copies log next copies'
copied_next files mid copies now copies' log at n next copied same piece is = record {
  piece = copied.piece ++ take n (drop at piece.0);
  now = piece.2.1 ∙ ap (λ (fs : Files). files_after_append fs log (take n (drop at piece.0))) copied.now ∙ grown-grown copies log copied.piece (take n (drop at piece.0));
  front = λ file stands.
      let here : get mid log ≡ Some piece.0 = piece.1 in
      let there : get mid log ≡ Some file = ap (λ (fs : Files). get fs log) same ∙ stands in
      let one : piece.0 ≡ file = cc in
      ap (λ (b : List ℕ). copied.piece ++ take n (drop at b)) one ∙ ap (λ (b : List ℕ). b ++ take n (drop at file)) (copied.front file stands)
      ∙ take-add at n file (omega (arith, piece.2.0, ap length one)) ∙ ap (λ (k : ℕ). take k file) (sym is);
}

-- what was read and written behind the copy
pub piece_read : (files mid copies copies' : Files) (log at n : ℕ) (bytes : List ℕ) (answer : Result (Unit {0}) DirFault)
    → ((file : List ℕ) × IsFile files log file × (at + n ≤ length file) × (bytes ≡ take n (drop at file)) × (mid ≡ files))
    → AppendsMap copies log bytes answer copies' → CopiesPiece files copies log at n answer copies'
piece_read files mid copies copies' log at n bytes (Ok tt) found wrote =
    (found.0, found.1, (found.2, wrote ∙ ap (files_after_append copies log) found.3))
piece_read files mid copies copies' log at n bytes (Err fault) found (inl same) = ([], same ∙ sym (grown-nil copies log))
piece_read files mid copies copies' log at n bytes (Err fault) found (inr part) = (take part.0 bytes, part.1)

-- a piece that could not be copied
pub copied_failed : (files copies now copies' : Files) (log at : ℕ) → HasCopied files copies log at now → ((piece : List ℕ) × (copies' ≡ files_after_append now log piece))
    → (piece : List ℕ) × (copies' ≡ files_after_append copies log piece)
copied_failed files copies now copies' log at copied failed =
    (copied.piece ++ failed.0, failed.1 ∙ ap (λ (fs : Files). files_after_append fs log failed.0) copied.now ∙ grown-grown copies log copied.piece failed.0)

-- all was copied
pub bytes_copied : (files copies now : Files) (log at n : ℕ) → HasCopied files copies log at now → at ≡ n
    → CopiesBytes files copies log n (Ok tt) now
bytes_copied files copies now log at n copied is = λ file stands long.
    copied.now ∙ ap (files_after_append copies log) (copied.front file stands ∙ take_all at file (omega (arith, is, long)))

-- ---- a draft that is kept

-- an empty draft that got all bytes of the log
full_draft : (files drafts filled : Files) (log n : ℕ) (file : List ℕ) → get drafts log ≡ Some [] → CopiesBytes files drafts log n (Ok tt) filled
    → IsFile files log file → n ≡ length file → get filled log ≡ Some file
full_draft files drafts filled log n file empty copied stands long =
    ap (λ (fs : Files). get fs log) (copied file stands long ∙ grown-stands drafts log [] file empty) ∙ get-insert_same drafts log file

draft_copied : (files drafts filled copies copies' : Files) (log n : ℕ) → get drafts log ≡ Some [] → CopiesBytes files drafts log n (Ok tt) filled
    → OfFile filled log (λ draft. copies' ≡ insert copies log draft) → IsCopied files copies log n copies'
draft_copied files drafts filled copies copies' log n empty copied kept = λ file stands long.
    let here : get filled log ≡ Some kept.0 = kept.1 in
    let there : get filled log ≡ Some file = full_draft files drafts filled log n file empty copied stands long in
    let one : kept.0 ≡ file = cc in
    kept.2 ∙ ap (insert copies log) one

-- it took the place of the copy
pub draft_kept : (files drafts filled copies now copies' : Files) (log n : ℕ) → get drafts log ≡ Some [] → CopiesBytes files drafts log n (Ok tt) filled
    → now ≡ copies → OfFile filled log (λ draft. copies' ≡ insert now log draft) → IsCopied files copies log n copies'
draft_kept files drafts filled copies now copies' log n empty copied same kept =
    draft_copied files drafts filled copies copies' log n empty copied (kept.0, kept.1, kept.2 ∙ ap (λ (fs : Files). insert fs log kept.0) same)

-- or perhaps not
pub draft_failed : (files drafts filled copies now copies' : Files) (log n : ℕ) → get drafts log ≡ Some [] → CopiesBytes files drafts log n (Ok tt) filled
    → now ≡ copies → ((copies' ≡ now) ⊎ OfFile filled log (λ draft. copies' ≡ insert now log draft))
    → (copies' ≡ copies) ⊎ IsCopied files copies log n copies'
draft_failed files drafts filled copies now copies' log n empty copied same (inl left) = inl (left ∙ same)
draft_failed files drafts filled copies now copies' log n empty copied same (inr kept) =
    inr (draft_kept files drafts filled copies now copies' log n empty copied same kept)

pub empty_draft : (drafts begun : Files) (log : ℕ) → begun ≡ insert drafts log [] → get begun log ≡ Some []
empty_draft drafts begun log is = ap (λ (fs : Files). get fs log) is ∙ get-insert_same drafts log []

-- a draft that is given up
pub draft_discarded : (files copies begun filled copies' : Files) (log n : ℕ) → begun ≡ copies → copies' ≡ filled
    → ((filled ≡ begun) ⊎ IsCopied files begun log n filled) → (copies' ≡ copies) ⊎ IsCopied files copies log n copies'
draft_discarded files copies begun filled copies' log n is same (inl left) = inl (same ∙ left ∙ is)
draft_discarded files copies begun filled copies' log n is same (inr copied) =
    inr (λ file stands long. same ∙ copied file stands long ∙ ap (λ (fs : Files). insert fs log file) is)

-- ---- what is at the place of a copy

none_is : {X : Type 0} (o : Option X) → IsNone o → o ≡ None
none_is None is = refl
none_is (Some x) is = cc

insert_same : (copies : Files) (log : ℕ) (copy : List ℕ) → get copies log ≡ Some copy → copies ≡ insert copies log copy
insert_same copies log copy there = same_by_get _ _ (λ q.
    elim (eq_by_cmp nat_cmp q log) as (λ b. eq_by_cmp nat_cmp q log ≡ b → get copies q ≡ cond b (Some copy) (get copies q)) [
      | true ↦ λ h. ap (get copies) (tells_apart nat_cmp-IsAntisymmetric q log h) ∙ there
      | false ↦ λ _. refl
    ] refl ∙ sym (get-insert nat_cmp_total copies log copy q))

-- a copy that takes the place of a part of one
pub part_aside : (files copies copies' : Files) (log n : ℕ) → StandsAs files copies log n Part → IsCopied files copies log n copies'
    → (file : List ℕ) → IsFile files log file → n ≡ length file → HasAside copies log file copies'
part_aside files copies copies' log n part copied file stands long = record {
  copy = file;
  now = copied file stands long;
  holds = take_all (length file) file (omega arith);
  stood = λ old there. part file old stands long there;
  is = inl refl;
}

-- a copy that stays
pub more_aside : (files copies copies' : Files) (log n : ℕ) → StandsAs files copies log n More → copies' ≡ copies
    → (file : List ℕ) → IsFile files log file → n ≡ length file → HasAside copies log file copies'
more_aside files copies copies' log n more same file stands long = record {
  copy = more.0;
  now = same ∙ insert_same copies log more.0 more.1;
  holds = more.2 file stands long;
  stood = λ old there.
      let here : get copies log ≡ Some more.0 = more.1 in
      let one : old ≡ more.0 = cc in
      subst (λ (b : List ℕ). IsFrontOf old b) one (take_all (length old) old (omega arith));
  is = inr more.1;
}

-- nothing is there
pub stands_free : (files copies : Files) (log n : ℕ) → IsNone (get copies log) → StandsAs files copies log n Part
stands_free files copies log n none file old stands long there =
    let none_there : get copies log ≡ None = none_is (get copies log) none in
    absurd (let no_file : ◌≡◌ {A = Option (List ℕ)} (Some old) None = sym there ∙ none_there in cc)

-- ---- comparing

take_front : (m k : ℕ) (bytes : List ℕ) → m ≤ length bytes → take m (take (m + k) bytes) ≡ take m bytes
take_front m k bytes long =
    ap (take m) (seq.take-add m k bytes) ∙ take_at (take m bytes) (take k (drop m bytes)) m (length-take-le m bytes long)

-- a piece of equal prefixes
piece_alike : (a b : List ℕ) (n at m : ℕ) → at + m ≤ n → n ≤ length a → n ≤ length b → take n a ≡ take n b → take m (drop at a) ≡ take m (drop at b)
piece_alike a b n at m within long long' same =
    let k = n - (at + m) in
    let all : n ≡ at + (m + k) = omega (arith, within) in
    let inner : take (m + k) (drop at a) ≡ take (m + k) (drop at b) =
    sym (drop-take at (m + k) a) ∙ ap (λ (j : ℕ). drop at (take j a)) (sym all) ∙ ap (drop at) same
    ∙ ap (λ (j : ℕ). drop at (take j b)) all ∙ drop-take at (m + k) b in
    sym (take_front m k (drop at a) (omega (arith, within, long, length-drop at a))) ∙ ap (take m) inner
    ∙ take_front m k (drop at b) (omega (arith, within, long', length-drop at b))

-- one more piece of equal prefixes
pub next_alike : (a b : List ℕ) (at m next : ℕ) → next ≡ at + m → take at a ≡ take at b → take m (drop at a) ≡ take m (drop at b)
    → take next a ≡ take next b
next_alike a b at m next is before piece =
    ap (λ (n : ℕ). take n a) is ∙ seq.take-add at m a ∙ ap (λ (x : List ℕ). x ++ take m (drop at a)) before
    ∙ ap (λ (x : List ℕ). take at b ++ x) piece ∙ sym (seq.take-add at m b) ∙ ap (λ (n : ℕ). take n b) (sym is)

-- a piece that differs
pub begin_differ : (files copies mid now : Files) (log at m n : ℕ) (same : Bool) → mid ≡ files → now ≡ copies → at + m ≤ n → same ≡ false
    → PiecesAgree mid now log at m same → BeginAlike files copies log n false
begin_differ files copies mid now log at m n same is is' within differs agree file copy stands stands' long long' =
    let here : get files log ≡ Some agree.0 = ap (λ (fs : Files). get fs log) (sym is) ∙ agree.1 in
    let there : get copies log ≡ Some agree.2.0 = ap (λ (fs : Files). get fs log) (sym is') ∙ agree.2.1 in
    let one : agree.0 ≡ file = cc in
    let other : agree.2.0 ≡ copy = cc in (
      λ held. absurd (let never : IsTrue false = held in cc),
      λ alike. absurd (
          let piece : take m (drop at agree.0) ≡ take m (drop at agree.2.0) =
          ap (λ (x : List ℕ). take m (drop at x)) one ∙ piece_alike file copy n at m within long long' alike
          ∙ ap (λ (x : List ℕ). take m (drop at x)) (sym other) in
          let held : IsTrue same = agree.2.2.1 piece in
          cc),
    )

-- how much of a log and its copy was found alike
abbrev pub AlikeUpTo : Files → Files → ℕ → ℕ → Type 0
AlikeUpTo files copies log at = (file copy : List ℕ) → IsFile files log file → IsFile copies log copy → take at file ≡ take at copy

pub alike_next : (files copies mid now : Files) (log at m next : ℕ) (same : Bool) → mid ≡ files → now ≡ copies → IsTrue same
    → PiecesAgree mid now log at m same → next ≡ at + m → AlikeUpTo files copies log at → AlikeUpTo files copies log next
alike_next files copies mid now log at m next same is is' agrees agree sum before file copy stands stands' =
    let here : get files log ≡ Some agree.0 = ap (λ (fs : Files). get fs log) (sym is) ∙ agree.1 in
    let there : get copies log ≡ Some agree.2.0 = ap (λ (fs : Files). get fs log) (sym is') ∙ agree.2.1 in
    let one : agree.0 ≡ file = cc in
    let other : agree.2.0 ≡ copy = cc in
    next_alike file copy at m next sum (before file copy stands stands')
    (ap (λ (x : List ℕ). take m (drop at x)) (sym one) ∙ agree.2.2.0 agrees ∙ ap (λ (x : List ℕ). take m (drop at x)) other)

-- ---- what stands there

front_of : (front bytes : List ℕ) → take (length front) bytes ≡ take (length front) front → IsFrontOf front bytes
front_of front bytes same = same ∙ take_all (length front) front (omega arith)

-- no more than the log's first bytes
pub stands_part : (files copies mid : Files) (log n copied m : ℕ) (same : Bool) → OfFile copies log (λ old. copied ≡ length old) → mid ≡ copies
    → m ≡ min n copied → BeginAlike files mid log m same → IsTrue same → copied ≤ n → StandsAs files copies log n Part
stands_part files copies mid log n copied m same found is m_is alike agrees less file old stands long there =
    let here : get copies log ≡ Some found.0 = found.1 in
    let one : found.0 ≡ old = cc in
    let size : copied ≡ length old = found.2 ∙ ap length one in
    let least : m ≡ length old = omega (arith, m_is, less, size) in
    let both : take m file ≡ take m old =
    (alike file old stands (ap (λ (fs : Files). get fs log) is ∙ there) (omega (arith, least, long, less, size)) (omega (arith, least))).0 agrees in
    front_of old file (ap (λ (k : ℕ). take k file) (sym least) ∙ both ∙ ap (λ (k : ℕ). take k old) least)

-- the log's bytes and more
pub stands_more : (files copies mid : Files) (log n copied m : ℕ) (same : Bool) → OfFile copies log (λ old. copied ≡ length old) → mid ≡ copies
    → m ≡ min n copied → BeginAlike files mid log m same → IsTrue same → n < copied → StandsAs files copies log n More
stands_more files copies mid log n copied m same found is m_is alike agrees less = (
  found.0,
  found.1,
  λ file stands long.
      let least : m ≡ length file = omega (arith, m_is, less, long) in
      let both : take m file ≡ take m found.0 =
      (alike file found.0 stands (ap (λ (fs : Files). get fs log) is ∙ found.1) (omega (arith, least)) (omega (arith, m_is, less, found.2))).0 agrees in
      front_of file found.0 (ap (λ (k : ℕ). take k found.0) (sym least) ∙ sym both ∙ ap (λ (k : ℕ). take k file) least),
)

shorter : (front bytes : List ℕ) → IsFrontOf front bytes → length front ≤ length bytes
shorter front bytes is = omega (arith, ap length is, length-take (length front) bytes)

-- neither
pub stands_other : (files copies mid : Files) (log n copied m : ℕ) (same : Bool) → OfFile copies log (λ old. copied ≡ length old) → mid ≡ copies
    → m ≡ min n copied → BeginAlike files mid log m same → same ≡ false → StandsAs files copies log n Other
stands_other files copies mid log n copied m same found is m_is alike differs file stands long =
    let old = found.0 in
    let there : get mid log ≡ Some old = ap (λ (fs : Files). get fs log) is ∙ found.1 in
    let within : m ≤ length file = omega (arith, m_is, long) in
    let within' : m ≤ length old = omega (arith, m_is, found.2) in
    let differ : ¬ (take m file ≡ take m old) = λ e.
    (let held : IsTrue same = (alike file old stands there within within').1 e in cc) in (
      old,
      found.1,
      (
        λ front.
            let least : m ≡ length old = omega (arith, m_is, shorter old file front, long, found.2) in
            differ (ap (λ (k : ℕ). take k file) least ∙ front ∙ sym (take_all (length old) old (omega arith)) ∙ ap (λ (k : ℕ). take k old) (sym least)),
        λ front.
            let least : m ≡ length file = omega (arith, m_is, shorter file old front, long, found.2) in
            differ (ap (λ (k : ℕ). take k file) least ∙ take_all (length file) file (omega arith) ∙ sym front ∙ ap (λ (k : ℕ). take k old) (sym least)),
      ),
    )

-- ---- a log copied aside

moved_copied : (files mid copies now copies' : Files) (log n : ℕ) → mid ≡ files → now ≡ copies → IsCopied mid now log n copies' → IsCopied files copies log n copies'
moved_copied files mid copies now copies' log n is is' copied file stands long =
    copied file (ap (λ (fs : Files). get fs log) is ∙ stands) long ∙ ap (λ (fs : Files). insert fs log file) is'

-- over a part of a copy
pub part_copied : (files mid copies now copies' : Files) (log n : ℕ) (answer : Result (Unit {0}) CopyFault) → mid ≡ files → now ≡ copies
    → StandsAs files copies log n Part → WritesCopy mid now log n answer copies' → CopiesAside files copies log n answer copies'
part_copied files mid copies now copies' log n (Ok tt) is is' part wrote =
    part_aside files copies copies' log n part (moved_copied files mid copies now copies' log n is is' wrote)
part_copied files mid copies now copies' log n (Err Taken) is is' part wrote = absurd wrote
part_copied files mid copies now copies' log n (Err Blocked) is is' part wrote = wrote ∙ is'
part_copied files mid copies now copies' log n (Err (Broken fault)) is is' part (inl same) = inl (same ∙ is')
part_copied files mid copies now copies' log n (Err (Broken fault)) is is' part (inr copied) =
    inr (part_aside files copies copies' log n part (moved_copied files mid copies now copies' log n is is' copied))

-- a copy that stays, and is synced or not
pub more_copied : (files copies now copies' : Files) (log n : ℕ) → now ≡ copies → copies' ≡ now → StandsAs files copies log n More
    → (file : List ℕ) → IsFile files log file → n ≡ length file → HasAside copies log file copies'
more_copied files copies now copies' log n is same more = more_aside files copies copies' log n more (same ∙ is)
