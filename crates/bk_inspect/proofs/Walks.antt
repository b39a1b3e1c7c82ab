-- What a walk over logs takes in: entry by entry of a log, log by log of a disk.
use Rattle.std.proofs.Common.{◌≡◌, ℕ, ◌+◌, ◌<◌, ◌≤◌, Bool, true, false, IsTrue, zero, suc, inl, inr, List, [], ◌∷◌, ◌++◌, length, take, drop, map, Option, Some, None, IsNone, Ok, option_map}
use Rattle.std.proofs.Common.{slice_get, refl, sym, ap, ap₂, ◌∙◌, subst, arith, nat_cmp}
use Rattle.std.specs.Prelude.{flat_map}
use Rattle.std.specs.FinMap as finite
use Rattle.std.specs.FinMap.{nat_cmp-IsAntisymmetric}
use Rattle.std.specs.Cmp.{nat_cmp_total}
use Rattle.std.proofs.lemmas.List.{take_more, take_all, map-append, append-nil, length-map}
use Rattle.std.proofs.lemmas.Grind.{flat_map-append}
use Rattle.std.proofs.lemmas.Option.{slice_get-map, slice_get_within, slice_get_past, get_or_from_slice_get}
use Rattle.bk_record.specs.Location.{Place}
use Rattle.bk_record.specs.Record.{key_of}
use Rattle.bk_record.specs.Files.{Files, In, header_length, placed}
use Rattle.bk_record.specs.Scan.{entries_of}
use Rattle.bk_record.proofs.Entries.{In-get}
use Rattle.bk_log.specs.declared.found.Found.{Found}
use Rattle.bk_log.specs.Ranges.{entries_in}
use Rattle.bk_log.specs.Scanning.{Scan, part_of, IsGiven, IsFinished, NextMoves}
use Rattle.bk_log.proofs.Ranges.{entries_in-file}
use Rattle.bk_disk.specs.Disk.{IsFile}
use Rattle.bk_inspect.specs.Walking.{entries_in_logs, TakesTurn}

-- how far a scan has come of whose entries this holds
pub record Took (first now : Scan) (log : ℕ) (Has : List (Place × List ℕ) → Type 0) : Type 0 where
  pub moved : now ≡ record first { left = now.left; given = now.given; foreign = now.foreign }
  pub has : IsTrue first.honest → Has (placed log (take now.given (entries_in first.from (part_of first))))

taken_none : {X : Type 0} (xs : List X) → take 0 xs ≡ []
taken_none [] = refl
taken_none (x ∷ xs) = refl

pub took_none : (first : Scan) (log : ℕ) (Has : List (Place × List ℕ) → Type 0) → first.given ≡ 0 → Has [] → Took first first log Has
took_none first log Has given has = record {
  moved = refl;
  has = λ _. subst Has (sym (ap (placed log) (ap (λ n. take n (entries_in first.from (part_of first))) given ∙ taken_none (entries_in first.from (part_of first))))) has;
}

-- one entry more was given, and taken in
pub took_more : (first now next : Scan) (log : ℕ) (found : Found) (Has Now : List (Place × List ℕ) → Type 0) → Took first now log Has
    → NextMoves now (Ok (Some found)) next → (IsTrue now.honest → IsGiven now found next.foreign)
    → ((payload : List ℕ) (before : List (Place × List ℕ)) → key_of payload ≡ Some found.key → found.size ≡ 4 + length payload → Has before
    → Now (before ++ (record { log = log; at = found.at }, payload) ∷ [])) → Took first next log Now
took_more first now next log found Has Now took moves given takes = record {
  moved = moves.2 ∙ ap (λ (s : Scan). record s { left = next.left; given = s.given + 1; foreign = next.foreign }) took.moved
      ∙ ap (λ n. record first { left = next.left; given = n; foreign = next.foreign }) (sym (ap (λ (s : Scan). s.given) moves.2));
  has = λ honest.
      let is = given (subst (λ (b : Bool). IsTrue b) (sym (ap (λ (s : Scan). s.honest) took.moved)) honest) in
      let all = entries_in first.from (part_of first) in
      let entry : ℕ × List ℕ = (found.at, is.payload) in
      let listed : slice_get all now.given ≡ Some entry =
      subst (λ (s : Scan). slice_get (entries_in s.from (part_of s)) s.given ≡ Some entry) took.moved is.listed in
      let more : take (now.given + 1) all ≡ take now.given all ++ entry ∷ [] =
      take_more all now.given entry (slice_get_within all now.given entry listed)
      ∙ ap (λ (e : ℕ × List ℕ). take now.given all ++ e ∷ []) (get_or_from_slice_get all now.given entry entry listed) in
      let one : placed log (take next.given all) ≡ placed log (take now.given all) ++ (record { log = log; at = found.at }, is.payload) ∷ [] =
      ap (λ n. placed log (take n all)) (ap (λ (s : Scan). s.given) moves.2) ∙ ap (placed log) more
      ∙ map-append (λ (r : ℕ × List ℕ). (record { log = log; at = r.0 }, r.1)) (take now.given all) (entry ∷ []) in
      subst Now (sym one) (takes is.payload (placed log (take now.given all)) is.stands.keyed is.sized (took.has honest));
}

-- all entries were taken in when the scan came to its end
pub took_all : (first now next : Scan) (log : ℕ) (file : List ℕ) (Has : List (Place × List ℕ) → Type 0) → Took first now log Has
    → NextMoves now (Ok None) next → (IsTrue now.honest → IsFinished next) → IsTrue first.honest → first.from ≡ header_length
    → part_of first ≡ drop header_length file → Has (placed log (entries_of file))
took_all first now next log file Has took moves finished honest from_is part_is =
    let is : next ≡ record first { left = next.left; given = now.given; foreign = next.foreign; torn = next.torn; ended = true } =
    moves.1 ∙ ap (λ (s : Scan). record s { left = next.left; foreign = next.foreign; torn = next.torn; ended = true }) took.moved in
    let done = subst IsFinished is (finished (subst (λ (b : Bool). IsTrue b) (sym (ap (λ (s : Scan). s.honest) took.moved)) honest)) in
    let listed : entries_in first.from (part_of first) ≡ entries_of file = ap₂ entries_in from_is part_is ∙ entries_in-file file in
    let given : now.given ≡ length (entries_of file) = done.given ∙ ap length listed in
    let all : take now.given (entries_in first.from (part_of first)) ≡ entries_of file =
    ap (take now.given) listed ∙ take_all now.given (entries_of file) (omega (arith, given)) in
    subst Has (ap (placed log) all) (took.has honest)

none-is : {X : Type 0} (o : Option X) → IsNone o → o ≡ None
none-is None is = refl
none-is (Some x) is = cc

-- ---- logs

In-slice : {X : Type 0} (xs : List X) (at : ℕ) (x : X) → slice_get xs at ≡ Some x → In x xs
In-slice {X} [] at x is = absurd (let none : slice_get {X = X} [] at ≡ None = slice_get_past {X = X} [] at (omega arith) in cc)
In-slice (y ∷ ys) zero x is = inl cc
In-slice (y ∷ ys) (suc at) x is = inr (In-slice ys at x is)

-- the log whose turn comes is in the files, with these bytes
pub turn_is : (fs : Files) (ids : List ℕ) (at log : ℕ) (file : List ℕ) → ids ≡ finite.keys fs → slice_get ids at ≡ Some log → IsFile fs log file
    → slice_get (finite.entries fs) at ≡ Some (log, file)
turn_is fs ids at log file ids_are turn here =
    let found : option_map (λ (e : ℕ × List ℕ). e.0) (slice_get (finite.entries fs) at) ≡ Some log =
    sym (slice_get-map (λ (e : ℕ × List ℕ). e.0) (finite.entries fs) at) ∙ ap (λ (l : List ℕ). slice_get l at) (sym ids_are) ∙ turn in
    elim (slice_get (finite.entries fs) at) as (λ o. slice_get (finite.entries fs) at ≡ o
    → option_map (λ (e : ℕ × List ℕ). e.0) o ≡ Some log → o ≡ Some (log, file)) [
      | None ↦ λ _ e. cc
      | Some e ↦ λ is same.
          let log_is : e.0 ≡ log = cc in
          let got : finite.get fs e.0 ≡ Some e.1 = In-get nat_cmp_total nat_cmp-IsAntisymmetric fs e.0 e.1 (In-slice (finite.entries fs) at e is) in
          let file_is : Some e.1 ≡ Some file = sym got ∙ ap (finite.get fs) log_is ∙ here in
          let bytes : e.1 ≡ file = cc in
          ap₂ (λ (l : ℕ) (f : List ℕ). Some (l, f)) log_is bytes
    ] refl found

logs_more : (logs : List (ℕ × List ℕ)) (at log : ℕ) (file : List ℕ) → slice_get logs at ≡ Some (log, file)
    → entries_in_logs (take (at + 1) logs) ≡ entries_in_logs (take at logs) ++ placed log (entries_of file)
logs_more logs at log file is =
    let one : ℕ × List ℕ = (log, file) in
    let more : take (at + 1) logs ≡ take at logs ++ one ∷ [] =
    take_more logs at one (slice_get_within logs at one is)
    ∙ ap (λ (e : ℕ × List ℕ). take at logs ++ e ∷ []) (get_or_from_slice_get logs at one one is) in
    ap entries_in_logs more ∙ flat_map-append (λ (f : ℕ × List ℕ). placed f.0 (entries_of f.1)) (take at logs) (one ∷ [])
    ∙ ap (λ (l : List (Place × List ℕ)). entries_in_logs (take at logs) ++ l) (append-nil (placed log (entries_of file)))

-- How far a walk has come on an honest disk: this holds of the entries of the logs that had their turn, unless one was damaged.
pub record Walked (fs : Files) (ids : List ℕ) (at : ℕ) (missing : Bool) (status : ℕ) (Has : List (Place × List ℕ) → Type 0) : Type 0 where
  pub ids_are : ids ≡ finite.keys fs
  pub still : missing ≡ false
  pub has : status ≡ 0 → Has (entries_in_logs (take at (finite.entries fs)))

pub walked_none : (fs : Files) (ids : List ℕ) (at : ℕ) (missing : Bool) (status : ℕ) (Has : List (Place × List ℕ) → Type 0)
    → ids ≡ finite.keys fs → at ≡ 0 → missing ≡ false → Has [] → Walked fs ids at missing status Has
walked_none fs ids at missing status Has ids_are first still has = record {
  ids_are = ids_are;
  still = still;
  has = λ _. subst Has (sym (ap (λ n. entries_in_logs (take n (finite.entries fs))) first ∙ ap entries_in_logs (taken_none (finite.entries fs)))) has;
}

-- one log more was read to its end
pub walked_more : (fs : Files) (ids ids' : List ℕ) (at at' log : ℕ) (missing missing' : Bool) (status status' : ℕ) (file : List ℕ)
    (Has Now : List (Place × List ℕ) → Type 0) → Walked fs ids at missing status Has → TakesTurn ids at (Some log) ids' at' → missing' ≡ false
    → (status' ≡ 0 → status ≡ 0) → IsFile fs log file → ((before : List (Place × List ℕ)) → Has before → Now (before ++ placed log (entries_of file)))
    → Walked fs ids' at' missing' status' Now
walked_more fs ids ids' at at' log missing missing' status status' file Has Now w turn still calm here takes = record {
  ids_are = turn.1.0 ∙ w.ids_are;
  still = still;
  has = λ fine. subst Now
      (sym (ap (λ n. entries_in_logs (take n (finite.entries fs))) turn.1.1
      ∙ logs_more (finite.entries fs) at log file (turn_is fs ids at log file w.ids_are turn.0 here)))
      (takes (entries_in_logs (take at (finite.entries fs))) (w.has (calm fine)));
}

-- one log more was read up to a bad length
pub walked_past : (fs : Files) (ids ids' : List ℕ) (at at' log : ℕ) (missing missing' : Bool) (status : ℕ) (Has Now : List (Place × List ℕ) → Type 0)
    → Walked fs ids at missing status Has → TakesTurn ids at (Some log) ids' at' → missing' ≡ false → Walked fs ids' at' missing' 1 Now
walked_past fs ids ids' at at' log missing missing' status Has Now w turn still = record {
  ids_are = turn.1.0 ∙ w.ids_are;
  still = still;
  has = λ bad. absurd (omega (arith, bad));
}

-- each log had its turn
pub walked_all : (fs : Files) (ids ids' : List ℕ) (at at' : ℕ) (missing : Bool) (status : ℕ) (Has : List (Place × List ℕ) → Type 0)
    → Walked fs ids at missing status Has → TakesTurn ids at None ids' at' → status ≡ 0 → Has (entries_in_logs (finite.entries fs))
walked_all fs ids ids' at at' missing status Has w turn fine =
    let all : length (finite.entries fs) ≤ at =
    omega (arith, length-map (finite.entries fs) (λ (e : ℕ × List ℕ). e.0), ap length w.ids_are, turn.0) in
    subst Has (ap entries_in_logs (take_all at (finite.entries fs) all)) (w.has fine)

-- a log whose turn comes is there
pub turn_there : (fs : Files) (ids ids' : List ℕ) (at at' log : ℕ) → ids ≡ finite.keys fs → TakesTurn ids at (Some log) ids' at'
    → IsNone (finite.get fs log) → ⊥
turn_there fs ids ids' at at' log ids_are turn none =
    let found : option_map (λ (e : ℕ × List ℕ). e.0) (slice_get (finite.entries fs) at) ≡ Some log =
    sym (slice_get-map (λ (e : ℕ × List ℕ). e.0) (finite.entries fs) at) ∙ ap (λ (l : List ℕ). slice_get l at) (sym ids_are) ∙ turn.0 in
    elim (slice_get (finite.entries fs) at) as (λ o. slice_get (finite.entries fs) at ≡ o
    → option_map (λ (e : ℕ × List ℕ). e.0) o ≡ Some log → ⊥) [
      | None ↦ λ _ e. cc
      | Some e ↦ λ is same.
          let log_is : e.0 ≡ log = cc in
          let got : finite.get fs e.0 ≡ Some e.1 = In-get nat_cmp_total nat_cmp-IsAntisymmetric fs e.0 e.1 (In-slice (finite.entries fs) at e is) in
          let gone : finite.get fs log ≡ None = none-is (finite.get fs log) none in
          let both : Some e.1 ≡ None = sym got ∙ ap (finite.get fs) log_is ∙ gone in cc
    ] refl found
