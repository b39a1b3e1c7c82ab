-- Look-up of a reader in the array: what it holds, by position.
use Rattle.std.proofs.Common.{◌≡◌, ◌∙◌, refl, ap, sym, subst, ℕ, ◌<◌, List, length, map, Option, Some, None}
use Rattle.std.proofs.Common.{is_some, option_map, slice_get, slice_set, get_or, IfSome}
use Rattle.std.proofs.lemmas.List.{length-map, map-set}
use Rattle.std.proofs.lemmas.Option.{slice_get-map, slice_get-get_or, slice_get_within}
use Rattle.std.specs.Bool.{OnTrue}
use Rattle.bk_drive.specs.Abstract.{IsBusy, HasAt}
use Rattle.bk_drive.specs.Machine.{ReaderLease}

-- A reader with a lease is busy.
busy_from : {H X : Type 0} (f : H → X) (item : Option H) (now : List (Option X)) (reader : ℕ) → slice_get now reader ≡ Some (option_map f item)
    → OnTrue (is_some item) (IsBusy now reader)
busy_from f None now reader is = tt
busy_from f (Some h) now reader is = (f h, is)

pub busy_at : {H X : Type 0} (f : H → X) (holds : List (Option H)) (now : List (Option X)) (reader : ℕ) (d : Option H) → map (option_map f) holds ≡ now
    → reader < length now → OnTrue (is_some (get_or holds reader d)) (IsBusy now reader)
busy_at {H} {X} f holds now reader d seen there =
    subst (λ (ns : List (Option X)). reader < length ns → OnTrue (is_some (get_or holds reader d)) (IsBusy ns reader)) seen
    (λ at. busy_from f (get_or holds reader d) _ reader
    (slice_get-map (option_map f) holds reader
    ∙ ap (λ o. option_map (option_map f) o) (slice_get-get_or holds reader d (subst (λ n. reader < n) (length-map holds (option_map f)) at))))
    there

-- What a reader holds, by the item at its position.
pub item_at : {H X : Type 0} (f : H → X) (holds : List (Option H)) (now : List (Option X)) (reader : ℕ) (d : Option H) → map (option_map f) holds ≡ now
    → reader < length holds → slice_get now reader ≡ Some (option_map f (get_or holds reader d))
item_at f holds now reader d seen there =
    ap (λ ns. slice_get ns reader) (sym seen) ∙ slice_get-map (option_map f) holds reader
    ∙ ap (λ o. option_map (option_map f) o) (slice_get-get_or holds reader d there)

-- A reader that holds something exists.
pub within_seats : {H X : Type 0} (f : H → X) (holds : List (Option H)) (now : List (Option X)) (reader : ℕ) (x : Option X) → map (option_map f) holds ≡ now
    → slice_get now reader ≡ Some x → reader < length holds
within_seats f holds now reader x seen is =
    subst (λ n. reader < n) (ap length (sym seen) ∙ length-map holds (option_map f)) (slice_get_within now reader x is)

-- If the item is not a lease on the log, the reader holds none on it.
pub item_unread : {H : Type 0} (f : H → ReaderLease) (holds : List (Option H)) (now : List (Option ReaderLease)) (reader log : ℕ) (d : Option H)
    → map (option_map f) holds ≡ now → reader < length holds → ((x : H) → get_or holds reader d ≡ Some x → ¬ ((f x).ticket.log ≡ log))
    → (hold : ReaderLease) → HasAt now reader hold → ¬ (hold.ticket.log ≡ log)
item_unread {H} f holds now reader log d seen there other hold has same =
    unread_in f (get_or holds reader d) hold log (some-injective (sym (item_at f holds now reader d seen there) ∙ has)) other same
  where
    some-injective : {o p : Option ReaderLease} → Some o ≡ Some p → o ≡ p
    some-injective same = cc

    unread_in : {H : Type 0} (f : H → ReaderLease) (item : Option H) (hold : ReaderLease) (log : ℕ) → option_map f item ≡ Some hold
        → ((x : H) → item ≡ Some x → ¬ ((f x).ticket.log ≡ log)) → ¬ (hold.ticket.log ≡ log)
    unread_in f None hold log is other same = cc
    unread_in f (Some x) hold log is other same =
        let one : f x ≡ hold = cc in
        other x refl (ap (λ (h : ReaderLease). h.ticket.log) one ∙ same)

-- An item has one value.
pub one_item : {H : Type 0} (f : H → ReaderLease) (item : Option H) (a x : H) (told log : ℕ) → item ≡ Some a → item ≡ Some x → told ≡ (f a).ticket.log
    → ¬ (told ≡ log) → ¬ ((f x).ticket.log ≡ log)
one_item f item a x told log first second told_is other same =
    let one : a ≡ x = cc in
    other (told_is ∙ ap (λ h. (f h).ticket.log) one ∙ same)

-- The item taken out is what the reader held.
pub held_item : {H X : Type 0} (f : H → X) (holds : List (Option H)) (now : List (Option X)) (reader : ℕ) (d item : Option H) → map (option_map f) holds ≡ now
    → reader < length now → item ≡ get_or holds reader d → IfSome item (λ x. HasAt now reader (f x))
held_item f holds now reader d None seen there is = tt
held_item f holds now reader d (Some x) seen there is =
    item_at f holds now reader d seen (subst (λ n. reader < n) (ap length (sym seen) ∙ length-map holds (option_map f)) there)
    ∙ ap (λ o. Some (option_map f o)) (sym is)

-- What a reader holds after a grant.
pub put_item : {H X : Type 0} (f : H → X) (holds : List (Option H)) (now : List (Option X)) (reader : ℕ) (x : H) → map (option_map f) holds ≡ now
    → map (option_map f) (slice_set holds reader (Some x)) ≡ slice_set now reader (Some (f x))
put_item f holds now reader x seen = map-set (option_map f) holds reader (Some x) ∙ ap (λ l. slice_set l reader (Some (f x))) seen
