-- What a second crash leaves of the files that a first one left.
use Rattle.std.proofs.Common.{◌≡◌, inl, inr, ℕ, List, length, take, drop, ap, ◌∙◌, sym, arith}
use Rattle.std.proofs.lemmas.List.{length-take-le}
use Rattle.std.proofs.lemmas.Option.{none-some}
use Rattle.std.specs.FinMap as map
use Rattle.bk_record.specs.Files.{Files}
use Rattle.bk_store.specs.Crash.{IsCut, IsLeft, MayLeave}
use Rattle.bk_crash.proofs.Damage.{cut_take}

-- A cut of a cut is a cut.
pub cut_of_cut : (file one two : List ℕ) → IsCut file one → IsCut one two → IsCut file two
cut_of_cut file one two first second =
    let part = cut_take (length two) file one first in
    let size : length (take (length two) one) ≡ length two = length-take-le (length two) one second.within in
    record {
      within = omega (arith, second.within, first.within);
      front = second.front ∙ part.front ∙ ap (λ n. take 8 (take n file)) size;
      behind = second.behind ∙ part.behind ∙ ap (λ n. drop 20 (take n file)) size;
    }

-- What is left of what was left is left.
left_again : (files gone : Files) (id : ℕ) (one two : List ℕ) → IsLeft files gone id one → IsCut one two → IsLeft files gone id two
left_again files gone id one two was cut = elim was [
  | inl there ↦ inl (there.0, there.1, cut_of_cut there.0 one two there.2 cut)
  | inr back ↦ inr (back.0, back.1, back.2, cut_of_cut back.0 one two back.3 cut)
]

-- The same of all files.
pub leave_again : (files gone kept left again : Files) → MayLeave files gone kept left → MayLeave left map.empty kept again → MayLeave files gone kept again
leave_again files gone kept left again first second = record {
  stands = second.stands;
  each = λ id file at. elim (second.each id file at) [
    | inl there ↦ left_again files gone id there.0 file (first.each id there.0 there.1) there.2
    | inr back ↦ absurd (none-some back.0 (sym (map.get-empty _ id) ∙ back.2))
  ];
}
