use Rattle.std.proofs.Common.{◌≡◌, ℕ, ◌+◌, ◌-◌, ◌≤◌, List, ◌++◌, rules, length, take, sym, ap, ◌∙◌, subst, le_refl}
use Rattle.std.proofs.lemmas.List.{take-append-le, length-take-le}
use Rattle.std.proofs.Math.Seq.{take-append-add}
use Rattle.std.proofs.lemmas.Slice.{take-put_mid_below}
use Rattle.std.proofs.KnownBytes.{Consumes-trans, Consumes-kept}
use Rattle.std.specs.Io.KnownBytes.{Consumes}
use borrow.Rule.Slice.PartMut.{put_mid, post_of}
use Rattle.bk_serve_core.proofs.frame.fill.Goals.{in-Ok, in-Err+else-ne}
use Rattle.bk_serve_core.proofs.frame.fill.Goals as goal

-- what was filled before, and what a read put after it
grown : (a k n : ℕ) (xs ys : List ℕ) → a ≤ length xs → n ≤ length ys → take (a + n) (put_mid a k xs ys) ≡ take a xs ++ take n ys
grown a k n xs ys within fits =
    ap (λ (m : ℕ). take (m + n) (put_mid a k xs ys)) (sym (length-take-le a xs within)) ∙ take-append-add (take a xs) (ys ++ post_of a k xs) n
    ∙ ap (λ (l : List ℕ). take a xs ++ l) (take-append-le n ys (post_of a k xs) fits)

pub filling-preserved : goal.filling-preserved
filling-preserved g c =
    let at = c.filling.at in
    let buffer = c.filling.buffer in
    let room = length buffer - at in
    let within = c.filling.invariant.inside in
    elim c.match-read.branch [
      | in-Ok w ↦ record {
        same = search rules;
        inside = search rules;
        bytes = rw w.at-is (rw (grown at room w.in-Ok.n buffer c.read.new.buf within w.in-Ok.ensures.bound.0) (Consumes-trans _ _ _ _ _ c.filling.invariant.bytes w.in-Ok.ensures.bytes.0));
      }
      | in-Err+else-ne w ↦ record {
        same = search rules;
        inside = search rules;
        bytes = rw w.at-is (subst (Consumes _ _) (sym (take-put_mid_below at room buffer c.read.new.buf at (le_refl at) within)) (Consumes-kept _ _ _ _ c.filling.invariant.bytes w.in-Err.ensures.bytes));
      }
    ]
