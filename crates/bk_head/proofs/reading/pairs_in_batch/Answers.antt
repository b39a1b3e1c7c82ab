use Rattle.std.proofs.Common.{◌∙◌, List, ℕ, ap, refl, length, arith}
use Rattle.std.proofs.lemmas.List.{take_rest}
use Rattle.byteorder.specs.Endian.{big_number}
use Rattle.bk_head.proofs.BatchHeads.{other_length, right_length}
use Rattle.bk_head.proofs.reading.pairs_in_batch.Goals as goal

pub returns-in_default-clause-err : goal.returns-in_default-clause-err
returns-in_default-clause-err c = λ bytes shown before. (
  refl,
  ((λ e. omega (arith, ap length e, shown.0, c.requires.some)), c.in_default.ensures.size bytes shown),
)

pub returns-then-size-count-clause-err : goal.returns-then-size-count-clause-err
returns-then-size-count-clause-err c = λ bytes shown before. (
  refl,
  other_length bytes c.args.head.now c.args.left c.in-Some.size c.read_u32-count.result shown (c.in-Some.ensures.size bytes shown)
      (omega (arith, c.if-size-lt-IDS_AND_COUNT.false)) (omega (arith, c.read_u32-count.type_inv))
      (c.read_u32-count.ensures ∙ ap (λ (x : List ℕ). big_number 4 x) (take_rest c.args.head.now 20)) c.if-size-count.true,
)

pub returns-clause-ok : goal.returns-clause-ok
returns-clause-ok c = λ bytes shown.
    right_length bytes c.args.head.now c.args.left c.in-Some.size c.read_u32-count.result (λ i. omega (arith, c.type_inv.head i)) c.requires.shown shown
    (c.in-Some.ensures.size bytes shown) (omega (arith, c.if-size-lt-IDS_AND_COUNT.false)) (omega (arith, c.in-Some.ensures.within))
    (c.read_u32-count.ensures ∙ ap (λ (x : List ℕ). big_number 4 x) (take_rest c.args.head.now 20)) c.if-size-count.false
