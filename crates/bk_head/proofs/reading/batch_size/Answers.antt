use Rattle.std.proofs.Common.{ap, ◌∙◌, arith}
use Rattle.std.proofs.lemmas.List.{take_rest}
use Rattle.std.proofs.Common.{List, ℕ, eqb}
use Rattle.std.specs.List.{starts_with}
use Rattle.bk_head.proofs.BatchHeads.{length_told, no_room, no_end, no_ids, batch_begins}
use Rattle.bk_head.proofs.reading.batch_size.Goals as goal
use Rattle.bk_head.proofs.reading.batch_size.Goals.{then-size-lt-IDS_LENGTH-via-then-size-lt-IDS_LENGTH}
use Rattle.bk_head.proofs.reading.batch_size.Goals.{then-size-lt-IDS_LENGTH-via-else-size-lt-IDS_LENGTH+then-size-gt-MAX_PAYLOAD}
use Rattle.bk_head.proofs.reading.batch_size.Goals.{then-size-lt-IDS_LENGTH-via-else-size-lt-IDS_LENGTH+else-size-gt-MAX_PAYLOAD+then-left-size}

pub returns-then-left-clause-size : goal.returns-then-left-clause-size
returns-then-left-clause-size c = λ bytes shown payload s _. no_room bytes _ payload _ shown c.if-left.true s

pub returns-then-size-lt-IDS_LENGTH-clause-size : goal.returns-then-size-lt-IDS_LENGTH-clause-size
returns-then-size-lt-IDS_LENGTH-clause-size c = λ bytes shown payload s _.
    let told = length_told bytes _ payload _ _ shown c.read_u32-size.ensures s in
    elim c.then-size-lt-IDS_LENGTH.branch [
      | then-size-lt-IDS_LENGTH-via-then-size-lt-IDS_LENGTH w ↦ omega (arith, told, s.legal.0, w.if-size-lt-IDS_LENGTH.true)
      | then-size-lt-IDS_LENGTH-via-else-size-lt-IDS_LENGTH+then-size-gt-MAX_PAYLOAD w ↦ omega (arith, told, s.legal.1, w.if-size-gt-MAX_PAYLOAD.true)
      | then-size-lt-IDS_LENGTH-via-else-size-lt-IDS_LENGTH+else-size-gt-MAX_PAYLOAD+then-left-size w ↦
          no_end bytes _ payload _ _ shown c.read_u32-size.ensures (omega (arith, w.if-left-size.true)) s
    ]

pub returns-then-not-starts_with-clause-size : goal.returns-then-not-starts_with-clause-size
returns-then-not-starts_with-clause-size c = λ bytes shown payload s for_map.
    no_ids bytes c.args.head.now payload c.batch_ids.result c.starts_with.result shown.1 c.batch_ids.ensures
    (c.starts_with.ensures.value ∙ ap (λ (x : List ℕ). starts_with eqb x c.batch_ids.result) (take_rest c.args.head.now 4)) c.if-not-starts_with.true s for_map

pub returns-clause-size : goal.returns-clause-size
returns-clause-size c = λ bytes shown.
    batch_begins bytes c.args.head.now c.batch_ids.result c.args.left c.read_u32-size.result c.starts_with.result (λ i. omega (arith, c.type_inv.head i))
    c.requires.shown shown (omega (arith, c.if-left.false)) c.read_u32-size.ensures (omega (arith, c.if-size-lt-IDS_LENGTH.false))
    (omega (arith, c.if-size-gt-MAX_PAYLOAD.false)) (omega (arith, c.if-left-size.false)) c.batch_ids.ensures
    (c.starts_with.ensures.value ∙ ap (λ (x : List ℕ). starts_with eqb x c.batch_ids.result) (take_rest c.args.head.now 4)) c.if-not-starts_with.false
