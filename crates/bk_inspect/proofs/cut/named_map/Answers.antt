use Rattle.std.proofs.Common.{BTreeMap, Option, ℕ, ap, subst, option_map}
use Rattle.std.specs.Int.{w32, w64, cast_unsigned}
use Rattle.bk_record.specs.Scan.{entries_of}
use Rattle.bk_head.specs.Ledgers.{map_of}
use Rattle.bk_log.specs.Sizes.{sizes_of}
use Rattle.bk_inspect.specs.Heads.{NamesNoMap}
use Rattle.bk_inspect.specs.Maps.{IsMapIn}
use Rattle.bk_inspect.proofs.Lost.{none_lost, other_lost}
use Rattle.bk_inspect.proofs.cut.named_map.Goals as goal
use Rattle.bk_inspect.proofs.cut.named_map.Goals.{else-header-eq0-via-then-header-eq0+else-header-eq0-2, else-header-eq0-via-else-header-eq0}

pub returns-then-branch : goal.returns-then-branch
returns-then-branch g c = λ honest.
    let file = g.V.LogView.bytes c.args.view.now in (
      c.if-header-ne-VERSION.false,
      (
        map_of c.in-Ok-Some.map,
        subst (λ (o : Option (BTreeMap ℕ ℕ)). IsMapIn file c.args.header.now (option_map map_of o)) c.in-Ok-Some.field-0-is (c.in-Ok-Some.ensures.ok honest),
      ),
    )

pub returns-in-Ok-Some : goal.returns-in-Ok-Some
returns-in-Ok-Some g c = λ honest.
    let file = g.V.LogView.bytes c.args.view.now in
    let header = c.args.header.now in
    let named : NamesNoMap header → ⊥ = λ n. elim c.else-header-eq0.branch [
      | else-header-eq0-via-then-header-eq0+else-header-eq0-2 w ↦ w.if-header-eq0-2.false (ap (cast_unsigned w32) n.1)
      | else-header-eq0-via-else-header-eq0 w ↦ w.if-header-eq0.false (ap (cast_unsigned w64) n.0)
    ] in
    let found = subst (λ (o : Option (BTreeMap ℕ ℕ)). IsMapIn file header (option_map map_of o)) c.in-Ok-Some.field-0-is (c.in-Ok-Some.ensures.ok honest) in (
      c.if-header-ne-VERSION.false,
      (
        named,
        other_lost file header (map_of c.in-Ok-Some.map) (sizes_of (entries_of file)) found (c.in_ok-is_of_entries-in-Ok-Some.ensures honest c.if-branch.false),
      ),
    )

pub returns-in-Ok-None : goal.returns-in-Ok-None
returns-in-Ok-None g c = λ honest.
    let file = g.V.LogView.bytes c.args.view.now in
    let header = c.args.header.now in
    let named : NamesNoMap header → ⊥ = λ n. elim c.else-header-eq0.branch [
      | else-header-eq0-via-then-header-eq0+else-header-eq0-2 w ↦ w.if-header-eq0-2.false (ap (cast_unsigned w32) n.1)
      | else-header-eq0-via-else-header-eq0 w ↦ w.if-header-eq0.false (ap (cast_unsigned w64) n.0)
    ] in
    (c.if-header-ne-VERSION.false, (named, none_lost file header (sizes_of (entries_of file)) (subst (λ (o : Option (BTreeMap ℕ ℕ)). IsMapIn file header (option_map map_of o)) c.in-Ok-None.field-0-is (c.in-Ok-None.ensures.ok honest))))
