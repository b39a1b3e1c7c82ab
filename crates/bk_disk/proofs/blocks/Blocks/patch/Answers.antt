use Rattle.std.proofs.Common.{◌≡◌, ◌<◌, ◌++◌, [], ◌∙◌, ap, take, drop, get_or, length, arith}
use Rattle.bk_disk.specs.Blocks.{bytes_of, joined, IsCut}
use Rattle.bk_disk.proofs.Cuts.{first_patched}
use Rattle.bk_disk.proofs.blocks.Blocks.patch.Goals as goal

whole : (c : goal.In_ok-replace_first) → IsCut 65536 c.replace_first.new.self c.self.inside.last.items
    × (joined c.replace_first.new.self c.self.inside.last.items ≡ take 8 c.args.self.now ++ c.args.bytes.now ++ drop 20 c.args.self.now)
whole c =
    let full = c.self.inside.full in
    let some : 0 < length full = omega (arith, c.len.ensures.value, c.if-len-eq0.false) in
    let copy : bytes_of c.in_ok-new.field-0 ≡ take 8 (get_or full 0 []) ++ c.args.bytes.now ++ drop 20 (get_or full 0 []) =
    ap (λ v. v.items) c.in_ok-new.ensures.ok ∙ c.in_ok-first.ensures ∙ ap (λ x. take 8 x ++ c.args.bytes.now ++ drop 20 x) c.block.ensures in
    rw c.in_ok-replace_first.ensures.ok
    (first_patched full _ _ c.args.bytes.now (bytes_of c.in_ok-new.field-0) c.self.invariant c.self.view_is some c.told-bytes copy)

pub invariant_of-self-2 : goal.invariant_of-self-2
invariant_of-self-2 c = (whole c).0

pub returns-clause-ok : goal.returns-clause-ok
returns-clause-ok c = (whole c).1
