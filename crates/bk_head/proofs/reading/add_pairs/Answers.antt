use Rattle.std.proofs.Common.{◌≡◌, ℕ, ◌+◌, ◌*◌, ◌-◌, ◌<◌, ◌≤◌, length, take, drop, refl, subst, arith, slice_index}
use Rattle.std.proofs.lemmas.Result.{err_from_is_err_and}
use Rattle.bk_head.specs.Ledgers.{map_of}
use Rattle.bk_head.specs.Parts.{AddsPairs}
use Rattle.bk_head.proofs.Adding.{pair_read, adds_more, refused}
use Rattle.bk_head.proofs.reading.add_pairs.Goals as goal

pub loop-k-preserved : goal.loop-k-preserved
loop-k-preserved c =
    let at = 16 * c.loop-k.k in
    let bytes = c.args.bytes.now in
    let ledger = c.read_u64.result in
    let size = c.read_u64-in-loop-k.result in
    let within : at + 16 ≤ length bytes = omega (arith, c.requires.1) in
    let pair = pair_read at bytes (take (at + 16 - at) (drop at bytes)) ledger size
    (λ i. omega (arith, c.type_inv.bytes i)) within refl c.read_u64.ensures c.read_u64-in-loop-k.ensures in
    let next : at + 16 ≡ 16 * (c.loop-k.k + 1) = omega arith in
    λ before fresh made. subst (λ n. AddsPairs before (take n bytes) (map_of c.add_pair.new.map)) next
    (adds_more before at bytes (map_of c.loop-k.map) (map_of c.add_pair.new.map) (ledger, size) within pair.0
    (c.loop-k.invariant before fresh made) c.in_ok-add_pair.ensures.pair c.in_ok-add_pair.ensures.new c.in_ok-add_pair.ensures.added)

pub returns-in_err-add_pair : goal.returns-in_err-add_pair
returns-in_err-add_pair c =
    let at = 16 * c.loop-k.k in
    let bytes = c.args.bytes.now in
    let ledger = c.read_u64.result in
    let size = c.read_u64-in-loop-k.result in
    let within : at + 16 ≤ length bytes = omega (arith, c.requires.1) in
    let left : at + 16 + 16 * (c.requires.0 - c.loop-k.k - 1) ≡ length bytes = omega (arith, c.requires.1) in
    let each : (i : ℕ) → slice_index bytes i < 256 = λ i. omega (arith, c.type_inv.bytes i) in
    let pair = pair_read at bytes (take (at + 16 - at) (drop at bytes)) ledger size each within refl c.read_u64.ensures c.read_u64-in-loop-k.ensures in
    let p = err_from_is_err_and c.from_residual.result c.from_residual.ensures.1 in
    λ before fresh made. rw (p.1, p.2) (refused before at (c.requires.0 - c.loop-k.k - 1) bytes (map_of c.loop-k.map)
    (ledger, size) c.in_err-add_pair.field-0.0 each left pair.0 pair.1 (c.loop-k.invariant before fresh made) c.in_err-add_pair.ensures.err)
