-- The order of keys is total, and only equal keys tie.
use Rattle.std.proofs.Common.{◌≡◌, refl}
use Rattle.std.specs.declared.cmp.Ordering.{Ordering}
use Rattle.std.specs.declared.cmp.Ordering.TheVariants.{Less, Equal, Greater}
use Rattle.std.specs.Cmp.{IsTotalOrder}
use Rattle.std.specs.Ordering.{nat_cmp, ordering_then}
use Rattle.std.specs.FinMap.{IsAntisymmetric, nat_cmp-IsAntisymmetric}
use Rattle.std.proofs.lemmas.Cmp.{then_total, on_total, nat_cmp_total}
use Rattle.bk_record.specs.Key.{key_cmp}

pub key_cmp_total : IsTotalOrder key_cmp
key_cmp_total = then_total (on_total (λ k. k.ledger) nat_cmp_total) (on_total (λ k. k.entry) nat_cmp_total)

then_equal : (r s : Ordering) → ordering_then r s ≡ Equal → (r ≡ Equal) × (s ≡ Equal)
then_equal Less s is = cc
then_equal Greater s is = cc
then_equal Equal s is = (refl, is)

pub key_cmp_antisymmetric : IsAntisymmetric key_cmp
key_cmp_antisymmetric a b is =
    let parts = then_equal (nat_cmp a.ledger b.ledger) (nat_cmp a.entry b.entry) is in
    let ledger = nat_cmp-IsAntisymmetric a.ledger b.ledger parts.0 in
    let entry = nat_cmp-IsAntisymmetric a.entry b.entry parts.1 in
    λ i. record { ledger = ledger i; entry = entry i }
