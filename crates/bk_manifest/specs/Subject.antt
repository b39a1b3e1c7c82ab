-- The order of subjects.
use Rattle.std.specs.declared.cmp.Ordering.{Ordering}
use Rattle.std.specs.Ordering.{nat_cmp, ordering_then}
use Rattle.std.specs.Cmp.{IsTotalOrder, nat_cmp_total, on_total, then_total}
use Rattle.bk_manifest.specs.declared.subject.Subject.{Subject}

-- by kind, then log or ledger, then kind of the attribute
abbrev pub subject_cmp : Subject → Subject → Ordering
subject_cmp a b = ordering_then (nat_cmp a.kind b.kind) (ordering_then (nat_cmp a.id b.id) (nat_cmp a.attribute b.attribute))

pub subject_total : IsTotalOrder subject_cmp
subject_total =
    then_total (on_total (λ (s : Subject). s.kind) nat_cmp_total)
    (then_total (on_total (λ (s : Subject). s.id) nat_cmp_total) (on_total (λ (s : Subject). s.attribute) nat_cmp_total))
