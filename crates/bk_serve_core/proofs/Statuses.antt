-- Bounds of the statuses of each group.
use Rattle.std.proofs.Common.{◌≡◌, ◌⊎◌, ℕ, ◌<◌, ◌≤◌, Bool, true, false, ◌&&◌, ◌||◌, leb, refl, arith, inl, inr}
use Rattle.std.proofs.lemmas.Bool.{and_parts, leb-true}
use Rattle.bk_serve_core.specs.Replies.{is_status}

pub or_parts : (a b : Bool) → (a || b) ≡ true → (a ≡ true) ⊎ (b ≡ true)
or_parts true b is = inl refl
or_parts false b is = inr is

-- a status is in one of three ranges
pub data IsInRange (kind : ℕ) : Type 0 where
  of_done : 32 ≤ kind → kind ≤ 53 → IsInRange kind
  of_refusal : 64 ≤ kind → kind ≤ 88 → IsInRange kind
  of_end : 96 ≤ kind → kind ≤ 106 → IsInRange kind

pub range_of : (kind : ℕ) → is_status kind ≡ true → IsInRange kind
range_of kind is =
    let done : Bool = leb 32 kind && leb kind 53 in
    let refusal : Bool = leb 64 kind && leb kind 88 in
    let end : Bool = leb 96 kind && leb kind 106 in
    elim (or_parts done (refusal || end) is) [
      | inl a ↦ of_done (leb-true 32 kind (and_parts (leb 32 kind) (leb kind 53) a).0) (leb-true kind 53 (and_parts (leb 32 kind) (leb kind 53) a).1)
      | inr rest ↦ elim (or_parts refusal end rest) [
        | inl a ↦ of_refusal (leb-true 64 kind (and_parts (leb 64 kind) (leb kind 88) a).0) (leb-true kind 88 (and_parts (leb 64 kind) (leb kind 88) a).1)
        | inr a ↦ of_end (leb-true 96 kind (and_parts (leb 96 kind) (leb kind 106) a).0) (leb-true kind 106 (and_parts (leb 96 kind) (leb kind 106) a).1)
      ]
    ]

least_by : (kind : ℕ) → IsInRange kind → 32 ≤ kind
least_by kind (of_done a b) = a
least_by kind (of_refusal a b) = omega (arith, a)
least_by kind (of_end a b) = omega (arith, a)

done_by : (kind : ℕ) → IsInRange kind → kind < 64 → kind ≤ 53
done_by kind (of_done a b) lt = b
done_by kind (of_refusal a b) lt = absurd (omega arith)
done_by kind (of_end a b) lt = absurd (omega arith)

refusal_by : (kind : ℕ) → IsInRange kind → kind < 96 → kind ≤ 88
refusal_by kind (of_done a b) lt = omega (arith, b)
refusal_by kind (of_refusal a b) lt = b
refusal_by kind (of_end a b) lt = absurd (omega arith)

end_by : (kind : ℕ) → IsInRange kind → kind ≤ 106
end_by kind (of_done a b) = omega (arith, b)
end_by kind (of_refusal a b) = omega (arith, b)
end_by kind (of_end a b) = b

pub status_least : (kind : ℕ) → is_status kind ≡ true → 32 ≤ kind
status_least kind is = least_by kind (range_of kind is)

pub done_most : (kind : ℕ) → is_status kind ≡ true → kind < 64 → kind ≤ 53
done_most kind is lt = done_by kind (range_of kind is) lt

pub refusal_most : (kind : ℕ) → is_status kind ≡ true → kind < 96 → kind ≤ 88
refusal_most kind is lt = refusal_by kind (range_of kind is) lt

pub end_most : (kind : ℕ) → is_status kind ≡ true → kind ≤ 106
end_most kind is = end_by kind (range_of kind is)
