-- Records of a log as its file grows.
use Rattle.std.proofs.Common.{◌≡◌, ◌⊎◌, inl, inr, ℕ, zero, suc, ◌+◌, ◌≤◌, List, [], ◌∷◌, ◌++◌, length, take, drop}
use Rattle.std.proofs.Common.{Some, slice_get, refl, sym, ap, ◌∙◌, subst, arith, length-drop}
use Rattle.std.proofs.Math.Decide.{dec_le}
use Rattle.std.proofs.lemmas.List.{append-nil, take_all, drop-append-le, drop_all}
use Rattle.std.proofs.lemmas.Option.{same_Some}
use Rattle.bk_record.specs.Record.{record_of, IsPayload}
use Rattle.bk_record.specs.Body.{Body}
use Rattle.bk_record.specs.Body.Body.{done, torn}
use Rattle.bk_record.specs.Files.{header_length, records_of, IsWhole, In}
use Rattle.bk_record.proofs.Records.{length-record_of}
use Rattle.bk_record.proofs.Bodies.{pieces-body, body_append, body_record, prefix_is_torn}

-- the records of a file are those of its body
pub records_of-body : (file : List ℕ) {rest : List ℕ} {records : List (ℕ × List ℕ)} → Body header_length (drop header_length file) records rest
    → records_of file ≡ records
unfolding records_of
records_of-body file body = pieces-body (length file) body (omega (arith, length-drop header_length file))

pub records_of-short : (file : List ℕ) → length file ≤ header_length → records_of file ≡ []
records_of-short file short =
    records_of-body file {rest = []} (subst (λ (b : List ℕ). Body header_length b [] []) (sym (drop_all header_length file short)) done)

pub records_of-whole : (file : List ℕ) (w : IsWhole file) → records_of file ≡ w.records
records_of-whole file w = records_of-body file w.spelled

-- a whole file, then a body
pub grown_body : (file : List ℕ) (w : IsWhole file) (behind rest : List ℕ) (others : List (ℕ × List ℕ)) → Body (length file) behind others rest
    → Body header_length (drop header_length (file ++ behind)) (w.records ++ others) rest
grown_body file w behind rest others next =
    let size : header_length + length (drop header_length file) ≡ length file = omega (arith, w.headed, length-drop header_length file) in
    subst (λ (b : List ℕ). Body header_length b (w.records ++ others) rest) (sym (drop-append-le header_length file behind w.headed))
    (body_append w.spelled refl (subst (λ (n : ℕ). Body n behind others rest) (sym size) next))

pub records_of-behind : (file : List ℕ) → IsWhole file → (behind rest : List ℕ) (others : List (ℕ × List ℕ)) → Body (length file) behind others rest
    → records_of (file ++ behind) ≡ records_of file ++ others
records_of-behind file w behind rest others next =
    records_of-body (file ++ behind) (grown_body file w behind rest others next)
    ∙ ap (λ (l : List (ℕ × List ℕ)). l ++ others) (sym (records_of-whole file w))

-- records of a whole file after one more record
pub records_of-record : (file payload : List ℕ) → IsWhole file → IsPayload payload
    → records_of (file ++ record_of payload) ≡ records_of file ++ (length file + 4, payload) ∷ []
records_of-record file payload w legal = records_of-behind file w (record_of payload) [] _ (body_record (length file) payload legal)

-- records of a whole file after a prefix of a record: one more if the prefix is all of it
pub records_of-prefix : (file payload : List ℕ) (n : ℕ) → IsWhole file → IsPayload payload
    → (records_of (file ++ take n (record_of payload)) ≡ records_of file)
    ⊎ (records_of (file ++ take n (record_of payload)) ≡ records_of file ++ (length file + 4, payload) ∷ [])
records_of-prefix file payload zero w legal = inl (ap records_of (append-nil file))
records_of-prefix file payload (suc n) w legal = elim (dec_le (4 + length payload) (suc n)) [
  | yes all ↦ inr (ap (λ (b : List ℕ). records_of (file ++ b)) (take_all (suc n) (record_of payload) (omega (arith, length-record_of payload)))
      ∙ records_of-record file payload w legal)
  | no less ↦ inl (records_of-behind file w (take (suc n) (record_of payload)) (take (suc n) (record_of payload)) []
      (torn (prefix_is_torn payload (suc n) legal (omega arith) (omega arith))) ∙ append-nil (records_of file))
]

-- ---- elements of lists

pub In-append_left : {X : Type 0} (x : X) (xs ys : List X) → In x xs → In x (xs ++ ys)
In-append_left x [] ys is = absurd is
In-append_left x (z ∷ xs) ys (inl e) = inl e
In-append_left x (z ∷ xs) ys (inr later) = inr (In-append_left x xs ys later)

pub In-append_right : {X : Type 0} (x : X) (xs ys : List X) → In x ys → In x (xs ++ ys)
In-append_right x [] ys is = is
In-append_right x (z ∷ xs) ys is = inr (In-append_right x xs ys is)

pub In-append_cases : {X : Type 0} (x : X) (xs ys : List X) → In x (xs ++ ys) → In x xs ⊎ In x ys
In-append_cases x [] ys is = inr is
In-append_cases x (z ∷ xs) ys (inl e) = inl (inl e)
In-append_cases x (z ∷ xs) ys (inr later) = elim (In-append_cases x xs ys later) [ inl l ↦ inl (inr l) | inr r ↦ inr r ]

pub In-push_cases : {X : Type 0} (x y : X) (xs : List X) → In x (xs ++ y ∷ []) → In x xs ⊎ (y ≡ x)
In-push_cases x y xs is = elim (In-append_cases x xs (y ∷ []) is) [
  | inl there ↦ inl there
  | inr last ↦ elim last [ inl here ↦ inr here | inr none ↦ absurd none ]
]

-- the first n + 1 elements
pub take_next : {X : Type 0} (xs : List X) (n : ℕ) (x : X) → slice_get xs n ≡ Some x → take (n + 1) xs ≡ take n xs ++ x ∷ []
take_next [] n x is = cc
take_next (y ∷ ys) zero x is = let same : y ≡ x = same_Some y x is in ap (λ z. z ∷ []) same
take_next (y ∷ ys) (suc n) x is =
    let one : suc n + 1 ≡ suc (n + 1) = omega arith in ap (λ k. take k (y ∷ ys)) one ∙ ap (λ l. y ∷ l) (take_next ys n x is)
