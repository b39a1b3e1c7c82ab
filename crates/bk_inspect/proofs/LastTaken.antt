-- The last record of each entry of a range, as records are taken in one after another.
use Rattle.std.proofs.Common.{◌≡◌, ◌≢◌, ◌⊎◌, inl, inr, ℕ, ◌+◌, ◌≤◌, List, [], ◌∷◌, ◌++◌, length, Option, Some, None, refl, sym, ap, ◌∙◌, subst, arith, nat_cmp}
use Rattle.std.proofs.lemmas.Bool.{cases_eq}
use Rattle.std.specs.BTreeMap as tree
use Rattle.std.specs.BTreeMap.{BTreeMap}
use Rattle.bk_record.specs.Key.{EntryKey}
use Rattle.bk_record.specs.Location.{Place, Precedes}
use Rattle.bk_record.specs.Record.{key_of}
use Rattle.bk_record.specs.Files.{In}
use Rattle.bk_record.specs.Latest.{AreInOrder}
use Rattle.bk_record.proofs.Growth.{In-append_left, In-append_right, In-append_cases}
use Rattle.bk_inspect.specs.declared.command.EntryRange.{EntryRange}
use Rattle.bk_inspect.specs.declared.entries.Standing.{Standing}
use Rattle.bk_inspect.specs.LastRecords.{IsInRange, key_in, place_of, IsLastIn, LastIn, HasLast, StandsAfter, Notes}

-- a record behind others in order
order_front : (taken : List (Place × List ℕ)) (r : Place × List ℕ) → AreInOrder (taken ++ r ∷ []) → AreInOrder taken
order_front [] r order = tt
order_front (t ∷ taken) r order =
    (λ place payload there. order.0 place payload (In-append_left (place, payload) taken (r ∷ []) there), order_front taken r order.1)

order_last : (taken : List (Place × List ℕ)) (r : Place × List ℕ) (place : Place) (payload : List ℕ) → AreInOrder (taken ++ r ∷ [])
    → In (place, payload) taken → Precedes place r.0
order_last [] r place payload order there = absurd there
order_last (t ∷ taken) r place payload order there = elim there [
  | inl here ↦ subst (λ (x : Place × List ℕ). Precedes x.0 r.0) here (order.0 r.0 r.1 (In-append_right r taken (r ∷ []) (inl refl)))
  | inr later ↦ order_last taken r place payload order.1 later
]

-- a record of another key changes nothing
skip_one : (range : EntryRange) (taken : List (Place × List ℕ)) (place : Place) (payload : List ℕ) (entry : ℕ) (o : Option Standing)
    → (IsInRange range entry → key_of payload ≢ Some (key_in range entry)) → LastIn range taken entry o
    → LastIn range (taken ++ (place, payload) ∷ []) entry o
skip_one range taken place payload entry None other none = λ asked at held there keyed.
    elim (In-append_cases (at, held) taken ((place, payload) ∷ []) there) [
      | inl before ↦ none asked at held before keyed
      | inr now ↦ elim now [
        | inl same ↦ other asked (ap (λ (x : Place × List ℕ). key_of x.1) same ∙ keyed)
        | inr never ↦ absurd never
      ]
    ]
skip_one range taken place payload entry (Some standing) other is = record {
  payload = is.payload;
  asked = is.asked;
  there = In-append_left (place_of standing, is.payload) taken ((place, payload) ∷ []) is.there;
  keyed = is.keyed;
  sized = is.sized;
  last = λ at held there keyed.
      elim (In-append_cases (at, held) taken ((place, payload) ∷ []) there) [
        | inl before ↦ is.last at held before keyed
        | inr now ↦ elim now [
          | inl same ↦ absurd (other is.asked (ap (λ (x : Place × List ℕ). key_of x.1) same ∙ keyed))
          | inr never ↦ absurd never
        ]
      ];
}

same_key : (a b : EntryKey) → Some a ≡ Some b → a ≡ b
same_key a b is = cc

-- a record that is not of an entry of the range
pub last_skipped : (range : EntryRange) (records : BTreeMap ℕ Standing) (taken : List (Place × List ℕ)) (place : Place) (payload : List ℕ) (key : EntryKey)
    → key_of payload ≡ Some key → (key.ledger ≡ range.ledger → IsInRange range key.entry → ⊥) → HasLast range records taken
    → HasLast range records (taken ++ (place, payload) ∷ [])
last_skipped range records taken place payload key keyed outside has = λ order entry.
    skip_one range taken place payload entry (tree.get nat_cmp records entry)
    (λ asked same.
    let is : key ≡ key_in range entry = same_key key (key_in range entry) (sym keyed ∙ same) in
    outside (ap (λ (k : EntryKey). k.ledger) is) (subst (IsInRange range) (sym (ap (λ (k : EntryKey). k.entry) is)) asked))
    (has (order_front taken (place, payload) order) entry)

-- the record of an entry of the range behind all others is its last one
newest : (range : EntryRange) (taken : List (Place × List ℕ)) (payload : List ℕ) (entry : ℕ) (standing : Standing)
    → AreInOrder (taken ++ (place_of standing, payload) ∷ []) → IsInRange range entry → key_of payload ≡ Some (key_in range entry)
    → standing.found.size ≡ 4 + length payload → IsLastIn range (taken ++ (place_of standing, payload) ∷ []) entry standing
newest range taken payload entry standing order asked keyed sized = record {
  payload = payload;
  asked = asked;
  there = In-append_right (place_of standing, payload) taken ((place_of standing, payload) ∷ []) (inl refl);
  keyed = keyed;
  sized = sized;
  last = λ at held there _.
      elim (In-append_cases (at, held) taken ((place_of standing, payload) ∷ []) there) [
        | inl before ↦ inr (order_last taken (place_of standing, payload) at held order before)
        | inr now ↦ elim now [ inl same ↦ inl (sym (ap (λ (x : Place × List ℕ). x.0) same)) | inr never ↦ absurd never ]
      ];
}

-- it takes the place of the one that was known
takes_place : (range : EntryRange) (taken : List (Place × List ℕ)) (payload : List ℕ) (entry : ℕ) (standing : Standing) (known now : Option Standing)
    → AreInOrder (taken ++ (place_of standing, payload) ∷ []) → LastIn range taken entry known → StandsAfter known standing now → now ≡ Some standing
takes_place range taken payload entry standing None now order has after = after
takes_place range taken payload entry standing (Some known) now order has after =
    after.0 (elim (order_last taken (place_of standing, payload) (place_of known) has.payload order has.there) [
      | inl less ↦ omega (arith, less)
      | inr same ↦ omega (arith, same.0)
    ])

-- a record of an entry of the range
pub last_noted : (range : EntryRange) (before now : BTreeMap ℕ Standing) (taken : List (Place × List ℕ)) (payload : List ℕ) (entry : ℕ) (standing : Standing)
    → key_of payload ≡ Some (key_in range entry) → IsInRange range entry → standing.found.size ≡ 4 + length payload
    → Notes before entry standing now → HasLast range before taken → HasLast range now (taken ++ (place_of standing, payload) ∷ [])
last_noted range before now taken payload entry standing keyed asked sized notes has = λ order q.
    let old = has (order_front taken (place_of standing, payload) order) in
    let all = taken ++ (place_of standing, payload) ∷ [] in
    elim (cases_eq q entry) [
      | inl same ↦ subst (λ (n : ℕ). LastIn range all n (tree.get nat_cmp now n)) (sym same)
          (subst (λ (o : Option Standing). LastIn range all entry o)
          (sym (takes_place range taken payload entry standing (tree.get nat_cmp before entry) (tree.get nat_cmp now entry) order (old entry) notes.here))
          (newest range taken payload entry standing order asked keyed sized))
      | inr apart ↦ subst (λ (o : Option Standing). LastIn range all q o) (sym (notes.others q apart))
          (skip_one range taken (place_of standing) payload q (tree.get nat_cmp before q)
          (λ _ other. apart (sym (ap (λ (k : EntryKey). k.entry) (same_key (key_in range entry) (key_in range q) (sym keyed ∙ other)))))
          (old q))
    ]
