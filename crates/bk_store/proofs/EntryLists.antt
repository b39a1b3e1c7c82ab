-- An index made of a list of entries, one after another in order of their places.
use Rattle.std.proofs.Common.{◌≡◌, ◌≢◌, inl, inr, List, ℕ, [], ◌∷◌, ◌++◌, Some, None, true, false, refl, sym, ap, ◌∙◌, subst, append_assoc}
use Rattle.std.specs.FinMap as finite
use Rattle.std.specs.FinSet as set
use Rattle.std.proofs.lemmas.Option.{none-some}
use Rattle.bk_record.specs.Key.{EntryKey, key_cmp}
use Rattle.bk_record.specs.Location.{Place, Precedes}
use Rattle.bk_record.specs.Files.{In}
use Rattle.bk_record.specs.Scan.{Ledgers}
use Rattle.bk_record.proofs.Growth.{In-append_right, In-append_cases}
use Rattle.bk_record.specs.Keyed.{Places}
use Rattle.bk_record.proofs.Places.{precedes_not_itself, precedes_one_way}
use Rattle.bk_store.specs.Entries.{Bytes, HasEntry, IsIndexOf}
use Rattle.bk_store.proofs.KeyMaps.{get-insert_other, same_key, inserted_cases, inserted_here}

-- entries as a walk over logs meets them: each with its place and its key
abbrev pub Listed : Type 0
Listed = List (Place × EntryKey)

-- the last of the list with this key is at the place
pub record IsLastListed (entries : Listed) (key : EntryKey) (place : Place) : Type 0 where
  pub before : Listed
  pub behind : Listed
  pub entries_are : entries ≡ before ++ (place, key) ∷ behind
  pub last : (other : Place) → In (other, key) behind → ⊥

-- The index of the list: each key of a live ledger in it points to the place of its last, no other
-- key is sent anywhere.
pub record IsIndexOfList (entries : Listed) (dead : Ledgers) (index : Places) : Type 0 where
  pub sent : (key : EntryKey) (place : Place) → finite.get index key ≡ Some place → IsLastListed entries key place
  pub lives : (key : EntryKey) (place : Place) → finite.get index key ≡ Some place → set.contains dead key.ledger ≡ false
  pub missing : (key : EntryKey) → finite.get index key ≡ None → set.contains dead key.ledger ≡ false → (place : Place) → In (place, key) entries → ⊥

-- each entry of the list is before those after it
abbrev pub AreRising : Listed → Type 0
AreRising [] = Unit {0}
AreRising (e ∷ entries) = ((place : Place) (key : EntryKey) → In (place, key) entries → Precedes e.0 place) × AreRising entries

-- the list has the entries of these bytes, all of them and no others, in order of their places
pub record AreEntriesOf (bytes : Bytes) (entries : Listed) : Type 0 where
  pub stands : (place : Place) (key : EntryKey) → In (place, key) entries → (payload : List ℕ) × HasEntry bytes place key payload
  pub listed : (place : Place) (key : EntryKey) (payload : List ℕ) → HasEntry bytes place key payload → In (place, key) entries
  pub rising : AreRising entries

-- ---- the order of the list

-- a list in order after another
pub rising_append : (first second : Listed) → AreRising first → AreRising second
    → ((p q : Place) (k j : EntryKey) → In (p, k) first → In (q, j) second → Precedes p q) → AreRising (first ++ second)
rising_append [] second one two between = two
rising_append (e ∷ first) second one two between = (
  λ q j there. elim (In-append_cases (q, j) first second there) [
    | inl near ↦ one.0 q j near
    | inr far ↦ between e.0 q e.1 j (inl refl) far
  ],
  rising_append first second one.1 two (λ p q k j here there. between p q k j (inr here) there),
)

rising_before : (place : Place) (key : EntryKey) (before behind : Listed) (other : Place) (k : EntryKey) → AreRising (before ++ (place, key) ∷ behind)
    → In (other, k) before → Precedes other place
rising_before place key [] behind other k rising there = absurd there
rising_before place key (e ∷ before) behind other k rising (inl here) =
    subst (λ (x : Place × EntryKey). Precedes x.0 place) here (rising.0 place key (In-append_right (place, key) before ((place, key) ∷ behind) (inl refl)))
rising_before place key (e ∷ before) behind other k rising (inr later) = rising_before place key before behind other k rising.1 later

-- ---- the index of the list, entry by entry

pub list_empty : (dead : Ledgers) → IsIndexOfList [] dead finite.empty
list_empty dead = record {
  sent = λ key place named. absurd (none-some place (sym (finite.get-empty key_cmp key) ∙ named));
  lives = λ key place named. absurd (none-some place (sym (finite.get-empty key_cmp key) ∙ named));
  missing = λ key none lives place never. never;
}

-- what was last stays last after an entry of another key
still_last : (entries : Listed) (k : EntryKey) (p : Place) (place : Place) (key : EntryKey) → key ≢ k → IsLastListed entries k p
    → IsLastListed (entries ++ (place, key) ∷ []) k p
still_last entries k p place key apart old = record {
  before = old.before;
  behind = old.behind ++ (place, key) ∷ [];
  entries_are = ap (λ (l : Listed). l ++ (place, key) ∷ []) old.entries_are ∙ append_assoc old.before ((p, k) ∷ old.behind) ((place, key) ∷ []);
  last = λ other there. elim (In-append_cases (other, k) old.behind ((place, key) ∷ []) there) [
    | inl before ↦ old.last other before
    | inr new ↦ elim new [
      | inl here ↦ apart (ap (λ (x : Place × EntryKey). x.1) here)
      | inr never ↦ never
    ]
  ];
}

module _ {entries : Listed} {dead : Ledgers} {index : Places} (made : IsIndexOfList entries dead index) where
  -- an entry of a live ledger is put in the index
  pub list_indexed : (place : Place) (key : EntryKey) → set.contains dead key.ledger ≡ false
      → IsIndexOfList (entries ++ (place, key) ∷ []) dead (finite.insert index key place)
  list_indexed place key alive = record {
    sent = λ k p named. elim (inserted_cases index key place k p named) [
      | inl new ↦ record {
        before = entries;
        behind = [];
        entries_are = λ i. entries ++ (new.1 i, sym new.0 i) ∷ [];
        last = λ other never. never;
      }
      | inr old ↦ still_last entries k p place key (λ same. old.0 (sym same)) (made.sent k p old.1)
    ];
    lives = λ k p named. elim (inserted_cases index key place k p named) [
      | inl new ↦ ap (λ (x : EntryKey). set.contains dead x.ledger) new.0 ∙ alive
      | inr old ↦ made.lives k p old.1
    ];
    missing = λ k none lives p there. elim (same_key k key) [
      | inl same ↦ none-some place (sym none ∙ inserted_here index key place k same)
      | inr apart ↦ elim (In-append_cases (p, k) entries ((place, key) ∷ []) there) [
        | inl old ↦ made.missing k (sym (get-insert_other index key place k apart) ∙ none) lives p old
        | inr new ↦ elim new [
          | inl here ↦ apart (sym (ap (λ (x : Place × EntryKey). x.1) here))
          | inr never ↦ never
        ]
      ]
    ];
  }

  -- an entry of a deleted ledger is passed by
  pub list_passed : (place : Place) (key : EntryKey) → set.contains dead key.ledger ≡ true → IsIndexOfList (entries ++ (place, key) ∷ []) dead index
  list_passed place key gone = record {
    sent = λ k p named.
        let lives = made.lives k p named in
        still_last entries k p place key (λ same. let dies = ap (λ (x : EntryKey). set.contains dead x.ledger) (sym same) ∙ gone in cc) (made.sent k p named);
    lives = made.lives;
    missing = λ k none lives p there. elim (In-append_cases (p, k) entries ((place, key) ∷ []) there) [
      | inl old ↦ made.missing k none lives p old
      | inr new ↦ elim new [
        | inl here ↦ let dies = ap (λ (x : Place × EntryKey). set.contains dead x.1.ledger) (sym here) ∙ gone in cc
        | inr never ↦ never
      ]
    ];
  }

-- ---- the whole list

-- the index of a list of all entries is the bytes' index
pub list_index : {bytes : Bytes} {entries : Listed} {dead : Ledgers} {index : Places} → AreEntriesOf bytes entries → IsIndexOfList entries dead index
    → IsIndexOf bytes dead index
list_index lists made = record {
  sent = λ key place named.
      let l = made.sent key place named in
      let there = subst (λ es. In (place, key) es) (sym l.entries_are) (In-append_right (place, key) l.before ((place, key) ∷ l.behind) (inl refl)) in
      let entry = lists.stands place key there in (
        entry.0,
        record {
          here = entry.1;
          last = λ other payload' follower follows.
              let found = subst (λ es. In (other, key) es) l.entries_are (lists.listed other key payload' follower) in
              elim (In-append_cases (other, key) l.before ((place, key) ∷ l.behind) found) [
                | inl before ↦ precedes_one_way place other follows
                    (rising_before place key l.before l.behind other key (subst AreRising l.entries_are lists.rising) before)
                | inr behind ↦ elim behind [
                  | inl here ↦ precedes_not_itself other (subst (λ (x : Place × EntryKey). Precedes x.0 other) here follows)
                  | inr later ↦ l.last other later
                ]
              ];
        },
      );
  lives = made.lives;
  missing = λ key none lives place payload entry. made.missing key none lives place (lists.listed place key payload entry);
}
