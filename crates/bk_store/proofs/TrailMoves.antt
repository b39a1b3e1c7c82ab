-- What is kept of a trail, after one more mark.
use Rattle.std.proofs.Common.{◌≡◌, ◌≢◌, ◌⊎◌, inl, inr, ℕ, zero, suc, List, [], ◌∷◌, ◌++◌, length, Option, Some, None, true, false}
use Rattle.std.proofs.Common.{refl, sym, ap, ◌∙◌, subst}
use Rattle.std.specs.Prelude.{slice_get}
use Rattle.std.specs.Ordering.{nat_cmp}
use Rattle.std.specs.FinMap as finite
use Rattle.std.specs.FinSet as set
use Rattle.bk_record.specs.Key.{EntryKey}
use Rattle.bk_record.specs.Keyed.{without_ledger}
use Rattle.bk_record.specs.Files.{In}
use Rattle.bk_record.specs.Scan.{Payloads, Ledgers}
use Rattle.bk_record.proofs.Growth.{In-append_left, In-append_right, In-push_cases}
use Rattle.sha2.specs.Sha256.{sha256}
use Rattle.bk_store.specs.declared.mark.Mark.{Mark}
use Rattle.bk_store.specs.declared.mark.Mark.TheVariants.{Add, Delete, Fence}
use Rattle.bk_store.specs.Trail.{MapMatchesTrail, HasAddMark, WasDeleted, WasFenced, HasDigest}
use Rattle.bk_store.specs.Ledgers.{KnownLedgers, LedgersMatchTrail, opened_ledgers, with_add, with_deletion, with_fence}
use Rattle.bk_store.proofs.Cases.{same_or_apart}
use Rattle.bk_store.proofs.KeyMaps.{get-insert_other, inserted_here, left_same}
use Rattle.bk_store.proofs.Ledgers.{inserted_is, inserted_else, removed_is, removed_else}

-- ---- one more mark

-- a mark of a trail with one more was there, or is the last
pub number_cases : (xs : List Mark) (y : Mark) (n : ℕ) (m : Mark) → slice_get (xs ++ y ∷ []) n ≡ Some m
    → (slice_get xs n ≡ Some m) ⊎ ((n ≡ length xs) × (y ≡ m))
number_cases [] y zero m is = inr (refl, cc)
number_cases [] y (suc n) m is = absurd (cc)
number_cases (x ∷ xs) y zero m is = inl is
number_cases (x ∷ xs) y (suc n) m is = elim (number_cases xs y n m is) [ inl old ↦ inl old | inr new ↦ inr (ap suc new.0, new.1) ]

module _ (trail : List Mark) (mark : Mark) where
  abbrev longer : List Mark
  longer = trail ++ mark ∷ []

  -- what was in it is in it
  still : (m : Mark) → In m trail → In m longer
  still m there = In-append_left m trail (mark ∷ []) there

  last_is : In mark longer
  last_is = In-append_right mark trail (mark ∷ []) (inl refl)

  -- another mark was in it before
  was : (m : Mark) → In m longer → (mark ≡ m → ⊥) → In m trail
  was m there apart = elim (In-push_cases m mark trail there) [ inl old ↦ old | inr same ↦ absurd (apart same) ]

  came_before : (n : ℕ) (key : EntryKey) (digest : List ℕ) → HasAddMark longer n key digest → (mark ≡ Add key digest → ⊥) → HasAddMark trail n key digest
  came_before n key digest at apart = elim (number_cases trail mark n (Add key digest) at) [ inl old ↦ old | inr new ↦ absurd (apart new.1) ]

  -- a mark that is no add leaves what came in, but for a ledger that it deletes
  replays_marked : {map : Payloads} → MapMatchesTrail map trail → (left : Payloads) → ((key : EntryKey) (digest : List ℕ) → mark ≡ Add key digest → ⊥)
      → ((key : EntryKey) → ¬ (WasDeleted longer key.ledger) → finite.get left key ≡ finite.get map key) → MapMatchesTrail left longer
  replays_marked replays left no_add same = record {
    has = λ n key digest at lives.
        let has = replays.has n key digest (came_before n key digest at (no_add key digest)) (λ out. lives (still (Delete key.ledger) out)) in
        (has.0, same key lives ∙ has.1, has.2);
    once = λ n m key digest digest' at also.
        replays.once n m key digest digest' (came_before n key digest at (no_add key digest)) (came_before m key digest' also (no_add key digest'));
  }

-- ---- an entry that comes in

module _ {map : Payloads} {l : KnownLedgers} (replays : MapMatchesTrail map l.trail) (follows : LedgersMatchTrail l) (key : EntryKey) (payload : List ℕ)
    (alive : set.contains l.dead key.ledger ≡ false) (missing : finite.get map key ≡ None) where
  never_deleted : WasDeleted l.trail key.ledger → ⊥
  never_deleted out = let wrong : true ≡ false = sym (follows.gone key.ledger out) ∙ alive in cc

  pub never_came : (n : ℕ) (digest : List ℕ) → HasAddMark l.trail n key digest → ⊥
  never_came n digest at =
      let has = replays.has n key digest at never_deleted in
      let wrong : ◌≡◌ {A = Option (List ℕ)} (Some has.0) None = sym has.1 ∙ missing in cc

  abbrev mark : Mark
  mark = Add key (sha256 payload)

  abbrev new : List Mark
  new = l.trail ++ mark ∷ []

  has_added : (n : ℕ) (k : EntryKey) (digest : List ℕ) → HasAddMark new n k digest → ¬ (WasDeleted new k.ledger)
      → HasDigest (finite.insert map key payload) k digest
  has_added n k digest at lives = elim (number_cases l.trail mark n (Add k digest) at) [
    | inl old ↦
        let has = replays.has n k digest old (λ out. lives (still l.trail mark (Delete k.ledger) out)) in (
          has.0,
          get-insert_other map key payload k (λ same. never_came n digest (subst (λ (q : EntryKey). HasAddMark l.trail n q digest) same old)) ∙ has.1,
          has.2,
        )
    | inr here ↦ let same : k ≡ key = cc in let told : digest ≡ sha256 payload = cc in (payload, inserted_here map key payload k same, told)
  ]

  once_added : (n m : ℕ) (k : EntryKey) (digest digest' : List ℕ) → HasAddMark new n k digest → HasAddMark new m k digest' → n ≡ m
  once_added n m k digest digest' at also = elim (number_cases l.trail mark n (Add k digest) at) [
    | inl old ↦ elim (number_cases l.trail mark m (Add k digest') also) [
      | inl other ↦ replays.once n m k digest digest' old other
      | inr here ↦ let same : k ≡ key = cc in absurd (never_came n digest (subst (λ (q : EntryKey). HasAddMark l.trail n q digest) same old))
    ]
    | inr here ↦ elim (number_cases l.trail mark m (Add k digest') also) [
      | inl other ↦ let same : k ≡ key = cc in absurd (never_came m digest' (subst (λ (q : EntryKey). HasAddMark l.trail m q digest') same other))
      | inr last ↦ here.0 ∙ sym last.0
    ]
  ]

  pub replays_added : MapMatchesTrail (finite.insert map key payload) (with_add l key payload).trail
  replays_added = record { has = has_added; once = once_added }

module _ {l : KnownLedgers} (follows : LedgersMatchTrail l) where
  pub follows_added : (key : EntryKey) (payload : List ℕ) → LedgersMatchTrail (with_add l key payload)
  follows_added key payload =
      let mark = Add key (sha256 payload) in
      record {
        gone = λ ledger out. follows.gone ledger (was l.trail mark (Delete ledger) out (λ wrong. cc));
        fenced = λ ledger. (
          λ in_set.
              let told = (follows.fenced ledger).0 in_set in
              (still l.trail mark (Fence ledger) told.0, λ out. told.1 (was l.trail mark (Delete ledger) out (λ wrong. cc))),
          λ told. (follows.fenced ledger).1
              (was l.trail mark (Fence ledger) told.0 (λ wrong. cc), λ out. told.1 (still l.trail mark (Delete ledger) out)),
        );
      }

-- ---- a ledger that is deleted

module _ {map : Payloads} {trail : List Mark} (replays : MapMatchesTrail map trail) (ledger : ℕ) where
  pub replays_deleted : MapMatchesTrail (without_ledger map ledger) (trail ++ Delete ledger ∷ [])
  replays_deleted = replays_marked trail (Delete ledger) replays (without_ledger map ledger) (λ key digest wrong. cc)
      (λ key lives. left_same map ledger key (λ same. lives (subst (λ (q : ℕ). WasDeleted (trail ++ Delete ledger ∷ []) q) (sym same)
      (last_is trail (Delete ledger)))))

module _ {l : KnownLedgers} (follows : LedgersMatchTrail l) (ledger : ℕ) where
  abbrev shorn : List Mark
  shorn = l.trail ++ Delete ledger ∷ []

  deleted_else : (q : ℕ) → q ≢ ledger → WasDeleted shorn q → WasDeleted l.trail q
  deleted_else q apart out = was l.trail (Delete ledger) (Delete q) out (λ same. apart (cc))

  pub follows_deleted : LedgersMatchTrail (with_deletion l ledger)
  follows_deleted = record {
    gone = λ q out. elim (same_or_apart q ledger) [
      | inl here ↦ subst (λ (x : ℕ). set.contains (set.insert l.dead ledger) x ≡ true) (sym here) (inserted_is l.dead ledger)
      | inr apart ↦ inserted_else l.dead ledger q apart ∙ follows.gone q (deleted_else q apart out)
    ];
    fenced = λ q. elim (same_or_apart q ledger) [
      | inl here ↦ (
        λ in_set.
            let gone = ap (set.contains (set.remove l.fenced ledger)) here ∙ removed_is l.fenced ledger in
            let wrong : true ≡ false = sym in_set ∙ gone in absurd (cc),
        λ told. absurd (told.1 (subst (λ (x : ℕ). WasDeleted shorn x) (sym here) (last_is l.trail (Delete ledger)))),
      )
      | inr apart ↦ (
        λ in_set.
            let told = (follows.fenced q).0 (sym (removed_else l.fenced ledger q apart) ∙ in_set) in
            (still l.trail (Delete ledger) (Fence q) told.0, λ out. told.1 (deleted_else q apart out)),
        λ told. removed_else l.fenced ledger q apart
            ∙ (follows.fenced q).1 (was l.trail (Delete ledger) (Fence q) told.0 (λ wrong. cc), λ out. told.1 (still l.trail (Delete ledger) (Delete q) out)),
      )
    ];
  }

-- ---- a ledger that is fenced

module _ {map : Payloads} {trail : List Mark} (replays : MapMatchesTrail map trail) (ledger : ℕ) where
  pub replays_fenced : MapMatchesTrail map (trail ++ Fence ledger ∷ [])
  replays_fenced = replays_marked trail (Fence ledger) replays map (λ key digest wrong. cc) (λ key lives. refl)

module _ {l : KnownLedgers} (follows : LedgersMatchTrail l) (ledger : ℕ) (alive : set.contains l.dead ledger ≡ false) where
  abbrev fenced : List Mark
  fenced = l.trail ++ Fence ledger ∷ []

  deleted_before : (q : ℕ) → WasDeleted fenced q → WasDeleted l.trail q
  deleted_before q out = was l.trail (Fence ledger) (Delete q) out (λ wrong. cc)

  pub follows_fenced : LedgersMatchTrail (with_fence l ledger)
  follows_fenced = record {
    gone = λ q out. follows.gone q (deleted_before q out);
    fenced = λ q. elim (same_or_apart q ledger) [
      | inl here ↦ (
        λ _. (
          subst (λ (x : ℕ). WasFenced fenced x) (sym here) (last_is l.trail (Fence ledger)),
          λ out.
              let dead = follows.gone q (deleted_before q out) in
              let wrong : true ≡ false = sym dead ∙ ap (set.contains l.dead) here ∙ alive in cc,
        ),
        λ _. ap (set.contains (set.insert l.fenced ledger)) here ∙ inserted_is l.fenced ledger,
      )
      | inr apart ↦ (
        λ in_set.
            let told = (follows.fenced q).0 (sym (inserted_else l.fenced ledger q apart) ∙ in_set) in
            (still l.trail (Fence ledger) (Fence q) told.0, λ out. told.1 (deleted_before q out)),
        λ told. inserted_else l.fenced ledger q apart
            ∙ (follows.fenced q).1
            (was l.trail (Fence ledger) (Fence q) told.0 (λ same. apart (cc)), λ out. told.1 (still l.trail (Fence ledger) (Delete q) out)),
      )
    ];
  }

-- ---- a store that was just opened

pub replays_none : (map : Payloads) → MapMatchesTrail map []
replays_none map = record {
  has = λ n key digest at lives. absurd (cc);
  once = λ n m key digest digest' at also. absurd (cc);
}

pub follows_none : (dead : Ledgers) → LedgersMatchTrail (opened_ledgers dead)
follows_none dead = record {
  gone = λ ledger out. absurd out;
  fenced = λ ledger. (
    λ in_set. let wrong : true ≡ false = sym in_set ∙ set.contains-empty nat_cmp ledger in absurd (cc),
    λ told. absurd told.0,
  );
}
