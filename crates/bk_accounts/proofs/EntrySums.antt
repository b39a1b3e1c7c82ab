-- One log's account and its entries: the entries as rows, and their sums.
use Rattle.std.proofs.Common.{◌≡◌, ℕ, ◌+◌, Bool, true, false, ◌||◌, ◌==◌, List, [], ◌∷◌, ◌++◌, map, Some, None, Option, refl, sym, ap, subst, ◌∙◌}
use Rattle.std.specs.Bool.{⊤}
use Rattle.std.specs.List.{sum_by}
use Rattle.std.specs.Option.{option_map}
use Rattle.std.proofs.lemmas.List.Sums.{sum_by-cons}
use Rattle.bk_accounts.specs.Account.{Account, fresh, ledger_size, remaining_size, with_room, with_size, with_dead_size, without_size}
use Rattle.bk_accounts.specs.Rows.{Row, Tallies, forget_row}
use Rattle.bk_accounts.specs.Sums.{Measure, all_bytes, live_bytes, live_bytes_of}
use Rattle.bk_accounts.proofs.Tallies.{tallies_fresh, tallies_room, tallies_count, tallies_dead, tallies_forget}

sum_by-map : {A B : Type 0} (g : B → ℕ) (f : A → B) (xs : List A) → sum_by g (map f xs) ≡ sum_by (λ x. g (f x)) xs
sum_by-map g f [] = refl
sum_by-map g f (x ∷ xs) = sum_by-cons g (f x) (map f xs) ∙ ap (λ n. g (f x) + n) (sum_by-map g f xs) ∙ sym (sum_by-cons (λ y. g (f y)) x xs)

map_push : {A B : Type 0} (f : A → B) (xs : List A) (x : A) → map f (xs ++ x ∷ []) ≡ map f xs ++ f x ∷ []
map_push f [] x = refl
map_push f (y ∷ ys) x = ap (λ rest. f y ∷ rest) (map_push f ys x)

module _ {E : Type 0} (measure : Measure E) where
  -- an entry as a row
  abbrev pub row_of : (ℕ → Bool) → E → Row
  row_of is_dead e = record { ledger = measure.ledger e; size = measure.size e; forgotten = is_dead (measure.ledger e) }

  -- A log with entries has an account with their sums and this number of names. A log without a
  -- list of entries has no account.
  abbrev pub Matches : (ℕ → Bool) → Option (List E) → ℕ → Option Account → Type 0
  Matches is_dead None names None = ⊤
  Matches is_dead (Some entries) names (Some account) = Tallies (map (row_of is_dead) entries) account × (account.named ≡ names)
  Matches is_dead None names (Some account) = ⊥
  Matches is_dead (Some entries) names None = ⊥

  -- sums of one log, in the form used for all logs
  pub record HasSums (is_dead : ℕ → Bool) (entries : Option (List E)) (names : ℕ) (entry : Option Account) : Type 0 where
    pub total : option_map (λ account. account.total) entry ≡ option_map (all_bytes measure) entries
    pub remaining : option_map remaining_size entry ≡ option_map (live_bytes measure is_dead) entries
    pub by_ledger : (ledger : ℕ) → option_map (λ account. ledger_size account ledger) entry ≡ option_map (live_bytes_of measure is_dead ledger) entries
    pub named : option_map (λ account. account.named) entry ≡ option_map (λ _. names) entries

  pub sums_of_match : (is_dead : ℕ → Bool) (entries : Option (List E)) (names : ℕ) (entry : Option Account) → Matches is_dead entries names entry
      → HasSums is_dead entries names entry
  sums_of_match is_dead None names None match = record { total = refl; remaining = refl; by_ledger = λ _. refl; named = refl }
  sums_of_match is_dead None names (Some account) match = absurd match
  sums_of_match is_dead (Some entries) names None match = absurd match
  sums_of_match is_dead (Some entries) names (Some account) match = record {
    total = ap (λ n. Some n) (match.0.total ∙ sum_by-map _ (row_of is_dead) entries);
    remaining = ap (λ n. Some n) (match.0.remaining ∙ sum_by-map _ (row_of is_dead) entries);
    by_ledger = λ ledger. ap (λ n. Some n) (match.0.by_ledger ledger ∙ sum_by-map _ (row_of is_dead) entries);
    named = ap (λ n. Some n) match.1;
  }

  same : {m n : ℕ} → Some m ≡ Some n → m ≡ n
  same is = cc

  pub match_of_sums : (is_dead : ℕ → Bool) (entries : Option (List E)) (names : ℕ) (entry : Option Account) → HasSums is_dead entries names entry
      → Matches is_dead entries names entry
  match_of_sums is_dead None names None sums = tt
  match_of_sums is_dead None names (Some account) sums = let none = sums.total in cc
  match_of_sums is_dead (Some entries) names None sums = let none = sums.total in cc
  match_of_sums is_dead (Some entries) names (Some account) sums = (
    record {
      total = same sums.total ∙ sym (sum_by-map _ (row_of is_dead) entries);
      remaining = same sums.remaining ∙ sym (sum_by-map _ (row_of is_dead) entries);
      by_ledger = λ ledger. same (sums.by_ledger ledger) ∙ sym (sum_by-map _ (row_of is_dead) entries);
    },
    same sums.named,
  )

  -- nothing changes for a log without an account
  abbrev pub Keeps : (ℕ → Bool) → Option (List E) → (Option (List E)) → ℕ → ℕ → (Account → Account) → Type 0
  Keeps is_dead old new names renamed change = (entry : Option Account) → Matches is_dead old names entry
      → Matches is_dead new renamed (option_map change entry)

  pub match_fresh : (is_dead : ℕ → Bool) (names : ℕ) → names ≡ 0 → Matches is_dead (Some []) names (Some fresh)
  match_fresh is_dead names none = (tallies_fresh, sym none)

  pub match_room : (is_dead : ℕ → Bool) (entries : Option (List E)) (names ledger : ℕ) → Keeps is_dead entries entries names names (with_room ledger)
  match_room is_dead None names ledger None match = tt
  match_room is_dead None names ledger (Some account) match = match
  match_room is_dead (Some entries) names ledger None match = match
  match_room is_dead (Some entries) names ledger (Some account) match = (tallies_room _ account ledger match.0, match.1)

  pub match_count : (is_dead : ℕ → Bool) (entries : List E) (names : ℕ) (e : E) → is_dead (measure.ledger e) ≡ false
      → Keeps is_dead (Some entries) (Some (entries ++ e ∷ [])) names names (with_size (measure.ledger e) (measure.size e))
  match_count is_dead entries names e live None match = match
  match_count is_dead entries names e live (Some account) match =
      let row : Bool → Row = λ b. record { ledger = measure.ledger e; size = measure.size e; forgotten = b } in
      let counted = tallies_count _ account (measure.ledger e) (measure.size e) match.0 in (
        subst (λ rows. Tallies rows (with_size (measure.ledger e) (measure.size e) account))
            (ap (λ b. map (row_of is_dead) entries ++ row b ∷ []) (sym live) ∙ sym (map_push (row_of is_dead) entries e)) counted,
        match.1,
      )

  pub match_dead : (is_dead : ℕ → Bool) (entries : List E) (names : ℕ) (e : E) → is_dead (measure.ledger e) ≡ true
      → Keeps is_dead (Some entries) (Some (entries ++ e ∷ [])) names names (with_dead_size (measure.size e))
  match_dead is_dead entries names e dead None match = match
  match_dead is_dead entries names e dead (Some account) match =
      let row : Bool → Row = λ b. record { ledger = measure.ledger e; size = measure.size e; forgotten = b } in
      let counted = tallies_dead _ account (measure.ledger e) (measure.size e) match.0 in (
        subst (λ rows. Tallies rows (with_dead_size (measure.size e) account)) (ap (λ b. map (row_of is_dead) entries ++ row b ∷ []) (sym dead)
            ∙ sym (map_push (row_of is_dead) entries e)) counted,
        match.1,
      )

  pub match_named : (is_dead : ℕ → Bool) (entries : Option (List E)) (names renamed : ℕ) (rename : ℕ → ℕ) → renamed ≡ rename names
      → Keeps is_dead entries entries names renamed (λ account. record account { named = rename account.named })
  match_named is_dead None names renamed rename is None match = tt
  match_named is_dead None names renamed rename is (Some account) match = match
  match_named is_dead (Some entries) names renamed rename is None match = match
  match_named is_dead (Some entries) names renamed rename is (Some account) match =
      (record { total = match.0.total; remaining = match.0.remaining; by_ledger = match.0.by_ledger }, ap rename match.1 ∙ sym is)

  rows-forget : (is_dead was_dead : ℕ → Bool) (ledger : ℕ) → ((l : ℕ) → is_dead l ≡ (was_dead l || ledger == l)) → (entries : List E)
      → map (forget_row ledger) (map (row_of was_dead) entries) ≡ map (row_of is_dead) entries
  rows-forget is_dead was_dead ledger more [] = refl
  rows-forget is_dead was_dead ledger more (e ∷ es) =
      let row : Bool → Row = λ b. record { ledger = measure.ledger e; size = measure.size e; forgotten = b } in
      ap (λ b. row b ∷ map (forget_row ledger) (map (row_of was_dead) es)) (sym (more (measure.ledger e)))
      ∙ ap (λ rest. row_of is_dead e ∷ rest) (rows-forget is_dead was_dead ledger more es)

  pub match_forget : (is_dead was_dead : ℕ → Bool) (ledger : ℕ) → ((l : ℕ) → is_dead l ≡ (was_dead l || ledger == l))
      → (entries : Option (List E)) (names : ℕ) (entry : Option Account)
      → Matches was_dead entries names entry → Matches is_dead entries names (option_map (without_size ledger) entry)
  match_forget is_dead was_dead ledger more None names None match = tt
  match_forget is_dead was_dead ledger more None names (Some account) match = match
  match_forget is_dead was_dead ledger more (Some entries) names None match = match
  match_forget is_dead was_dead ledger more (Some entries) names (Some account) match = (
    subst (λ rows. Tallies rows (without_size ledger account)) (rows-forget is_dead was_dead ledger more entries)
        (tallies_forget _ account ledger match.0),
    match.1,
  )
