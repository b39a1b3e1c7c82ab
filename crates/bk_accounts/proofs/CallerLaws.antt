-- For callers that know the entries of each log: each call preserves `AreSums`.
use Rattle.std.proofs.Common.{◌≡◌, ℕ, ◌+◌, ◌-◌, Bool, true, false, cond, ◌||◌, ◌==◌, List, [], ◌∷◌, ◌++◌, Some, None, Option, if◌then◌else◌}
use Rattle.std.proofs.Common.{IsNone, nat_cmp, refl, sym, ap, subst, ◌∙◌, arith, eqb-true, eq-eqb}
use Rattle.std.specs.Option.{option_map}
use Rattle.std.specs.Cmp.{nat_cmp_total, eq_by_cmp_equiv, unsigned_tied}
use Rattle.std.specs.FinSet.{FinSet, contains, insert, contains-insert}
use Rattle.std.specs.FinMap as finmap
use Rattle.std.specs.FinMap.{get, remove, get-empty, get-insert, get-remove}
use Rattle.bk_accounts.specs.Account.{Account, fresh, with_room, with_size, with_dead_size, with_name, without_name, without_size}
use Rattle.bk_accounts.specs.Book.{Book, IsNotOpen, book_with, after_open, after_ready, after_count}
use Rattle.bk_accounts.specs.Book.{after_count_dead, after_name, after_unname, after_drop}
use Rattle.bk_accounts.specs.Sums.{Measure, AreSums, all_bytes}
use Rattle.bk_accounts.proofs.Books.{map_same, get-changed}
use Rattle.bk_accounts.proofs.EntrySums.{Matches, HasSums, sums_of_match, match_of_sums, match_fresh, match_room, match_count, match_dead, match_named}
use Rattle.bk_accounts.proofs.EntrySums.{match_forget}

-- a set of deleted ledgers with one more, in the form that `sums_left` uses
pub contains-insert_dead : (dead : FinSet nat_cmp) (ledger l : ℕ) → contains (insert dead ledger) l ≡ (contains dead l || ledger == l)
contains-insert_dead dead ledger l =
    contains-insert nat_cmp_total dead ledger l
    ∙ ap (λ b. b || contains dead l) ((eq_by_cmp_equiv nat_cmp_total).symm l ledger ∙ unsigned_tied ledger l) ∙ swapped (ledger == l) (contains dead l)
  where
    swapped : (a b : Bool) → (a || b) ≡ (b || a)
    swapped true true = refl
    swapped true false = refl
    swapped false true = refl
    swapped false false = refl

here : (q log : ℕ) → q ≡ log → (q == log) ≡ true
here q log same = eq-eqb q log same

module _ {E : Type 0} (measure : Measure E) where
  all : (is_dead : ℕ → Bool) (entries : ℕ → Option (List E)) (names : ℕ → ℕ) (book : Book)
      → ((log : ℕ) → Matches measure is_dead (entries log) (names log) (get book log)) → AreSums measure is_dead entries names book
  all is_dead entries names book match =
      let each : (log : ℕ) → HasSums measure is_dead (entries log) (names log) (get book log) =
      λ log. sums_of_match measure is_dead (entries log) (names log) (get book log) (match log) in
      record {
        total = λ log. (each log).total;
        remaining = λ log. (each log).remaining;
        by_ledger = λ log ledger. (each log).by_ledger ledger;
        named = λ log. (each log).named;
      }

  each : {is_dead : ℕ → Bool} {entries : ℕ → Option (List E)} {names : ℕ → ℕ} {book : Book} → AreSums measure is_dead entries names book
      → (log : ℕ) → Matches measure is_dead (entries log) (names log) (get book log)
  each {is_dead = is_dead} {entries = entries} {names = names} {book = book} sums log =
      match_of_sums measure is_dead (entries log) (names log) (get book log) (record {
        total = sums.total log;
        remaining = sums.remaining log;
        by_ledger = sums.by_ledger log;
        named = sums.named log;
      })

  -- no log is open
  pub sums_new : (is_dead : ℕ → Bool) (names : ℕ → ℕ) → AreSums measure is_dead (λ _. None) names finmap.empty
  sums_new is_dead names = all is_dead (λ _. None) names finmap.empty (λ log. subst (Matches measure is_dead None (names log)) (sym (get-empty nat_cmp log)) tt)

  module _ {is_dead : ℕ → Bool} {entries : ℕ → Option (List E)} {names : ℕ → ℕ} {book : Book} (sums : AreSums measure is_dead entries names book) where
    -- the account of one log changes, and of no other
    changed_log : (log : ℕ) (change : Account → Account) (later : ℕ → Option (List E)) (renamed : ℕ → ℕ)
        → ((q : ℕ) → q ≡ log → Matches measure is_dead (later q) (renamed q) (option_map change (get book q)))
        → ((q : ℕ) → (q == log) ≡ false → (later q ≡ entries q) × (renamed q ≡ names q))
        → AreSums measure is_dead later renamed (book_with book log change)
    changed_log log change later renamed inside others = all is_dead later renamed (book_with book log change) (λ q.
        subst (Matches measure is_dead (later q) (renamed q)) (sym (get-changed book log q change))
        (elim (q == log) as (λ b. (q == log) ≡ b
        → Matches measure is_dead (later q) (renamed q) (option_map (λ account. if b then change account else account) (get book q))) [
          | true ↦ λ is. inside q (eqb-true q log is)
          | false ↦ λ apart.
              let kept = others q apart in
              subst (λ o. Matches measure is_dead o (renamed q) (option_map (λ account. account) (get book q))) (sym kept.0)
              (subst (λ n. Matches measure is_dead (entries q) n (option_map (λ account. account) (get book q))) (sym kept.1)
              (subst (Matches measure is_dead (entries q) (names q)) (sym (map_same (get book q))) (each sums q)))
        ] refl))

    -- the list of entries of one log grows, and of no other
    grown : (log : ℕ) (old : List E) (e : E) (change : Account → Account) (later : ℕ → Option (List E)) → entries log ≡ Some old
        → ((q : ℕ) → later q ≡ (if q == log then Some (old ++ e ∷ []) else entries q))
        → ((names : ℕ) (entry : Option Account) → Matches measure is_dead (Some old) names entry
        → Matches measure is_dead (Some (old ++ e ∷ [])) names (option_map change entry))
        → AreSums measure is_dead later names (book_with book log change)
    grown log old e change later was is keeps = changed_log log change later names
        (λ q same.
        let now : later q ≡ Some (old ++ e ∷ []) = is q ∙ ap (λ b. if b then Some (old ++ e ∷ []) else entries q) (here q log same) in
        subst (λ o. Matches measure is_dead o (names q) (option_map change (get book q))) (sym now)
        (keeps (names q) (get book q) (subst (λ o. Matches measure is_dead o (names q) (get book q)) (ap entries same ∙ was) (each sums q))))
        (λ q apart. (is q ∙ ap (λ b. if b then Some (old ++ e ∷ []) else entries q) apart, refl))

    -- `open` of a log that no index entry points into: an empty list of entries
    pub sums_open : (log : ℕ) (later : ℕ → Option (List E)) → names log ≡ 0
        → ((q : ℕ) → later q ≡ (if q == log then Some [] else entries q)) → AreSums measure is_dead later names (after_open book log)
    sums_open log later none is = all is_dead later names (after_open book log) (λ q.
        subst (Matches measure is_dead (later q) (names q))
        (sym (get-insert nat_cmp_total book log fresh q ∙ ap (λ b. cond b (Some fresh) (get book q)) (unsigned_tied q log)))
        (subst (λ o. Matches measure is_dead o (names q) (cond (q == log) (Some fresh) (get book q))) (sym (is q))
        (elim (q == log) as (λ b. (q == log) ≡ b → Matches measure is_dead (if b then Some [] else entries q) (names q) (cond b (Some fresh) (get book q))) [
          | true ↦ λ same. match_fresh measure is_dead (names q) (ap names (eqb-true q log same) ∙ none)
          | false ↦ λ _. each sums q
        ] refl)))

    -- `drop_log`
    pub sums_drop : (log : ℕ) (later : ℕ → Option (List E)) → ((q : ℕ) → later q ≡ (if q == log then None else entries q))
        → AreSums measure is_dead later names (after_drop book log)
    sums_drop log later is = all is_dead later names (after_drop book log) (λ q.
        subst (Matches measure is_dead (later q) (names q))
        (sym (get-remove nat_cmp_total book log q ∙ ap (λ b. cond b None (get book q)) (unsigned_tied q log)))
        (subst (λ o. Matches measure is_dead o (names q) (cond (q == log) None (get book q))) (sym (is q))
        (elim (q == log) as (λ b. Matches measure is_dead (if b then None else entries q) (names q) (cond b None (get book q))) [
          | true ↦ tt
          | false ↦ each sums q
        ])))

    -- `ready` changes no sum
    pub sums_ready : (log ledger : ℕ) → AreSums measure is_dead entries names (after_ready book log ledger)
    sums_ready log ledger = changed_log log (with_room ledger) entries names
        (λ q _. match_room measure is_dead (entries q) (names q) ledger (get book q) (each sums q)) (λ q _. (refl, refl))

    -- `count` of an entry of a live ledger, after the log's other entries
    pub sums_count : (log : ℕ) (old : List E) (e : E) (later : ℕ → Option (List E)) → entries log ≡ Some old → is_dead (measure.ledger e) ≡ false
        → ((q : ℕ) → later q ≡ (if q == log then Some (old ++ e ∷ []) else entries q))
        → AreSums measure is_dead later names (after_count book log (measure.ledger e) (measure.size e))
    sums_count log old e later was live is =
        grown log old e (with_size (measure.ledger e) (measure.size e)) later was is (λ n. match_count measure is_dead old n e live)

    -- `count_dead` of an entry of a deleted ledger
    pub sums_count_dead : (log : ℕ) (old : List E) (e : E) (later : ℕ → Option (List E)) → entries log ≡ Some old → is_dead (measure.ledger e) ≡ true
        → ((q : ℕ) → later q ≡ (if q == log then Some (old ++ e ∷ []) else entries q))
        → AreSums measure is_dead later names (after_count_dead book log (measure.size e))
    sums_count_dead log old e later was dead is = grown log old e (with_dead_size (measure.size e)) later was is (λ n. match_dead measure is_dead old n e dead)

    -- `unname` for each key of a ledger, then its `forget`: the ledger is deleted, and each log has
    -- the names that are left
    pub sums_left : (dead_now : ℕ → Bool) (ledger : ℕ) (renamed : ℕ → ℕ) (left : Book) → ((l : ℕ) → dead_now l ≡ (is_dead l || ledger == l))
        → ((log : ℕ) → get left log ≡ option_map (λ (account : Account). record account { named = renamed log; live = remove account.live ledger }) (get book
        log))
        → AreSums measure dead_now entries renamed left
    sums_left dead_now ledger renamed left more is = all dead_now entries renamed left (λ log.
        subst (Matches measure dead_now (entries log) (renamed log)) (sym (is log ∙ both (renamed log) (get book log)))
        (match_named measure dead_now (entries log) (names log) (renamed log) (λ _. renamed log) refl (option_map (without_size ledger) (get book log))
        (match_forget measure dead_now is_dead ledger more (entries log) (names log) (get book log) (each sums log))))
      where
        both : (n : ℕ) (o : Option Account) → option_map (λ (account : Account). record account { named = n; live = remove account.live ledger }) o
            ≡ option_map (λ (account : Account). record account { named = n }) (option_map (without_size ledger) o)
        both n None = refl
        both n (Some account) = refl

    -- `name`: one more name
    pub sums_name : (log : ℕ) (renamed : ℕ → ℕ) → ((q : ℕ) → renamed q ≡ (if q == log then names q + 1 else names q))
        → AreSums measure is_dead entries renamed (after_name book log)
    sums_name log renamed is = changed_log log with_name entries renamed
        (λ q same. match_named measure is_dead (entries q) (names q) (renamed q) (λ n. n + 1)
        (is q ∙ ap (λ b. if b then names q + 1 else names q) (here q log same)) (get book q) (each sums q))
        (λ q apart. (refl, is q ∙ ap (λ b. if b then names q + 1 else names q) apart))

    -- `unname`: one name fewer
    pub sums_unname : (log : ℕ) (renamed : ℕ → ℕ) → ((q : ℕ) → names q ≡ (if q == log then renamed q + 1 else renamed q))
        → AreSums measure is_dead entries renamed (after_unname book log)
    sums_unname log renamed is = changed_log log without_name entries renamed
        (λ q same.
        let more : names q ≡ renamed q + 1 = is q ∙ ap (λ b. if b then renamed q + 1 else renamed q) (here q log same) in
        match_named measure is_dead (entries q) (names q) (renamed q) (λ n. n - 1) (omega arith) (get book q) (each sums q))
        (λ q apart. (refl, sym (is q ∙ ap (λ b. if b then renamed q + 1 else renamed q) apart)))

    -- a log without a list of entries is not open
    pub sums_is_closed : (log : ℕ) → entries log ≡ None → IsNotOpen book log
    sums_is_closed log none = nowhere (get book log) (sums.total log ∙ ap (option_map (all_bytes measure)) none)
      where
        nowhere : (o : Option Account) → option_map (λ account. account.total) o ≡ None → IsNone o
        nowhere None is = refl
        nowhere (Some account) is = cc
