-- The keys of a ledger lose their names one by one, and those that no write cache has are counted.
use Rattle.std.proofs.Common.{◌≡◌, ℕ, ◌+◌, ◌<◌, ◌≤◌, ◌==◌, ◌&&◌, if◌then◌else◌, Bool, true, false, cond, not, List, [], ◌∷◌, length}
use Rattle.std.proofs.Common.{Option, Some, None, IfSome, is_some, option_map, refl, sym, ap, subst, ◌∙◌, arith}
use Rattle.std.specs.List.{filter, count_by}
use Rattle.std.specs.FinMap as finite
use Rattle.std.proofs.lemmas.Bool.{eq-eqb, eqb-true}
use Rattle.std.proofs.lemmas.List.Sums.{sum_by-cons, count_by-le-length}
use Rattle.bk_record.specs.Key.{EntryKey}
use Rattle.bk_record.specs.Location.{Place}
use Rattle.bk_record.specs.Keyed.{without_ledger, log_count, Places}
use Rattle.bk_record.proofs.Keys.{key_cmp_total, key_cmp_antisymmetric}
use Rattle.bk_record.proofs.SortedMaps.{entries-retain_keys}
use Rattle.bk_record.proofs.KeyedCounts.{log_count-without_ledger}
use Rattle.bk_cache.specs.Caches.{CacheState, write_cached_payload}
use Rattle.bk_accounts.specs.Account.{Account, without_name}
use Rattle.bk_accounts.specs.Account.{without_size}
use Rattle.bk_accounts.specs.Book.{Book, named_in, after_unname, after_forget}
use Rattle.bk_accounts.proofs.Books.{get-changed, get-after_forget}
use Rattle.bk_store.specs.Deletion.{AreNamedBy, AreLeft}

abbrev Listed : Type 0
Listed = List (EntryKey × Place)

-- how many of the entries are in a log
abbrev pub in_log : ℕ → Listed → ℕ
in_log log entries = count_by (λ e. e.1.log == log) entries

abbrev pub one_if : Bool → ℕ
one_if b = cond b 1 0

-- no write cache has the key
abbrev is_alone : CacheState → EntryKey × Place → Bool
is_alone s e = not (is_some (write_cached_payload s e.0))

-- each log has n index entries, and those of the entries still to come
abbrev pub IsUnnaming : (ℕ → ℕ) → Book → Book → Listed → Type 0
IsUnnaming names old now rest = (log : ℕ)
    → finite.get now log ≡ option_map (λ (account : Account). record account { named = names log + in_log log rest }) (finite.get old log)

module _ (names : ℕ → ℕ) (old now : Book) (e : EntryKey × Place) (rest : Listed) (so_far : IsUnnaming names old now (e ∷ rest)) where
  -- what a log has of the entries to come
  more : (log : ℕ) → in_log log (e ∷ rest) ≡ cond (e.1.log == log) 1 0 + in_log log rest
  more log = sum_by-cons (λ (x : EntryKey × Place). cond (x.1.log == log) 1 0) e rest

  pub unnamed : IsUnnaming names old (after_unname now e.1.log) rest
  unnamed log =
      get-changed now e.1.log log without_name
      ∙ ap (option_map (λ account. if log == e.1.log then without_name account else account)) (so_far log)
      ∙ elim (log == e.1.log) as (λ b. (log == e.1.log) ≡ b → option_map (λ account. if b then without_name account else account)
      (option_map (λ (account : Account). record account { named = names log + in_log log (e ∷ rest) }) (finite.get old log))
      ≡ option_map (λ (account : Account). record account { named = names log + in_log log rest }) (finite.get old log)) [
        | true ↦ λ same.
            let one = more log ∙ ap (λ b. one_if b + in_log log rest) (eq-eqb e.1.log log (sym (eqb-true log e.1.log same))) in
            less log (finite.get old log) (omega (arith, one))
        | false ↦ λ apart.
            let none = more log ∙ ap (λ b. one_if b + in_log log rest) (other log apart (e.1.log == log) refl) in
            kept log (finite.get old log) (omega (arith, none))
      ] refl
    where
      other : (log : ℕ) → (log == e.1.log) ≡ false → (b : Bool) → (e.1.log == log) ≡ b → b ≡ false
      other log apart false is = refl
      other log apart true is = let same = eq-eqb log e.1.log (sym (eqb-true e.1.log log is)) in cc

      less : (log : ℕ) (o : Option Account) → in_log log (e ∷ rest) ≡ in_log log rest + 1
          → option_map without_name (option_map (λ (account : Account). record account { named = names log + in_log log (e ∷ rest) }) o)
          ≡ option_map (λ (account : Account). record account { named = names log + in_log log rest }) o
      less log None is = refl
      less log (Some account) is = ap (λ n. Some (record account { named = n })) (omega (arith, is))

      kept : (log : ℕ) (o : Option Account) → in_log log (e ∷ rest) ≡ in_log log rest
          → option_map (λ account. account) (option_map (λ (account : Account). record account { named = names log + in_log log (e ∷ rest) }) o)
          ≡ option_map (λ (account : Account). record account { named = names log + in_log log rest }) o
      kept log None is = refl
      kept log (Some account) is = ap (λ n. Some (record account { named = names log + n })) is

-- So far: each log has the names of the keys that the index will have, and of those still to come;
-- and n were counted that with those to come they are all.
pub record Goes (index : Places) (s : CacheState) (ledger : ℕ) (old now : Book) (alone : ℕ) (rest : Listed) : Type 0 where
  pub named : IsUnnaming (log_count (without_ledger index ledger)) old now rest
  pub counted : alone + count_by (is_alone s) rest ≡ count_by (λ e. (e.0.ledger == ledger) && is_alone s e) (finite.entries index)

-- ---- before the first

count_by-both : (p q : EntryKey × Place → Bool) (es : Listed) → count_by q (filter p es) ≡ count_by (λ e. p e && q e) es
count_by-both p q [] = refl
count_by-both p q (e ∷ es) =
    elim (p e) as (λ b. count_by q (cond b (e ∷ filter p es) (filter p es)) ≡ cond (b && q e) 1 0 + count_by (λ x. p x && q x) es) [
      | true ↦ omega (arith, sum_by-cons (λ x. cond (q x) 1 0) e (filter p es), count_by-both p q es)
      | false ↦ omega (arith, count_by-both p q es)
    ] ∙ sym (sum_by-cons (λ x. cond (p x && q x) 1 0) e es)

pub alone-le : (index : Places) (s : CacheState) (ledger : ℕ)
    → count_by (λ e. (e.0.ledger == ledger) && is_alone s e) (finite.entries index) ≤ length (filter (λ e. e.0.ledger == ledger) (finite.entries index))
alone-le index s ledger =
    omega (
      arith,
      count_by-both (λ e. e.0.ledger == ledger) (is_alone s) (finite.entries index),
      count_by-le-length (is_alone s) (filter (λ e. e.0.ledger == ledger) (finite.entries index)),
    )

pub goes_first : (index : Places) (s : CacheState) (ledger : ℕ) (book : Book)
    → ((log : ℕ) → IfSome (named_in book log) (λ named. named ≡ log_count index log))
    → Goes index s ledger book book 0 (filter (λ e. e.0.ledger == ledger) (finite.entries index))
goes_first index s ledger book names = record {
  named = λ log. all log (finite.get book log) (names log);
  counted = omega (arith, count_by-both (λ e. e.0.ledger == ledger) (is_alone s) (finite.entries index));
}
  where
    of_both : (log : ℕ) → log_count (without_ledger index ledger) log
        + in_log log (filter (λ e. e.0.ledger == ledger) (finite.entries index)) ≡ log_count index log
    of_both log =
        ap (λ es. log_count (without_ledger index ledger) log + in_log log es)
        (sym (entries-retain_keys key_cmp_total key_cmp_antisymmetric index (λ k. k.ledger == ledger)))
        ∙ log_count-without_ledger index ledger log

    all : (log : ℕ) (o : Option Account) → IfSome (option_map (λ account. account.named) o) (λ named. named ≡ log_count index log)
        → o ≡ option_map (λ (account : Account). record account {
          named = log_count (without_ledger index ledger) log
              + in_log log (filter (λ e. e.0.ledger == ledger) (finite.entries index));
        }) o
    all log None _ = refl
    all log (Some account) is = ap (λ n. Some (record account { named = n })) (is ∙ sym (of_both log))

-- ---- one more

module _ {index : Places} {s : CacheState} {ledger : ℕ} {old now : Book} {alone : ℕ} (e : EntryKey × Place) (rest : Listed)
    (goes : Goes index s ledger old now alone (e ∷ rest)) where
  counts : count_by (is_alone s) (e ∷ rest) ≡ cond (is_alone s e) 1 0 + count_by (is_alone s) rest
  counts = sum_by-cons (λ x. cond (is_alone s x) 1 0) e rest

  -- n are counted of the one entry
  pub goes_on : (new : Book) (n : ℕ) → new ≡ after_unname now e.1.log → n ≡ one_if (is_alone s e) → Goes index s ledger old new (alone + n) rest
  goes_on new n is one = record {
    named = λ log. ap (λ b. finite.get b log) is ∙ unnamed (log_count (without_ledger index ledger)) old now e rest goes.named log;
    counted = omega (arith, goes.counted, counts, one);
  }

  -- the log of the entry has a name for it
  pub named-more : IfSome (named_in now e.1.log) (λ named. 0 < named)
  named-more = subst (λ o. IfSome (option_map (λ (account : Account). account.named) o) (λ named. 0 < named)) (sym (goes.named e.1.log)) (some (finite.get old e.1.log))
    where
      one : in_log e.1.log (e ∷ rest) ≡ 1 + in_log e.1.log rest
      one = sum_by-cons (λ (x : EntryKey × Place). cond (x.1.log == e.1.log) 1 0) e rest ∙ ap (λ b. one_if b + in_log e.1.log rest) (eq-eqb e.1.log e.1.log refl)

      some : (o : Option Account) → IfSome (option_map (λ (account : Account). account.named)
          (option_map (λ (account : Account). record account { named = log_count (without_ledger index ledger) e.1.log + in_log e.1.log (e ∷ rest) }) o)) (λ named. 0 < named)
      some None = tt
      some (Some account) = omega (arith, one)

  pub alone-more : (n : ℕ) → n ≡ one_if (is_alone s e) → alone + n ≤ count_by (λ x. (x.0.ledger == ledger) && is_alone s x) (finite.entries index)
  alone-more n one = omega (arith, goes.counted, counts, one)

-- ---- after the last

module _ {index : Places} {s : CacheState} {ledger : ℕ} {old now : Book} {alone : ℕ} (goes : Goes index s ledger old now alone []) where
  pub all_counted : alone ≡ count_by (λ e. (e.0.ledger == ledger) && is_alone s e) (finite.entries index)
  all_counted = omega (arith, goes.counted)

-- the ledger is forgotten then
pub left_behind : (index left : Places) (ledger : ℕ) (old seen now new : Book) → seen ≡ old → AreNamedBy (without_ledger index ledger) seen now
    → new ≡ after_forget now ledger → left ≡ without_ledger index ledger → AreLeft left ledger old new
left_behind index left ledger old seen now new same named is without log =
    ap (λ b. finite.get b log) is ∙ get-after_forget now ledger log
    ∙ ap (option_map (without_size ledger)) (named log
    ∙ ap (λ b. option_map (λ (account : Account). record account { named = log_count (without_ledger index ledger) log }) (finite.get b log)) same)
    ∙ both (finite.get old log)
    ∙ ap (λ i. option_map (λ (account : Account). record account { named = log_count i log; live = finite.remove account.live ledger })
    (finite.get old log)) (sym without)
  where
    both : (o : Option Account)
        → option_map (without_size ledger) (option_map (λ (account : Account). record account { named = log_count (without_ledger index ledger) log }) o)
        ≡ option_map (λ (account : Account). record account { named = log_count (without_ledger index ledger) log; live = finite.remove account.live ledger }) o
    both None = refl
    both (Some account) = refl
