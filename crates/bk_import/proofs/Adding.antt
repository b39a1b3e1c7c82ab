-- What one add, and one add after another, makes of the contents of a store on an honest disk.
use Rattle.std.proofs.Common.{◌≡◌, inl, inr, ℕ, Bool, true, false, cond, List, [], ◌∷◌, ◌++◌, Option, Some, None, IsSome, IsOk, Ok, Err, Result, IsTrue}
use Rattle.std.proofs.Common.{sym, ap, ◌∙◌, subst, refl, unwrap_or}
use Rattle.std.proofs.lemmas.List.Elements.{All-append, All-nil, All-replicate}
use Rattle.std.proofs.lemmas.List.Folds.{find-append}
use Rattle.std.specs.Option.{option_or}
use Rattle.std.specs.Ordering.{eq_by_cmp}
use Rattle.std.specs.FinMap as finite
use Rattle.std.specs.FinSet as set
use Rattle.bk_record.specs.Key.{EntryKey, key_cmp}
use Rattle.bk_record.specs.Record.{read_added}
use Rattle.bk_record.specs.Scan.{scan_of}
use Rattle.bk_record.proofs.Keys.{key_cmp_total, key_cmp_antisymmetric}
use Rattle.bk_record.proofs.Maps.{key_cases}
use Rattle.bk_store.specs.State.{State}
use Rattle.bk_store.specs.Contents.{SameContents, contents_at}
use Rattle.bk_store.specs.Transitions.{AddTransition}
use Rattle.bk_store.specs.Abstract.{AbstractState, AbstractAdd, StoreRefines, SatisfiesInvariant}
use Rattle.bk_store.specs.declared.adding.AddKind.TheVariants.{Ordinary}
use Rattle.bk_store.specs.declared.answer.AddFault.{AddFault}
use Rattle.bk_store.specs.declared.answer.AddFault.TheVariants as add_faults
use Rattle.bk_store.specs.declared.answer.Added.{Added}
use Rattle.bk_store.specs.declared.answer.Added.TheVariants.{Accepted, Held}
use Rattle.bk_store.proofs.Refinement.{agrees_of, plain_add}
use Rattle.bk_import.specs.Importing.{Gains, first_of, is_key}

-- ---- a store and the abstract map

-- the logical contents are the map
contents_at-map : (s : State) (p : AbstractState) → StoreRefines s p → (key : EntryKey) → contents_at s key ≡ finite.get p.map key
contents_at-map s p agrees key = sym (agrees.meaning key ∙ (λ i.
    cond (set.contains (sym agrees.ledgers i).dead key.ledger) None
    (option_or (option_or (finite.get (sym agrees.active i) key) (finite.get (unwrap_or (sym agrees.flush i) finite.empty) key)) (finite.get (scan_of s.files) key))))

-- an add of a store, with the map before and after
record Refined (s t : State) (payload : List ℕ) (added : Added) : Type 0 where
  before : AbstractState
  after : AbstractState
  old : StoreRefines s before
  new : StoreRefines t after
  step : AbstractAdd s.caches.limit Ordinary before payload (Ok added) after

refined : (s t : State) (payload : List ℕ) (added : Added) → SatisfiesInvariant s → IsTrue s.honest → AddTransition s Ordinary payload (Ok added) t
    → Refined s t payload added
refined s t payload added kept honest turn =
    subst (λ x. Refined x t payload added) kept.seen (
    let x = kept.parts.state in
    let contents = kept.keeps.promises (subst (λ y. IsTrue y.honest) (sym kept.seen) honest) in
    let p : AbstractState = record { map = contents.map.carried; ledgers = x.ledgers; active = x.caches.active; flush = x.caches.flush; fronts = x.fronts } in
    let old = agrees_of x p contents.map.carries refl refl refl refl in
    let done = plain_add kept.parts kept.keeps contents p old t Ordinary payload (Ok added) (subst (λ y. AddTransition y Ordinary payload (Ok added) t) (sym kept.seen) turn) in
    record { before = p; after = done.0; old = old; new = done.2; step = done.1 })

-- ---- one entry

same_key : (q key : EntryKey) → eq_by_cmp key_cmp q key ≡ true → q ≡ key
same_key q key is = elim (key_cases key_cmp_total key_cmp_antisymmetric q key) [
  | inl e ↦ e
  | inr other ↦ absurd (let wrong = other.0 in cc)
]

-- the first payload of a key among one: that, if it has the key
one_first : (payload : List ℕ) (key q : EntryKey) → read_added payload ≡ Ok key
    → first_of (payload ∷ []) q ≡ cond (eq_by_cmp key_cmp q key) (Some payload) None
one_first payload key q reads = ap (λ r. cond (is_key q r) (Some payload) None) reads

stays_at : (had : Option (List ℕ)) (is : Bool) (payload : List ℕ) → (is ≡ true → IsSome had) → had ≡ option_or had (cond is (Some payload) None)
stays_at (Some x) is payload there = refl
stays_at None true payload there = absurd (let wrong = there refl in cc)
stays_at None false payload there = refl

joins_at : (had : Option (List ℕ)) (is : Bool) (payload : List ℕ) → (is ≡ true → had ≡ None)
    → cond is (Some payload) had ≡ option_or had (cond is (Some payload) None)
joins_at None true payload missing = refl
joins_at None false payload missing = refl
joins_at (Some x) true payload missing = absurd (let wrong = missing refl in cc)
joins_at (Some x) false payload missing = refl

-- what the map has of each key after an add
map_after : (limit : ℕ) (p q : AbstractState) (payload : List ℕ) (added : Added) → AbstractAdd limit Ordinary p payload (Ok added) q → (key : EntryKey)
    → finite.get q.map key ≡ option_or (finite.get p.map key) (first_of (payload ∷ []) key)
map_after limit p q payload Held step key =
    let at = step.0 in
    let there : eq_by_cmp key_cmp key at ≡ true → IsSome (finite.get p.map key) =
    λ is. subst (λ k. IsSome (finite.get p.map k)) (sym (same_key key at is)) step.2 in
    ap (λ (x : AbstractState). finite.get x.map key) step.3 ∙ stays_at (finite.get p.map key) (eq_by_cmp key_cmp key at) payload there
    ∙ ap (option_or (finite.get p.map key)) (sym (one_first payload at key step.1.reads))
map_after limit p q payload (Accepted receipt) step key =
    let at = step.0 in
    let missing : eq_by_cmp key_cmp key at ≡ true → finite.get p.map key ≡ None =
    λ is. subst (λ k. finite.get p.map k ≡ None) (sym (same_key key at is)) step.1.missing in
    ap (λ (x : AbstractState). finite.get x.map key) step.4 ∙ finite.get-insert key_cmp_total p.map at payload key
    ∙ joins_at (finite.get p.map key) (eq_by_cmp key_cmp key at) payload missing
    ∙ ap (option_or (finite.get p.map key)) (sym (one_first payload at key step.1.live.reads))

is_entry : (limit : ℕ) (p q : AbstractState) (payload : List ℕ) (added : Added) → AbstractAdd limit Ordinary p payload (Ok added) q → IsOk (read_added payload)
is_entry limit p q payload Held step = subst IsOk (sym step.1.reads) refl
is_entry limit p q payload (Accepted receipt) step = subst IsOk (sym step.1.live.reads) refl

-- The store gains the entry that it adds, or has one of this key.
pub add_gains : (s t : State) (payload : List ℕ) (added : Added) → SatisfiesInvariant s → IsTrue s.honest → AddTransition s Ordinary payload (Ok added) t
    → Gains (contents_at s) (contents_at t) (payload ∷ [])
add_gains s t payload added kept honest turn =
    let r = refined s t payload added kept honest turn in record {
      entries = All-replicate (λ p. IsOk (read_added p)) 1 payload (is_entry s.caches.limit r.before r.after payload added r.step);
      contents = λ key. contents_at-map t r.after r.new key ∙ map_after s.caches.limit r.before r.after payload added r.step key
          ∙ ap (λ o. option_or o (first_of (payload ∷ []) key)) (sym (contents_at-map s r.before r.old key));
    }

-- ---- several

option_or-none : (o : Option (List ℕ)) → o ≡ option_or o None
option_or-none None = refl
option_or-none (Some x) = refl

option_or-assoc : (a b c : Option (List ℕ)) → option_or (option_or a b) c ≡ option_or a (option_or b c)
option_or-assoc None b c = refl
option_or-assoc (Some x) b c = refl

-- the same contents gained nothing
pub gains_none : (had : EntryKey → Option (List ℕ)) → Gains had had []
gains_none had = record { entries = All-nil (λ p. IsOk (read_added p)); contents = λ key. option_or-none (had key) }

pub gains_more : (a b c : EntryKey → Option (List ℕ)) (xs ys : List (List ℕ)) → Gains a b xs → Gains b c ys → Gains a c (xs ++ ys)
gains_more a b c xs ys first second = record {
  entries = All-append (λ payload. IsOk (read_added payload)) xs ys first.entries second.entries;
  contents = λ key. second.contents key ∙ ap (λ o. option_or o (first_of ys key)) (first.contents key)
      ∙ option_or-assoc (a key) (first_of xs key) (first_of ys key)
      ∙ ap (option_or (a key)) (sym (find-append (λ payload. is_key key (read_added payload)) xs ys));
}

-- contents that stayed the same before
pub gains_after : (s t u : State) (xs : List (List ℕ)) → SameContents s t → Gains (contents_at t) (contents_at u) xs → Gains (contents_at s) (contents_at u) xs
gains_after s t u xs same gained =
    record { entries = gained.entries; contents = λ key. gained.contents key ∙ ap (λ o. option_or o (first_of xs key)) (same key) }

-- no add changes the honesty of the disk
pub add_honest : (s t : State) (payload : List ℕ) (result : Result Added AddFault) → AddTransition s Ordinary payload result t → t.honest ≡ s.honest
add_honest s t payload (Ok Held) turn = ap (λ (x : State). x.honest) turn.1
add_honest s t payload (Ok (Accepted receipt)) turn = ap (λ (x : State). x.honest) turn.3
add_honest s t payload (Err (add_faults.Bad fault)) turn = ap (λ (x : State). x.honest) turn.1
add_honest s t payload (Err add_faults.Deleted) turn = ap (λ (x : State). x.honest) turn.3
add_honest s t payload (Err add_faults.Fenced) turn = ap (λ (x : State). x.honest) turn.4
add_honest s t payload (Err (add_faults.Full used limit)) turn = ap (λ (x : State). x.honest) turn.4
add_honest s t payload (Err add_faults.Memory) turn = ap (λ (x : State). x.honest) turn.2
