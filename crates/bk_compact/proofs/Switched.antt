-- Taking relocations one after another.
use Rattle.std.proofs.Common.{◌≡◌, ℕ, zero, suc, ◌+◌, ◌≤◌, Bool, true, false, if◌then◌else◌, IsTrue, List, []}
use Rattle.std.proofs.Common.{◌∷◌, ◌++◌, length, take, drop, refl, sym, ap, subst, ◌∙◌, arith}
use Rattle.std.proofs.lemmas.List.{take_all}
use Rattle.std.proofs.Math.ListN.{drop_of_length-le}
use Rattle.bk_store.specs.State.{State}
use Rattle.bk_store.specs.Contents.{SameContents, PreservesContents}
use Rattle.bk_store.specs.Jobs.{Job, waits_from}
use Rattle.bk_store.specs.CompactionPrimitives.{RelocateTransition}
use Rattle.bk_store.specs.declared.job.Move.{Move}
use Rattle.bk_store.specs.declared.job.Phase.TheVariants.{Switch}
use Rattle.bk_compact.specs.Compacting.{TakesMoves}
use Rattle.bk_compact.specs.JobSteps.{IsTakenOut, Switches}
use Rattle.bk_compact.proofs.Ended.{switched_out}

-- ---- lists

next_taken : {X : Type 0} (xs : List X) (n : ℕ) (x : X) (later : List X) → drop n xs ≡ x ∷ later → take (suc n) xs ≡ take n xs ++ x ∷ []
next_taken [] n x later is = absurd (none n is)
  where
    none : (n : ℕ) → drop n [] ≡ x ∷ later → ⊥
    none zero wrong = cc
    none (suc n) wrong = cc
next_taken (y ∷ ys) zero x later is = let same : y ≡ x = cc in ap (λ z. z ∷ []) same
next_taken (y ∷ ys) (suc n) x later is = ap (λ l. y ∷ l) (next_taken ys n x later is)

next_left : {X : Type 0} (xs : List X) (n : ℕ) (x : X) (later : List X) → drop n xs ≡ x ∷ later → drop (suc n) xs ≡ later
next_left [] n x later is = absurd (none n is)
  where
    none : (n : ℕ) → drop n [] ≡ x ∷ later → ⊥
    none zero wrong = cc
    none (suc n) wrong = cc
next_left (y ∷ ys) zero x later is = cc
next_left (y ∷ ys) (suc n) x later is = next_left ys n x later is

none_left : {X : Type 0} (xs : List X) (n : ℕ) → drop n xs ≡ [] → length xs ≤ n
none_left [] n is = omega arith
none_left (y ∷ ys) zero is = absurd (cc)
none_left (y ∷ ys) (suc n) is = let rest = none_left ys n is in omega (arith, rest)

-- ---- the relocations taken

takes_more : (s t u : State) (moves : List Move) (moved : ℕ) (first : Move) (is_moved : Bool) → TakesMoves s moves moved t
    → RelocateTransition t first.key first.from first.to is_moved u → TakesMoves s (moves ++ first ∷ []) (moved + (if is_moved then 1 else 0)) u
takes_more s t u [] moved first is_moved takes turn = (
  is_moved,
  (
    u,
    subst (λ (x : State). RelocateTransition x first.key first.from first.to is_moved u) takes.1 turn,
    (0, (let none = takes.0 in omega (arith, none)), (refl, refl)),
  ),
)
takes_more s t u (m ∷ ms) moved first is_moved takes turn = (
  takes.0,
  (
    takes.1.0,
    takes.1.1,
    (
      takes.1.2.0 + (if is_moved then 1 else 0),
      (let sum = takes.1.2.1 in omega (arith, sum)),
      takes_more takes.1.0 t u ms takes.1.2.0 first is_moved takes.1.2.2 turn,
    ),
  ),
)

-- Loop invariant: the first n relocations of the job were taken, and `moved` of them switched their
-- index entry.
pub record IsTaking (s : State) (job : Job) (n moved : ℕ) (t : State) (after : Job) : Type 0 where
  pub takes : TakesMoves s (take n job.moves) moved t
  pub left : after ≡ record job { moves = drop n job.moves }
  pub few : moved ≤ n
  pub out : IsTakenOut t after
  pub stays : PreservesContents s t

module _ (s : State) (job : Job) (n moved : ℕ) (t : State) (after : Job) (so_far : IsTaking s job n moved t after) (phase : job.phase ≡ Switch) where
  pub after_phase : after.phase ≡ Switch
  after_phase = ap (λ (j : Job). j.phase) so_far.left ∙ phase

  pub taking_more : (first : Move) (rest : Job) → waits_from after first rest → (is_moved : Bool) (u : State)
      → RelocateTransition t first.key first.from first.to is_moved u → (IsTrue t.honest → SameContents t u)
      → IsTaking s job (n + 1) (moved + (if is_moved then 1 else 0)) u rest
  taking_more first rest waits is_moved u turn means =
      let next : drop n job.moves ≡ first ∷ rest.moves = sym (ap (λ (j : Job). j.moves) so_far.left) ∙ waits.0 in
      let honest : u.honest ≡ t.honest = renamed_honest is_moved turn in
      let more : suc n ≡ n + 1 = omega arith in
      record {
        takes = subst (λ ms. TakesMoves s ms (moved + (if is_moved then 1 else 0)) u)
            (sym (next_taken job.moves n first rest.moves next) ∙ ap (λ k. take k job.moves) more)
            (takes_more s t u (take n job.moves) moved first is_moved so_far.takes turn);
        left = waits.1 ∙ ap (λ (j : Job). record j { moves = rest.moves }) so_far.left
            ∙ ap (λ (ms : List Move). record job { moves = ms }) (sym (next_left job.moves n first rest.moves next) ∙ ap (λ k. drop k job.moves) more);
        few = let old = so_far.few in at_most is_moved old;
        out = switched_out t u after rest first so_far.out after_phase waits is_moved turn;
        stays = record {
          honest = honest ∙ so_far.stays.honest;
          meaning = λ truth key. means (so_far.stays.honest ∙ truth) key ∙ so_far.stays.meaning truth key;
        };
      }
    where
      renamed_honest : (b : Bool) → RelocateTransition t first.key first.from first.to b u → u.honest ≡ t.honest
      renamed_honest true is = ap (λ (x : State). x.honest) is.1
      renamed_honest false is = ap (λ (x : State). x.honest) is.1

      at_most : (b : Bool) → moved ≤ n → moved + (if b then 1 else 0) ≤ n + 1
      at_most true old = omega (arith, old)
      at_most false old = omega (arith, old)

  -- no relocation is pending
  pub taking_stops : (count : ℕ) → n ≤ count → after.moves ≡ [] → Switches s job count moved t after
  taking_stops count within none =
      let gone : drop n job.moves ≡ [] = sym (ap (λ (j : Job). j.moves) so_far.left) ∙ none in
      let long = none_left job.moves n gone in
      record {
        takes = subst (λ ms. TakesMoves s ms moved t) (take_all n job.moves long ∙ sym (take_all count job.moves (omega (arith, long, within)))) so_far.takes;
        left = so_far.left ∙ ap (λ (ms : List Move). record job { moves = ms })
            (gone ∙ sym (drop_of_length-le job.moves {i = count} (omega (arith, long, within))));
      }

  -- the requested number was taken
  pub taking_ends : (count : ℕ) → n ≡ count → Switches s job count moved t after
  taking_ends count same = subst (λ c. Switches s job c moved t after) same (record { takes = so_far.takes; left = so_far.left })
