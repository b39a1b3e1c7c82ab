-- Records without the deletions of a ledger.
use Rattle.std.proofs.Common.{◌≡◌, Bool, true, false, cond, List, [], ◌∷◌, fold, refl, sym, ap, ◌∙◌}
use Rattle.std.specs.Prelude.{Option, None, Some, ℕ}
use Rattle.std.specs.Ordering.{eq_by_cmp}
use Rattle.std.specs.Option.{option_map, option_flatten}
use Rattle.std.specs.Cmp.{IsEquivalence}
use Rattle.std.specs.BTreeMap.{is_at, get}
use Rattle.std.proofs.lemmas.Cmp.{eq_by_cmp_equiv}
use Rattle.bk_manifest.specs.declared.record.Record.{Record}
use Rattle.bk_manifest.specs.declared.subject.Subject.{Subject}
use Rattle.bk_manifest.specs.declared.state.State.{State}
use Rattle.bk_manifest.specs.Subject.{subject_cmp, subject_total}
use Rattle.bk_manifest.specs.Fact.{Fact, fact}
use Rattle.bk_manifest.specs.State.{subject_of, the_deletion, is_about, last_after, last_about, said, without_deletion, without_deletions, IsStateOf}

alike : IsEquivalence (eq_by_cmp subject_cmp)
alike = eq_by_cmp_equiv subject_total

-- a record about the same subject, and about another one
same_about : (d s : Subject) (x : Fact) → eq_by_cmp subject_cmp d s ≡ true → is_about s x ≡ is_about d x
same_about d s x tied =
    alike.symm (subject_of x) s ∙ sym (alike.congr d s (subject_of x) tied) ∙ alike.symm d (subject_of x)

other_about : (d s : Subject) (x : Fact) → eq_by_cmp subject_cmp d s ≡ false → is_about d x ≡ true → is_about s x ≡ false
other_about d s x apart is = alike.congr (subject_of x) d s is ∙ apart

-- nothing is left about the subject of the deletion
none_left : (ledger : ℕ) (s : Subject) (xs : List Fact) (before : Option Fact) → eq_by_cmp subject_cmp (the_deletion ledger) s ≡ true
    → fold (last_after s) before (without_deletion ledger xs) ≡ before
none_left ledger s [] before tied = refl
none_left ledger s (x ∷ xs) before tied =
    elim (is_about (the_deletion ledger) x) as (λ b. is_about (the_deletion ledger) x ≡ b
    → fold (last_after s) before (cond b (without_deletion ledger xs) (x ∷ without_deletion ledger xs)) ≡ before) [
      | true ↦ λ is. none_left ledger s xs before tied
      | false ↦ λ is.
          ap (λ (b : Bool). fold (last_after s) (cond b (Some x) before) (without_deletion ledger xs)) (same_about (the_deletion ledger) s x tied ∙ is)
          ∙ none_left ledger s xs before tied
    ] refl

-- another subject has the record that it had
others_stay : (ledger : ℕ) (s : Subject) (xs : List Fact) (before : Option Fact) → eq_by_cmp subject_cmp (the_deletion ledger) s ≡ false
    → fold (last_after s) before (without_deletion ledger xs) ≡ fold (last_after s) before xs
others_stay ledger s [] before apart = refl
others_stay ledger s (x ∷ xs) before apart =
    elim (is_about (the_deletion ledger) x) as (λ b. is_about (the_deletion ledger) x ≡ b
    → fold (last_after s) before (cond b (without_deletion ledger xs) (x ∷ without_deletion ledger xs)) ≡ fold (last_after s) before (x ∷ xs)) [
      | true ↦ λ is.
          others_stay ledger s xs before apart
          ∙ ap (λ (b : Bool). fold (last_after s) (cond b (Some x) before) xs) (sym (other_about (the_deletion ledger) s x apart is))
      | false ↦ λ is. others_stay ledger s xs (last_after s before x) apart
    ] refl

abbrev flat : Option (Option Record) → Option Fact
flat o = option_map fact (option_flatten o)

-- the state without the record
forgotten_at : (b : Bool) (ledger : ℕ) (s : Subject) (facts : List Fact) (old : State) (now : Option (Option Record))
    → eq_by_cmp subject_cmp (the_deletion ledger) s ≡ b → said old s ≡ last_about s facts
    → now ≡ cond b (Some None) (get subject_cmp old.last s) → flat now ≡ last_about s (without_deletion ledger facts)
forgotten_at true ledger s facts old now tied was is = ap flat is ∙ sym (none_left ledger s facts None tied)
forgotten_at false ledger s facts old now apart was is = ap flat is ∙ was ∙ sym (others_stay ledger s facts None apart)

pub forgotten : (ledger : ℕ) (key : Subject) (facts : List Fact) (old new : State) → key ≡ the_deletion ledger → IsStateOf facts old
    → ((q : Subject) → get subject_cmp new.last q ≡ cond (is_at (subject_cmp key) q) (Some None) (get subject_cmp old.last q))
    → IsStateOf (without_deletion ledger facts) new
forgotten ledger key facts old new same was is = λ s.
    forgotten_at (eq_by_cmp subject_cmp (the_deletion ledger) s) ledger s facts old (get subject_cmp new.last s) refl (was s)
    (is s ∙ ap (λ (k : Subject). cond (eq_by_cmp subject_cmp k s) (Some None) (get subject_cmp old.last s)) same)

-- ---- one ledger after another

-- the state is that of records from which so many deletions are still to be taken
pub record IsLeft (state : State) (ledgers : List ℕ) (target : List Fact) : Type 0 where
  pub now : List Fact
  pub is : IsStateOf now state
  pub rest : without_deletions ledgers now ≡ target
