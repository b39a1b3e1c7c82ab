-- What a step that asks no device keeps of a store's parts.
use Rattle.std.proofs.Common.{◌≡◌, Option, Some, None, sym, ap, subst, ◌∙◌}
use Rattle.std.specs.FinMap as finite
use Rattle.bk_record.specs.Key.{EntryKey, key_cmp}
use Rattle.bk_record.specs.Location.{Place}
use Rattle.bk_record.specs.Scan.{Payloads}
use Rattle.bk_record.specs.Keyed.{Places}
use Rattle.bk_store.specs.State.{State, StoreParts}
use Rattle.bk_store.specs.Logs.{Logs}
use Rattle.bk_store.specs.Invariant.{StoreInvariant, PlacesInvariant}

-- the parts with another visible state
abbrev pub with_state : StoreParts → State → StoreParts
with_state p s = record p { state = s }

-- a step that leaves the state as it was
pub keeps_same : (p q : StoreParts) → StoreInvariant p → q ≡ with_state p q.state → q.state ≡ p.state → StoreInvariant q
keeps_same p q keeps beside same = subst StoreInvariant (sym (beside ∙ ap (with_state p) same)) keeps

-- if no entry has a place, none has this one
pub none_placed : (places : Places) (key : EntryKey) (place : Place) → places ≡ finite.empty → finite.get places key ≡ Some place → ⊥
none_placed places key place none is =
    let wrong : ◌≡◌ {A = Option Place} (Some place) None = sym is ∙ ap (λ m. finite.get m key) none ∙ finite.get-empty key_cmp key in cc

-- and all is kept of the places that is to be
pub all_unplaced : (flush : Option Payloads) (places : Places) (held : Logs) → places ≡ finite.empty → PlacesInvariant flush places held
all_unplaced flush places held none = record {
  idle = λ _. none;
  flushing = λ key place is. absurd (none_placed places key place none is);
  logs = λ key place is. absurd (none_placed places key place none is);
  front = λ key earlier place is. absurd (none_placed places key place none is);
  rising = λ key later place other is. absurd (none_placed places key place none is);
  newest = λ id log there now key place is. absurd (none_placed places key place none is);
}
