-- Every list of entries has an index.
use Rattle.std.proofs.Common.{◌≡◌, true, false, [], ◌∷◌, ◌++◌, refl, sym, subst, append_assoc}
use Rattle.std.proofs.lemmas.List.{append-nil}
use Rattle.std.specs.FinMap as finite
use Rattle.std.specs.FinSet as set
use Rattle.bk_record.specs.Key.{EntryKey}
use Rattle.bk_record.specs.Location.{Place}
use Rattle.bk_record.specs.Scan.{Ledgers}
use Rattle.bk_record.specs.Keyed.{Places}
use Rattle.bk_store.proofs.EntryLists.{Listed, IsIndexOfList, list_empty, list_indexed, list_passed}

abbrev pub HasIndex : Ledgers → Listed → Type 0
HasIndex dead entries = (index : Places) × IsIndexOfList entries dead index

one_more : (dead : Ledgers) (front : Listed) (index : Places) → IsIndexOfList front dead index → (e : Place × EntryKey) → HasIndex dead (front ++ e ∷ [])
one_more dead front index made e =
    elim (set.contains dead e.1.ledger) as (λ b. set.contains dead e.1.ledger ≡ b → HasIndex dead (front ++ e ∷ [])) [
      | true ↦ λ gone. (index, list_passed made e.0 e.1 gone)
      | false ↦ λ alive. (finite.insert index e.1 e.0, list_indexed made e.0 e.1 alive)
    ] refl

-- entries after a list that has an index
behind : (dead : Ledgers) (front rest : Listed) (index : Places) → IsIndexOfList front dead index → HasIndex dead (front ++ rest)
behind dead front [] index made = subst (HasIndex dead) (sym (append-nil front)) (index, made)
behind dead front (e ∷ rest) index made =
    let next = one_more dead front index made e in
    subst (HasIndex dead) (append_assoc front (e ∷ []) rest) (behind dead (front ++ e ∷ []) rest next.0 next.1)

pub index_of_list : (dead : Ledgers) (entries : Listed) → HasIndex dead entries
index_of_list dead entries = behind dead [] entries finite.empty (list_empty dead)
