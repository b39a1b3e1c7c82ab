-- One entry is at a place.
use Rattle.std.proofs.Common.{◌≡◌, ℕ, List, [], Option, Some, Bool, cond, sym, ap, ◌∙◌, subst, unwrap_or}
use Rattle.std.specs.Ordering.{nat_cmp, is_eq}
use Rattle.std.specs.FinMap as finite
use Rattle.std.proofs.lemmas.Cmp.{nat_cmp_total, tied_itself}
use Rattle.bk_record.specs.Key.{EntryKey}
use Rattle.bk_record.specs.Location.{Place}
use Rattle.bk_record.specs.Files.{Files, records_of, HasRecord, In}
use Rattle.bk_record.proofs.Places.{one_record}
use Rattle.bk_store.specs.Entries.{Bytes, HasEntry}

-- a log's bytes as the only file
abbrev alone : ℕ → List ℕ → Files
alone log bytes = finite.insert finite.empty log bytes

alone_has : (log : ℕ) (bytes : List ℕ) → finite.get (alone log bytes) log ≡ Some bytes
alone_has log bytes =
    finite.get-insert nat_cmp_total finite.empty log bytes log
    ∙ ap (λ (b : Bool). cond b (Some bytes) (finite.get {X = List ℕ} {R = nat_cmp} finite.empty log)) (ap is_eq (tied_itself nat_cmp_total log))

alone_record : (place : Place) (payload bytes : List ℕ) → In (place.at, payload) (records_of bytes) → HasRecord (alone place.log bytes) place payload
unfolding HasRecord
alone_record place payload bytes there =
    subst (λ (o : Option (List ℕ)). In (place.at, payload) (records_of (unwrap_or o []))) (sym (alone_has place.log bytes)) there

-- one record is at a place
one_in_bytes : (place : Place) (first second bytes : List ℕ)
    → In (place.at, first) (records_of bytes) → In (place.at, second) (records_of bytes) → first ≡ second
one_in_bytes place first second bytes one two =
    one_record (alone place.log bytes) place first second (alone_record place first bytes one) (alone_record place second bytes two)

-- so one entry is there, with one key and one payload
pub one_payload : {bytes : Bytes} {place : Place} {key other : EntryKey} {first second : List ℕ}
    → HasEntry bytes place key first → HasEntry bytes place other second → first ≡ second
one_payload {bytes = bytes} {place = place} {first = first} {second = second} one two = one_in_bytes place first second (bytes place.log) one.stands two.stands
