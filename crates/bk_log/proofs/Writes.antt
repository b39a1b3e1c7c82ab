-- A record appended to a log: the invariant of its writer.
use Rattle.std.proofs.Common.{◌≡◌, ℕ, ◌+◌, ◌<◌, ◌≤◌, ◌^◌, Bool, false, List, [], ◌∷◌, ◌++◌, length, drop, IsSome, Err, refl, sym, ap, ◌∙◌, subst, arith}
use Rattle.std.proofs.Common.{length-append, true≢false}
use Rattle.std.proofs.lemmas.List.{take-append-le, drop-append-le, length-take, length-drop}
use Rattle.std.specs.List.{AllByRecursion}
use Rattle.std.specs.FinMap.{get, insert}
use Rattle.bk_record.specs.Record.{record_of, IsPayload, key_of, ledger_field}
use Rattle.bk_record.specs.Files.{Files}
use Rattle.bk_record.specs.Body.{Body}
use Rattle.bk_record.proofs.Records.{length-record_of}
use Rattle.bk_record.proofs.Bodies.{body_append, body_record}
use Rattle.bk_record.proofs.NumberMaps.{get-insert_same}
use Rattle.bk_disk.specs.Disk.{files_after_append}
use Rattle.bk_log.specs.declared.fault.LogFault.{LogFault}
use Rattle.bk_log.specs.declared.fault.LogFault.TheVariants.{Disk, Failed, Memory, Odd}
use Rattle.bk_log.specs.Faults.{is_lasting}
use Rattle.bk_log.specs.Text.{IsLogText}
use Rattle.bk_log.specs.Sizes.{Sizes, with_bytes, with_record}
use Rattle.bk_log.specs.Calls.{HasRoom, Adds}
use Rattle.bk_log.specs.Writing.{Writing, with_put, Puts, WriterPutTransition, Writes}
use Rattle.bk_log.proofs.Files.{grown-stands}
use Rattle.bk_log.proofs.Sums.{sizes_of-push}
use Rattle.bk_log.proofs.Makes.{length-empty_header}

-- the text of a log has at least its header
pub text_is_long : (file : List ℕ) (records : List (ℕ × List ℕ)) → IsLogText file records → 1024 ≤ length file
text_is_long file records text = omega (arith, length-take 1024 file, ap length text.headed, length-empty_header)

-- text of a log with one record more
pub text_push : (file payload : List ℕ) (records : List (ℕ × List ℕ)) → IsLogText file records → IsPayload payload
    → IsLogText (file ++ record_of payload) (records ++ (length file + 4, payload) ∷ [])
text_push file payload records text legal =
    let long = text_is_long file records text in
    let place : 1024 + length (drop 1024 file) ≡ length file = omega (arith, length-drop 1024 file) in
    record {
      headed = take-append-le 1024 file (record_of payload) long ∙ text.headed;
      spelled = rw (drop-append-le 1024 file (record_of payload) long)
          (subst (λ (n : ℕ). Body 1024 (drop 1024 file ++ record_of payload) (records ++ (n + 4, payload) ∷ []) []) place
          (body_append text.spelled refl (body_record _ payload legal)));
    }

all_push : {X : Type 0} (P : X → Type 0) (xs : List X) (x : X) → AllByRecursion P xs → P x → AllByRecursion P (xs ++ x ∷ [])
all_push P [] x all p = (p, tt)
all_push P (y ∷ ys) x all p = (all.0, all_push P ys x all.1 p)

-- a record that fits has room in the log
pub room_put : (files : Files) (w now : Writing) (payload bytes : List ℕ) → w ≡ now → Writes files now → now.end + 4 + length payload < 2 ^ 32
    → bytes ≡ record_of payload → HasRoom files w.log (length bytes)
room_put files w now payload bytes same writes fits is =
    record {
      file = writes.file;
      stands = ap (λ v. get files v.log) same ∙ writes.stands;
      fits = omega
          (arith, writes.long, ap length is, length-record_of payload);
    }

-- writer invariant after a record was written
pub writes_put : (files files' : Files) (w : Writing) (payload : List ℕ) → Writes files w → IsPayload payload → IsSome (key_of payload)
    → files' ≡ files_after_append files w.log (record_of payload) → Writes files' (with_put w payload)
writes_put files files' w payload writes legal keyed grew =
    let is : files' ≡ insert files w.log (writes.file ++ record_of payload) = grew ∙ grown-stands files w.log writes.file (record_of payload) writes.stands in
    record {
      file = writes.file ++ record_of payload;
      records = writes.records ++ (length writes.file + 4, payload) ∷ [];
      stands = ap (λ m. get m w.log) is ∙ get-insert_same files w.log (writes.file ++ record_of payload);
      long = omega (arith, writes.long, length-append writes.file (record_of payload), length-record_of payload);
      text = text_push writes.file payload writes.records writes.text legal;
      counted = omega (arith, writes.counted, length-append writes.records ((length writes.file + 4, payload) ∷ []));
      sized = ap (λ s. with_record s payload) writes.sized ∙ sym (sizes_of-push writes.records (length writes.file + 4) payload);
      keyed = all_push (λ r. IsSome (key_of r.1)) writes.records _ writes.keyed keyed;
    }

-- the writer's numbers after a record, from the calls' results
pub after_put : (w now : Writing) (payload : List ℕ) (ledger size : ℕ) (sizes : Sizes) → w ≡ now → ledger ≡ ledger_field payload → size ≡ length payload + 4
    → sizes ≡ with_bytes w.sizes ledger size
    → record w { end = w.end + (length payload + 4); count = w.count + 1; sizes = sizes } ≡ with_put now payload
after_put w now payload ledger size sizes same named sized counted =
    let end : w.end + (length payload + 4) ≡ w.end + 4 + length payload = omega arith in
    let long : length payload + 4 ≡ 4 + length payload = omega arith in
    let is : sizes ≡ with_record w.sizes payload =
    counted ∙ ap (λ l. with_bytes w.sizes l size) named ∙ ap (with_bytes w.sizes (ledger_field payload)) (sized ∙ long) in
    subst (λ (v : Writing). record w { end = w.end + (length payload + 4); count = w.count + 1; sizes = sizes } ≡ with_put v payload) same
    (λ i. record w { end = end i; count = w.count + 1; sizes = is i })

-- writer invariant after a record, from the calls' results
pub writes_ok : (files files' : Files) (w now after : Writing) (payload bytes : List ℕ) → w ≡ now → Writes files now → IsPayload payload
    → IsSome (key_of payload)
    → bytes ≡ record_of payload → files' ≡ files_after_append files w.log bytes → after ≡ with_put now payload → Writes files' after
writes_ok files files' w now after payload bytes same writes legal keyed is grew put =
    subst (λ (v : Writing). Writes files' v) (sym put)
    (writes_put files files' now payload writes legal keyed (grew ∙ ap (λ v. files_after_append files v.log bytes) same ∙ ap (files_after_append files now.log) is))

-- after an error the writer is unchanged or failed
puts_at : (w : Writing) (payload : List ℕ) (fault : LogFault) → w.failed ≡ false → (fault ≡ Failed → ⊥)
    → Puts w payload (Err fault) (record w { failed = is_lasting fault })
puts_at w payload Disk whole never = (whole, refl)
puts_at w payload Failed whole never = absurd (never refl)
puts_at w payload Memory whole never = (whole, λ i. record w { failed = sym whole i })
puts_at w payload Odd whole never = (whole, refl)

pub puts_refused : (w now : Writing) (payload : List ℕ) (back : Sizes) (lasting : Bool) (fault : LogFault) → w ≡ now → back ≡ w.sizes
    → lasting ≡ is_lasting fault → w.failed ≡ false → (fault ≡ Failed → ⊥) → Puts now payload (Err fault) (record w { sizes = back; failed = lasting })
puts_refused w now payload back lasting fault is same told whole never =
    subst (λ (v : Writing). Puts v payload (Err fault) (record w { sizes = back; failed = lasting })) is
    (rw (same, told) (puts_at w payload fault whole never))

-- after an error the files are those that the disk left
turn_at : (files files' : Files) (w : Writing) (payload : List ℕ) (fault : LogFault)
    → Adds files w.log (record_of payload) (Err fault) files' → WriterPutTransition files w payload (Err fault) files'
turn_at files files' w payload Disk adds = adds
turn_at files files' w payload Failed adds = absurd adds
turn_at files files' w payload Memory adds = adds
turn_at files files' w payload Odd adds = adds

pub turn_refused : (files files' : Files) (w now : Writing) (payload bytes : List ℕ) (fault : LogFault) → w ≡ now → bytes ≡ record_of payload
    → Adds files w.log bytes (Err fault) files' → WriterPutTransition files now payload (Err fault) files'
turn_refused files files' w now payload bytes fault is same adds =
    turn_at files files' now payload fault
    (subst (λ (b : List ℕ). Adds files now.log b (Err fault) files') same (subst (λ (v : Writing). Adds files v.log bytes (Err fault) files') is adds))

-- a writer that can continue has the invariant for its log
pub writes_refused : (files files' : Files) (w w' : Writing) (payload : List ℕ) (fault : LogFault) → Writes files w
    → Puts w payload (Err fault) w' → WriterPutTransition files w payload (Err fault) files' → w'.failed ≡ false → Writes files' w'
writes_refused files files' w w' payload Disk writes puts turn whole = absurd (true≢false (sym (ap (λ v. v.failed) puts.1) ∙ whole))
writes_refused files files' w w' payload Failed writes puts turn whole = absurd (true≢false (sym puts.0 ∙ sym (ap (λ v. v.failed) puts.1) ∙ whole))
writes_refused files files' w w' payload Memory writes puts turn whole = rw (puts.1, turn) writes
writes_refused files files' w w' payload Odd writes puts turn whole = absurd turn
