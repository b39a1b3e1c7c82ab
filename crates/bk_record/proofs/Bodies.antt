-- Bodies: the relation and the computed list agree, and bodies are concatenated.
use Rattle.std.proofs.Common.{◌≡◌, ℕ, zero, suc, ◌+◌, ◌<◌, ◌≤◌, cond, List, [], ◌∷◌, ◌++◌, length, take, drop, Bool, true, false}
use Rattle.std.proofs.Common.{refl, sym, ap, ◌∙◌, subst, arith, length-append, append_assoc}
use Rattle.std.proofs.Math.Decide.{dec_le}
use Rattle.std.proofs.lemmas.List.{take_at, append-nil, length-take}
use Rattle.bk_record.specs.Record.{record_of, IsPayload, length_field}
use Rattle.bk_record.specs.Body.{starts_with_record, IsTorn, Body, pieces, leftover}
use Rattle.bk_record.specs.Body.IsTorn.{short, cut}
use Rattle.bk_record.specs.Body.Body.{done, more, torn}
use Rattle.bk_record.proofs.Records.{length-record_of, length_field-record_of, starts-record_of, starts-torn}
use Rattle.bk_record.proofs.Records.{starts-nil, length_field-take, drop_field, drop_record}

pub pieces-stop : (most from : ℕ) (bytes : List ℕ) → starts_with_record bytes ≡ false → pieces most from bytes ≡ []
pieces-stop zero from bytes is = refl
pieces-stop (suc most) from bytes is = ap
    (λ (b : Bool). cond b ((from + 4, take (length_field bytes) (drop 4 bytes)) ∷ pieces most (from + 4 + length_field bytes)
    (drop (4 + length_field bytes) bytes)) []) is

pub leftover-stop : (most : ℕ) (bytes : List ℕ) → starts_with_record bytes ≡ false → leftover most bytes ≡ bytes
leftover-stop zero bytes is = refl
leftover-stop (suc most) bytes is = ap (λ (b : Bool). cond b (leftover most (drop (4 + length_field bytes) bytes)) bytes) is

pub pieces-step : (most from : ℕ) (payload behind : List ℕ) → IsPayload payload
    → pieces (suc most) from (record_of payload ++ behind) ≡ (from + 4, payload) ∷ pieces most (from + 4 + length payload) behind
pieces-step most from payload behind legal =
    let bytes = record_of payload ++ behind in
    let list : Bool → ℕ → List (ℕ × List ℕ) = λ b n. cond b ((from + 4, take n (drop 4 bytes)) ∷ pieces most (from + 4 + n) (drop (4 + n) bytes)) [] in
    let front : take (length payload) (drop 4 bytes) ≡ payload =
    ap (take (length payload)) (drop_field payload behind) ∙ take_at payload behind (length payload) refl in
    ap (λ (b : Bool). list b (length_field bytes)) (starts-record_of payload behind legal)
    ∙ ap (list true) (length_field-record_of payload behind (omega (arith, legal.1)))
    ∙ ap (λ (p : List ℕ). (from + 4, p) ∷ pieces most (from + 4 + length payload) (drop (4 + length payload) bytes)) front
    ∙ ap (λ (b : List ℕ). (from + 4, payload) ∷ pieces most (from + 4 + length payload) b) (drop_record payload behind)

pub leftover-step : (most : ℕ) (payload behind : List ℕ) → IsPayload payload
    → leftover (suc most) (record_of payload ++ behind) ≡ leftover most behind
leftover-step most payload behind legal =
    let bytes = record_of payload ++ behind in
    let rest : Bool → ℕ → List ℕ = λ b n. cond b (leftover most (drop (4 + n) bytes)) bytes in
    ap (λ (b : Bool). rest b (length_field bytes)) (starts-record_of payload behind legal)
    ∙ ap (rest true) (length_field-record_of payload behind (omega (arith, legal.1)))
    ∙ ap (leftover most) (drop_record payload behind)

-- the records of a body are the computed ones
pub pieces-body : (most : ℕ) {from : ℕ} {bytes rest : List ℕ} {records : List (ℕ × List ℕ)} → Body from bytes records rest
    → length bytes ≤ most → pieces most from bytes ≡ records
pieces-body most (done {from = from}) enough = pieces-stop most from [] starts-nil
pieces-body most (torn {from = from} {bytes = bytes} is) enough = pieces-stop most from bytes (starts-torn bytes is)
pieces-body zero (more {payload = payload} {behind = behind} legal body) enough =
    absurd (omega (arith, enough, length-append (record_of payload) behind, length-record_of payload))
pieces-body (suc most) (more {from = from} {payload = payload} {behind = behind} legal body) enough =
    pieces-step most from payload behind legal
    ∙ ap (λ (l : List (ℕ × List ℕ)). (from + 4, payload) ∷ l)
    (pieces-body most body (omega (arith, enough, length-append (record_of payload) behind, length-record_of payload)))

pub leftover-body : (most : ℕ) {from : ℕ} {bytes rest : List ℕ} {records : List (ℕ × List ℕ)} → Body from bytes records rest
    → length bytes ≤ most → leftover most bytes ≡ rest
leftover-body most (done) enough = leftover-stop most [] starts-nil
leftover-body most (torn {bytes = bytes} is) enough = leftover-stop most bytes (starts-torn bytes is)
leftover-body zero (more {payload = payload} {behind = behind} legal body) enough =
    absurd (omega (arith, enough, length-append (record_of payload) behind, length-record_of payload))
leftover-body (suc most) (more {payload = payload} {behind = behind} legal body) enough =
    leftover-step most payload behind legal
    ∙ leftover-body most body (omega (arith, enough, length-append (record_of payload) behind, length-record_of payload))

-- one record
pub body_record : (from : ℕ) (payload : List ℕ) → IsPayload payload → Body from (record_of payload) ((from + 4, payload) ∷ []) []
body_record from payload legal =
    subst (λ (b : List ℕ). Body from b ((from + 4, payload) ∷ []) []) (append-nil (record_of payload)) (more legal done)

-- whole records, then a body
pub body_append : {from : ℕ} {front behind left rest : List ℕ} {records others : List (ℕ × List ℕ)} → Body from front records left → left ≡ []
    → Body (from + length front) behind others rest → Body from (front ++ behind) (records ++ others) rest
body_append {behind = behind} {rest = rest} {others = others} (done {from = from}) nothing next =
    subst (λ (n : ℕ). Body n behind others rest) (let e : from + 0 ≡ from = omega arith in e) next
body_append (torn (short some less)) nothing next = absurd (omega (arith, some, ap length nothing))
body_append (torn (cut four least most less)) nothing next = absurd (omega (arith, four, ap length nothing))
body_append {behind = behind} {rest = rest} {others = others}
    (more {from = from} {payload = payload} {behind = inner} {records = records} legal body) nothing next =
    let size = length-append (record_of payload) inner in
    let place : from + length (record_of payload ++ inner) ≡ from + 4 + length payload + length inner = omega (arith, length-record_of payload) in
    let later = subst (λ (n : ℕ). Body n behind others rest) place next in
    subst (λ (b : List ℕ). Body from b (((from + 4, payload) ∷ records) ++ others) rest) (sym (append_assoc (record_of payload) inner behind))
    (more legal (body_append body nothing later))

-- a proper prefix of a record is torn
pub prefix_is_torn : (payload : List ℕ) (n : ℕ) → IsPayload payload → 0 < n → n < 4 + length payload → IsTorn (take n (record_of payload))
prefix_is_torn payload n legal some less =
    let size = length-record_of payload in
    let long : length (take n (record_of payload)) ≡ n = omega (arith, length-take n (record_of payload)) in
    elim (dec_le 4 n) [
      | yes four ↦
          let field : length_field (take n (record_of payload)) ≡ length payload =
          length_field-take n (record_of payload) four (omega arith)
          ∙ ap length_field (sym (append-nil (record_of payload))) ∙ length_field-record_of payload [] (omega (arith, legal.1)) in
          cut (omega arith) (omega (arith, legal.0)) (omega (arith, legal.1)) (omega arith)
      | no few ↦ short (omega arith) (omega arith)
    ]
