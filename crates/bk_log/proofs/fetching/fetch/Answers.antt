use Rattle.std.proofs.Common.{◌≡◌, sym, ◌∙◌, ap, subst, arith, refl, take, drop, ◌+◌, ◌-◌}
use Rattle.std.specs.Int.{w32, to_be_bytes}
use Rattle.std.proofs.lemmas.Bool.{false≢true}
use Rattle.bk_record.specs.Record.{key_of}
use Rattle.bk_log.specs.Places.{FetchFails, HasEntryAt}
use Rattle.bk_log.proofs.Fetches.{head_of_front, ids_of_front, entry_of_front, head_refused, payload_refused, fetch_bad_length}
use Rattle.bk_log.proofs.Fetches.{fetch_other_key, fetch_found}
use Rattle.bk_log.proofs.fetching.fetch.Goals as goal
use Rattle.bk_log.proofs.fetching.fetch.Goals.{then-not-is_payload_length-via-then-not-is_payload_length}
use Rattle.bk_log.proofs.fetching.fetch.Goals.{then-not-is_payload_length-via-else-not-is_payload_length+then-not-is_of_key}

pub returns-in-Err-clause-transition : goal.returns-in-Err-clause-transition
returns-in-Err-clause-transition g c = λ h.
    subst (λ f. FetchFails (g.V.LogView.bytes c.args.view.now) c.args.location.at c.args.key f) (sym c.fetch_fault.ensures)
    (head_refused (g.V.LogView.bytes c.args.view.now) c.args.location.at c.from-at.result c.args.key c.in-Err.fault c.read_front.new.out
    (c.from-at.ensures ∙ c.at.ensures.value) (c.in-Err.ensures.transition h))

pub returns-then-not-is_payload_length-clause-transition : goal.returns-then-not-is_payload_length-clause-transition
returns-then-not-is_payload_length-clause-transition g c = λ h.
    let shown = c.in-Ok.ensures.transition h in
    let read = head_of_front _ c.read_front.new.out c.args.location.at c.from-at.result c.length_in-length.result c.in-Ok.front c.in-Ok.ensures.fits.0
    shown.0 shown.1 (c.from-at.ensures ∙ c.at.ensures.value) c.length_in-length.ensures.value c.length_in-length.ensures.written in
    elim c.then-not-is_payload_length.branch [
      | then-not-is_payload_length-via-then-not-is_payload_length w ↦
          fetch_bad_length _ (take 20 c.read_front.new.out) _ _ c.length_in-length.result _ read
          (λ legal. absurd (false≢true (w.if-not-is_payload_length.ensures.1 legal)))
      | then-not-is_payload_length-via-else-not-is_payload_length+then-not-is_of_key w ↦
          fetch_other_key _ (take 20 c.read_front.new.out) _ _ c.length_in-length.result _ read
          (λ keyed. absurd (false≢true (w.if-not-is_of_key.ensures.1 (ap key_of (ids_of_front c.read_front.new.out) ∙ keyed))))
    ]

pub returns-in-Ok-from_slice-clause-transition : goal.returns-in-Ok-from_slice-clause-transition
returns-in-Ok-from_slice-clause-transition g c = λ h.
    let shown = c.in-Ok.ensures.transition h in
    let out = c.read_front.new.out in
    let file = g.V.LogView.bytes c.args.view.now in
    let read = head_of_front file out c.args.location.at c.from-at.result c.length_in-length.result c.in-Ok.front c.in-Ok.ensures.fits.0
    shown.0 shown.1 (c.from-at.ensures ∙ c.at.ensures.value) c.length_in-length.ensures.value c.length_in-length.ensures.written in
    let entry = entry_of_front file out c.args.location.at c.from-at.result c.length_in-length.result c.in-Ok.front c.args.key
    (omega (arith, c.at.ensures.value, c.at.ensures.bound)) c.in-Ok.ensures.fits.0 shown.0 shown.1 read (c.if-not-is_payload_length.ensures.0 refl)
    (ap key_of (sym (ids_of_front out)) ∙ c.if-not-is_of_key.ensures.0 refl) c.if-length-front.true in
    let count : 4 + c.length_in-length.result - 4 ≡ c.length_in-length.result = omega arith in
    subst (HasEntryAt file c.args.location.at c.args.key) (sym (c.in-Ok-from_slice.ensures.items ∙ ap (λ k. take k (drop 4 out)) count)) entry

pub returns-in-Err-from_slice-clause-transition : goal.returns-in-Err-from_slice-clause-transition
returns-in-Err-from_slice-clause-transition g c = λ h.
    let shown = c.in-Ok.ensures.transition h in
    let out = c.read_front.new.out in
    let file = g.V.LogView.bytes c.args.view.now in
    let read = head_of_front file out c.args.location.at c.from-at.result c.length_in-length.result c.in-Ok.front c.in-Ok.ensures.fits.0
    shown.0 shown.1 (c.from-at.ensures ∙ c.at.ensures.value) c.length_in-length.ensures.value c.length_in-length.ensures.written in (
      take c.length_in-length.result (drop 4 out),
      entry_of_front file out c.args.location.at c.from-at.result c.length_in-length.result c.in-Ok.front c.args.key
          (omega (arith, c.at.ensures.value, c.at.ensures.bound)) c.in-Ok.ensures.fits.0 shown.0 shown.1 read (c.if-not-is_payload_length.ensures.0 refl)
          (ap key_of (sym (ids_of_front out)) ∙ c.if-not-is_of_key.ensures.0 refl) c.if-length-front.true,
    )

pub returns-in-Ok-read-clause-transition : goal.returns-in-Ok-read-clause-transition
returns-in-Ok-read-clause-transition g c = λ h.
    let shown = c.in-Ok.ensures.transition h in
    let number = c.from.ensures ∙ c.length_in-length.ensures.value in
    let written = subst (λ n. to_be_bytes w32 n ≡ take 4 (take 20 c.read_front.new.out)) (sym c.from.ensures) c.length_in-length.ensures.written in
    let read = head_of_front _ c.read_front.new.out c.args.location.at c.from-at.result c.from.result c.in-Ok.front c.in-Ok.ensures.fits.0
    shown.0 shown.1 (c.from-at.ensures ∙ c.at.ensures.value) number written in
    fetch_found _ (take 20 c.read_front.new.out) _ _ _ c.from.result _ (omega (arith, c.at.ensures.value, c.at.ensures.bound)) read
    (rw c.from.ensures (c.if-not-is_payload_length.ensures.0 refl))
    (ap key_of (sym (ids_of_front c.read_front.new.out)) ∙ c.if-not-is_of_key.ensures.0 refl) (c.in-Ok-read.ensures.transition h)

pub returns-in-Err-read-clause-transition : goal.returns-in-Err-read-clause-transition
returns-in-Err-read-clause-transition g c = λ h.
    let shown = c.in-Ok.ensures.transition h in
    let number = c.from.ensures ∙ c.length_in-length.ensures.value in
    let written = subst (λ n. to_be_bytes w32 n ≡ take 4 (take 20 c.read_front.new.out)) (sym c.from.ensures) c.length_in-length.ensures.written in
    let read = head_of_front _ c.read_front.new.out c.args.location.at c.from-at.result c.from.result c.in-Ok.front c.in-Ok.ensures.fits.0
    shown.0 shown.1 (c.from-at.ensures ∙ c.at.ensures.value) number written in
    subst (λ f. FetchFails (g.V.LogView.bytes c.args.view.now) c.args.location.at c.args.key f) (sym c.fetch_fault-in-Err-read.ensures)
    (payload_refused _ (take 20 c.read_front.new.out) _ _ c.from.result _ c.in-Err-read.fault (omega (arith, c.at.ensures.value, c.at.ensures.bound)) read
    (rw c.from.ensures (c.if-not-is_payload_length.ensures.0 refl))
    (ap key_of (sym (ids_of_front c.read_front.new.out)) ∙ c.if-not-is_of_key.ensures.0 refl) (c.in-Err-read.ensures.transition h))
