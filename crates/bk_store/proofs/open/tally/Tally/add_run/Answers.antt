use Rattle.std.proofs.Common.{◌≡◌, ℕ, ◌*◌, ◌∙◌, false, true, is_err, sym, ap}
use Rattle.std.specs.FinSet as set
use Rattle.bk_accounts.specs.Book.{Book, after_ready, after_count}
use Rattle.bk_store.proofs.OpenedRuns.{run_live, run_dead}
use Rattle.bk_store.proofs.OpenedSums.{when_ok, still_fits}
use Rattle.bk_store.proofs.open.tally.Tally.add_run.Goals as goal

pub returns-then-contains-clause-ok : goal.returns-then-contains-clause-ok
returns-then-contains-clause-ok c =
    let told : set.contains c.args.self.now.dead c.args.run.now.first.key.ledger ≡ true =
    ap (set.contains c.args.self.now.dead) (sym c.ledger-ledger.ensures.value) ∙ sym c.contains.ensures ∙ c.if-contains.true in
    ap (λ (b : Book). record { index = c.args.self.now.index; accounts = b; dead = c.args.self.now.dead }) c.count_dead.ensures
    ∙ run_dead c.args.log c.args.self.now c.args.run.now.first c.args.run.now.count c.requires.some told

pub count-requires-clause-fits : goal.count-requires-clause-fits
count-requires-clause-fits c =
    let told = c.is_err.ensures.value in
    let passed = c.if-is_err.false in
    let made : is_err c.ready.result ≡ false = cc in
    still_fits _ _ _ _ _ (when_ok c.ready.result made c.ready.ensures.ok) c.requires.fits

pub returns-clause-ok : goal.returns-clause-ok
returns-clause-ok c =
    let told = c.is_err.ensures.value in
    let passed = c.if-is_err.false in
    let made : is_err c.ready.result ≡ false = cc in
    let ready = when_ok c.ready.result made c.ready.ensures.ok in
    let alive : set.contains c.args.self.now.dead c.args.run.now.first.key.ledger ≡ false =
    ap (set.contains c.args.self.now.dead) (sym c.ledger-ledger.ensures.value) ∙ sym c.contains.ensures ∙ c.if-contains.false in
    let t = c.args.self.now in
    let run = c.args.run.now in
    let bytes = run.count * run.first.size in
    let counted : c.count.new.self ≡ after_count (after_ready t.accounts c.args.log run.first.key.ledger) c.args.log run.first.key.ledger bytes =
    c.count.ensures ∙ ap (λ (b : Book). after_count b c.args.log c.ledger-ledger.result bytes) ready
    ∙ ap (λ (l : ℕ). after_count (after_ready t.accounts c.args.log l) c.args.log l bytes) c.ledger-ledger.ensures.value in
    (λ i. record { index = c.in_ok-index_run.ensures i; accounts = counted i; dead = t.dead })
    ∙ run_live c.args.log t run.first run.count c.requires.some alive
