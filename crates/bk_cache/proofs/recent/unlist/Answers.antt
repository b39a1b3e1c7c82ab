use Rattle.std.proofs.Common.{ℕ, sym, ap, ◌∙◌}
use Rattle.std.proofs.lemmas.Bool.{eq-eqb, false≢true}
use Rattle.bk_record.specs.Key.{EntryKey}
use Rattle.bk_cache.proofs.RecentPairs.{goes_others}
use Rattle.bk_cache.proofs.recent.unlist.Goals as goal

pub returns-then-ne : goal.returns-then-ne
returns-then-ne c = record {
  stay = λ pair only there.
      let gone : ℕ × ℕ = (c.gone.inside.ledger, c.gone.inside.entry) in
      goes_others c.args.pairs.now c.remove.new.self gone c.remove.ensures.updates pair (λ same.
      let is = only (sym (ap (λ p. p.0) same) ∙ ap (λ (k : EntryKey). k.ledger) c.gone.view_is)
      (sym (ap (λ p. p.1) same) ∙ ap (λ (k : EntryKey). k.entry) c.gone.view_is) in
      let ledger = eq-eqb c.gone.inside.ledger c.args.stays.0 (ap (λ p. p.0) (same ∙ is)) in
      let entry = eq-eqb c.gone.inside.entry c.args.stays.1 (ap (λ p. p.1) (same ∙ is)) in
      false≢true (sym (rw (ledger, entry) at c.if-ne.ensures))) there;
}
