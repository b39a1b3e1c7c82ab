use Rattle.std.proofs.Common.{◌≡◌, Bool, true, false, not, refl, sym, ◌∙◌}
use Rattle.std.proofs.lemmas.Bool.{false≢true}
use Rattle.bk_cache.proofs.RecentPuts.{put-or_same, put-renews}
use Rattle.bk_cache.proofs.RecentPairs.{pair_of, comes_itself, listed_same, listed_more, listed_again, listed_in, listed_pushed_in, recent_listed}
use Rattle.bk_cache.proofs.recent.Kept.remember.Goals as goal

-- an allocation for the pair failed
pub invariant_of-self : goal.invariant_of-self
invariant_of-self c = listed_same c.self.inside.entries.entries c.self.inside.pairs c.insert.new.self c.self.invariant c.in_default.ensures.err

pub returns-in_default-clause-replaced : goal.returns-in_default-clause-replaced
returns-in_default-clause-replaced c = λ held.
    let there = recent_listed (λ p. p.value.items) c.self.inside.entries c.self.inside.pairs c.args.key.now c.args.self.now c.self.view_is c.self.invariant
    held in
    absurd (false≢true (sym (rw (c.ledger.ensures.value, c.entry.ensures.value) at c.in_default.ensures.absent) ∙ there))

-- another entry, or the key's own payload, was replaced
pub invariant_of-self-in-Ok-Some : goal.invariant_of-self-in-Ok-Some
invariant_of-self-in-Ok-Some c =
    let pair = pair_of c.args.key.now in
    let comes = rw (c.ledger.ensures.value, c.entry.ensures.value) at c.in-Ok.ensures.updates in
    let listed = listed_more c.self.inside.entries.entries c.self.inside.pairs c.insert.new.self pair c.self.invariant comes in
    let there = comes_itself c.self.inside.pairs c.insert.new.self pair comes in
    let went = rw c.of.ensures at (sym c.in-Ok-Some.ensures.old ∙ c.in-Ok-Some.field-0-is) in
    listed_pushed_in c.self.inside.entries c.args.key.now c.args.payload c.insert.new.self listed there c.unlist.new.pairs c.len.ensures.valid.0 _ went
    (rw (c.ledger.ensures.value, c.entry.ensures.value) at c.unlist.ensures.stay) c.push.new.self (rw c.of.ensures at c.in-Ok-Some.ensures.entries)

pub returns-in-Ok-Some-clause-recent : goal.returns-in-Ok-Some-clause-recent
returns-in-Ok-Some-clause-recent c =
    put-or_same (λ p. p.value.items) c.self.inside.entries c.args.key.now c.args.payload c.args.self.now c.self.view_is c.push.new.self c.push.result
    (rw c.of.ensures at c.push.ensures.entries) c.push.ensures.err

pub returns-in-Ok-Some-clause-replaced : goal.returns-in-Ok-Some-clause-replaced
returns-in-Ok-Some-clause-replaced c =
    put-renews (λ p. p.value.items) c.self.inside.entries c.args.key.now c.args.payload c.args.self.now c.self.view_is c.push.new.self c.push.result
    (rw c.of.ensures at c.push.ensures.entries) (rw c.of.ensures at c.push.ensures.succeeds)

-- the table had room
pub invariant_of-self-in-Ok-None : goal.invariant_of-self-in-Ok-None
invariant_of-self-in-Ok-None c =
    let pair = pair_of c.args.key.now in
    let comes = rw (c.ledger.ensures.value, c.entry.ensures.value) at c.in-Ok.ensures.updates in
    let listed = listed_more c.self.inside.entries.entries c.self.inside.pairs c.insert.new.self pair c.self.invariant comes in
    listed_in c.self.inside.entries c.args.key.now c.args.payload c.insert.new.self listed
    (comes_itself c.self.inside.pairs c.insert.new.self pair comes)
    c.push.new.self (rw c.of.ensures at c.in-Ok-None.ensures.entries)

pub returns-in-Ok-None-clause-recent : goal.returns-in-Ok-None-clause-recent
returns-in-Ok-None-clause-recent c =
    put-or_same (λ p. p.value.items) c.self.inside.entries c.args.key.now c.args.payload c.args.self.now c.self.view_is c.push.new.self c.push.result
    (rw c.of.ensures at c.push.ensures.entries) c.push.ensures.err

pub returns-in-Ok-None-clause-replaced : goal.returns-in-Ok-None-clause-replaced
returns-in-Ok-None-clause-replaced c =
    put-renews (λ p. p.value.items) c.self.inside.entries c.args.key.now c.args.payload c.args.self.now c.self.view_is c.push.new.self c.push.result
    (rw c.of.ensures at c.push.ensures.entries) (rw c.of.ensures at c.push.ensures.succeeds)

-- An allocation for the entry failed: its pair is removed again, if it is new.
pub invariant_of-self-then-is_new : goal.invariant_of-self-then-is_new
invariant_of-self-then-is_new c =
    let pair = pair_of c.args.key.now in
    let comes = rw (c.ledger.ensures.value, c.entry.ensures.value) at c.in-Ok.ensures.updates in
    let goes = rw (c.ledger.ensures.value, c.entry.ensures.value) at c.remove.ensures.updates in
    let added = rw (c.ledger.ensures.value, c.entry.ensures.value) at c.in-Ok.ensures.added in
    rw c.in-Err.ensures.err (listed_again c.self.inside.entries.entries c.self.inside.pairs c.insert.new.self c.remove.new.self pair c.self.invariant
    (not_true _ (sym added ∙ c.if-is_new.true)) comes goes)
  where
    not_true : (b : Bool) → not b ≡ true → b ≡ false
    not_true true is = cc
    not_true false is = refl

pub returns-then-is_new-clause-replaced : goal.returns-then-is_new-clause-replaced
returns-then-is_new-clause-replaced c =
    put-renews (λ p. p.value.items) c.self.inside.entries c.args.key.now c.args.payload c.args.self.now c.self.view_is c.push.new.self c.push.result
    (rw c.of.ensures at c.push.ensures.entries) (rw c.of.ensures at c.push.ensures.succeeds)

pub invariant_of-self-else-is_new : goal.invariant_of-self-else-is_new
invariant_of-self-else-is_new c =
    let comes = rw (c.ledger.ensures.value, c.entry.ensures.value) at c.in-Ok.ensures.updates in
    rw c.in-Err.ensures.err
    (listed_more c.self.inside.entries.entries c.self.inside.pairs c.insert.new.self (pair_of c.args.key.now) c.self.invariant comes)

pub returns-clause-replaced : goal.returns-clause-replaced
returns-clause-replaced c =
    put-renews (λ p. p.value.items) c.self.inside.entries c.args.key.now c.args.payload c.args.self.now c.self.view_is c.push.new.self c.push.result
    (rw c.of.ensures at c.push.ensures.entries) (rw c.of.ensures at c.push.ensures.succeeds)
