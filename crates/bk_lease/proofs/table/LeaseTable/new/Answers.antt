use Rattle.std.proofs.Common.{rules, ◌≡◌, ◌∷◌, [], List, ℕ, replicate, subst, sym}
use Rattle.bk_lease.specs.Leases.{IsRuled, first_role}
use Rattle.bk_lease.proofs.KeeperSteps.{starts}
use Rattle.bk_lease.proofs.table.LeaseTable.new.Goals as goal

pub of_words-requires : goal.of_words-requires
of_words-requires c = let zeros : c.deref.result.now ≡ replicate c.args.slots 0 = search rules in
    subst (λ (words : List ℕ). IsRuled words (first_role record { slots = c.args.slots; most = c.args.most } ∷ [])) (sym zeros)
    (starts c.args.slots c.args.most c.requires.most.1)
