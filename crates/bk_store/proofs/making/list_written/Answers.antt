use Rattle.std.proofs.Common.{[], ◌∷◌, inl, refl, sym, subst}
use Rattle.bk_record.specs.Files.{In}
use Rattle.bk_record.proofs.Growth.{In-append_left, In-append_right}
use Rattle.bk_store.proofs.making.list_written.Goals as goal

pub returns-in_ok-push-in-Writing-clause-list : goal.returns-in_ok-push-in-Writing-clause-list
returns-in_ok-push-in-Writing-clause-list c = record {
  still = λ id there. subst (λ xs. In id xs) (sym c.in_ok-push-in-Writing.ensures.items) (In-append_left id c.args.filled.now.items (c.args.log ∷ []) there);
  alone = λ other. absurd (other c.in-Writing.is);
}

pub returns-in_ok-push-in-Writing-clause-listed : goal.returns-in_ok-push-in-Writing-clause-listed
returns-in_ok-push-in-Writing-clause-listed c = λ _.
    subst (λ xs. In c.args.log xs) (sym c.in_ok-push-in-Writing.ensures.items) (In-append_right c.args.log c.args.filled.now.items (c.args.log ∷ []) (inl refl))
