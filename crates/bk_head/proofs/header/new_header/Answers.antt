use Rattle.std.proofs.Common.{List, ℕ, pos, refl, sym, subst}
use Rattle.bk_head.specs.Header.{IsHeader, empty_header, head_of, patch_of}
use Rattle.bk_head.proofs.Again.{empty_is_header}
use Rattle.bk_head.proofs.header.new_header.Goals as goal

pub returns-clause-value : goal.returns-clause-value
unfolding empty_header head_of patch_of
returns-clause-value c = rw (c.write_u32.ensures, c.copy_from_slice.ensures.after) refl

pub returns-clause-header : goal.returns-clause-header
returns-clause-header c = subst (λ (x : List ℕ). IsHeader x (record { version = 1; map_offset = pos 0; count = pos 0 }))
    (sym (returns-clause-value c)) empty_is_header
