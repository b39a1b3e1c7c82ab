use Rattle.std.proofs.Common.{◌≡◌, ◌+◌, ◌≤◌, sym, ◌∙◌, ap, Some, length, arith}
use Rattle.bk_record.proofs.SortedPairs.{Some-same}
use Rattle.bk_record.proofs.ReadKeys.{read_key-some, read_key-none}
use Rattle.bk_log.proofs.Keys.{same_key, key_is_itself}
use Rattle.bk_compact.proofs.entries.is_entry.Goals as goal

pub returns-in-Ok-clause-entry : goal.returns-in-Ok-clause-entry
returns-in-Ok-clause-entry c = λ h.
    let size : length c.args.payload.now + 4 ≡ c.args.found.now.size = omega (arith, c.from.ensures, c.if-payload-from.false) in
    let long : 16 ≤ length c.args.payload.now = omega arith in
    let read = read_key-some _ _ long (sym c.key_of.ensures ∙ c.in-Ok.is) in
    record {
      legal = (long, omega arith);
      sized = omega arith;
      keyed = read ∙ ap Some (same_key _ _ (sym c.eq.ensures ∙ h));
    }

pub returns-in-Ok-clause-honest : goal.returns-in-Ok-clause-honest
returns-in-Ok-clause-honest c = λ is.
    let read = read_key-some _ _ is.legal.0 (sym c.key_of.ensures ∙ c.in-Ok.is) in
    c.eq.ensures ∙ key_is_itself _ _ (Some-same (sym read ∙ is.keyed))

pub returns-in-Err-clause-honest : goal.returns-in-Err-clause-honest
returns-in-Err-clause-honest c = λ is. absurd (read_key-none _ _ _ is.legal.0 (sym c.key_of.ensures ∙ c.in-Err.is) is.keyed)
