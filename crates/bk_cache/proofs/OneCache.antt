-- The write caches if no flush runs: those of the active cache.
use Rattle.std.proofs.Common.{◌≡◌, Option, Some, None, IsSome, is_some, unwrap_or, sym, ap, ◌∙◌}
use Rattle.std.specs.Option.{option_or}
use Rattle.std.specs.FinMap as map
use Rattle.bk_record.specs.Key.{EntryKey, key_cmp}
use Rattle.bk_record.specs.Scan.{Payloads}

or_none : {A : Type 0} (o rest : Option A) → rest ≡ None → option_or o rest ≡ o
or_none None rest is = is
or_none (Some x) rest is = cc

pub active_only : (active : Payloads) (flush : Option Payloads) (key : EntryKey) → flush ≡ None
    → IsSome (option_or (map.get active key) (map.get (unwrap_or flush map.empty) key)) → IsSome (map.get active key)
active_only active flush key none there =
    let lacks = ap (λ o. map.get (unwrap_or o map.empty) key) none ∙ map.get-empty key_cmp key in
    ap is_some (sym (or_none (map.get active key) _ lacks)) ∙ there
