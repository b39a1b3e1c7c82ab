-- The account of one open log: sums of its entries, by ledger, and the number of index entries that
-- point into it (its names).
use Rattle.std.specs.Prelude.{ℕ, ◌+◌, ◌-◌, Bool, cond}
use Rattle.std.proofs.Common.{refl}
use Rattle.std.specs.Coded.{Coded, code_by, coded×, coded_ℕ}
use Rattle.std.specs.FinMap as finmap
use Rattle.std.specs.List.{sum}
use Rattle.std.specs.Option.{unwrap_or}
use Rattle.std.specs.Ordering.{nat_cmp}

-- total in bytes, number of index entries that point into the log, and bytes of each ledger that
-- has room
pub record Account : Type 0 where
  pub total : ℕ
  pub named : ℕ
  pub live : finmap.FinMap nat_cmp ℕ

-- encoding as the tuple of the fields
abbrev pub account_code : Coded Account
account_code =
    code_by (ℕ × (ℕ × finmap.FinMap nat_cmp ℕ)) (coded× coded_ℕ (coded× coded_ℕ (finmap.code coded_ℕ coded_ℕ)))
    (λ a. (a.total, (a.named, a.live))) (λ p. record { total = p.0; named = p.1.0; live = p.1.1 }) (λ _. refl)

-- bytes that remain: the sum over its ledgers with room
abbrev pub remaining_size : Account → ℕ
remaining_size account = sum (finmap.values account.live)

-- bytes of a ledger with room, 0 for any other
abbrev pub ledger_size : Account → ℕ → ℕ
ledger_size account ledger = unwrap_or (finmap.get account.live ledger) 0

-- whether there is room for the ledger's sum
abbrev pub has_room : Account → ℕ → Bool
has_room account ledger = finmap.contains_key account.live ledger

-- account of a newly opened log
abbrev pub fresh : Account
fresh = record { total = 0; named = 0; live = finmap.empty }

-- with room for the ledger's sum; the sum is 0 if the room is new
abbrev pub with_room : ℕ → Account → Account
with_room ledger account = record account {
  live = cond (has_room account ledger) account.live (finmap.insert account.live ledger 0);
}

-- with an entry of the ledger
abbrev pub with_size : ℕ → ℕ → Account → Account
with_size ledger size account = record account {
  total = account.total + size;
  live = finmap.insert account.live ledger (ledger_size account ledger + size);
}

-- with an entry of a deleted ledger: in the total only
abbrev pub with_dead_size : ℕ → Account → Account
with_dead_size size account = record account { total = account.total + size }

-- with one more name
abbrev pub with_name : Account → Account
with_name account = record account { named = account.named + 1 }

-- with `count` more names
abbrev pub with_names : ℕ → Account → Account
with_names count account = record account { named = account.named + count }

-- with one name fewer
abbrev pub without_name : Account → Account
without_name account = record account { named = account.named - 1 }

-- without the ledger and its room; the total is unchanged
abbrev pub without_size : ℕ → Account → Account
without_size ledger account = record account { live = finmap.remove account.live ledger }
