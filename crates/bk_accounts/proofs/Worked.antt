-- Sums from scratch on a given list of calls, by computation.
use Rattle.std.proofs.Common.{◌≡◌, true, false, List, [], ◌∷◌, Some, None, refl}
use Rattle.std.specs.Option.{option_map, option_map_or}
use Rattle.bk_accounts.specs.Rows.{total_of, remaining_of}
use Rattle.bk_accounts.specs.History.{AccountCall, opens, readies, counts, names, unnames, forgets, drops, since_open, rows_of, named_of, is_readied}

-- a ledger that is counted, forgotten and counted again, with another ledger that is kept, in a log
-- that was opened earlier
abbrev history : List AccountCall
history =
    opens 0 ∷ readies 0 8 ∷ counts 0 8 1000 ∷ drops 0 ∷ opens 0 ∷ opens 1 ∷ names 1 ∷ readies 0 8 ∷ counts 0 8 25 ∷ readies 0 9 ∷ counts 0 9 7
    ∷ names 0 ∷ names 0 ∷ forgets 8 ∷ unnames 0 ∷ readies 0 8 ∷ counts 0 8 40 ∷ forgets 9 ∷ drops 1 ∷ []

total_is : option_map (λ later. total_of (rows_of 0 later)) (since_open 0 history) ≡ Some 72
total_is = refl

remaining_is : option_map (λ later. remaining_of (rows_of 0 later)) (since_open 0 history) ≡ Some 40
remaining_is = refl

named_is : option_map (named_of 0) (since_open 0 history) ≡ Some 1
named_is = refl

room_stays : option_map_or (is_readied 0 8) (since_open 0 history) false ≡ true
room_stays = refl

room_goes : option_map_or (is_readied 0 9) (since_open 0 history) false ≡ false
room_goes = refl

dropped : since_open 1 history ≡ None
dropped = refl
