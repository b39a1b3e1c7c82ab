-- Finite maps by key, from bk_record.
pub use Rattle.bk_record.specs.Keyed.{Keyed, Places, key_code, place_code, places_code, without_ledger, ledger_count, log_count}
