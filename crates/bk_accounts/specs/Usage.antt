-- Which of two logs is used less, by cross products.
use Rattle.std.specs.Prelude.{◌*◌, Bool, ◌&&◌, ◌||◌, ◌==◌, nat_lt, Option, if◌then◌else◌}
use Rattle.std.specs.Option.{option_map_or}
use Rattle.bk_accounts.specs.declared.usage.Usage.{Usage}

-- a smaller part of the first remains, or the same part and its id is lower
abbrev pub is_before : Usage → Usage → Bool
is_before here there =
    nat_lt (here.remaining * there.total) (there.remaining * here.total)
    || (here.remaining * there.total == there.remaining * here.total && nat_lt here.log there.log)

-- the one that is before the other, the first if there is no other
abbrev pub first_of : Usage → Option Usage → Usage
first_of here other = option_map_or (λ there. if is_before here there then here else there) other here
