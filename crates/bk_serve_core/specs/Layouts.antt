-- Layouts: which fields a kind of frame has. Read `fits` first.
use Rattle.std.specs.Prelude.{ℕ, ◌+◌, ◌*◌, ◌%◌, ◌==◌, Bool, true, false, ◌&&◌, ◌||◌, not, nat_le, if◌then◌else◌}
use Rattle.bk_serve_core.specs.declared.layout.Layout.{Layout}

-- so many numbers of eight bytes
abbrev pub numbers : ℕ → Layout
numbers count = record { numbers = count; least = 0; most = 0; whole = false }

-- so many numbers, and bytes after them: no fewer than `least`, no more than `most`
abbrev pub then_bytes : ℕ → ℕ → ℕ → Layout
then_bytes count least most = record { numbers = count; least = least; most = most; whole = false }

-- numbers of eight bytes, no more than `most` bytes together
abbrev pub whole_numbers : ℕ → Layout
whole_numbers most = record { numbers = 0; least = 0; most = most; whole = true }

-- greatest number of bytes of an entry's content, of an attribute and of a page, and number of those of a digest
abbrev pub longest_data : ℕ
longest_data = 4999984

abbrev pub longest_attribute : ℕ
longest_attribute = 256

abbrev pub longest_page : ℕ
longest_page = 524288

abbrev pub digest_length : ℕ
digest_length = 32

-- so many bytes are the fields of a layout
abbrev pub fits : Layout → ℕ → Bool
fits layout length =
    nat_le (8 * layout.numbers + layout.least) length
    && (nat_le length (8 * layout.numbers + layout.most) && (not layout.whole || length % 8 == 0))

-- layout of a request, by its call
abbrev pub request_layout : ℕ → Layout
request_layout kind =
    if kind == 1 then numbers 3
    else if kind == 9 then numbers 3
    else if kind == 2 then then_bytes 2 0 longest_data
    else if kind == 3 then then_bytes 2 0 longest_data
    else if kind == 4 then numbers 2
    else if kind == 8 then numbers 2
    else if kind == 10 then numbers 2
    else if kind == 20 then numbers 2
    else if kind == 5 then numbers 1
    else if kind == 7 then numbers 1
    else if kind == 11 then numbers 1
    else if kind == 12 then numbers 1
    else if kind == 13 then numbers 1
    else if kind == 15 then numbers 1
    else if kind == 17 then numbers 1
    else if kind == 6 then then_bytes 3 digest_length digest_length
    else if kind == 14 then then_bytes 1 0 longest_attribute
    else if kind == 16 then then_bytes 1 0 longest_attribute
    else numbers 0

-- layout of a reply, by its status
abbrev pub reply_layout : ℕ → Layout
reply_layout kind =
    if kind == 32 then numbers 4
    else if kind == 33 then then_bytes 1 digest_length digest_length
    else if kind == 35 then then_bytes 2 0 longest_data
    else if kind == 37 then numbers 1
    else if kind == 43 then numbers 1
    else if kind == 47 then numbers 1
    else if kind == 48 then numbers 1
    else if kind == 51 then numbers 1
    else if kind == 53 then numbers 1
    else if kind == 66 then numbers 1
    else if kind == 74 then numbers 1
    else if kind == 82 then numbers 1
    else if kind == 83 then numbers 1
    else if kind == 100 then numbers 1
    else if kind == 102 then numbers 1
    else if kind == 40 then whole_numbers longest_page
    else if kind == 45 then then_bytes 0 0 longest_attribute
    else if kind == 49 then numbers 2
    else if kind == 64 then numbers 2
    else if kind == 69 then numbers 2
    else if kind == 97 then numbers 2
    else if kind == 99 then numbers 2
    else if kind == 101 then numbers 2
    else if kind == 103 then numbers 2
    else if kind == 104 then numbers 2
    else if kind == 50 then numbers 10
    else numbers 0
