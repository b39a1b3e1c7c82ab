-- Data in hexadecimal, and numbers of a page, written one at a time.
use Rattle.std.proofs.Common.{◌≡◌, ℕ, ◌+◌, ◌<◌, List, [], ◌∷◌, ◌++◌, length, take, get_or, Result, IsOk}
use Rattle.std.specs.declared.fmt.Formatter.{Formatter}
use Rattle.std.specs.declared.fmt.Error.{Error}
use Rattle.std.specs.Fmt.{HasWritten, WritesOnOk, decimal}
use Rattle.std.proofs.lemmas.List.{take_more, flat_map_more}
use Rattle.std.proofs.lemmas.Grind.{put_two}
use Rattle.bk_script.specs.Text.{digit_pair, hex_of, spaced}

hex_of-take : (bytes : List ℕ) (i : ℕ) → i < length bytes → hex_of (take i bytes) ++ digit_pair (get_or bytes i 0) ≡ hex_of (take (i + 1) bytes)
hex_of-take bytes i inside = rw (take_more bytes i 0 inside) (flat_map_more digit_pair [] (take i bytes) (get_or bytes i 0))

-- One more byte.
pub hex_more : {W : Type 0} (took : W → List ℕ → W → Type 0) (start f g : Formatter W) (bytes : List ℕ) (i : ℕ)
    (r : Result (Unit {0}) Error) → i < length bytes → HasWritten took start (hex_of (take i bytes)) f
    → WritesOnOk took f r (digit_pair (get_or bytes i 0)) g → IsOk r → HasWritten took start (hex_of (take (i + 1) bytes)) g
hex_more took start f g bytes i r inside before writes ok =
    put_two took start f g _ (digit_pair (get_or bytes i 0)) _ before (writes before.plain ok) (hex_of-take bytes i inside)

spaced-take : (numbers : List ℕ) (i : ℕ) → i < length numbers → spaced (take i numbers) ++ 32 ∷ decimal (get_or numbers i 0) ≡ spaced (take (i + 1) numbers)
spaced-take numbers i inside =
    rw (take_more numbers i 0 inside) (flat_map_more (λ n. 32 ∷ decimal n) [] (take i numbers) (get_or numbers i 0))

-- One more number.
pub spaced_more : {W : Type 0} (took : W → List ℕ → W → Type 0) (start f g : Formatter W) (numbers : List ℕ) (i : ℕ)
    (r : Result (Unit {0}) Error) → i < length numbers → HasWritten took start (spaced (take i numbers)) f
    → WritesOnOk took f r (32 ∷ decimal (get_or numbers i 0)) g → IsOk r → HasWritten took start (spaced (take (i + 1) numbers)) g
spaced_more took start f g numbers i r inside before writes ok =
    put_two took start f g _ (32 ∷ decimal (get_or numbers i 0)) _ before (writes before.plain ok) (spaced-take numbers i inside)
