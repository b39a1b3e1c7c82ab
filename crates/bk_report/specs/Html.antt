-- Text as HTML. Read `IsEscaped` and `ShowsText`.
use Rattle.std.specs.Prelude.{◌≡◌, ◌≢◌, ℕ, ◌==◌, List, [], ◌∷◌, ◌++◌, Option, codes, drop, nat_eq, if◌then◌else◌}
use Rattle.std.specs.List.{starts_with}
use Rattle.std.specs.Io.KnownBytes.{Appends}

-- an entity, and the byte that it stands for
pub data IsEntity : List ℕ → ℕ → Type 0 where
  amp : IsEntity (codes "&amp;") 38
  lt : IsEntity (codes "&lt;") 60
  gt : IsEntity (codes "&gt;") 62
  quot : IsEntity (codes "&quot;") 34
  apos : IsEntity (codes "&#39;") 39

-- a byte without a meaning in HTML
pub record IsPlain (byte : ℕ) : Type 0 where
  pub not_amp : byte ≢ 38
  pub not_lt : byte ≢ 60
  pub not_gt : byte ≢ 62
  pub not_quot : byte ≢ 34
  pub not_apos : byte ≢ 39

-- the first bytes are HTML for the second: plain bytes as they are, and entities
pub data IsEscaped : List ℕ → List ℕ → Type 0 where
  none : IsEscaped [] []
  plain : {html text : List ℕ} {byte : ℕ} → IsPlain byte → IsEscaped html text → IsEscaped (byte ∷ html) (byte ∷ text)
  entity : {html text name : List ℕ} {byte : ℕ} → IsEntity name byte → IsEscaped html text → IsEscaped (name ++ html) (byte ∷ text)

-- what an ampersand and the bytes after it stand for
abbrev pub after_ampersand : List ℕ → List ℕ
after_ampersand bs =
    if starts_with nat_eq bs (codes "amp;") then 38 ∷ drop 4 bs
    else if starts_with nat_eq bs (codes "lt;") then 60 ∷ drop 3 bs
    else if starts_with nat_eq bs (codes "gt;") then 62 ∷ drop 3 bs
    else if starts_with nat_eq bs (codes "quot;") then 34 ∷ drop 5 bs
    else if starts_with nat_eq bs (codes "#39;") then 39 ∷ drop 4 bs
    else 38 ∷ bs

-- HTML with its entities decoded
abbrev pub decoded : List ℕ → List ℕ
decoded [] = []
decoded (b ∷ bs) = if b == 38 then after_ampersand (decoded bs) else b ∷ decoded bs

-- HTML for a text is written, and decodes to it
abbrev pub ShowsText : Option (List ℕ) → Option (List ℕ) → List ℕ → Type 0
ShowsText before now text = (html : List ℕ) × IsEscaped html text × (decoded html ≡ text) × Appends before now html

-- how a byte is written
abbrev pub entity_of : ℕ → List ℕ
entity_of byte =
    if byte == 38 then codes "&amp;"
    else if byte == 60 then codes "&lt;"
    else if byte == 62 then codes "&gt;"
    else if byte == 34 then codes "&quot;"
    else if byte == 39 then codes "&#39;"
    else byte ∷ []
