use Rattle.std.proofs.Common.{◌≡◌, ℕ, List, [], ◌++◌, refl}
use Rattle.std.specs.Int.{w32, to_be_bytes}
use Rattle.bk_manifest.specs.Checksum.{crc32c}
use Rattle.bk_manifest.specs.File.{front_of, header_of}
use Rattle.bk_manifest.proofs.writing.new_header.Goals as goal

three_parts : (none one two three a b d a' b' d' : List ℕ) → none ≡ [] → one ≡ none ++ a → two ≡ one ++ b → three ≡ two ++ d
    → a ≡ a' → b ≡ b' → d ≡ d' → three ≡ (a' ++ b') ++ d'
three_parts none one two three a b d a' b' d' h0 h1 h2 h3 p q r = rw (h3, h2, h1, h0, p, q, r) refl

with_checksum : (front whole check_bytes read spelled : List ℕ) (check : ℕ) → whole ≡ front ++ check_bytes → check_bytes ≡ to_be_bytes w32 check
    → check ≡ crc32c read → read ≡ front → front ≡ spelled → whole ≡ spelled ++ to_be_bytes w32 (crc32c spelled)
with_checksum front whole check_bytes read spelled check h p q r s = rw (h, p, q, r, s) refl

pub returns : goal.returns
unfolding header_of front_of
returns c =
    let front = three_parts _ _ _ _ _ _ _ _ _ _ c.new-header.ensures.items c.in_ok-extend_from_slice.ensures.items c.in_ok-extend_from_slice-2.ensures.items
    c.in_ok-extend_from_slice-3.ensures.items c.to_be_bytes.ensures c.to_be_bytes-2.ensures c.to_be_bytes-3.ensures in
    with_checksum _ _ _ _ _ _ c.in_ok-extend_from_slice-4.ensures.items c.to_be_bytes-4.ensures c.checksum-check.ensures c.deref.ensures.value front
