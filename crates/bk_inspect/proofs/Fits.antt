-- Whether an entry fits a digest, from the pieces of its payload that were read.
use Rattle.std.proofs.Common.{◌≡◌, ℕ, ◌+◌, ◌-◌, ◌≤◌, ◌↔◌, IsTrue, List, ◌++◌, length, take, drop, sym, ap, ◌∙◌, arith, subst}
use Rattle.std.specs.Prelude.{eqb}
use Rattle.std.specs.Int.{w32, w64, from_be_bytes}
use Rattle.std.proofs.lemmas.Bool.{eqb-true, eq-eqb}
use Rattle.std.proofs.Math.Seq.{take-add}
use Rattle.std.proofs.lemmas.List.{take-take, take_all, length-drop, drop-drop, drop-take, append_assoc}
use Rattle.bk_crc.specs.Checksum.{IsChecksum}
use Rattle.bk_crc.proofs.Words.{one_of}
use Rattle.bk_inspect.specs.declared.digest.Digest.{Digest}
use Rattle.bk_inspect.specs.declared.digest.Digest.TheVariants.{Crc32c, Crc32}
use Rattle.bk_inspect.specs.Digests.{polynomial_of, width_of, written_as, FitsDigest}

-- a message with one piece more of a file
pub piece_more : (message file : List ℕ) (from done some : ℕ)
    → (message ++ take done (drop from file)) ++ take some (drop (from + done) file) ≡ message ++ take (done + some) (drop from file)
piece_more message file from done some =
    append_assoc message (take done (drop from file)) (take some (drop (from + done) file))
    ∙ ap (λ (z : List ℕ). message ++ (take done (drop from file) ++ take some z)) (sym (drop-drop done from file))
    ∙ ap (λ (z : List ℕ). message ++ z) (sym (take-add done some (drop from file)))

-- a part of a payload, read from its file
part_of : (file payload : List ℕ) (at skip n : ℕ) → take (length payload) (drop at file) ≡ payload → skip + n ≤ length payload
    → take n (drop (at + skip) file) ≡ take n (drop skip payload)
part_of file payload at skip n is fits =
    let rest : length payload ≡ skip + (length payload - skip) = omega arith in
    let low : n ≤ length payload - skip = omega arith in
    let front : drop skip payload ≡ take (length payload - skip) (drop (at + skip) file) =
    ap (drop skip) (sym is) ∙ ap (λ (z : ℕ). drop skip (take z (drop at file))) rest
    ∙ drop-take skip (length payload - skip) (drop at file) ∙ ap (take (length payload - skip)) (drop-drop skip at file) in
    sym (ap (take n) front ∙ take-take n (length payload - skip) (drop (at + skip) file) low)

-- the number is read from the first bytes of what it is given
written_front : (digest : Digest) (bytes : List ℕ) → written_as digest (take (width_of digest) bytes) ≡ written_as digest bytes
written_front Crc32c bytes = ap (from_be_bytes w32) (take-take 4 4 bytes (omega arith))
written_front Crc32 bytes = ap (from_be_bytes w64) (take-take 8 8 bytes (omega arith))

module _ (digest : Digest) (file payload head written rest : List ℕ) (at checksum : ℕ) where
  -- the pieces of a payload, as they were read
  pub record Pieces : Type 0 where
    pub is : take (length payload) (drop at file) ≡ payload
    pub long : 32 + width_of digest ≤ length payload
    pub head_is : head ≡ take 32 (drop at file)
    pub written_is : written ≡ take (width_of digest) (drop (at + 32) file)
    pub rest_is : rest ≡ take (length payload - (32 + width_of digest)) (drop (at + (32 + width_of digest)) file)
    pub computed : IsChecksum (polynomial_of digest) (head ++ rest) checksum

  -- the checksum is the number that stands there exactly where the payload fits
  pub fits_is : Pieces → IsTrue (eqb checksum (written_as digest written)) ↔ FitsDigest digest payload
  fits_is p =
      let skip : ℕ = 32 + width_of digest in
      let short : 32 ≤ length payload = omega (arith, p.long) in
      let sum : skip + (length payload - skip) ≤ length payload = omega (arith, p.long) in
      let head_of : head ≡ take 32 payload = p.head_is ∙ sym (ap (take 32) (sym p.is) ∙ take-take 32 (length payload) (drop at file) short) in
      let written_of : written_as digest written ≡ written_as digest (drop 32 payload) =
      ap (written_as digest) (p.written_is ∙ part_of file payload at 32 (width_of digest) p.is p.long) ∙ written_front digest (drop 32 payload) in
      let all : length (drop skip payload) ≤ length payload - skip = omega (arith, length-drop skip payload) in
      let rest_of : rest ≡ drop skip payload =
      p.rest_is ∙ part_of file payload at skip (length payload - skip) p.is sum ∙ take_all (length payload - skip) (drop skip payload) all in
      let covered : head ++ rest ≡ take 32 payload ++ drop skip payload = ap (λ (z : List ℕ). z ++ rest) head_of ∙ ap (λ (z : List ℕ). take 32 payload ++ z) rest_of in
      let computed = subst (λ (z : List ℕ). IsChecksum (polynomial_of digest) z checksum) covered p.computed in (
        λ same. record {
          long = p.long;
          is = subst (λ (z : ℕ). IsChecksum (polynomial_of digest) (take 32 payload ++ drop skip payload) z) (eqb-true checksum (written_as digest written) same ∙ written_of) computed;
        },
        λ fits.
            eq-eqb checksum (written_as digest written) (one_of (polynomial_of digest) (take 32 payload ++ drop skip payload) checksum (written_as digest (drop 32 payload)) computed fits.is ∙ sym written_of),
      )
