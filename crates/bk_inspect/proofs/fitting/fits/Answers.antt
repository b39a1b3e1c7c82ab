use Rattle.std.proofs.Common.{◌≡◌, ℕ, ◌+◌, ◌-◌, ◌↔◌, IsTrue, [], ◌++◌, length, take, drop, sym, ap, ◌∙◌, subst, arith}
use Rattle.std.specs.Prelude.{eqb}
use Rattle.bk_crc.specs.declared.polynomial.Polynomial.{Polynomial}
use Rattle.bk_crc.specs.Holds.{Holds}
use Rattle.bk_log.proofs.Fetches.{payload_of}
use Rattle.bk_inspect.specs.Digests.{polynomial_of, written_as, FitsDigest}
use Rattle.bk_inspect.proofs.Fits.{fits_is}
use Rattle.bk_inspect.proofs.fitting.fits.Goals as goal

pub returns : goal.returns
returns g c = λ honest payload here sized.
    let file = g.V.LogView.bytes c.args.view.now in
    let digest = c.args.digest in
    let at : ℕ = c.args.found.now.at in
    let width : ℕ = c.width-data.result in
    let size : c.saturating_sub-size.result ≡ length payload = omega (arith, c.saturating_sub-size.ensures, c.from.ensures, sized) in
    let head = c.deref.result.now in
    let written = c.deref-2.result.now in
    let rest = take (c.saturating_sub-size.result - (32 + width)) (drop (at + (32 + width)) file) in
    let begun = subst (λ (p : Polynomial). Holds p c.new-checksum.result []) c.polynomial.ensures c.new-checksum.ensures in
    let headed = c.update.ensures (polynomial_of digest) [] begun in
    let all = c.in_ok-add_part.ensures honest (polynomial_of digest) head headed in
    let computed = c.finish.ensures (polynomial_of digest) (head ++ rest) all in
    let is = fits_is digest file payload head written rest at c.finish.result (record {
      is = payload_of file payload at here;
      long = omega (arith, size, c.width-data.ensures);
      head_is = c.deref.ensures.value ∙ (c.in_ok-head.ensures.ok honest).1;
      written_is = c.deref-2.ensures.value ∙ (c.in_ok-written.ensures.ok honest).1 ∙ ap (λ (w : ℕ). take w (drop (at + 32) file)) c.width.ensures;
      rest_is = ap (λ (n : ℕ). take (n - (32 + width)) (drop (at + (32 + width)) file)) size
          ∙ ap (λ (w : ℕ). take (length payload - (32 + w)) (drop (at + (32 + w)) file)) c.width-data.ensures;
      computed = computed;
    }) in
    subst (λ (n : ℕ). IsTrue (eqb c.from-2.result n) ↔ FitsDigest digest payload) (sym c.read.ensures)
    (subst (λ (n : ℕ). IsTrue (eqb n (written_as digest written)) ↔ FitsDigest digest payload) (sym c.from-2.ensures) is)
