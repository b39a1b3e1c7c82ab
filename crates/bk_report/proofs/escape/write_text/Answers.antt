use Rattle.std.proofs.Common.{List, ℕ, subst, ◌∙◌}
use Rattle.std.proofs.lemmas.List.{take_all}
use Rattle.std.specs.List.{flat_map}
use Rattle.std.specs.Io.KnownBytes.{Appends}
use Rattle.bk_report.specs.Html.{entity_of}
use Rattle.bk_report.proofs.Escaping.{escaped_of, decoded-escaped}
use Rattle.bk_report.proofs.escape.write_text.Goals as goal

pub returns : goal.returns
returns g c =
    let text = c.args.text.now in
    let bytes = c.as_bytes-byte-items in
    let whole = take_all c.loop-byte.byte-index bytes.result.now c.loop-byte-test.false ∙ bytes.ensures.value in (
      flat_map entity_of text,
      escaped_of text,
      decoded-escaped text,
      subst
          (λ (l : List ℕ). Appends (g.W.Write.contents c.args.out.now) (g.W.Write.contents c.loop-byte.out) (flat_map entity_of l))
          whole c.loop-byte.invariant,
    )
