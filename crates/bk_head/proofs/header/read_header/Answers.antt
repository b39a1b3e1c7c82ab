use Rattle.std.proofs.Common.{refl, arith}
use Rattle.bk_head.proofs.HeaderLemmas.{magic_is, version_read, header_read, old_header_read}
use Rattle.bk_head.proofs.header.read_header.Goals as goal

pub returns-then-version-eq-WITHOUT_MAP-clause-ok : goal.returns-then-version-eq-WITHOUT_MAP-clause-ok
returns-then-version-eq-WITHOUT_MAP-clause-ok c = (
  λ _. (
    magic_is c.args.bytes.now c.starts_with.result c.starts_with.ensures.value c.if-not-starts_with.false,
    omega (arith, version_read c.args.bytes.now c.read_u32-version.result c.told-bytes c.read_u32-version.ensures, c.if-version-eq-WITHOUT_MAP.true),
  ),
  λ _. refl,
)

pub returns-then-version-eq-WITHOUT_MAP-clause-value : goal.returns-then-version-eq-WITHOUT_MAP-clause-value
returns-then-version-eq-WITHOUT_MAP-clause-value c =
    old_header_read c.args.bytes.now c.read_u32-version.result c.fits-bytes c.told-bytes
    (magic_is c.args.bytes.now c.starts_with.result c.starts_with.ensures.value c.if-not-starts_with.false)
    (version_read c.args.bytes.now c.read_u32-version.result c.told-bytes c.read_u32-version.ensures)
    c.if-version-eq-WITHOUT_MAP.true

pub returns-then-version-ne-VERSION-clause-ok : goal.returns-then-version-ne-VERSION-clause-ok
returns-then-version-ne-VERSION-clause-ok c =
    let version = version_read c.args.bytes.now c.read_u32-version.result c.told-bytes c.read_u32-version.ensures in
    (λ h. absurd cc, λ h. absurd (omega (arith, h.1, version, c.if-version-eq-WITHOUT_MAP.false, c.if-version-ne-VERSION.true)))

pub returns-then-version-ne-VERSION-clause-err : goal.returns-then-version-ne-VERSION-clause-err
returns-then-version-ne-VERSION-clause-err c = (
  magic_is c.args.bytes.now c.starts_with.result c.starts_with.ensures.value c.if-not-starts_with.false,
  version_read c.args.bytes.now
      c.read_u32-version.result c.told-bytes c.read_u32-version.ensures,
  omega (arith, c.if-version-eq-WITHOUT_MAP.false, c.if-version-ne-VERSION.true),
)

pub returns-clause-ok : goal.returns-clause-ok
returns-clause-ok c = (
  λ _. (
    magic_is c.args.bytes.now c.starts_with.result c.starts_with.ensures.value c.if-not-starts_with.false,
    omega (arith, version_read c.args.bytes.now c.read_u32-version.result c.told-bytes c.read_u32-version.ensures, c.if-version-ne-VERSION.false),
  ),
  λ _. refl,
)

pub returns-clause-value : goal.returns-clause-value
returns-clause-value c =
    header_read c.args.bytes.now c.read_u32-version.result c.read_i64.result c.read_i32.result c.fits-bytes c.told-bytes
    (magic_is c.args.bytes.now c.starts_with.result c.starts_with.ensures.value c.if-not-starts_with.false)
    (version_read c.args.bytes.now c.read_u32-version.result c.told-bytes c.read_u32-version.ensures)
    c.if-version-ne-VERSION.false c.read_i64.ensures c.read_i32.ensures
