use Rattle.std.proofs.Common.{◌+◌, length, ap, ◌∙◌, List}
use Rattle.std.specs.List.{sum_by}
use Rattle.std.specs.Map.{values_of}
use Rattle.bk_cache.specs.Recents.{Entry}
use Rattle.bk_cache.specs.Rows.{all_pairs}
use Rattle.bk_cache.proofs.rows.Rows.drop_ledger.Goals as goal

pub returns-clause-count : goal.returns-clause-count
returns-clause-count c =
    ap (λ pages. length (all_pairs pages) + c.loop-page.count) c.in_default.ensures.unchanged ∙ c.loop-page.invariant.count
    ∙ ap (λ (es : List Entry). length es) c.self.view_is

pub returns-clause-bytes : goal.returns-clause-bytes
returns-clause-bytes c =
    ap (λ pages. sum_by length (values_of (all_pairs pages)) + c.loop-page.bytes) c.in_default.ensures.unchanged ∙ c.loop-page.invariant.bytes
    ∙ ap (λ (es : List Entry). sum_by length (values_of es)) c.self.view_is
