use Rattle.std.proofs.Common.{◌≡◌, take}
use Rattle.bk_manifest.specs.Fact.{facts}
use Rattle.bk_survey.specs.Pages.{rows_of}
use Rattle.bk_survey.proofs.manifest.rows_of.Given as goal

abbrev pub invariant-loop-one : goal.invariant-loop-one
invariant-loop-one l = l.rows.items ≡ rows_of (facts (take l.one-index l.records))
