use Rattle.bk_manifest.specs.Fact.{body_of}
use Rattle.bk_manifest.proofs.Pieces.{batch_cut}
use Rattle.bk_manifest.proofs.Files.{content_again}
use Rattle.bk_manifest.proofs.laws.written_manifest_is_read.Goals as goal

pub returns-clause-again : goal.returns-clause-again
returns-clause-again c = content_again

pub returns-clause-cut : goal.returns-clause-cut
returns-clause-cut c = λ generation place records kept legal few. batch_cut generation place (body_of records) kept legal.1 few
