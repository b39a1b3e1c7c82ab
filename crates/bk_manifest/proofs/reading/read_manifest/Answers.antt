use Rattle.std.proofs.Common.{ℕ, List, Result, Ok, Err, subst, arith}
use Rattle.std.specs.Prelude.{IfOk}
use Rattle.bk_manifest.specs.declared.fault.ReadError.{ReadError}
use Rattle.bk_manifest.specs.declared.reading.Contents.{Contents}
use Rattle.bk_manifest.specs.Fact.{Fact}
use Rattle.bk_manifest.specs.Reading.{IsBytes, Gives}
use Rattle.bk_manifest.specs.File.{content, content_of, IsManifest}
use Rattle.bk_manifest.proofs.Found.{content_only, manifest_again}
use Rattle.bk_manifest.proofs.reading.read_manifest.Goals as goal

is_found : (file : List ℕ) (r : Result Contents ReadError) → IsBytes file → Gives content r (content_of file)
    → IfOk r (λ contents. (batches : List (List Fact)) × IsManifest file batches (content contents))
is_found file (Ok contents) each given = content_only file (content contents) each given
is_found file (Err e) each given = tt

pub returns-clause-found : goal.returns-clause-found
returns-clause-found c = is_found c.args.file.now c.read_contents.result (λ i. omega (arith, c.type_inv.file i)) c.read_contents.ensures

pub returns-clause-only : goal.returns-clause-only
returns-clause-only c = λ batches written m.
    subst (λ read. Gives content c.read_contents.result read) (manifest_again c.args.file.now batches written m) c.read_contents.ensures
