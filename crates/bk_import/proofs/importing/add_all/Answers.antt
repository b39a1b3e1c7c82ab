use Rattle.std.proofs.Common.{◌∷◌, [], ℕ, List, Option, Some, None, option_map, IsTrue, Vec, Global, subst, ◌∙◌}
use Rattle.bk_store.specs.Contents.{contents_at}
use Rattle.bk_import.specs.Importing.{Gains}
use Rattle.bk_import.specs.Records.{ReadsRecord}
use Rattle.bk_import.proofs.Gaining.{imports_more, imports_all}
use Rattle.bk_import.proofs.importing.add_all.Goals as goal

pub records-preserved : goal.records-preserved
records-preserved g c =
    let so_far = c.records.invariant in
    let payload = c.in-Ok-Some.payload.items in
    let before = g.R.Read.remaining c.records.reader in
    let after = g.R.Read.remaining c.next_record.new.reader in
    let read : ReadsRecord (Some payload) before after =
    subst (λ (found : Option (Vec ℕ Global)). ReadsRecord (option_map (λ (p : Vec ℕ Global). p.items) found) before after)
    c.in-Ok-Some.field-0-is c.in-Ok-Some.ensures.read in
    record {
      imports = imports_more (IsTrue c.args.store.now.honest) (g.R.Read.remaining c.args.reader.now) before after payload
          (contents_at c.args.store.now) (contents_at c.records.store) (contents_at c.add.new.store) so_far.imports read.1
          (λ is. subst (λ (p : List ℕ). Gains (contents_at c.records.store) (contents_at c.add.new.store) (p ∷ [])) c.deref.ensures.value
          (c.in_ok-add.ensures.gains (so_far.honest ∙ is)));
      honest = c.in_ok-add.ensures.honest ∙ so_far.honest;
    }

pub returns-in-Ok-None-clause-imports : goal.returns-in-Ok-None-clause-imports
returns-in-Ok-None-clause-imports g c =
    let before = g.R.Read.remaining c.records.reader in
    let after = g.R.Read.remaining c.next_record.new.reader in
    let read : ReadsRecord None before after =
    subst (λ (found : Option (Vec ℕ Global)). ReadsRecord (option_map (λ (p : Vec ℕ Global). p.items) found) before after)
    c.in-Ok-None.field-0-is c.in-Ok-None.ensures.read in
    imports_all (IsTrue c.args.store.now.honest) (g.R.Read.remaining c.args.reader.now) before after (contents_at c.args.store.now) (contents_at c.records.store)
    c.records.invariant.imports read.0 read.1
