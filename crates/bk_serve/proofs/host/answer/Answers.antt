use Rattle.std.proofs.Common.{refl}
use Rattle.bk_serve_core.specs.Replies.{told, refused}
use Rattle.bk_serve_core.specs.declared.refusal.Refusal.TheVariants as f
use Rattle.bk_serve.proofs.host.answer.Goals as goal

pub returns-in-Add : goal.returns-in-Add
returns-in-Add g c = rw c.in-Add.is (told c.add.result, c.add.ensures, c.encode.ensures.ok)

pub returns-in-AddRecovery : goal.returns-in-AddRecovery
returns-in-AddRecovery g c = rw c.in-AddRecovery.is (told c.add-in-AddRecovery.result, c.add-in-AddRecovery.ensures, c.encode-in-AddRecovery.ensures.ok)

pub returns-in-Holds : goal.returns-in-Holds
returns-in-Holds g c = rw c.in-Holds.is (told c.holds.result, (c.holds.ensures, (refl, refl)), c.encode-in-Holds.ensures.ok)

pub returns-in-Fence : goal.returns-in-Fence
returns-in-Fence g c = rw c.in-Fence.is (told c.fence.result, c.fence.ensures, c.encode-in-Fence.ensures.ok)

pub returns-in-IsFenced : goal.returns-in-IsFenced
returns-in-IsFenced g c = rw c.in-IsFenced.is (told c.is_fenced.result, (c.is_fenced.ensures, (refl, refl)), c.encode-in-IsFenced.ensures.ok)

pub returns-in-Delete : goal.returns-in-Delete
returns-in-Delete g c = rw c.in-Delete.is (told c.delete.result, c.delete.ensures, c.encode-in-Delete.ensures.ok)

pub returns-in-SetMasterKey : goal.returns-in-SetMasterKey
returns-in-SetMasterKey g c = rw c.in-SetMasterKey.is (told c.set_attribute.result, (c.set_attribute.ensures, refl), c.encode-in-SetMasterKey.ensures.ok)

pub returns-in-SetExplicitLac : goal.returns-in-SetExplicitLac
returns-in-SetExplicitLac g c = rw c.in-SetExplicitLac.is (told c.set_attribute-in-SetExplicitLac.result, (c.set_attribute-in-SetExplicitLac.ensures, refl), c.encode-in-SetExplicitLac.ensures.ok)

pub returns-in-Flush : goal.returns-in-Flush
returns-in-Flush g c = rw c.in-Flush.is (told c.flush.result, (c.flush.ensures, refl), c.encode-in-Flush.ensures.ok)

pub returns-in-Checkpoint : goal.returns-in-Checkpoint
returns-in-Checkpoint g c = rw c.in-Checkpoint.is (told c.checkpoint.result, (c.checkpoint.ensures, refl), c.encode-in-Checkpoint.ensures.ok)

pub returns-in-Compact : goal.returns-in-Compact
returns-in-Compact g c = rw c.in-Compact.is (told c.compact.result, (c.compact.ensures, refl), c.encode-in-Compact.ensures.ok)

pub returns-in-Seal : goal.returns-in-Seal
returns-in-Seal g c = rw c.in-Seal.is (told c.seal.result, (c.seal.ensures, refl), c.encode-in-Seal.ensures.ok)

pub returns-in-Close : goal.returns-in-Close
returns-in-Close g c = rw c.in-Close.is (told c.close.result, (c.close.ensures, refl), c.encode-in-Close.ensures.ok)

pub returns-in-Read : goal.returns-in-Read
returns-in-Read g c = rw c.in-Read.is (c.run_read.ensures.0, (c.begin_read.ensures c.run_read.ensures.0 c.run_read.ensures.1, refl), c.run_read.ensures.2)

pub returns-in-ReadBack : goal.returns-in-ReadBack
returns-in-ReadBack g c = rw c.in-ReadBack.is (c.run_read-in-ReadBack.ensures.0, (c.begin_read_back.ensures c.run_read-in-ReadBack.ensures.0 c.run_read-in-ReadBack.ensures.1, refl), c.run_read-in-ReadBack.ensures.2)

pub returns-in-MasterKey : goal.returns-in-MasterKey
returns-in-MasterKey g c = rw c.in-MasterKey.is (c.attribute.ensures.0, (c.attribute.ensures.1, (refl, refl)), c.attribute.ensures.2)

pub returns-in-ExplicitLac : goal.returns-in-ExplicitLac
returns-in-ExplicitLac g c = rw c.in-ExplicitLac.is (c.attribute-in-ExplicitLac.ensures.0, (c.attribute-in-ExplicitLac.ensures.1, (refl, refl)), c.attribute-in-ExplicitLac.ensures.2)

pub returns-in-Hello : goal.returns-in-Hello
returns-in-Hello g c = rw c.in-Hello.is (refused f.NotOffered, (refl, (refl, refl)), c.not_offered.ensures)

pub returns-in-ReadLast : goal.returns-in-ReadLast
returns-in-ReadLast g c = rw c.in-ReadLast.is (c.run_read-in-ReadLast.ensures.0, (c.begin_read_last.ensures c.run_read-in-ReadLast.ensures.0 c.run_read-in-ReadLast.ensures.1, refl), c.run_read-in-ReadLast.ensures.2)

pub returns-in-LastEntry : goal.returns-in-LastEntry
returns-in-LastEntry g c = rw c.in-LastEntry.is (told c.last_entry.result, (c.last_entry.ensures, (refl, refl)), c.encode-in-LastEntry.ensures.ok)

pub returns-in-Entries : goal.returns-in-Entries
returns-in-Entries g c = rw c.in-Entries.is (c.entries.ensures.0, (c.entries.ensures.1, (refl, refl)), c.entries.ensures.2)

pub returns-in-Ledgers : goal.returns-in-Ledgers
returns-in-Ledgers g c = rw c.in-Ledgers.is (c.ledgers.ensures.0, (c.ledgers.ensures.1, (refl, refl)), c.ledgers.ensures.2)

pub returns-in-Stats : goal.returns-in-Stats
returns-in-Stats g c = rw c.in-Stats.is (told c.figures.result, (c.figures.ensures.says, (c.figures.ensures.same, refl)), c.encode-in-Stats.ensures.ok)
