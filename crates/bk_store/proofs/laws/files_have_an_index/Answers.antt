use Rattle.std.specs.FinMap as finite
use Rattle.bk_record.specs.Files.{file_of}
use Rattle.bk_store.proofs.EntryLists.{list_index}
use Rattle.bk_store.proofs.Walks.{walked}
use Rattle.bk_store.proofs.HeldWalks.{files_walked}
use Rattle.bk_store.proofs.Indexes.{index_of_list}
use Rattle.bk_store.proofs.laws.files_have_an_index.Goals as goal

pub returns : goal.returns
returns c = λ files dead.
    let made = index_of_list dead (walked (file_of files) (finite.keys files)) in
    (made.0, list_index (files_walked files) made.1)
