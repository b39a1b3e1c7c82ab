-- Whether a book records anything.
use Rattle.std.specs.Prelude.{Bool, is_none}
use Rattle.bk_folder.specs.declared.book.Book.{Book}

abbrev pub is_unrecorded : Book → Bool
is_unrecorded book = is_none book.recorder
