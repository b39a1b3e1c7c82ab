-- The pairs of a page, by its form.
use Rattle.std.specs.Prelude.{List}
use Rattle.bk_record.specs.Key.{EntryKey}
use Rattle.bk_record.specs.Location.{Place}
use Rattle.bk_index.specs.declared.page.Form.{Form}
use Rattle.bk_index.specs.declared.page.Form.TheVariants.{Packed, Plain}

abbrev pub form_pairs : Form → List (EntryKey × Place)
form_pairs (Packed pairs) = pairs
form_pairs (Plain pairs) = pairs
