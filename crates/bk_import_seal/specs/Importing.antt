-- What an import prints, and why it ends early: the word in an object, and the way on.
use Rattle.std.specs.Prelude.{ℕ, List, [], ◌∷◌, ◌++◌, Option, Some, None, codes}
use Rattle.std.specs.Fmt.{decimal}
use Rattle.bk_store.specs.declared.answer.AddFault.{AddFault}
use Rattle.bk_store.specs.declared.answer.AddFault.TheVariants as adds
use Rattle.bk_import.specs.declared.importing.Imported.{Imported}
use Rattle.bk_import.specs.declared.importing.ImportFault.{ImportFault}
use Rattle.bk_import.specs.declared.importing.ImportFault.TheVariants as imports
use Rattle.bk_messages.specs.Kinds.{store_word, reason_word, step_word}
use Rattle.bk_messages.specs.Ways.{way_behind}
use Rattle.bk_messages.specs.declared.way_on.WayOn.{WayOn}
use Rattle.bk_folder.specs.Openings.{opening_way, opening_word}
use Rattle.bk_import_seal.specs.declared.import.Fault.{Fault}
use Rattle.bk_import_seal.specs.declared.import.Fault.TheVariants.{File, Opening, Import, Memory}

abbrev pub added_text : ℕ → ℕ → List ℕ
added_text added held = codes "added " ++ decimal added ++ codes " held " ++ decimal held

abbrev pub added_line : Imported → List ℕ
added_line imported = added_text imported.added imported.held ++ 10 ∷ []

abbrev pub add_word : AddFault → List ℕ
add_word adds.Memory = codes "memory"
add_word fault = codes "refused"

abbrev pub import_word : ImportFault → List ℕ
import_word (imports.Open fault) = store_word fault
import_word (imports.Read reason) = reason_word reason (codes "read")
import_word (imports.BadRecord at) = codes "bad record"
import_word (imports.Add fault) = add_word fault
import_word (imports.Step fault) = step_word fault
import_word imports.Flush = codes "step"

abbrev pub fault_word : Fault → List ℕ
fault_word (File path reason) = reason_word reason (codes "unread")
fault_word (Opening fault) = opening_word fault
fault_word (Import fault) = import_word fault
fault_word Memory = codes "memory"

abbrev pub import_way : ImportFault → Option WayOn
import_way (imports.Open fault) = way_behind fault
import_way fault = None

abbrev pub fault_way : Fault → Option WayOn
fault_way (Opening fault) = opening_way fault
fault_way (Import fault) = import_way fault
fault_way fault = None
