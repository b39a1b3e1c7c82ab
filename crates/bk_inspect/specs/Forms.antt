-- What the clauses say of a writer, in each form.
use Rattle.std.specs.Prelude.{ℕ, List, Option, None}
use Rattle.bk_inspect.specs.declared.form.Form.{Form}
use Rattle.bk_inspect.specs.declared.form.Form.TheVariants.{Text, Json}

-- the bytes written, as far as the clauses say something of them: those of text
abbrev pub followed : Form → Option (List ℕ) → Option (List ℕ)
followed Text contents = contents
followed Json contents = None
