-- The numbers after the first word of a line.
use Rattle.std.specs.Prelude.{ℕ, List, [], ◌∷◌}
use Rattle.bk_script.specs.declared.line.numbers.Numbers.{Numbers}
use Rattle.bk_script.specs.declared.line.numbers.Numbers.TheVariants.{Zero, One, Two, Three}

abbrev pub listed : Numbers → List ℕ
listed Zero = []
listed (One a) = a ∷ []
listed (Two a b) = a ∷ b ∷ []
listed (Three a b c) = a ∷ b ∷ c ∷ []
