-- A log that only grows after its header keeps its records.
use Rattle.std.proofs.Common.{ℕ, List, [], ◌++◌, length, drop}
use Rattle.std.proofs.Common.{refl, sym, ap, ◌∙◌, arith, append_assoc, length-drop}
use Rattle.std.proofs.Math.Decide.{dec_le}
use Rattle.std.proofs.lemmas.List.{drop-append-le, append-nil, nil_from_length}
use Rattle.bk_record.specs.Files.{header_length}
use Rattle.bk_record.specs.Longer.{IsLonger}

-- reflexive; and a longer version after an append
pub longer_same : (file : List ℕ) → IsLonger file file
longer_same file = record { behind = []; is = sym (append-nil (drop header_length file)) }

pub longer_append : (file more : List ℕ) → IsLonger file (file ++ more)
longer_append file more = elim (dec_le header_length (length file)) [
  | yes headed ↦ record { behind = more; is = drop-append-le header_length file more headed }
  | no short ↦ record {
    behind = drop header_length (file ++ more);
    is = ap (λ (l : List ℕ). l ++ drop header_length (file ++ more))
        (sym (nil_from_length (drop header_length file) (omega (arith, length-drop header_length file))));
  }
]

pub longer_trans : (front middle whole : List ℕ) → IsLonger front middle → IsLonger middle whole → IsLonger front whole
longer_trans front middle whole a b = record {
  behind = a.behind ++ b.behind;
  is = b.is ∙ ap (λ (l : List ℕ). l ++ b.behind) a.is ∙ append_assoc (drop header_length front) a.behind b.behind;
}

-- every log is a longer version of an empty one
pub longer_empty : (whole : List ℕ) → IsLonger [] whole
longer_empty whole = record { behind = drop header_length whole; is = refl }
