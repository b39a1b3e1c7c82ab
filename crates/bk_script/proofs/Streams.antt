-- Bytes that several reads consume and several writes append.
use Rattle.std.proofs.Common.{ℕ, List, [], Option, Some, None, refl, sym}
use Rattle.std.proofs.lemmas.List.{append-nil}
use Rattle.std.specs.Io.KnownBytes.{Appends, Keeps}

pub appends_none : (known : Option (List ℕ)) → Appends known known []
appends_none None = tt
appends_none (Some xs) = sym (append-nil xs)

pub keeps_same : (known : Option (List ℕ)) → Keeps known known
keeps_same None = tt
keeps_same (Some xs) = refl
