use Rattle.bk_store.proofs.RepresentedContents.{held_exactly}
use Rattle.bk_store.proofs.laws.represented_keys_are_held.Goals as goal

pub returns : goal.returns
returns c = λ bytes index cached dead map. held_exactly
