use Rattle.bk_store.proofs.Replaying.{replay_came, came_replays}
use Rattle.bk_store.proofs.laws.replay_is_what_came_in.Goals as goal

pub returns : goal.returns
returns c = λ map trail replays key digest.
    (replay_came trail key digest, λ came. came_replays map trail replays came.0 key digest came.1 came.2)
