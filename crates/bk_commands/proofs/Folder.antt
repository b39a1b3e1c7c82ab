-- A script that ran on a directory.
use Rattle.std.proofs.Common.{ℕ, List}
use Rattle.std.specs.Prelude.{Option}
use Rattle.bk_record.specs.Files.{Files}
use Rattle.bk_store.specs.declared.settings.Settings.{Settings}
use Rattle.bk_script.specs.Run.{RunsOn}
use Rattle.bk_commands.specs.Folder.{RunsOverFolder}

-- What is stated of its output does not depend on the deleted ledgers.
pub over_folder : {Honest Unfailing : Type 0} (files : Files) (settings : Settings) (dead dead' : List ℕ) (unread read shown written : Option (List ℕ))
    → RunsOn Honest Unfailing files settings dead unread read shown written → RunsOverFolder settings dead' unread read shown written
over_folder files settings dead dead' unread read shown written run = record {
  answers = run.answers;
  answered = record {
    input = run.answered.input;
    steps = run.answered.steps;
    taken = run.answered.taken;
    ended = run.answered.ended;
    spelled = run.answered.spelled;
    answered = record {
      each = run.answered.answered.each;
      allowed = λ never. absurd never;
      unfailing = λ never. absurd never;
    };
  };
  printed = run.printed;
}
