-- A run of a script under other premises.
use Rattle.std.proofs.Common.{◌≡◌, ℕ, List, Option, subst}
use Rattle.bk_record.specs.Files.{Files}
use Rattle.bk_drive.specs.Headline.{Headline}
use Rattle.bk_store.specs.declared.settings.Settings.{Settings}
use Rattle.bk_script.specs.Run.{AreAllowed, RunsOn}

-- What holds of a run under some premises holds under stronger ones, for the same files.
pub still_runs : {Honest Unfailing Honest' Unfailing' : Type 0} {files files' : Files} {settings : Settings} {dead : List ℕ}
    {unread read shown written : Option (List ℕ)} → (Honest' → Honest) → (Unfailing' → Unfailing) → files ≡ files'
    → RunsOn Honest Unfailing files settings dead unread read shown written
    → RunsOn Honest' Unfailing' files' settings dead unread read shown written
still_runs {Honest'} {Unfailing'} {files} {files'} {settings} {dead} honest unfailing same ran =
    let script = ran.answered in
    let answered = script.answered in
    record {
      answers = ran.answers;
      answered = record {
        input = script.input;
        steps = script.steps;
        taken = script.taken;
        ended = script.ended;
        spelled = script.spelled;
        answered = record {
          each = answered.each;
          allowed = λ (h : Honest'). subst (λ (f : Files). AreAllowed f settings dead script.steps ran.answers) same (answered.allowed (honest h));
          unfailing = λ (u : Unfailing'). answered.unfailing (unfailing u);
        };
      };
      printed = ran.printed;
    }
