use Rattle.std.proofs.Common.{◌≡◌, ◌+◌, ◌≤◌, ◌++◌, replicate, vec_len, vec_capacity}
use Rattle.bk_drive.specs.declared.step.Answer.TheVariants.{Unrecorded}
use Rattle.bk_drive.proofs.recorded.push_unrecorded.Given as goal

abbrev pub invariant-loop : goal.invariant-loop
invariant-loop l = record {
  counted : vec_len l.answers ≡ vec_len l.initial.answers + l.counter;
  room : vec_len l.initial.answers + l.count ≤ vec_capacity l.answers;
  pushed : l.answers.items ≡ l.initial.answers.items ++ replicate l.counter Unrecorded;
}
