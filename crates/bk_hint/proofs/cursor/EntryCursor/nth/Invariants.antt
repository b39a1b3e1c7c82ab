use Rattle.std.proofs.Common.{◌≡◌, ◌≤◌}
use Rattle.bk_hint.specs.Cursor.{IsReached}
use Rattle.bk_hint.proofs.cursor.EntryCursor.nth.Given as goal

abbrev pub invariant-walk : goal.invariant-walk
invariant-walk l = record {
  same : l.self-inside.contents.now ≡ l.fn.self;
  reached : IsReached l.self-inside.contents.now l.self-inside.runs l.self-inside.before;
  rest : l.rest ≡ l.self-inside.runs;
  behind : l.self-inside.before ≤ l.place;
}
