-- The faults that are not told: those that were told before, and that nobody reads the output any more.
use Rattle.std.specs.Prelude.{◌≡◌}
use Rattle.std.specs.IoError.{error_kind}
use Rattle.std.specs.declared.io.ErrorKind.TheVariants as kinds
use Rattle.bk_messages.specs.declared.fault.CommandFault.{CommandFault}
use Rattle.bk_messages.specs.declared.fault.CommandFault.TheVariants as commands

abbrev pub IsQuiet : CommandFault → Type 0
IsQuiet commands.Reported = Unit {0}
IsQuiet (commands.Output error) = error_kind error ≡ kinds.BrokenPipe
IsQuiet fault = ⊥
