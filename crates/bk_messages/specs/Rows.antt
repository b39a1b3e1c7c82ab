-- The fault of a command whose row is not written.
use Rattle.bk_messages.specs.declared.rows.RowFault.{RowFault}
use Rattle.bk_messages.specs.declared.rows.RowFault.TheVariants as rows
use Rattle.bk_messages.specs.declared.fault.CommandFault.{CommandFault}
use Rattle.bk_messages.specs.declared.fault.CommandFault.TheVariants as commands

abbrev pub of_row : RowFault → CommandFault
of_row rows.Memory = commands.Memory
of_row (rows.Output error) = commands.Output error
