use Rattle.commands.proofs.ListedRows.{rows_said}
use Rattle.commands.proofs.law.a_row_is_listed_with_the_line_that_says_it.Goals as goal

pub returns : goal.returns
returns c = rows_said
