use Rattle.std.proofs.Common.{map}
use Rattle.line_reader.specs.Seen.{name_seen, statement_seen}
use Rattle.assembler.proofs.KeptLines.{directive_no_code}
use Rattle.assembler.proofs.reading.directive_behind.Goals as goal

pub returns-clause-directive : goal.returns-clause-directive
returns-clause-directive c =
    directive_no_code c.args.word.now (map name_seen c.args.words.now) (statement_seen c.in_ok-said.said) c.in_ok-said.ensures
