use Rattle.std.proofs.Common.{map}
use Rattle.line_reader.specs.Seen.{name_seen, statement_seen}
use Rattle.assembler.proofs.KeptLines.{directive_follows}
use Rattle.assembler.proofs.first_pass.add_directive.Goals as goal

pub push_directive-requires-clause-follows : goal.push_directive-requires-clause-follows
push_directive-requires-clause-follows c =
    directive_follows c.args.draft.now c.args.word.now (map name_seen c.args.words.now) (statement_seen c.in_ok-said.said)
    c.requires.directive c.in_ok-said.ensures.said
