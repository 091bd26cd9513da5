use Rattle.std.proofs.{Common.refl, lemmas.Str.Ascii.trim_ascii_is}
use Rattle.commands.proofs.text_rows.trimmed.Goals as goal

pub returns : goal.returns
returns c = trim_ascii_is c.args.line.now c.trim_ascii.result.now _ refl c.trim_ascii.ensures.value
