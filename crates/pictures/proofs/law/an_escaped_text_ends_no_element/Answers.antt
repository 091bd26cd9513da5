use Rattle.pictures.proofs.Escapes.{escaped-in_no_tag}
use Rattle.pictures.proofs.law.an_escaped_text_ends_no_element.Goals as goal

pub returns : goal.returns
returns c = escaped-in_no_tag
