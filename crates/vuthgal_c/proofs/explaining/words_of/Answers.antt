use Rattle.std.proofs.Common.{ap, ◌∙◌}
use Rattle.std.specs.Str.Iter.{split_ascii_whitespace_text}
use Rattle.vuthgal_c.proofs.Words.{one_more, all_seen}
use Rattle.vuthgal_c.proofs.explaining.words_of.Goals as goal

-- no word has come, and the whole text is left
pub loop-word-init : goal.loop-word-init
loop-word-init c =
    let left = ap split_ascii_whitespace_text c.into_iter-word-iterator.ensures.into_iter_gives ∙ c.split_ascii_whitespace-word-items.ensures.text in
    rw (left, c.new-words.ensures.items) (λ more are. are)

pub loop-word-preserved : goal.loop-word-preserved
loop-word-preserved c = rw c.in_ok-push.ensures.items (one_more _ _ _ _ _ c.loop-word.invariant c.in-Some.ensures.steps)

pub returns : goal.returns
returns c = all_seen _ _ _ c.loop-word.invariant c.in-None.ensures.steps.0
