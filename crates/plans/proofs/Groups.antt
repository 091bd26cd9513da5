-- What is left of a plan behind some of its words.
use Rattle.std.proofs.Common.{◌≡◌, ◌∙◌, ◌++◌, ℕ, List, [], ◌∷◌, sym, append_assoc, arith, Option, Some, None, append-nil}
use Rattle.plans.specs.{declared.word.Step.Step, declared.word.Word.Word, Tree.Plan, Tree.Done, Tree.words_of_plan}
use Rattle.plans.specs.{Progress.Progress, Play.plays, Play.step_played}
use Rattle.plans.specs.Groups.{IsEnd, Played, HasPlayed, HasPlayedGroup, HasPlayedAgain}
use Rattle.plans.specs.declared.word.Word.TheVariants as word
use Rattle.plans.proofs.Progresses.{repeated_same, settles}

-- this plan is left, and playing it makes of one progress what the whole makes of the first
pub record Left (here : List Word) (plan : Plan) (tail : List Word) (first now : Progress) : Type 0 where
  pub remaining : Plan
  pub words : here ≡ words_of_plan remaining ++ tail
  pub played : plays remaining now ≡ plays plan first

abbrev pub IsLeft : List Word → List Word → Progress → Progress → Type 0
IsLeft words here first now = (plan : Plan) (tail : List Word) → words ≡ words_of_plan plan ++ tail → IsEnd tail → Left here plan tail first now

-- a step
step_left_by : (behind : List Word) (step : Step) (remaining plan : Plan) (tail : List Word) (first now after : Progress)
    → word.Step step ∷ behind ≡ words_of_plan remaining ++ tail → IsEnd tail → plays remaining now ≡ plays plan first
    → after ≡ step_played step now → Left behind plan tail first after
unfolding plays
step_left_by behind step Done plan [] first now after is end played next = absurd (cc is)
step_left_by behind step remaining plan tail first now after is end played next = grind arith

pub step_left : (words here behind : List Word) (step : Step) (first now after : Progress) → here ≡ word.Step step ∷ behind
    → after ≡ step_played step now → IsLeft words here first now → IsLeft words behind first after
step_left words here behind step first now after is next left plan tail whole end = grind (arith, step_left_by)

-- a group
open_left_by : (behind rest : List Word) (remaining plan : Plan) (tail : List Word) (first now after : Progress)
    → word.Open ∷ behind ≡ words_of_plan remaining ++ tail → IsEnd tail → plays remaining now ≡ plays plan first
    → HasPlayedGroup behind rest now after → Left rest plan tail first after
unfolding plays
open_left_by behind rest Done plan (word.Step one ∷ tail) first now after is end played group = absurd end
open_left_by behind rest _ plan tail first now after is end played group = grind (arith, append_assoc)

pub open_left : (words here behind rest : List Word) (first now after : Progress) → here ≡ word.Open ∷ behind
    → HasPlayedGroup behind rest now after → IsLeft words here first now → IsLeft words rest first after
open_left words here behind rest first now after is group left plan tail whole end = grind (arith, open_left_by)

-- nothing is left before what closes
close_left_by : (times : ℕ) (behind : List Word) (remaining plan : Plan) (tail : List Word) (first now : Progress)
    → word.Close times ∷ behind ≡ words_of_plan remaining ++ tail → plays remaining now ≡ plays plan first
    → Played plan tail (Some times) behind first now
unfolding plays
close_left_by times behind Done plan tail first now is played = record { ended = sym is; after = played }
close_left_by times behind remaining plan tail first now is played = grind arith

pub close_left : (words here behind : List Word) (times : ℕ) (first now : Progress) → here ≡ word.Close times ∷ behind
    → IsLeft words here first now → HasPlayed words (Some times) behind first now
close_left words here behind times first now closes left plan tail whole end = grind (arith, close_left_by)

-- or at the end
end_left_by : (remaining plan : Plan) (tail rest : List Word) (first now : Progress) → [] ≡ words_of_plan remaining ++ tail
    → plays remaining now ≡ plays plan first → Played plan tail None rest first now
unfolding plays
end_left_by Done plan tail rest first now is played = record { ended = sym is; after = played }
end_left_by remaining plan tail rest first now is played = grind arith

pub end_left : (words here rest : List Word) (first now : Progress) → here ≡ [] → IsLeft words here first now
    → HasPlayed words None rest first now
end_left words here rest first now none left plan tail whole end = grind (arith, end_left_by)

-- a pass over all the words of a plan
pub pass_played : (words rest : List Word) (times : Option ℕ) (before after : Progress) (body : Plan)
    → HasPlayed words times rest before after → words ≡ words_of_plan body → after ≡ plays body before
pass_played words rest times before after body played is =
    (played body [] (is ∙ sym (append-nil (words_of_plan body))) tt).after

-- that made no choice
pub settled_pass : (body : Plan) (before after : Progress) → after ≡ plays body before → after.left ≡ before.left
    → plays body after ≡ after
settled_pass body before after is same = grind (arith, settles)

-- the first pass of a group, and those behind it
pub again_group : (words rest : List Word) (times : ℕ) (before once after : Progress) → HasPlayed words (Some times) rest before once
    → HasPlayedAgain words times once after → HasPlayedGroup words rest before after
again_group words rest times before once after played again body more tail whole = grind arith

-- a first pass that made no choice is the last
pub settled_again : (words rest : List Word) (times : ℕ) (before once : Progress) → HasPlayed words (Some times) rest before once
    → once.left ≡ before.left → HasPlayedAgain words times once once
settled_again words rest times before once played same body tail whole closed = grind (arith, repeated_same, settled_pass)
