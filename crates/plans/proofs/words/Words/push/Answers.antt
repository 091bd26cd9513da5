use Rattle.std.proofs.Common.{rules, ◌≡◌, ◌∙◌, ◌++◌, [], ◌∷◌, ap}
use Rattle.plans.specs.Parts.{put_of, takes_number, takes_seed}
use Rattle.plans.proofs.Storing.{put_word}
use Rattle.plans.proofs.words.Words.push.Goals as goal

pub returns : goal.returns
returns c =
    let stored = c.stored_word-stored.result in
    let parts : c.push_reserved.new.self.items ≡ c.self.inside.parts.items ++ stored.part ∷ [] = search rules in
    let numbers : c.put_number.new.numbers.items ≡ c.self.inside.numbers.items ++ put_of (takes_number stored.part) stored.number = search rules in
    let seeds : c.put_seed.new.seeds.items ≡ c.self.inside.seeds.items ++ put_of (takes_seed stored.part) stored.seed = search rules in
    put_word stored c.args.word _ _ _ _ _ _ c.stored_word-stored.ensures parts numbers seeds c.self.invariant.0 c.self.invariant.1
    ∙ ap (λ words. words ++ c.args.word ∷ []) c.self.view_is
