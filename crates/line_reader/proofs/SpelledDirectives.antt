-- Directives and their options: what is read is spelled so, and what is spelled so is read.
use Rattle.std.proofs.Common.{◌≡◌, inl, inr, ℕ, ◌+◌, ℤ, length, pos, true, List, [], ◌∷◌, ◌++◌, codes, bytes_eq, Option, Some, None, Result, Ok, refl, sym, ap, subst, ◌∙◌, arith, append-nil}
use Rattle.line_reader.specs.declared.asm_fault.{AsmFaultKind.AsmFaultKind, WordFault.WordFault}
use Rattle.line_reader.specs.declared.{reference.Reference.Reference, symbolic_phaser.SymbolicPolicy.SymbolicPolicy}
use Rattle.line_reader.specs.declared.{symbolic_phaser.SymbolicPhaser.SymbolicPhaser, statement.Statement.Statement}
use Rattle.line_reader.specs.{declared.symbolic_barrier.SymbolicBarrier.SymbolicBarrier, Names.is_name, Symbols.Name}
use Rattle.line_reader.specs.declared.symbolic_thread.SymbolicThread.{SymbolicThread}
use Rattle.line_reader.specs.Spelling.{greatest_int, greatest_number, SpellsReference, SpellsParties, SpellReference, SpellFirstPhase, SpellPolicy, Spell}
use Rattle.line_reader.specs.Reading.{name_at, number_at, count_at, reference_at, argument_at, reference_option_at, first_phase_at, policy_at, end_at, phaser_at, barrier_at, thread_at, cell_at, is_directive, directive_at}
use Rattle.line_reader.specs.declared.symbolic_phaser.SymbolicPolicy.TheVariants as policy
use Rattle.line_reader.specs.declared.statement.Statement.TheVariants as statement
use Rattle.row_code.specs.Answers.{◌>>=◌}
use Rattle.line_reader.proofs.Steps.{bind_ok, bound, bound_at, done, ok_is, by_test, is_bytes, read_ok}
use Rattle.line_reader.proofs.SpelledNumbers.{name_takes, name_again, number_takes, number_again, count_takes, count_again, reference_takes, reference_again}

-- some words in front are spelled so, and the others are still to be read
abbrev Front : {A : Type 0} → (List (List ℕ) → A → Type 0) → List (List ℕ) → A × List (List ℕ) → Type 0
Front spell words x = (front : List (List ℕ)) × (words ≡ front ++ x.1) × spell front x.0

-- an option's argument
argument_takes : {A : Type 0} (read : List ℕ → Result A AsmFaultKind) (words : List (List ℕ)) (x : A × List (List ℕ)) →
    argument_at read words ≡ Ok x → (word : List ℕ) × (words ≡ word ∷ x.1) × (read word ≡ Ok x.0)
argument_takes read [] x e = absurd (cc)
argument_takes {A} read (word ∷ rest) x e = grind (arith, bind_ok, ok_is, read_ok)

-- what was read is this, of these words in front
front_is : {A : Type 0} (spell : List (List ℕ) → A → Type 0) (words front : List (List ℕ)) (x y : A × List (List ℕ)) →
    done {A = A × List (List ℕ)} {E = WordFault} x ≡ done y → words ≡ front ++ x.1 → spell front x.0 → Front spell words y
front_is {A} spell words front x y e whole spelled = grind arith

-- an option with its argument
option_takes : {A B : Type 0} (spell : List (List ℕ) → B → Type 0) (option : List ℕ) (read : List ℕ → Result A AsmFaultKind)
    (make : A → B) → ((word : List ℕ) (y : A) → read word ≡ Ok y → spell (option ∷ word ∷ []) (make y)) →
    (word : List ℕ) (rest : List (List ℕ)) (x : B × List (List ℕ)) → bytes_eq word option ≡ true →
    (argument_at read rest >>= (λ y. Ok (make y.0, y.1))) ≡ Ok x → Front spell (word ∷ rest) x
option_takes spell option read make spells word rest x is e =
    let a = bind_ok (argument_at read rest) _ x e in
    let b = argument_takes read rest a.0 a.1 in
    front_is spell (word ∷ rest) (option ∷ b.0 ∷ []) (make a.0.0, a.0.1) x a.2
    (λ i. is_bytes word option is i ∷ b.1 i) (spells b.0 a.0.0 b.2)

reference_spelled : (option : List ℕ) (high : ℕ) (word : List ℕ) (r : Reference Name) → reference_at high word ≡ Ok r →
    SpellReference option high (option ∷ word ∷ []) (Some r)
reference_spelled option high word r e = (word, refl, reference_takes high word r e)

pub reference_option_takes : (option : List ℕ) (high : ℕ) (words : List (List ℕ)) (x : Option (Reference Name) × List (List ℕ)) →
    reference_option_at option high words ≡ Ok x → Front (SpellReference option high) words x
unfolding reference_option_at
reference_option_takes option high [] x e = front_is (SpellReference option high) [] [] (None, []) x e refl refl
reference_option_takes option high (word ∷ rest) x e =
    by_test (bytes_eq word option)
    (λ is. option_takes (SpellReference option high) option (reference_at high) Some (reference_spelled option high) word rest x is (rw is at e))
    (λ is-not. front_is (SpellReference option high) (word ∷ rest) [] (None, word ∷ rest) x (rw is-not at e) refl refl)

pub reference_option_again : (option : List ℕ) (high : ℕ) → bytes_eq option option ≡ true →
    (words rest : List (List ℕ)) (reference : Option (Reference Name)) → SpellReference option high words reference →
    reference_option_at option high rest ≡ Ok (None, rest) → reference_option_at option high (words ++ rest) ≡ Ok (reference, rest)
unfolding reference_option_at
reference_option_again option high same words rest reference s none = grind (arith, reference_again)

abbrev parent_at : List (List ℕ) → Result (Option (Reference Name) × List (List ℕ)) WordFault
parent_at words = reference_option_at (codes "parent") 63 words

abbrev action_at : List (List ℕ) → Result (Option (Reference Name) × List (List ℕ)) WordFault
action_at words = reference_option_at (codes "action") greatest_number words

pub first_phase_takes : (words : List (List ℕ)) (x : ℤ × List (List ℕ)) → first_phase_at words ≡ Ok x →
    Front SpellFirstPhase words x
unfolding first_phase_at
first_phase_takes [] x e = front_is SpellFirstPhase [] [] (pos 0, []) x e refl (inl (refl, refl))
first_phase_takes (word ∷ rest) x e =
    by_test (bytes_eq word (codes "phase"))
    (λ is.
    let b = argument_takes (number_at (pos 0) greatest_int) rest x (rw is at e) in (
      codes "phase" ∷ b.0 ∷ [],
      (λ i. is_bytes word (codes "phase") is i ∷ b.1 i),
      inr (b.0, refl, number_takes (pos 0) greatest_int b.0 x.0 b.2),
    ))
    (λ is-not. front_is SpellFirstPhase (word ∷ rest) [] (pos 0, word ∷ rest) x (rw is-not at e) refl (inl (refl, refl)))

pub first_phase_again : (words rest : List (List ℕ)) (phase : ℤ) → SpellFirstPhase words phase →
    first_phase_at rest ≡ Ok (pos 0, rest) → first_phase_at (words ++ rest) ≡ Ok (phase, rest)
unfolding first_phase_at
first_phase_again words rest phase (inl s) none = grind arith
first_phase_again words rest phase (inr s) none =
    subst (λ (ws : List (List ℕ)). first_phase_at (ws ++ rest) ≡ Ok (phase, rest)) (sym s.1)
    (rw (number_again (pos 0) greatest_int s.0 phase s.2) refl)

-- where a first phase is spelled, no parent is
pub phase_no_parent : (words rest : List (List ℕ)) (phase : ℤ) → SpellFirstPhase words phase →
    parent_at rest ≡ Ok (None, rest) → parent_at (words ++ rest) ≡ Ok (None, words ++ rest)
unfolding reference_option_at
phase_no_parent words rest phase given none = grind arith

until_spelled : (word : List ℕ) (phase : ℤ) → number_at (pos 0) greatest_int word ≡ Ok phase →
    SpellPolicy (codes "until" ∷ word ∷ []) (policy.Until phase)
until_spelled word phase e = (word, refl, number_takes (pos 0) greatest_int word phase e)

routine_spelled : (word : List ℕ) (r : Reference Name) → reference_at greatest_number word ≡ Ok r →
    SpellPolicy (codes "onadvance" ∷ word ∷ []) (policy.Routine r)
routine_spelled word r e = (word, refl, reference_takes greatest_number word r e)

pub policy_takes : (words : List (List ℕ)) (x : SymbolicPolicy Name × List (List ℕ)) → policy_at words ≡ Ok x →
    Front SpellPolicy words x
unfolding policy_at
policy_takes [] x e = front_is SpellPolicy [] [] (policy.Default, []) x e refl refl
policy_takes (word ∷ rest) x e =
    by_test (bytes_eq word (codes "never"))
    (λ is.
    front_is SpellPolicy (word ∷ rest) (codes "never" ∷ []) (policy.Never, rest) x (rw is at e)
    (ap (λ (w : List ℕ). w ∷ rest) (is_bytes word (codes "never") is)) refl)
    (λ not-never. by_test (bytes_eq word (codes "until"))
    (λ is.
    option_takes SpellPolicy (codes "until") (number_at (pos 0) greatest_int) policy.Until until_spelled word rest x is
    (rw (not-never, is) at e))
    (λ not-until. by_test (bytes_eq word (codes "onadvance"))
    (λ is.
    option_takes SpellPolicy (codes "onadvance") (reference_at greatest_number) policy.Routine routine_spelled word rest x is
    (rw (not-never, not-until, is) at e))
    (λ not-routine.
    front_is SpellPolicy (word ∷ rest) [] (policy.Default, word ∷ rest) x (rw (not-never, not-until, not-routine) at e)
    refl refl)))

pub policy_again : (words : List (List ℕ)) (q : SymbolicPolicy Name) → SpellPolicy words q → policy_at words ≡ Ok (q, [])
unfolding policy_at
policy_again words (policy.Until phase) s = rw (s.1, number_again (pos 0) greatest_int s.0 phase s.2) refl
policy_again words _ s = grind (arith, reference_again)

-- where a policy is spelled, no first phase and no parent are
pub policy_no_phase : (words : List (List ℕ)) (q : SymbolicPolicy Name) → SpellPolicy words q →
    first_phase_at words ≡ Ok (pos 0, words)
unfolding first_phase_at
policy_no_phase words q s = grind arith

pub policy_no_parent : (words : List (List ℕ)) (q : SymbolicPolicy Name) → SpellPolicy words q →
    parent_at words ≡ Ok (None, words)
unfolding reference_option_at
policy_no_parent words q s = grind arith

none_left : (option : List ℕ) (high : ℕ) → reference_option_at option high [] ≡ Ok (None, [])
unfolding reference_option_at
none_left option high = refl

action_again : (words : List (List ℕ)) (action : Option (Reference Name)) → SpellReference (codes "action") greatest_number words action →
    action_at words ≡ Ok (action, [])
action_again words action s =
    subst (λ (ws : List (List ℕ)). action_at ws ≡ Ok (action, [])) (append-nil words)
    (reference_option_again (codes "action") greatest_number refl words [] action s (none_left (codes "action") greatest_number))

end_takes : (words : List (List ℕ)) (x : Unit {0}) → end_at words ≡ Ok x → words ≡ []
end_takes words x e = grind arith

-- ---- directives

phaser_made : (name parties : List ℕ) (options : List (List ℕ)) (p : SymbolicPhaser Name) (later last left : List (List ℕ)) →
    name_at name ≡ Ok p.name → count_at 65535 parties ≡ Ok p.parties → parent_at options ≡ Ok (p.parent, later) →
    first_phase_at later ≡ Ok (p.first_phase, last) → policy_at last ≡ Ok (p.policy, left) → left ≡ [] →
    Spell (codes ".phaser" ∷ name ∷ parties ∷ options) (statement.Phaser p)
phaser_made name parties options p later last left n c s t u end =
    let named = name_takes name p.name n in
    let parent = reference_option_takes (codes "parent") 63 options (p.parent, later) s in
    let phase = first_phase_takes later (p.first_phase, last) t in
    let policy = policy_takes last (p.policy, left) u in
    let third : last ≡ policy.0 = policy.1 ∙ ap (λ (ws : List (List ℕ)). policy.0 ++ ws) end ∙ append-nil policy.0 in
    let second : later ≡ phase.0 ++ policy.0 = phase.1 ∙ ap (λ (ws : List (List ℕ)). phase.0 ++ ws) third in
    let first : options ≡ parent.0 ++ (phase.0 ++ policy.0) = parent.1 ∙ ap (λ (ws : List (List ℕ)). parent.0 ++ ws) second in (
      parties,
      parent.0,
      phase.0,
      policy.0,
      (λ i. codes ".phaser" ∷ named.0 i ∷ parties ∷ first i),
      named.1,
      count_takes 65535 parties p.parties c,
      parent.2,
      phase.2,
      policy.2,
    )

pub phaser_takes : (words : List (List ℕ)) (p : SymbolicPhaser Name) → phaser_at words ≡ Ok p →
    Spell (codes ".phaser" ∷ words) (statement.Phaser p)
unfolding phaser_at
phaser_takes (name ∷ parties ∷ options) p e =
    bound_at (length options + 2) (name_at name) _ p e (λ n named e.
    bound_at (length options + 1) (count_at 65535 parties) _ p e (λ count counted e.
    bound (parent_at options) _ p e (λ parent parent-is e.
    bound (first_phase_at parent.1) _ p e (λ phase phase-is e.
    bound (policy_at phase.1) _ p e (λ policy policy-is e.
    bound (end_at policy.1) _ p e (λ end end-is e.
    let made : SymbolicPhaser Name = record { name = n; parties = count; parent = parent.0; first_phase = phase.0; policy = policy.0 } in
    subst (λ (q : SymbolicPhaser Name). Spell (codes ".phaser" ∷ name ∷ parties ∷ options) (statement.Phaser q)) (ok_is made p e)
    (phaser_made name parties options made parent.1 phase.1 policy.1 named counted parent-is phase-is policy-is
    (end_takes policy.1 end end-is))))))))
phaser_takes _ p e = absurd (cc)

-- the words behind .phaser
phaser_behind : (p : SymbolicPhaser Name) (parties : List ℕ) (parent phase policy : List (List ℕ)) → is_name p.name ≡ true →
    SpellsParties parties p.parties → SpellReference (codes "parent") 63 parent p.parent → SpellFirstPhase phase p.first_phase → SpellPolicy policy p.policy →
    phaser_at (p.name ∷ parties ∷ (parent ++ (phase ++ policy))) ≡ Ok p
unfolding phaser_at
phaser_behind p parties parent phase policy named counted s t u =
    let no-phase = policy_no_phase policy p.policy u in
    let no-parent = phase_no_parent phase policy p.first_phase t (policy_no_parent policy p.policy u) in
    rw (
      name_again p.name named,
      count_again 65535 parties p.parties counted,
      reference_option_again (codes "parent") 63 refl parent (phase ++ policy) p.parent s no-parent,
      first_phase_again phase policy p.first_phase t no-phase,
      policy_again policy p.policy u,
    ) refl

pub phaser_again : (word : List ℕ) (words : List (List ℕ)) (p : SymbolicPhaser Name) → Spell (word ∷ words) (statement.Phaser p) →
    (word ≡ codes ".phaser") × (phaser_at words ≡ Ok p)
phaser_again word words p s = grind (arith, phaser_behind)

barrier_made : (name parties : List ℕ) (options : List (List ℕ)) (b : SymbolicBarrier Name) (left : List (List ℕ)) →
    name_at name ≡ Ok b.name → count_at 65535 parties ≡ Ok b.parties → action_at options ≡ Ok (b.action, left) → left ≡ [] →
    Spell (codes ".barrier" ∷ name ∷ parties ∷ options) (statement.Barrier b)
barrier_made name parties options b left n c s end =
    let named = name_takes name b.name n in
    let action = reference_option_takes (codes "action") greatest_number options (b.action, left) s in
    let whole : options ≡ action.0 = action.1 ∙ ap (λ (ws : List (List ℕ)). action.0 ++ ws) end ∙ append-nil action.0 in (
      parties,
      action.0,
      (λ i. codes ".barrier" ∷ named.0 i ∷ parties ∷ whole i),
      named.1,
      count_takes 65535 parties b.parties c,
      action.2,
    )

pub barrier_takes : (words : List (List ℕ)) (b : SymbolicBarrier Name) → barrier_at words ≡ Ok b →
    Spell (codes ".barrier" ∷ words) (statement.Barrier b)
unfolding barrier_at
barrier_takes (name ∷ parties ∷ options) b e =
    bound_at (length options + 2) (name_at name) _ b e (λ n named e.
    bound_at (length options + 1) (count_at 65535 parties) _ b e (λ count counted e.
    bound (action_at options) _ b e (λ action action-is e.
    bound (end_at action.1) _ b e (λ end end-is e.
    let made : SymbolicBarrier Name = record { name = n; parties = count; action = action.0 } in
    subst (λ (q : SymbolicBarrier Name). Spell (codes ".barrier" ∷ name ∷ parties ∷ options) (statement.Barrier q)) (ok_is made b e)
    (barrier_made name parties options made action.1 named counted action-is (end_takes action.1 end end-is))))))
barrier_takes _ b e = absurd (cc)

barrier_behind : (b : SymbolicBarrier Name) (parties : List ℕ) (action : List (List ℕ)) → is_name b.name ≡ true →
    SpellsParties parties b.parties → SpellReference (codes "action") greatest_number action b.action → barrier_at (b.name ∷ parties ∷ action) ≡ Ok b
unfolding barrier_at
barrier_behind b parties action named counted s = grind (arith, name_again, count_again, action_again)

pub barrier_again : (word : List ℕ) (words : List (List ℕ)) (b : SymbolicBarrier Name) →
    Spell (word ∷ words) (statement.Barrier b) → (word ≡ codes ".barrier") × (barrier_at words ≡ Ok b)
barrier_again word words b s = grind (arith, barrier_behind)

pub thread_takes : (words : List (List ℕ)) (t : SymbolicThread Name) → thread_at words ≡ Ok t →
    Spell (codes ".thread" ∷ words) (statement.Thread t)
unfolding thread_at
thread_takes (name ∷ row ∷ []) t e =
    bound_at 2 (name_at name) _ t e (λ n named e.
    bound_at 1 (reference_at greatest_number row) _ t e (λ first first-is e.
    let named = name_takes name n named in
    subst (λ (q : SymbolicThread Name). Spell (codes ".thread" ∷ name ∷ row ∷ []) (statement.Thread q))
    (ok_is (record { name = n; first_row = first }) t e) (
      row,
      ap (λ (m : List ℕ). codes ".thread" ∷ m ∷ row ∷ []) named.0,
      named.1,
      reference_takes greatest_number row first first-is,
    )))
thread_takes _ t e = absurd (cc)

thread_behind : (t : SymbolicThread Name) (row : List ℕ) → is_name t.name ≡ true → SpellsReference greatest_number row t.first_row →
    thread_at (t.name ∷ row ∷ []) ≡ Ok t
unfolding thread_at
thread_behind t row named s = rw (name_again t.name named, reference_again greatest_number row t.first_row s) refl

pub thread_again : (word : List ℕ) (words : List (List ℕ)) (t : SymbolicThread Name) →
    Spell (word ∷ words) (statement.Thread t) → (word ≡ codes ".thread") × (thread_at words ≡ Ok t)
thread_again word words t s = grind (arith, thread_behind)

pub cell_takes : (words : List (List ℕ)) (name : Name) → cell_at words ≡ Ok name →
    Spell (codes ".cell" ∷ words) (statement.Cell name)
unfolding cell_at
cell_takes (first ∷ []) name e =
    let named = name_takes first name (read_ok 1 (name_at first) name e) in
    (ap (λ (n : List ℕ). codes ".cell" ∷ n ∷ []) named.0, named.1)
cell_takes _ name e = absurd (cc)

cell_behind : (name : Name) → is_name name ≡ true → cell_at (name ∷ []) ≡ Ok name
unfolding cell_at
cell_behind name named = rw (name_again name named) refl

pub cell_again : (word : List ℕ) (words : List (List ℕ)) (name : Name) → Spell (word ∷ words) (statement.Cell name) →
    (word ≡ codes ".cell") × (cell_at words ≡ Ok name)
cell_again word words name s = grind (arith, cell_behind)

-- ---- a directive by its word

pub directive_takes : (word : List ℕ) (words : List (List ℕ)) (said : Statement Name) → is_directive word ≡ true →
    directive_at word words ≡ Ok said → Spell (word ∷ words) said
unfolding directive_at
directive_takes word words said known e =
    by_test (bytes_eq word (codes ".phaser"))
    (λ is.
    let a = bind_ok (phaser_at words) _ said (rw is at e) in
    spelled word words (codes ".phaser") (statement.Phaser a.0) said is a.2 (phaser_takes words a.0 a.1))
    (λ not-phaser. by_test (bytes_eq word (codes ".barrier"))
    (λ is.
    let a = bind_ok (barrier_at words) _ said (rw (not-phaser, is) at e) in
    spelled word words (codes ".barrier") (statement.Barrier a.0) said is a.2 (barrier_takes words a.0 a.1))
    (λ not-barrier. by_test (bytes_eq word (codes ".thread"))
    (λ is.
    let a = bind_ok (thread_at words) _ said (rw (not-phaser, not-barrier, is) at e) in
    spelled word words (codes ".thread") (statement.Thread a.0) said is a.2 (thread_takes words a.0 a.1))
    (λ not-thread.
    let a = bind_ok (cell_at words) _ said (rw (not-phaser, not-barrier, not-thread) at e) in
    let is : bytes_eq word (codes ".cell") ≡ true = rw (not-phaser, not-barrier, not-thread) at known in
    spelled word words (codes ".cell") (statement.Cell a.0) said is a.2 (cell_takes words a.0 a.1))))
  where
    spelled : (word : List ℕ) (words : List (List ℕ)) (directive : List ℕ) (made said : Statement Name) →
        bytes_eq word directive ≡ true → done {A = Statement Name} {E = WordFault} made ≡ done said → Spell (directive ∷ words) made → Spell (word ∷ words) said
    spelled word words directive made said is e s =
        subst (λ (q : Statement Name). Spell (word ∷ words) q) (ok_is made said e)
        (subst (λ (w : List ℕ). Spell (w ∷ words) made) (sym (is_bytes word directive is)) s)
