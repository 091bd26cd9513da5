-- The lines of phasers, barriers and threads as words, and what they say.
use Rattle.std.proofs.Common.{inl, inr, ℕ, zero, suc, ◌<◌, ◌≤◌, ℤ, pos, negsuc, List, [], ◌∷◌, ◌++◌, length, length-append, Option, Some, None, IfSome, option_map, refl, arith, codes, decimal, rules}
use Rattle.std.proofs.lemmas.Int.{ints}
use Rattle.std.specs.Fmt.{signed_decimal}
use Rattle.row_code.specs.declared.{barriers.DeclaredBarrier.DeclaredBarrier, phasers.DeclaredPhaser.DeclaredPhaser}
use Rattle.row_code.specs.declared.{phasers.DeclaredPolicy.DeclaredPolicy, threads.DeclaredThread.DeclaredThread}
use Rattle.row_code.specs.{Barriers.IsBarrier, Phasers.IsCount, Phasers.IsPolicy, Phasers.IsPhaser, Threads.IsThread}
use Rattle.row_code.specs.declared.phasers.DeclaredPolicy.TheVariants as declared
use Rattle.line_reader.specs.declared.reference.Reference.{Reference, TheVariants.Numbered}
use Rattle.line_reader.specs.declared.{symbolic_phaser.SymbolicPolicy.SymbolicPolicy, statement.Statement.Statement}
use Rattle.line_reader.specs.Symbols.{Name}
use Rattle.line_reader.specs.Spelling.{greatest_int, greatest_number, SpellsNumber, SpellsReference, SpellReference, SpellFirstPhase, SpellPolicy, Says}
use Rattle.line_reader.specs.Listing.{joined, number_word, parent_words, phase_words, policy_words, action_words, phaser_words, barrier_words, thread_words}
use Rattle.line_reader.specs.declared.symbolic_phaser.SymbolicPolicy.TheVariants as policy
use Rattle.line_reader.specs.declared.statement.Statement.TheVariants as statement
use Rattle.assembler.proofs.JoinedWords.{IsWord, AreWords, AreWords-append, words_of-line, is_line}
use Rattle.assembler.proofs.Decimals.{decimal_digits, digits_word, marked_word, marked_name, decimal_spells, int_word}

-- the words of a line behind its first
abbrev behind_first : List (List ℕ) → List (List ℕ)
behind_first [] = []
behind_first (word ∷ words) = words

-- ---- what they say

abbrev pub policy_said : DeclaredPolicy → SymbolicPolicy Name
policy_said declared.Default = policy.Default
policy_said declared.Never = policy.Never
policy_said (declared.Until phase) = policy.Until phase
policy_said (declared.Routine row) = policy.Routine (Numbered row)

abbrev pub number_said : ℕ → Reference Name
number_said n = Numbered n

abbrev pub phaser_said : ℕ → DeclaredPhaser → Statement Name
phaser_said n p = statement.Phaser (record {
  name = 112 ∷ decimal n;
  parties = p.parties;
  parent = option_map number_said p.parent;
  first_phase = p.first_phase;
  policy = policy_said p.policy;
})

abbrev pub barrier_said : ℕ → DeclaredBarrier → Statement Name
barrier_said n b = statement.Barrier (record {
  name = 98 ∷ decimal n;
  parties = b.parties;
  action = option_map number_said b.action;
})

abbrev pub thread_said : ℕ → DeclaredThread → Statement Name
thread_said n t = statement.Thread (record { name = 116 ∷ decimal n; first_row = Numbered t.first_row })

-- ---- the words are words

number_is_word : (n : ℕ) → n < 65536 → IsWord (number_word n)
number_is_word n small = marked_word 35 n (decimal n) refl (decimal_digits n (omega arith))

parties_word : (n : ℕ) → n < 65536 → IsWord (decimal n)
parties_word n small = digits_word n (decimal n) (decimal_digits n (omega arith))

parent_are : (parent : Option ℕ) → IfSome parent (λ n. n < 64) → AreWords (parent_words parent)
parent_are parent h = grind (arith, number_is_word)

phase_are : (phase : ℤ) → IsCount phase → AreWords (phase_words phase)
phase_are (pos zero) h = tt
phase_are (pos (suc n)) h =
    (record { some = omega arith; short = omega arith; plain = refl }, (int_word (pos (suc n)) (omega (arith, ints)) (omega (arith, ints, h.1)), tt))
phase_are (negsuc n) h = absurd (omega (arith, ints, h.0))

policy_are : (p : DeclaredPolicy) → IsPolicy p → AreWords (policy_words p)
policy_are p h = grind (arith, int_word, ints, number_is_word)

action_are : (action : Option ℕ) → IfSome action (λ n. n < 65536) → AreWords (action_words action)
action_are action h = grind (arith, number_is_word)

-- ---- and spell what is said

reference_spelled : (high n : ℕ) → n ≤ high → n < 65536 → SpellsReference high (number_word n) (Numbered n)
reference_spelled high n most small = (decimal n, refl, decimal_spells high n most (omega arith))

parent_spelled : (parent : Option ℕ) → IfSome parent (λ n. n < 64) →
    SpellReference (codes "parent") 63 (parent_words parent) (option_map number_said parent)
parent_spelled None h = refl
parent_spelled (Some n) h = (number_word n, refl, reference_spelled 63 n (omega arith) (omega arith))

count_spelled : (phase : ℤ) → IsCount phase → SpellsNumber (pos 0) greatest_int (signed_decimal phase) phase
count_spelled (pos n) h = decimal_spells 2147483647 n (omega (arith, ints, h.1)) (omega (arith, ints, h.1))
count_spelled (negsuc n) h = absurd (omega (arith, ints, h.0))

phase_spelled : (phase : ℤ) → IsCount phase → SpellFirstPhase (phase_words phase) phase
phase_spelled (pos zero) h = inl (refl, refl)
phase_spelled (pos (suc n)) h = inr (decimal (suc n), refl, count_spelled (pos (suc n)) h)
phase_spelled (negsuc n) h = absurd (omega (arith, ints, h.0))

policy_spelled : (p : DeclaredPolicy) → IsPolicy p → SpellPolicy (policy_words p) (policy_said p)
policy_spelled declared.Default h = refl
policy_spelled p h = search (rules, count_spelled, reference_spelled)

action_spelled : (action : Option ℕ) → IfSome action (λ n. n < 65536) →
    SpellReference (codes "action") greatest_number (action_words action) (option_map number_said action)
action_spelled None h = refl
action_spelled (Some n) h = (number_word n, refl, reference_spelled greatest_number n (omega arith) h)

-- ---- so the lines say it

few_parent : (parent : Option ℕ) → length (parent_words parent) ≤ 2
few_parent parent = grind arith

few_phase : (phase : ℤ) → length (phase_words phase) ≤ 2
few_phase phase = grind arith

few_policy : (p : DeclaredPolicy) → length (policy_words p) ≤ 2
few_policy p = grind arith

few_action : (action : Option ℕ) → length (action_words action) ≤ 2
few_action action = grind arith

pub phaser_says : (n : ℕ) (p : DeclaredPhaser) → n < 64 → IsPhaser p → Says (joined (phaser_words n p)) (phaser_said n p)
phaser_says n p small h =
    let words_behind = behind_first (phaser_words n p) in
    let first : IsWord (codes ".phaser") = record { some = omega arith; short = omega arith; plain = refl } in
    let digits = decimal_digits n (omega arith) in
    let options : AreWords (parent_words p.parent ++ (phase_words p.first_phase ++ policy_words p.policy)) =
    AreWords-append (parent_words p.parent) _ (parent_are p.parent h.parent)
    (AreWords-append (phase_words p.first_phase) _ (phase_are p.first_phase h.first_phase) (policy_are p.policy h.policy)) in
    let words : AreWords words_behind = (marked_word 112 n (decimal n) refl digits, (parties_word p.parties h.parties, options)) in
    let few : length words_behind ≤ 8 = omega (
      arith,
      length-append (parent_words p.parent) (phase_words p.first_phase ++ policy_words p.policy),
      length-append (phase_words p.first_phase) (policy_words p.policy),
      few_parent p.parent,
      few_phase p.first_phase,
      few_policy p.policy,
    ) in (
      is_line (codes ".phaser") words_behind first words few,
      (
        decimal p.parties,
        parent_words p.parent,
        phase_words p.first_phase,
        policy_words p.policy,
        words_of-line (codes ".phaser") words_behind first words,
        marked_name 112 n (decimal n) refl refl digits,
        decimal_spells 65535 p.parties (omega (arith, h.parties)) (omega (arith, h.parties)),
        parent_spelled p.parent h.parent,
        phase_spelled p.first_phase h.first_phase,
        policy_spelled p.policy h.policy,
      ),
    )

pub barrier_says : (n : ℕ) (b : DeclaredBarrier) → n < 64 → IsBarrier b → Says (joined (barrier_words n b)) (barrier_said n b)
barrier_says n b small h =
    let words_behind = behind_first (barrier_words n b) in
    let first : IsWord (codes ".barrier") = record { some = omega arith; short = omega arith; plain = refl } in
    let digits = decimal_digits n (omega arith) in
    let words : AreWords words_behind =
    (marked_word 98 n (decimal n) refl digits, (parties_word b.parties h.parties, action_are b.action h.action)) in (
      is_line (codes ".barrier") words_behind first words (omega (arith, few_action b.action)),
      (
        decimal b.parties,
        action_words b.action,
        words_of-line (codes ".barrier") words_behind first words,
        marked_name 98 n (decimal n) refl refl digits,
        decimal_spells 65535 b.parties (omega (arith, h.parties)) (omega (arith, h.parties)),
        action_spelled b.action h.action,
      ),
    )

pub thread_says : (n : ℕ) (t : DeclaredThread) → n < 64 → IsThread t → Says (joined (thread_words n t)) (thread_said n t)
thread_says n t small h =
    let words_behind = behind_first (thread_words n t) in
    let first : IsWord (codes ".thread") = record { some = omega arith; short = omega arith; plain = refl } in
    let digits = decimal_digits n (omega arith) in
    let words : AreWords words_behind = (marked_word 116 n (decimal n) refl digits, (number_is_word t.first_row h.first_row, tt)) in (
      is_line (codes ".thread") words_behind first words (omega arith),
      (
        number_word t.first_row,
        words_of-line (codes ".thread") words_behind first words,
        marked_name 116 n (decimal n) refl refl digits,
        reference_spelled greatest_number t.first_row (omega (arith, h.first_row)) h.first_row,
      ),
    )
