-- A schedule that is written as its choices come.
use Rattle.std.proofs.Common.{◌≡◌, ◌∙◌, ◌+◌, ◌<◌, ◌≤◌, ℕ, Bool, List, [], ◌∷◌, ◌++◌, Some, None, refl, ap, sym, subst, append_assoc, append-nil, arith, Option, Result, Ok, Err, OnOk, IfOk, is_none, replicate}
use Rattle.std.proofs.KnownBytes.{Appends-nil, Appends-trans, Consumes-trans, prepend_known-nil}
use Rattle.std.proofs.lemmas.List.{replicate-append-replicate, Elements.All-append, Elements.All-cons, Elements.All-nil}
use Rattle.std.specs.{List.slice_split, Io.KnownBytes.Appends, Io.KnownBytes.Consumes, Io.KnownBytes.prepend_known}
use Rattle.line_reader.specs.Words.{is_line_end}
use Rattle.byte_ports.specs.SourceLines.{Lines}
use Rattle.schedule_reader.specs.{declared.run.Run.Run, Joined.AreJoined, Schedule.IsRun, Schedule.choices_of, Schedule.run_of}
use Rattle.schedule_reader.specs.Text.{schedule_text, token_of}
use Rattle.schedule_reader.proofs.Runs.{spelled}
use Rattle.thread_machine.specs.declared.choice.Choice.{Choice}
use Rattle.trace_compare.specs.declared.naming.NextName.{NextName}
use Rattle.trace_compare.specs.NamedLines.{HasEnded, HasTaken, last_naming, none_read}
use Rattle.trace_compare.specs.Naming.{HasRead, Naming, naming_from, naming_of}
use Rattle.trace_compare.specs.Writing.{HasWritten, HasWrittenPart, HasWrittenUpTo, closed_text, line_by}
use Rattle.trace_compare.proofs.NamedLines.{taken-all, unread}

-- the choices of runs, and of more behind them
choices-both : (runs more : List Run) → choices_of (runs ++ more) ≡ choices_of runs ++ choices_of more
choices-both [] more = refl
choices-both (run ∷ runs) more = grind (arith, append_assoc, choices-both runs more)

-- the last run has another of its choice
joined-last : (runs : List Run) (a b : Run) → b.choice ≡ a.choice → AreJoined (runs ++ a ∷ []) → AreJoined (runs ++ b ∷ [])
joined-last (run ∷ next ∷ runs) a b same joined = (joined.0, joined-last (next ∷ runs) a b same joined.1)
joined-last runs a b same joined = grind arith

-- another run behind it
joined-next : (runs : List Run) (a b : Run) → (a.choice ≡ b.choice → a.times ≡ 1000000000) → AreJoined (runs ++ a ∷ [])
    → AreJoined ((runs ++ a ∷ []) ++ b ∷ [])
joined-next (run ∷ next ∷ runs) a b apart joined = (joined.0, joined-next (next ∷ runs) a b apart joined.1)
joined-next runs a b apart joined = grind arith

closed-next : (runs : List Run) (run : Run) → closed_text (runs ++ run ∷ []) ≡ closed_text runs ++ (token_of run ++ 32 ∷ [])
closed-next [] run = refl
closed-next (first ∷ runs) run = grind (arith, append_assoc, closed-next runs run)

closed-last : (runs : List Run) (last : Run) → schedule_text (runs ++ last ∷ []) ≡ closed_text runs ++ token_of last
closed-last [] last = append-nil (token_of last)
closed-last (run ∷ []) last = grind (arith, append_assoc, closed-last [] last)
closed-last (run ∷ next ∷ runs) last = grind (arith, append_assoc, closed-last (next ∷ runs) last)

-- the last choice once more
pub take-more : (start new : Option (List ℕ)) (choices : List Choice) (choice : Choice) (run more : Run) → choice.thread ≤ 63
    → run.choice ≡ choice → run.times < 1000000000 → more ≡ run_of choice (run.times + 1) → HasWritten start (Some run) new choices
    → HasWritten start (Some more) new (choices ++ choice ∷ [])
take-more start new choices choice run more thread same few is (runs, (all, spelled-all, one, joined, text)) =
    let grown : choices_of (run_of choice (run.times + 1) ∷ []) ≡ choices_of (run ∷ []) ++ choice ∷ [] =
    append-nil (replicate (run.times + 1) choice) ∙ sym (replicate-append-replicate run.times 1 choice)
    ∙ ap (λ c. replicate run.times c ++ choice ∷ []) (sym same)
    ∙ ap (λ cs. cs ++ choice ∷ []) (sym (append-nil (replicate run.times run.choice))) in
    grind (arith, choices-both, append_assoc, spelled, joined-last)

-- another one
pub take-other : (start old new : Option (List ℕ)) (choices : List Choice) (choice : Choice) (run other : Run) → choice.thread ≤ 63
    → (run.choice ≡ choice → run.times ≡ 1000000000) → other ≡ run_of choice 1 → Appends old new (token_of run ++ 32 ∷ [])
    → HasWritten start (Some run) old choices → HasWritten start (Some other) new (choices ++ choice ∷ [])
take-other start old new choices choice run other thread apart is pushed (runs, (all, spelled-all, one, joined, text)) =
    subst (λ r. HasWritten start (Some r) new (choices ++ choice ∷ [])) (sym is) (
      runs ++ run ∷ [],
      (
        ap (λ cs. cs ++ choice ∷ []) all ∙ sym (choices-both (runs ++ run ∷ []) (run_of choice 1 ∷ [])),
        All-append IsRun runs (run ∷ []) spelled-all (All-cons IsRun run [] one (All-nil IsRun)),
        spelled choice 0 thread (omega arith),
        joined-next runs run (run_of choice 1) apart joined,
        subst (Appends start new) (sym (closed-next runs run)) (Appends-trans start old new (closed_text runs) (token_of run ++ 32 ∷ []) text pushed),
      ),
    )

line-some : (is_trace : Bool) (runs : List Run) (last : Run) → line_by is_trace (runs ++ last ∷ []) ≡ schedule_text (runs ++ last ∷ []) ++ 10 ∷ []
line-some is_trace [] last = refl
line-some is_trace (run ∷ runs) last = refl

-- the end of the line
pub end-some : (is_trace : Bool) (start old new : Option (List ℕ)) (choices : List Choice) (run : Run)
    → Appends old new (token_of run ++ 10 ∷ []) → HasWritten start (Some run) old choices → HasWrittenUpTo is_trace choices start new
end-some is_trace start old new choices run pushed (runs, (all, spelled-all, one, joined, text)) = (
  runs ++ run ∷ [],
  (
    all,
    All-append IsRun runs (run ∷ []) spelled-all (All-cons IsRun run [] one (All-nil IsRun)),
    joined,
    subst (Appends start new)
        (sym (append_assoc (closed_text runs) (token_of run) (10 ∷ []))
        ∙ ap (λ text. text ++ 10 ∷ []) (sym (closed-last runs run)) ∙ sym (line-some is_trace runs run))
        (Appends-trans start old new (closed_text runs) (token_of run ++ 10 ∷ []) text pushed),
  ),
)

-- what stands there where the trace can't be read
written-runs : (start new : Option (List ℕ)) (last : Option Run) (choices : List Choice) → HasWritten start last new choices
    → (runs : List Run) × ((rest : List Choice) × ((choices ≡ choices_of runs ++ rest) × Appends start new (closed_text runs)))
written-runs start new None choices (none, same) = ([], ([], (none, subst (λ o. Appends start o []) (sym same) (Appends-nil start))))
written-runs start new (Some run) choices (runs, (all, spelled-all, one, joined, text)) = grind (arith, choices-both)

pub written-part : {n : ℕ} {choices : List Choice} {y : Lines} (z : Lines) {a b : Option (List ℕ)} (c start new : Option (List ℕ)) (last : Option Run)
    → HasTaken 1 choices n none_read y a b → Consumes (prepend_known y.held b) (prepend_known z.held c) [] → HasWritten start last new choices
    → HasWrittenPart a c start new
written-part {n} {choices} {y} z {a} {b} c start new last taken on written =
    let (runs, (rest, (is, text))) = written-runs start new last choices written in
    let one = taken.bytes in
    let more = (naming_from n (slice_split is_line_end ([] ++ z.held))).choices in (
      (one ++ []) ++ z.held,
      (
        runs,
        (
          rest ++ more,
          (
            subst (λ o. Consumes o c ((one ++ []) ++ z.held)) (prepend_known-nil a)
                (unread (prepend_known [] a) c (one ++ []) z.held (Consumes-trans _ _ _ one [] taken.gone.0 on)),
            ap (λ bytes. (naming_of bytes).choices) (append_assoc one [] z.held)
                ∙ ap (λ (naming : Naming). naming.choices) (taken.names ([] ++ z.held))
                ∙ ap (λ cs. cs ++ more) is ∙ append_assoc (choices_of runs) rest more,
            text,
          ),
        ),
      ),
    )

pub on-ok : {T E P Q : Type 0} (r : Result T E) → (P → Q) → OnOk r P → OnOk r Q
on-ok r then p = grind arith

-- what was read and written then
abbrev pub HasEndedSo : Option (List ℕ) → Option (List ℕ) → Option (List ℕ) → Option (List ℕ) → Option ℕ → Type 0
HasEndedSo a c start new stop =
    (choices : List Choice) × (HasRead a c (record { choices = choices; no_line = stop }) × HasWrittenUpTo (is_none stop) choices start new)

ended-all : {n : ℕ} {choices : List Choice} (all : List Choice) (name : NextName) (stop : Option ℕ) {y z : Lines} {a b c : Option (List ℕ)}
    → HasTaken 1 choices n none_read y a b → HasEnded n (last_naming name n) y z b c → choices ++ (last_naming name n).choices ≡ all
    → (last_naming name n).no_line ≡ stop → HasRead a c (record { choices = all; no_line = stop })
ended-all {n} all name stop {y} {z} {a} {b} {c} taken end same is =
    subst (HasRead a c)
    (ap (λ cs. record { choices = cs; no_line = (last_naming name n).no_line }) same
    ∙ ap (λ line. record { choices = all; no_line = line }) is) (taken-all taken end)

-- where the line's end was written
pub ended-so : {E F : Type 0} {n : ℕ} {choices : List Choice} (all : List Choice) (name : NextName) (stop : Option ℕ) {y z : Lines}
    {a b c : Option (List ℕ)} (start new : Option (List ℕ)) (answer : Result (Option ℕ) F) (written : Result (Unit {0}) E)
    → OnOk answer (written ≡ Ok tt) → IfOk answer (λ is. is ≡ stop) → OnOk written (HasWrittenUpTo (is_none stop) all start new)
    → HasTaken 1 choices n none_read y a b → HasEnded n (last_naming name n) y z b c → choices ++ (last_naming name n).choices ≡ all
    → (last_naming name n).no_line ≡ stop → IfOk answer (λ is. HasEndedSo a c start new is)
ended-so {E} {F} {n} {choices} all name stop {y} {z} {a} {b} {c} start new (Err why) written ok is done taken end same none = tt
ended-so {E} {F} {n} {choices} all name stop {y} {z} {a} {b} {c} start new (Ok answer) written ok is done taken end same none =
    subst (HasEndedSo a c start new) (sym is)
    (all, (ended-all all name stop taken end same none, rw ok at done))
