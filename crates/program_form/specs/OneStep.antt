-- A line says one thing, and an item that is said leads to one state and one text. The proofs stand here since a form of lines names them.
use Rattle.std.proofs.Common.{◌≡◌, ℕ, ◌+◌, ◌≤◌, List, Bool, true, false, Option, Some, None, Result, Ok, Err, refl, sym, ap, subst, ◌∙◌, arith}
use Rattle.cca_base.specs.Accepted.{CompiledModel, IsCompiled}
use Rattle.cca_base.specs.Plans.{Promising}
use Rattle.cca_base.specs.PlantModel.{PlantModel}
use Rattle.cca_base.specs.Trace.{ExecutiveState}
use Rattle.cca_base.specs.declared.events.Event.{Event}
use Rattle.cca_base.specs.declared.events.Event.TheVariants as event
use Rattle.control_laws.specs.Turns.{Control}
use Rattle.control_laws.proofs.Controlled.{one_turn_by}
use Rattle.control_syntax.proofs.OneLine.{lines_are_one}
use Rattle.control_syntax.specs.Reading.{Reading}
use Rattle.control_syntax.specs.declared.line.Line.{Line}
use Rattle.line_machine.specs.Next.{Next, GoesOn}
use Rattle.model_form.specs.OneStep.{AreOne}
use Rattle.trace_laws.specs.Events.{Acts}
use Rattle.trace_laws.proofs.OneNext.{acts_are_one}
use Rattle.trace_text.specs.declared.refusal.TheConstants.{REFUSAL_ROOM}
use Rattle.program_form.specs.ProgramMachine.{ProgramState, Stage, Reads, Runs, MakesEvent, ReadsBy, SaysIn, ServesIn, ProgramAwaits, ProgramSteady, Prepares, program_lines, report_of, event_text, running, sequencer}
use Rattle.program_form.specs.PutIn.{Sequencer, Told, PutsBefore, TurnsBefore, IsToldOf, asks, ends}
use Rattle.program_form.specs.declared.item.ProgramItem.{ProgramItem}
use Rattle.program_form.specs.declared.item.ProgramItem.TheVariants as items

-- a turn before a tick has one event and leaves one rest
turn_once : (holding : Bool) (m : PlantModel) (x : Sequencer) (put other : Option Event) (y z : Control) → TurnsBefore holding m x put y → TurnsBefore holding m x other z → (put ≡ other) × (y ≡ z)
turn_once true m x put other y z h k = (h.0 ∙ sym k.0, h.1 ∙ sym k.1)
turn_once false m x put other y z (goal, turns, is) (aim, also, was) =
    let same = one_turn_by m x.estimate x.control goal aim y z turns also in
    (is ∙ ap (λ g. Some (asks g)) same.0 ∙ sym was, same.1)

-- so does each event
puts_once : (m : PlantModel) (e : Event) (x : Sequencer) (put other : Option Event) (y z : Control) → PutsBefore m e x put y → PutsBefore m e x other z → (put ≡ other) × (y ≡ z)
puts_once m event.Tick x put other y z h k = turn_once x.holding m x put other y z h k
puts_once m event.Reset x put other y z h k = (h.0 ∙ sym k.0, h.1 ∙ sym k.1)
puts_once m (event.Goal pairs) x put other y z h k = (h.0 ∙ sym k.0, h.1 ∙ sym k.1)
puts_once m event.Clear x put other y z h k = (h.0 ∙ sym k.0, h.1 ∙ sym k.1)
puts_once m (event.Observe pairs) x put other y z h k = (h.0 ∙ sym k.0, h.1 ∙ sym k.1)
puts_once m (event.Fault p) x put other y z h k = (h.0 ∙ sym k.0, h.1 ∙ sym k.1)
puts_once m (event.Mirror v) x put other y z h k = (h.0 ∙ sym k.0, h.1 ∙ sym k.1)

-- a report comes exactly for a tick, and whether the program has ended is known
told_once : (e : Event) (c y z : Control) (own other : Option Told) → y ≡ z → report_of own ≡ report_of other → IsToldOf e c y own → IsToldOf e c z other → own ≡ other
told_once e c y z None None same reports h k = refl
told_once e c y z None (Some t) same reports h k = absurd (h k.0)
told_once e c y z (Some t) None same reports h k = absurd (k h.0)
told_once e c y z (Some t) (Some u) same reports h k =
    let report : t.report ≡ u.report = (let both : Some t.report ≡ Some u.report = reports in cc) in
    let ended : t.ended ≡ u.ended = h.1 ∙ ap (ends c) same ∙ sym k.1 in
    λ i. Some (record { report = report i; ended = ended i })

prepares_once : (b : CompiledModel) (compiled : IsCompiled b) (x : ExecutiveState) (put : Option Event) (y z : ExecutiveState) → Prepares b x put y → Prepares b x put z → y ≡ z
prepares_once b compiled x None y z h k = h ∙ sym k
prepares_once b compiled x (Some e) y z h k = (acts_are_one b compiled x e y z None None h k).0

-- where an event leads
pub record AreSame (y z : ExecutiveState) (next then_ : Control) (own other : Option Told) : Type 0 where
  pub state : y ≡ z
  pub left : next ≡ then_
  pub told : own ≡ other

event_once : (b : CompiledModel) (compiled : IsCompiled b) (x : ExecutiveState) (c : Control) (e : Event) (y z : ExecutiveState) (next then_ : Control) (own other : Option Told)
    → MakesEvent b x c e y next own → MakesEvent b x c e z then_ other → AreSame y z next then_ own other
event_once b compiled x c e y z next then_ own other h k =
    let first = puts_once b.model e (sequencer x c) h.put k.put next then_ h.puts k.puts in
    let middle = prepares_once b compiled x k.put h.middle k.middle (subst (λ p. Prepares b x p h.middle) first.0 h.prepares) k.prepares in
    let same = acts_are_one b compiled k.middle e y z (report_of own) (report_of other) (subst (λ s. Acts b (Promising b) s e y (report_of own)) middle h.acts) k.acts in
    record { state = same.0; left = first.1; told = told_once e c next then_ own other first.1 same.1 h.told k.told }

reads_one : (said : Result (Option Line) ℕ) (x : ProgramState) (y : Reading) (n : ℕ) (u v : Next ProgramState) (a t : List ℕ) → ReadsBy said x y n u a → ReadsBy said x y n v t → AreOne u v a t
reads_one (Err code) x y n u v a t h k = (h.0 ∙ sym k.0, h.1 ∙ sym k.1)
reads_one (Ok said) x y n u v a t h k = (h.0 ∙ sym k.0, h.1 ∙ sym k.1)

serves_in : (s : Stage) (i : ProgramItem) (x : ProgramState) (l : List ℕ) (n : ℕ) (u v : Next ProgramState) (a t : List ℕ) → SaysIn s x l (Ok (Some i)) → ServesIn s i x n u a → ServesIn s i x n v t → AreOne u v a t
serves_in (Reads y) (items.Reads line) x l n u v a t says (said, is, h) (other, was, k) =
    let same = lines_are_one x.compiled.model y line said other is was in
    reads_one other x y n u v a t (subst (λ (z : Result (Option Line) ℕ). ReadsBy z x y n u a) same h) k
serves_in (Reads y) (items.Makes e) x l n u v a t says h k = absurd h
serves_in (Runs c) (items.Reads line) x l n u v a t says h k = absurd h
serves_in (Runs c) (items.Makes e) x l n u v a t says (y, next, (own, makes, text), to) (z, then_, (other, also, words), too) =
    let same = event_once x.compiled says.0 x.state c e y z next then_ own other makes also in (
      to ∙ (λ i. GoesOn (running x.compiled (same.state i) (same.left i))) ∙ sym too,
      text ∙ ap (event_text x.compiled.model) same.told ∙ sym words,
    )

pub serves_one : (i : ProgramItem) (x : ProgramState) (l : List ℕ) (n : ℕ) (u v : Next ProgramState) (a t : List ℕ) → program_lines.said x l (Ok (Some i)) → program_lines.serves i x n u a → program_lines.serves i x n v t → AreOne u v a t
serves_one i x l n u v a t says h k = serves_in x.stage i x l n u v a t says h k

says_one : (s : Stage) (x : ProgramState) (l : List ℕ) (a b : Result (Option ProgramItem) ℕ) → SaysIn s x l a → SaysIn s x l b → a ≡ b
says_one (Reads y) x l a b h k = h ∙ sym k
says_one (Runs c) x l a b h k = h.1 ∙ sym k.1

pub said_one : (x : ProgramState) (l : List ℕ) (a b : Result (Option ProgramItem) ℕ) → program_lines.said x l a → program_lines.said x l b → a ≡ b
said_one x l a b h k = says_one x.stage x l a b h k

pub awaits_on : (x : ProgramState) (n : ℕ) → ProgramAwaits x n → ProgramAwaits x (n + 1)
awaits_on x n h = let few = h.0 in (omega arith, h.1)

pub steady_refusals : (x : ProgramState) (n : ℕ) → ProgramSteady x n → (program_lines.is_json x ≡ false) × (REFUSAL_ROOM ≤ n)
steady_refusals x n h = (refl, h.refusal)
