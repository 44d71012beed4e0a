-- The turns of parts side by side or one after the other, as the loop over them has come.
use Rattle.std.proofs.Common.{◌≡◌, ◌+◌, ◌<◌, ◌≤◌, ◌&&◌, ℕ, Bool, true, false, not, length, slice_get, Some, refl, sym, subst, arith}
use Rattle.control_program.specs.declared.asking.Asking.{Asking}
use Rattle.control_program.specs.declared.asking.Course.{Course}
use Rattle.control_program.specs.declared.nodes.Node.{Node}
use Rattle.control_program.specs.Courses.{StandsIn, StandIn, TurnsIn, TurnIn}
use Rattle.control_program.specs.Places.{marked}
use Rattle.control_program.proofs.Along.{Along, FirstLeft, first_left, along_start, along_from, along_stands, along_step, along_stop, along_finish}
use Rattle.control_program.proofs.PlaceLaws.{lies, in_nodes, end_in_nodes, size_at}

-- from the parts at a place so many had their turns, and the next stands at the place behind them
abbrev pub AlongIn : Asking → Bool → ℕ → ℕ → Course → Course → ℕ → ℕ → Bool → Type 0
AlongIn a o at n old now place gone over = (s : StandIn a old.marks at n)
    → Along o a.model.now a.estimate.now.modes s.before s.trees s.after old.goal.items (marked a.nodes.now now.marks) now.goal.items place gone n over

pub start_in : (a : Asking) (o : Bool) (at n : ℕ) (old : Course) → AlongIn a o at n old old at 0 true
start_in a o at n old = λ s. along_start a.model.now a.estimate.now.modes o (marked a.nodes.now old.marks) at n old.goal.items s

goes : (o d : Bool) → (o && not d) ≡ false → o ≡ true → d ≡ true
goes true true h is = refl
goes true false h is = let no : true ≡ false = h in absurd cc
goes false d h is = let no : false ≡ true = is in absurd cc

module _ (a : Asking) (o : Bool) (at n : ℕ) (old now : Course) (place gone : ℕ) (over : Bool) (i : AlongIn a o at n old now place gone over) where
  module _ (s : StandIn a old.marks at n) where
    -- the part that comes next
    abbrev pub next : gone < n → FirstLeft (i s).todo
    next lt = first_left (i s).todo gone n (i s).many lt

    abbrev pub next_stands : gone < n → StandsIn a now.marks place
    next_stands lt =
        along_stands a.model.now a.estimate.now.modes o s.before s.trees s.after old.goal.items (marked a.nodes.now now.marks) now.goal.items place gone n over (i s) (next lt)

    pub is_behind : at ≤ place
    is_behind =
        subst (λ k. k ≤ place) s.place
        (along_from a.model.now a.estimate.now.modes o s.before s.trees s.after old.goal.items (marked a.nodes.now now.marks) now.goal.items place gone n over (i s))

    pub next_in_nodes : gone < n → place < length a.nodes.now
    next_in_nodes lt = in_nodes a.nodes.now now.marks place (lies (next_stands lt))

    pub next_ends : gone < n → (node : Node) → slice_get a.nodes.now place ≡ Some node → place + node.size ≤ length a.nodes.now
    next_ends lt node of =
        omega (arith, size_at a.nodes.now now.marks place (lies (next_stands lt)) node of, end_in_nodes a.nodes.now now.marks place (lies (next_stands lt)))

  pub step_in : gone < n → (new : Course) (d : Bool) → TurnsIn a place now d new → (o && not d) ≡ false → (node : Node) → slice_get a.nodes.now place ≡ Some node
      → AlongIn a o at n old new (place + node.size) (gone + 1) (over && d)
  step_in lt new d turns h node of = λ s.
      let here = next_stands s lt in
      subst (λ k. Along o a.model.now a.estimate.now.modes s.before s.trees s.after old.goal.items (marked a.nodes.now new.marks) new.goal.items (place + k) (gone + 1) n (over && d))
      (sym (size_at a.nodes.now now.marks place (lies here) node of))
      (along_step a.model.now a.estimate.now.modes o s.before s.trees s.after old.goal.items (marked a.nodes.now now.marks) now.goal.items place gone n over (i s) (next s lt)
      d (marked a.nodes.now new.marks) new.goal.items (turns here) (goes o d h))

  pub finish_in : n ≤ gone → TurnIn a o at n old over now
  finish_in le = λ s.
      along_finish a.model.now a.estimate.now.modes o s.before s.trees s.after old.goal.items (marked a.nodes.now now.marks) now.goal.items place gone n over (i s) le

pub stop_in : (a : Asking) (o : Bool) (at n : ℕ) (old now : Course) (place gone : ℕ) (over : Bool) (i : AlongIn a o at n old now place gone over) → gone < n
    → (new : Course) (d : Bool) → TurnsIn a place now d new → (o && not d) ≡ true → TurnIn a o at n old false new
stop_in a true at n old now place gone over i lt new false turns h = λ s.
    along_stop a.model.now a.estimate.now.modes s.before s.trees s.after old.goal.items (marked a.nodes.now now.marks) now.goal.items place gone n over (i s) (next a true at n old now place gone over i s lt)
    (marked a.nodes.now new.marks) new.goal.items (turns (next_stands a true at n old now place gone over i s lt))
stop_in a true at n old now place gone over i lt new true turns h = let no : false ≡ true = h in absurd cc
stop_in a false at n old now place gone over i lt new d turns h = let no : false ≡ true = h in absurd cc
