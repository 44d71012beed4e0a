-- What a runner's fields stand for, and what a turn and a reset make of them.
use Rattle.std.proofs.Common.{◌≡◌, ◌≤◌, ℕ, Bool, true, false, List, [], ◌∷◌, length, Option, Some, None, IsNone, IsTrue, refl, sym, ap, subst, ◌∙◌, arith, append-nil}
use Rattle.cca_base.specs.declared.cube.Pair.{Pair}
use Rattle.cca_base.specs.PlantModel.{PlantModel}
use Rattle.control_syntax.specs.declared.part.Part.{Part}
use Rattle.control_laws.specs.Rest.{Rest as rest, whole}
use Rattle.control_laws.specs.Turns.{TurnsBy, fresh}
use Rattle.control_program.specs.declared.nodes.Mark.{Mark}
use Rattle.control_program.specs.declared.nodes.Node.{Node}
use Rattle.control_program.specs.Flat.{Entry, laid, read, root}
use Rattle.control_program.specs.Marks.{Tree, begun, cleared, rest_of, is_nothing}
use Rattle.control_program.specs.Opened.{opened}
use Rattle.control_program.specs.Places.{StandsAt, IsCleared, marked}
use Rattle.control_program.specs.Running.{RunsBy, control, control_of}
use Rattle.control_program.specs.Turned.{HasTurned}
use Rattle.control_program.proofs.Flats.{read-laid}
use Rattle.control_program.proofs.GoalLaws.{with_pairs-firsts}
use Rattle.control_program.proofs.MarkLaws.{begun-cleared, rest_of-cleared, cleared_proper}
use Rattle.control_program.proofs.OpenedPrograms.{begun-opened, rest_of-opened}
use Rattle.control_program.proofs.PlaceLaws.{marked-marks}
use Rattle.control_program.proofs.Sizes.{laid-cleared, length-laid}

pub nothing_left : (o : Option rest) (b : Bool) → b ≡ is_nothing o → (IsTrue b → IsNone o) × (IsNone o → IsTrue b)
nothing_left None b e = ((λ _. refl), (λ _. e))
nothing_left (Some r) b e = ((λ t. let never : true ≡ false = sym t ∙ e in absurd cc), (λ h. let never : true ≡ false = h in absurd cc))

marked-full : (ns : List Node) (ms : List Mark) → length ns ≤ length ms → length (marked ns ms) ≡ length ns
marked-full [] ms e = refl
marked-full (n ∷ ns) [] e = absurd (omega (arith, e))
marked-full (n ∷ ns) (k ∷ ms) e = omega (arith, marked-full ns ms (omega (arith, e)))

pub control-laid : (ns : List Node) (ms : List Mark) (x : Tree) → marked ns ms ≡ laid x [] → control_of ns ms ≡ control x
control-laid ns ms x is = ap (λ l. control (root (read l))) is ∙ ap (λ v. control (root v)) (read-laid x [])

control-cleared : (x : Tree) → control (cleared x) ≡ fresh (begun x)
control-cleared x =
    ap (λ p. record { program = p; left = rest_of (cleared x) }) (begun-cleared x) ∙ ap (λ o. record { program = begun x; left = o }) (rest_of-cleared x)

pub control-opened : (p : Part) → control (opened p) ≡ fresh (whole p)
control-opened p =
    ap (λ v. record { program = v; left = rest_of (opened p) }) (begun-opened p) ∙ ap (λ o. record { program = whole p; left = o }) (rest_of-opened p)

module _ (ns : List Node) (ms : List Mark) (over : Bool) (r : RunsBy ns ms over) where
  pub control_is : control_of ns ms ≡ control r.tree
  control_is = control-laid ns ms r.tree r.is

  -- ---- a reset
  reset_nodes : (ms' : List Mark) (count : ℕ) → count ≡ length ns → IsCleared 0 count (marked ns ms) (marked ns ms') → marked ns ms' ≡ laid (cleared r.tree) []
  reset_nodes ms' count full clear =
      clear [] (laid r.tree []) [] (r.is ∙ sym (append-nil (laid r.tree []))) refl (omega (arith, full, marked-full ns ms r.full, ap length r.is))
      ∙ sym (laid-cleared r.tree [])

  pub reset_runs : (ms' : List Mark) (count : ℕ) → count ≡ length ns → length ms' ≡ length ms → IsCleared 0 count (marked ns ms) (marked ns ms') → RunsBy ns ms' false
  reset_runs ms' count full same clear = record {
    tree = cleared r.tree;
    is = reset_nodes ms' count full clear;
    full = omega (arith, same, r.full);
    proper = cleared_proper r.tree;
    ended = sym (ap is_nothing (rest_of-cleared r.tree));
  }

  pub reset_is : (ms' : List Mark) (count : ℕ) → count ≡ length ns → IsCleared 0 count (marked ns ms) (marked ns ms') → control_of ns ms' ≡ fresh (control_of ns ms).program
  reset_is ms' count full clear =
      control-laid ns ms' (cleared r.tree) (reset_nodes ms' count full clear) ∙ control-cleared r.tree ∙ ap (λ c. fresh c.program) (sym control_is)

  -- ---- a turn
  abbrev pub whole_stands : (entries : List Entry) → entries ≡ marked ns ms → StandsAt entries 0
  whole_stands entries same = record {
    before = [];
    tree = r.tree;
    after = [];
    place = refl;
    nodes = same ∙ r.is;
    proper = r.proper;
  }

  module _ (nodes : List Node) (marks : List Mark) (same_nodes : nodes ≡ ns) (same_marks : marks ≡ ms) where
    abbrev pub all_stands : StandsAt (marked nodes marks) 0
    all_stands = whole_stands (marked nodes marks) (ap (λ v. marked v marks) same_nodes ∙ ap (marked ns) same_marks)

  module _ (m : PlantModel) (e : List ℕ) (nodes : List Node) (marks : List Mark) (same_nodes : nodes ≡ ns) (same_marks : marks ≡ ms) (goal all : List Pair) (none : goal ≡ []) (ended : Bool)
      (new : List Mark) (turns : (s : StandsAt (marked nodes marks) 0) → HasTurned m e s.before s.tree s.after goal ended (marked nodes new) all) where
    turned : HasTurned m e [] r.tree [] [] ended (marked ns new) all
    turned =
        subst (λ l. HasTurned m e [] r.tree [] l ended (marked ns new) all) none
        (subst (λ v. HasTurned m e [] r.tree [] goal ended (marked v new) all) same_nodes (turns (all_stands nodes marks same_nodes same_marks)))

    pub turn_runs : RunsBy ns new ended
    turn_runs = record {
      tree = turned.next;
      is = turned.nodes;
      full = omega (
        arith,
        ap length turned.nodes,
        length-laid turned.next [],
        turned.became.size,
        ap length r.is,
        length-laid r.tree [],
        marked-full ns ms r.full,
        marked-marks ns new,
      );
      proper = turned.became.proper;
      ended = turned.left;
    }

    pub turn_is : TurnsBy m e (control_of ns ms) all (control_of ns new)
    turn_is =
        subst (λ x. TurnsBy m e x all (control_of ns new)) (sym control_is)
        (record {
          asked = turned.own;
          next = rest_of turned.next;
          turn = turned.became.turn;
          goals = turned.asks ∙ with_pairs-firsts [] turned.own;
          after = control-laid ns new turned.next turned.nodes ∙ ap (λ p. record { program = p; left = rest_of turned.next }) turned.became.same;
        })
