-- Moves, repairs and commands of a model that grows by a move.
use Rattle.std.proofs.Common.{◌≡◌, ◌≢◌, ℕ, ◌-◌, ◌<◌, Bool, true, false, not, cond, ◌&&◌, ◌||◌, ◌==◌, ◌⊎◌, eqb, List, [], ◌∷◌, ◌++◌, length, take, Option, Some, None, IsTrue, All, inl, inr, refl, sym, ap, ◌∙◌, arith}
use Rattle.std.specs.Prelude.{nat_le, nat_eq, is_some, unwrap_or}
use Rattle.std.specs.List.{list_any}
use Rattle.std.specs.Str.{bytes_eq}
use Rattle.std.specs.Cmp.Lexicographic.{pointwise}
use Rattle.std.proofs.Math.Bool.{or-false}
use Rattle.std.proofs.lemmas.Bool.{eqb-true, eq-eqb, cases_Bool, cases_lt, false≢true, or_parts, not-false}
use Rattle.std.proofs.lemmas.List.{length_push}
use Rattle.std.proofs.lemmas.List.Elements.{All-weaker}
use Rattle.std.proofs.lemmas.List.Folds.{list_any-append, list_any_none}
use Rattle.std.proofs.lemmas.List.Quantifiers.{position-Some}
use Rattle.std.proofs.lemmas.Slice.Eq.{bytes_eq-Decides}
use Rattle.indexmap.specs.IndexMap.{IsUnchanged, Updates}
use Rattle.std.specs.Map.{lookup}
use Rattle.list_laws.proofs.Tests.{and_false}
use Rattle.list_laws.proofs.Passing.{none_passes as all_fail}
use Rattle.cca_base.specs.declared.model.Move.{Move}
use Rattle.cca_base.specs.declared.limits.TheConstants.{MAX_MOVES}
use Rattle.cca_base.specs.PlantModel.{PlantModel}
use Rattle.cca_base.specs.Model.{WellFormed, IsFormula, IsMove, HasMode, RepairsFit, IsComplete, is_used, with_command, without_last_command, with_move}
use Rattle.cca_base.proofs.Growth.{move_kept, command_kept}
use Rattle.model_syntax.proofs.RepairCodes.{codes_keep_rules}
use Rattle.formula_syntax.specs.Lookups.{place_of, or_else}
use Rattle.model_syntax.specs.Reader.{NumbersFit}
use Rattle.model_syntax.specs.Codes.{least, is_long, command_number, with_named, leads_to, is_ambiguous, is_into_broken, is_unmarked_exit, mends_twice, is_repair_cycle, move_faults}
use Rattle.model_syntax.specs.Lines.{is_bare_name}
use Rattle.formula_syntax.proofs.LeastLaws.{least_none}
use Rattle.model_syntax.proofs.AddedParts.{below, is_named}
use Rattle.formula_syntax.proofs.NamesInGrowth.{Names}
use Rattle.formula_syntax.proofs.FirstPlaces.{position_push, none_passes}

-- ---- what leads to a repaired mode

eqb_same : (n : ℕ) → eqb n n ≡ true
eqb_same n = eq-eqb n n refl

-- the move itself leads there where its ends are one
pub leads_to_push : (moves : List Move) (x : Move) → list_any (leads_to x.component x.source) (moves ++ x ∷ []) ≡ (list_any (leads_to x.component x.source) moves || x.target == x.source)
leads_to_push moves x =
    list_any-append (leads_to x.component x.source) moves (x ∷ [])
    ∙ ap (λ b. list_any (leads_to x.component x.source) moves || b) (or-false (x.component == x.component && x.target == x.source) ∙ ap (λ b. b && x.target == x.source) (eqb_same x.component))

-- ---- facts about each move

any_push : {X : Type 0} (p : X → Bool) (xs : List X) (x : X) → list_any p (xs ++ x ∷ []) ≡ (list_any p xs || p x)
any_push p xs x = list_any-append p xs (x ∷ []) ∙ ap (λ b. list_any p xs || b) (or-false (p x))

-- ---- what holds where no code applies to a move

pub record MayMove (m : PlantModel) (x : Move) (command : List ℕ) : Type 0 where
  pub short : is_long command ≡ false
  pub room : nat_le MAX_MOVES (length m.moves) ≡ false
  pub clear : is_ambiguous m.moves x ≡ false
  pub into : is_into_broken m x ≡ false
  pub exit : is_unmarked_exit m.moves x ≡ false
  pub one : mends_twice m.moves x ≡ false
  pub cycle : is_repair_cycle m x ≡ false

pub may_move : (m : PlantModel) (x : Move) (command : List ℕ) → least ((4, is_long command || nat_le MAX_MOVES (length m.moves)) ∷ move_faults m x) ≡ None → MayMove m x command
may_move m x command e =
    let a = least_none 4 (is_long command || nat_le MAX_MOVES (length m.moves)) (move_faults m x) e in
    let b = least_none 5 (is_ambiguous m.moves x) ((6, is_into_broken m x) ∷ (7, is_unmarked_exit m.moves x) ∷ (8, mends_twice m.moves x) ∷ (21, is_repair_cycle m x) ∷ []) a.1 in
    let c = least_none 6 (is_into_broken m x) ((7, is_unmarked_exit m.moves x) ∷ (8, mends_twice m.moves x) ∷ (21, is_repair_cycle m x) ∷ []) b.1 in
    let d = least_none 7 (is_unmarked_exit m.moves x) ((8, mends_twice m.moves x) ∷ (21, is_repair_cycle m x) ∷ []) c.1 in
    let f = least_none 8 (mends_twice m.moves x) ((21, is_repair_cycle m x) ∷ []) d.1 in
    let g = least_none 21 (is_repair_cycle m x) [] f.1 in
    let limits = or_parts (is_long command) (nat_le MAX_MOVES (length m.moves)) a.0 in
    record { short = limits.0; room = limits.1; clear = b.0; into = c.0; exit = d.0; one = f.0; cycle = g.0 }

module _ (m : PlantModel) (x : Move) (command : List ℕ) (w : WellFormed m) (may : MayMove m x command) where
  own_command : (y : Move) → (y.command == x.command && (not (y.component == x.component) || y.source == x.source)) ≡ false → y.command ≡ x.command → (y.component ≡ x.component) × (y.source ≢ x.source)
  own_command y e same =
      let p = or_parts (not (y.component == x.component)) (y.source == x.source) (and_false (y.command == x.command) _ e (eq-eqb y.command x.command same)) in
      (eqb-true y.component x.component (not-false (y.component == x.component) p.0), λ s. false≢true (sym p.1 ∙ eq-eqb y.source x.source s))

  commands_after : All (λ y. y.command ≡ x.command → (y.component ≡ x.component) × (y.source ≢ x.source)) m.moves
  commands_after = All-weaker (λ y. (y.command == x.command && (not (y.component == x.component) || y.source == x.source)) ≡ false)
      (λ y. y.command ≡ x.command → (y.component ≡ x.component) × (y.source ≢ x.source)) own_command m.moves
      (all_fail (λ y. y.command == x.command && (not (y.component == x.component) || y.source == x.source)) m.moves may.clear)

  module _ (good : IsFormula m x.guard) (source : HasMode m x.component x.source) (target : HasMode m x.component x.target) (complete : IsComplete m) (number : x.command ≡ command_number m command) where
    repairs_after : RepairsFit m.version (m.moves ++ x ∷ [])
    repairs_after = codes_keep_rules m w x may.into may.exit may.one may.cycle

    -- the number of a command that the model has
    number_old : (k : ℕ) → place_of m.commands command ≡ Some k → x.command < length m.commands
    number_old k e =
        let none : List ℕ = [] in
        let within = (position-Some (λ name. bytes_eq name command) m.commands k none e).0 in
        let is : x.command ≡ k = number ∙ ap (λ o. unwrap_or o (length m.commands)) e in
        omega (arith, within, is)

    pub number_new : place_of m.commands command ≡ None → x.command ≡ length m.commands
    number_new e = number ∙ ap (λ o. unwrap_or o (length m.commands)) e

    pub old_move_kept : (k : ℕ) → place_of m.commands command ≡ Some k → WellFormed (with_move m x)
    old_move_kept k e =
        let within = number_old k e in
        move_kept m x w (below MAX_MOVES (length m.moves) may.room) (record { source = source; target = target; command = within; guard = good }) repairs_after commands_after
        (λ c before. complete c (omega (arith, within, before)))

    pub new_command_kept : place_of m.commands command ≡ None → is_bare_name command ≡ true → WellFormed (with_command m command)
    new_command_kept e bare =
        command_kept m command w (is_named command bare may.short)
        (All-weaker (λ name. bytes_eq name command ≡ false) (λ name. name ≢ command) (λ name f same. false≢true (sym f ∙ (bytes_eq-Decides name command).1 same)) m.commands
        (none_passes (λ name. bytes_eq name command) m.commands e))

    pub new_move_kept : place_of m.commands command ≡ None → is_bare_name command ≡ true → WellFormed (with_move (with_command m command) x)
    new_move_kept e bare =
        let is = number_new e in
        let longer = length_push m.commands command in
        move_kept (with_command m command) x (new_command_kept e bare) (below MAX_MOVES (length m.moves) may.room)
        (record { source = source; target = target; command = omega (arith, is, longer); guard = record { fits = good.fits; shallow = good.shallow } }) repairs_after commands_after
        (λ c before. complete c (omega (arith, is, before)))

-- ---- commands

not_equal : (a b : ℕ) → a < b → eqb a b ≡ false
not_equal a b h = elim (cases_Bool (eqb a b)) [ inl e ↦ (let same = eqb-true a b e in absurd (omega (arith, h, same))) | inr e ↦ e ]

-- no move has a command that the model lacks
unused_next : (m : PlantModel) → WellFormed m → is_used m.moves (length m.commands) ≡ false
unused_next m w =
    list_any_none (λ move. move.command == length m.commands) m.moves
    (All-weaker (IsMove m) (λ move. (move.command == length m.commands) ≡ false) (λ move h. not_equal move.command (length m.commands) h.command) m.moves w.moves)

take_front : {X : Type 0} (xs : List X) (x : X) → take (length xs) (xs ++ x ∷ []) ≡ xs
take_front [] x = refl
take_front (y ∷ xs) x = ap (λ (l : List _). y ∷ l) (take_front xs x)

-- the last command, taken back
pub command_taken_back : (m : PlantModel) (command : List ℕ) → without_last_command (with_command m command) ≡ m
command_taken_back m command =
    let n : length (m.commands ++ command ∷ []) - 1 ≡ length m.commands = omega (arith, length_push m.commands command) in
    ap (λ (k : ℕ). record m { commands = take k (m.commands ++ command ∷ []) }) n ∙ ap (λ (cs : List (List ℕ)). record m { commands = cs }) (take_front m.commands command)

-- the map with the new command
place_push : (cs : List (List ℕ)) (command q : List ℕ) → place_of cs command ≡ None → place_of (cs ++ command ∷ []) q ≡ cond (bytes_eq command q) (Some (length cs)) (place_of cs q)
place_push cs command q free =
    position_push (λ name. bytes_eq name q) cs command ∙ go (place_of cs q) (bytes_eq command q) (λ e. ap (place_of cs) (sym ((bytes_eq-Decides command q).0 e)) ∙ free)
  where
    go : (o : Option ℕ) (b : Bool) → (b ≡ true → o ≡ None) → or_else o (cond b (Some (length cs)) None) ≡ cond b (Some (length cs)) o
    go None true h = refl
    go None false h = refl
    go (Some k) true h = let e = h refl in absurd cc
    go (Some k) false h = refl

pub command_numbered : (old new : Names ℕ) (cs : List (List ℕ)) (command : List ℕ) → NumbersFit old cs → place_of cs command ≡ None → Updates (pointwise nat_eq) old new command (Some (length cs)) → NumbersFit new (cs ++ command ∷ [])
command_numbered old new cs command fit free h q =
    h.0 q ∙ ap (λ (o : Option ℕ). cond (bytes_eq command q) (Some (length cs)) o) (fit q) ∙ sym (place_push cs command q free)

pub unchanged_numbers : (old new : Names ℕ) (cs : List (List ℕ)) → IsUnchanged old new → NumbersFit old cs → NumbersFit new cs
unchanged_numbers old new cs e fit q = ap (λ entries. lookup (pointwise nat_eq q) entries) e ∙ fit q

-- ---- completeness

used_push : (moves : List Move) (x : Move) (k : ℕ) → (IsTrue (is_used moves k)) ⊎ (x.command ≡ k) → IsTrue (is_used (moves ++ x ∷ []) k)
used_push moves x k (inl old) = any_push (λ move. move.command == k) moves x ∙ ap (λ b. b || x.command == k) old
used_push moves x k (inr new) = any_push (λ move. move.command == k) moves x ∙ ap (λ b. is_used moves k || b) (eq-eqb x.command k new) ∙ or_true (is_used moves k)
  where
    or_true : (b : Bool) → (b || true) ≡ true
    or_true true = refl
    or_true false = refl

pub with_named_old : (m : PlantModel) (command : List ℕ) (k : ℕ) → place_of m.commands command ≡ Some k → with_named m command ≡ m
with_named_old m command k e = ap (λ o. cond (is_some o) m (with_command m command)) e

pub with_named_new : (m : PlantModel) (command : List ℕ) → place_of m.commands command ≡ None → with_named m command ≡ with_command m command
with_named_new m command e = ap (λ o. cond (is_some o) m (with_command m command)) e

pub old_complete : (m : PlantModel) (x : Move) → IsComplete m → IsComplete (with_move m x)
old_complete m x h k within = used_push m.moves x k (inl (h k within))

pub new_complete : (m : PlantModel) (x : Move) (command : List ℕ) → x.command ≡ length m.commands → IsComplete m → IsComplete (with_move (with_command m command) x)
new_complete m x command e h k within =
    let longer = length_push m.commands command in
    elim (cases_lt k (length m.commands)) [
      | inl old ↦ used_push m.moves x k (inl (h k old))
      | inr new ↦ used_push m.moves x k (inr (omega (arith, e, new, longer, within)))
    ]

-- the last of one more command is used by no move
pub unused_last : (m : PlantModel) (command : List ℕ) → WellFormed m → is_used m.moves (length (m.commands ++ command ∷ []) - 1) ≡ false
unused_last m command w =
    let n : length (m.commands ++ command ∷ []) - 1 ≡ length m.commands = omega (arith, length_push m.commands command) in
    ap (is_used m.moves) n ∙ unused_next m w
