-- What a well-formed model's counts are.
use Rattle.std.proofs.Common.{◌≡◌, ℕ, ◌+◌, ◌-◌, ◌<◌, ◌≤◌, ◌++◌, ◌&&◌, true, false, not, List, [], Option, length, All, slice_index, sym, ap, subst, ◌∙◌, inl, inr, arith}
use Rattle.std.proofs.lemmas.Bool.{cases_lt}
use Rattle.std.proofs.lemmas.List.{length-map, length-append, get_or_append_left, get_or-append-add}
use Rattle.std.proofs.lemmas.List.Elements.{All-append, All-map, All-weaker}
use Rattle.cca_base.specs.declared.limits.TheConstants.{MAX_CHOICES}
use Rattle.cca_base.specs.declared.formula.Formula.{Formula}
use Rattle.cca_base.specs.declared.model.Component.{Component}
use Rattle.cca_base.specs.declared.model.Variable.{Variable}
use Rattle.cca_base.specs.PlantModel.{PlantModel}
use Rattle.cca_base.specs.Formula.{truth, is_within}
use Rattle.cca_base.specs.Model.{WellFormed, AreChoices, IsComponent, IsFormula, mode_counts, value_counts}
use Rattle.cca_base.proofs.Within.{fits_within}
use Rattle.std.specs.List.{list_all}
use Rattle.cca_base.specs.declared.cube.Pair.{Pair}
use Rattle.cca_base.specs.State.{IsState}
use Rattle.clause_form.specs.declared.clause.Clause.{Clause}
use Rattle.clause_form.specs.Clauses.{AreValues, all_met}
use Rattle.clause_form.specs.Formulas.{Adds, agrees, has_fixed, is_denied, is_asked}

-- no component has too many modes, and no variable too many values
pub counts_few : (m : PlantModel) → WellFormed m → All (λ n. n ≤ MAX_CHOICES) (mode_counts m ++ value_counts m)
counts_few m h =
    All-append (λ n. n ≤ MAX_CHOICES) (mode_counts m) (value_counts m)
    (All-map (λ n. n ≤ MAX_CHOICES) (λ (c : Component). length c.modes) m.components (All-weaker IsComponent (λ c. length c.modes ≤ MAX_CHOICES) (λ c k. k.modes.few) m.components h.components))
    (All-map (λ n. n ≤ MAX_CHOICES) (λ (v : Variable). length v.values) m.variables (All-weaker (λ (v : Variable). AreChoices v.values) (λ v. length v.values ≤ MAX_CHOICES) (λ v k. k.few) m.variables h.variables))

-- the rules speak of the model's components and variables
rules_within : (m : PlantModel) → WellFormed m → All (λ rule. is_within (length m.components) (length m.variables) rule ≡ true) m.rules
rules_within m h =
    All-weaker (IsFormula m) (λ rule. is_within (length m.components) (length m.variables) rule ≡ true)
    (λ rule k. subst (λ n. is_within n (length m.variables) rule ≡ true) (length-map m.components (λ c. length c.modes))
    (subst (λ n. is_within (length (mode_counts m)) n rule ≡ true) (length-map m.variables (λ v. length v.values)) (fits_within (mode_counts m) (value_counts m) rule k.fits)))
    m.rules h.rules

-- values of the ones and of the others, one after the other
pub both_values : (a b modes values : List ℕ) → AreValues a modes → AreValues b values → AreValues (a ++ b) (modes ++ values)
both_values a b modes values h k =
    let first : length modes ≡ length a = h.full in
    let second : length values ≡ length b = k.full in
    record {
      full = omega (arith, length-append modes values, length-append a b);
      values = λ i n. elim (cases_lt i (length a)) [
        | inl l ↦ (let l' : i < length modes = omega arith in rw (get_or_append_left modes values 0 i l') (rw (get_or_append_left a b 0 i l) (h.values i l)))
        | inr g ↦ (
            let j : ℕ = i - length a in
            let is : i ≡ length a + j = omega arith in
            let is' : i ≡ length modes + j = omega arith in
            let small : j < length b = omega (arith, length-append a b) in
            let one : slice_index (modes ++ values) i ≡ slice_index values j = ap (slice_index (modes ++ values)) is' ∙ get_or-append-add modes values j 0 in
            let two : slice_index (a ++ b) i ≡ slice_index b j = ap (slice_index (a ++ b)) is ∙ get_or-append-add a b j 0 in
            let less = k.values j small in
            omega (arith, one, two, less))
      ];
    }

-- the number of subjects
pub subjects_counted : (m : PlantModel) → length (mode_counts m ++ value_counts m) ≡ length m.components + length m.variables
subjects_counted m = omega (arith, length-append (mode_counts m) (value_counts m), length-map m.components (λ c. length c.modes), length-map m.variables (λ v. length v.values))

-- how many components there are among the counts, and how many are left
components_counted : (m : PlantModel) → length (mode_counts m ++ value_counts m) - length m.components ≡ length m.variables
components_counted m = omega (arith, subjects_counted m)

-- the clauses of the rules, the fixed pair and the denied formula, one after the other
pub asked : (m : PlantModel) (fixed : Option Pair) (denied : Option Formula) (components : ℕ) (sizes : List ℕ) (rules : List Formula) (c0 c1 c2 c3 : List Clause)
    → components ≡ length m.components → sizes ≡ mode_counts m ++ value_counts m → rules ≡ m.rules → c0 ≡ []
    → Adds components sizes (λ modes values. list_all (truth modes values) rules) c0 c1
    → Adds components sizes (λ modes values. has_fixed modes fixed) c1 c2
    → Adds components sizes (λ modes values. is_denied modes values denied) c2 c3
    → (modes values : List ℕ) → AreValues (mode_counts m) modes → AreValues (value_counts m) values → all_met (modes ++ values) c3 ≡ is_asked m fixed denied modes values
asked m fixed denied components sizes rules c0 c1 c2 c3 n s r e a1 a2 a3 modes values h k =
    let full : length modes ≡ components = h.full ∙ (length-map m.components (λ c. length c.modes) ∙ sym n) in
    let both : AreValues sizes (modes ++ values) = subst (λ xs. AreValues xs (modes ++ values)) (sym s) (both_values (mode_counts m) (value_counts m) modes values h k) in
    a3 modes values full both
    ∙ ap (λ x. x && is_denied modes values denied)
    (a2 modes values full both
    ∙ ap (λ x. x && has_fixed modes fixed)
    (a1 modes values full both
    ∙ (ap (λ (cs : List Clause). all_met (modes ++ values) cs && list_all (truth modes values) rules) e
    ∙ ap (λ (rs : List Formula). list_all (truth modes values) rs) r)))

-- the clauses of the denied formula alone
pub denying : (m : PlantModel) (f : Formula) (components : ℕ) (sizes : List ℕ) (c0 c1 : List Clause) → components ≡ length m.components → sizes ≡ mode_counts m ++ value_counts m → c0 ≡ []
    → Adds components sizes (λ modes values. agrees false (truth modes values f)) c0 c1
    → (modes values : List ℕ) → AreValues (mode_counts m) modes → AreValues (value_counts m) values → all_met (modes ++ values) c1 ≡ not (truth modes values f)
denying m f components sizes c0 c1 n s e adds modes values h k =
    let full : length modes ≡ components = h.full ∙ (length-map m.components (λ c. length c.modes) ∙ sym n) in
    let both : AreValues sizes (modes ++ values) = subst (λ xs. AreValues xs (modes ++ values)) (sym s) (both_values (mode_counts m) (value_counts m) modes values h k) in
    adds modes values full both ∙ ap (λ (cs : List Clause). all_met (modes ++ values) cs && not (truth modes values f)) e

-- what speaks of the model's components and variables, by the list of counts
pub within_counts : (m : PlantModel) (components : ℕ) (counts : List ℕ) (f : Formula) → components ≡ length m.components → counts ≡ mode_counts m ++ value_counts m
    → is_within (length m.components) (length m.variables) f ≡ true → is_within components (length counts - components) f ≡ true
within_counts m components counts f n s h =
    let left : length counts - components ≡ length m.variables =
    ap (λ (cs : List ℕ). length cs - components) s ∙ (ap (λ (k : ℕ). length (mode_counts m ++ value_counts m) - k) n ∙ components_counted m) in
    subst (λ v. is_within components v f ≡ true) (sym left) (subst (λ k. is_within k (length m.variables) f ≡ true) (sym n) h)

pub all_within_counts : (m : PlantModel) (components : ℕ) (counts : List ℕ) (rules : List Formula) → components ≡ length m.components → counts ≡ mode_counts m ++ value_counts m → rules ≡ m.rules → WellFormed m
    → All (λ rule. is_within components (length counts - components) rule ≡ true) rules
all_within_counts m components counts rules n s r h =
    subst (All (λ rule. is_within components (length counts - components) rule ≡ true)) (sym r)
    (All-weaker (λ rule. is_within (length m.components) (length m.variables) rule ≡ true) (λ rule. is_within components (length counts - components) rule ≡ true)
    (λ rule k. within_counts m components counts rule n s k) m.rules (rules_within m h))

-- the modes of a state are values of the components
pub state_values : (m : PlantModel) (s : List ℕ) → IsState m s → AreValues (mode_counts m) s
state_values m s k =
    let long = length-map m.components (λ c. length c.modes) in
    record { full = k.full ∙ sym long; values = λ c h. k.modes c (omega (arith, long)) }
