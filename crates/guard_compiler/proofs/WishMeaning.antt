-- From clauses over states to a wish's prime implicants.
use Rattle.std.proofs.Common.{◌≤◌, ◌≡◌, ℕ, ◌<◌, List, ◌++◌, length, Some, None, sym, ◌∙◌, ap, subst, get_or, take, drop, All, IsTrue, ◌↔◌}
use Rattle.std.proofs.lemmas.List.{length-map}
use Rattle.std.proofs.Math.Seq.{take-append_seam, drop-append_seam}
use Rattle.std.proofs.lemmas.Bool.{true_from_ne_false}
use Rattle.cca_base.specs.declared.cube.Pair.{Pair}
use Rattle.cca_base.specs.declared.formula.Formula.{Formula}
use Rattle.cca_base.specs.PlantModel.{PlantModel}
use Rattle.cca_base.specs.Model.{mode_counts, value_counts}
use Rattle.cca_base.specs.Formula.{truth}
use Rattle.cca_base.specs.State.{Follows}
use Rattle.cca_base.proofs.Counting.{not_among_fewer}
use Rattle.clause_form.specs.declared.clause.Clauses.{Clauses}
use Rattle.clause_form.specs.Clauses.{AreValues, all_met}
use Rattle.clause_form.specs.Formulas.{is_asked}
use Rattle.clause_form.proofs.ModelSizes.{state_values}
use Rattle.elimination.specs.Projection.{IsProjection}
use Rattle.guard_compiler.specs.Asked.{AreAskedOf}
use Rattle.guard_compiler.specs.Wishes.{IsImplicant, AreImplicants, HasManyImplicants}
use Rattle.guard_compiler.proofs.WaysMeaning.{to_state, false_in, asked_of, more_cubes}
use Rattle.prime_implicants.specs.Primes.{IsBlocked, IsPrime, AreAllPrimes, AreMorePrimes}

-- the clauses are true of a state exactly where some values make every rule true and the wish false
pub record AreStatesAgainst (m : PlantModel) (f : Formula) (states : Clauses) : Type 0 where
  pub sizes : states.sizes ≡ mode_counts m
  pub meaning : (s : List ℕ) → AreValues (mode_counts m) s → IsTrue (all_met s states.clauses)
      ↔ ((w : List ℕ) × AreValues (value_counts m) w × IsTrue (is_asked m None (Some f) s w))

pub states_against : (m : PlantModel) (f : Formula) (asked states : Clauses) (n : ℕ) → n ≡ length m.components → AreAskedOf m f asked → states.sizes ≡ take n asked.sizes
    → IsProjection asked n states → AreStatesAgainst m f states
states_against m f asked states n count asks sizes projects =
    let long : n ≡ length (mode_counts m) = count ∙ sym (length-map m.components (λ c. length c.modes)) in
    let first : take n asked.sizes ≡ mode_counts m =
    ap (take n) asks.sizes ∙ ap (λ z. take z (mode_counts m ++ value_counts m)) long ∙ take-append_seam (mode_counts m) (value_counts m) in
    let rest : drop n asked.sizes ≡ value_counts m =
    ap (drop n) asks.sizes ∙ ap (λ z. drop z (mode_counts m ++ value_counts m)) long ∙ drop-append_seam (mode_counts m) (value_counts m) in
    record {
      sizes = sizes ∙ first;
      meaning = λ s v.
          let there = projects s (subst (λ z. AreValues z s) (sym first) v) in
          let means = asks.meaning s v in (
            (λ t. let r = there.0 t in means.0 (r.0, subst (λ z. AreValues z r.0) rest r.1, r.2)),
            (λ r. let q = means.1 r in there.1 (q.0, subst (λ z. AreValues z q.0) (sym rest) q.1, q.2)),
          );
    }

follows_blocks : (m : PlantModel) (f : Formula) (states : Clauses) (cube : List Pair) → AreStatesAgainst m f states → Follows m cube f → IsBlocked states cube
follows_blocks m f states cube of follows s v met extends =
    let counted : AreValues (mode_counts m) s = subst (λ z. AreValues z s) of.sizes v in
    let r = (of.meaning s counted).0 met in
    let there = false_in m f s r.0 r.1 r.2 in
    there.1 (follows s (to_state m s counted) extends r.0 there.0)

blocks_follows : (m : PlantModel) (f : Formula) (states : Clauses) (cube : List Pair) → AreStatesAgainst m f states → IsBlocked states cube → Follows m cube f
blocks_follows m f states cube of blocked s state extends w world = true_from_ne_false (truth s w f) (λ e.
    let counted = state_values m s state in
    let asked = asked_of m f s w world e in
    blocked s (subst (λ z. AreValues z s) (sym of.sizes) counted) ((of.meaning s counted).1 (w, asked.0, asked.1)) extends)

implicant_of : (m : PlantModel) (f : Formula) (states : Clauses) (cube : List Pair) → AreStatesAgainst m f states → IsPrime states cube → IsImplicant m f cube
implicant_of m f states cube of prime = record {
  rising = prime.rising;
  modes = subst (λ z. All (λ p. p.value < get_or z p.item 0) cube) of.sizes prime.values;
  follows = blocks_follows m f states cube of prime.blocked;
  minimal = λ part less follows. prime.minimal part less (follows_blocks m f states part of follows);
}

prime_of : (m : PlantModel) (f : Formula) (states : Clauses) (cube : List Pair) → AreStatesAgainst m f states → IsImplicant m f cube → IsPrime states cube
prime_of m f states cube of its = record {
  rising = its.rising;
  values = subst (λ z. All (λ p. p.value < get_or z p.item 0) cube) (sym of.sizes) its.modes;
  blocked = follows_blocks m f states cube of its.follows;
  minimal = λ part less blocked. its.minimal part less (blocks_follows m f states part of blocked);
}

pub all_implicants : (m : PlantModel) (f : Formula) (states : Clauses) (most : ℕ) (cubes : List (List Pair)) → AreStatesAgainst m f states → AreAllPrimes states most cubes → AreImplicants m f cubes
all_implicants m f states most cubes of a = record {
  in_order = a.in_order;
  each = λ cube. ((λ h. implicant_of m f states cube of ((a.each cube).0 h)), (λ h. (a.each cube).1 (prime_of m f states cube of h)));
}

pub many_implicants : (m : PlantModel) (f : Formula) (states : Clauses) (most : ℕ) → AreStatesAgainst m f states → AreMorePrimes states most ↔ HasManyImplicants m f most
many_implicants m f states most of = (
  more_cubes (IsPrime states) (IsImplicant m f) most (λ cube. implicant_of m f states cube of),
  more_cubes (IsImplicant m f) (IsPrime states) most (λ cube. prime_of m f states cube of),
)

-- there are not both few implicants and many
pub not_many_implicants : (m : PlantModel) (f : Formula) (most : ℕ) (cubes : List (List Pair)) → AreImplicants m f cubes → length cubes ≤ most → HasManyImplicants m f most → ⊥
not_many_implicants m f most cubes are few k = not_among_fewer k.cubes cubes most k.in_order (λ i d l. (are.each (get_or k.cubes i d)).1 (k.each i d l)) k.many few
