-- Goals.
use Rattle.std.proofs.Common.{◌≡◌, ℕ, List, [], ◌∷◌, ◌++◌, Some, All, Contains, slice_get, refl, sym, subst, ◌∙◌}
use Rattle.std.proofs.lemmas.List.Elements.{All-head, All-tail, All-contains}
use Rattle.list_laws.proofs.Elements.{contains_middle, same_head, same_tail}
use Rattle.cca_base.specs.declared.cube.Pair.{Pair}
use Rattle.cca_base.specs.declared.events.Reply.TheVariants.{Send, Unreachable}
use Rattle.cca_base.specs.PlantModel.{PlantModel}
use Rattle.cca_base.specs.Accepted.{CompiledModel}
use Rattle.cca_base.specs.State.{Extends}
use Rattle.cca_base.specs.Steps.{Reach}
use Rattle.cca_base.specs.Orders.{IsFirstMissing, IsNextOf}
use Rattle.cca_base.specs.Goals.{IsGoodReply}
use Rattle.cca_base.specs.Plans.{Whole}

abbrev pub Held : List ℕ → Pair → Type 0
Held s p = slice_get s p.item ≡ Some p.value

-- two splits at the first pair without a property are at one pair
pub same_split : (P : Pair → Type 0) (before after front back : List Pair) (p q : Pair) → All P before → All P front → (P p → ⊥) → (P q → ⊥)
    → before ++ p ∷ after ≡ front ++ q ∷ back → p ≡ q
same_split P [] after [] back p q h k np nq e = same_head p q after back e
same_split P [] after (x ∷ front) back p q h k np nq e = absurd (np (subst P (sym (same_head p x after (front ++ q ∷ back) e)) (All-head P x front k)))
same_split P (x ∷ before) after [] back p q h k np nq e = absurd (nq (subst P (same_head x q (before ++ p ∷ after) back e) (All-head P x before h)))
same_split P (x ∷ before) after (y ∷ front) back p q h k np nq e =
    same_split P before after front back p q (All-tail P x before h) (All-tail P y front k) np nq (same_tail x y (before ++ p ∷ after) (front ++ q ∷ back) e)

pub one_first_missing : (s : List ℕ) (pairs : List Pair) (p q : Pair) → IsFirstMissing s pairs p → IsFirstMissing s pairs q → p ≡ q
one_first_missing s pairs p q x y = same_split (Held s) x.before x.after y.before y.after p q x.held y.held x.missing y.missing (sym x.split ∙ y.split)

empty_split : (before after : List Pair) (p : Pair) → before ++ p ∷ after ≡ [] → ⊥
empty_split [] after p e = absurd cc
empty_split (x ∷ before) after p e = absurd cc

pub none_under_no_order : (s : List ℕ) (cube : List Pair) (p : Pair) → IsNextOf [] s cube p → ⊥
none_under_no_order s cube p h = empty_split h.first.before h.first.after p (sym h.first.split ∙ h.is_sorted.in_order)

pub sends_serve : (m : PlantModel) (s : List ℕ) (goal : List Pair) (k : ℕ) → IsGoodReply m s goal (Send k)
    → (Extends s goal → ⊥) × All (λ p. Reach m s p.item p.value) goal
sends_serve m s goal k good = (
  λ stands. good.0.missing (All-contains (Held s) goal good.0.pair stands good.0.wanted),
  λ i d within. (k ∷ good.1.others, good.1.last, good.1.plan, good.1.stands i d within),
)

pub standing_is_reached : (m : PlantModel) (s : List ℕ) (goal : List Pair) (c mode : ℕ) → Extends s goal → IsGoodReply m s goal (Unreachable c mode) → ⊥
standing_is_reached m s goal c mode stands bad =
    let p : Pair = record { item = c; value = mode } in
    bad.unreached ([], s, refl, All-contains (Held s) goal p stands (subst (λ xs. Contains xs p) (sym bad.split) (contains_middle bad.before bad.after p)))

pub standing_gives_no_commands : (b : CompiledModel) (goal : List Pair) (s ks last : List ℕ) → Whole b goal s ks last → Extends s goal → ks ≡ []
standing_gives_no_commands b goal s [] last whole stands = refl
standing_gives_no_commands b goal s (k ∷ ks) last whole stands = absurd (whole.0 stands)
