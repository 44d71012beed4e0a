-- What a list has after one more came into it.
use Rattle.std.proofs.Common.{◌≡◌, ◌⊎◌, ℕ, zero, suc, ◌<◌, ◌≤◌, ◌*◌, List, [], ◌∷◌, length, map, set, get_or, refl, All, Contains, arith, inl, inr, sym, ap, subst, ◌∙◌, get_or-set_same, get_or-set_other}
use Rattle.std.proofs.lemmas.List.{length-set}
use Rattle.std.proofs.lemmas.List.Elements.{All-contains}
use Rattle.list_laws.proofs.Elements.{contains_map}
use Rattle.list_laws.proofs.Members.{all_from}
use Rattle.cca_base.specs.declared.cube.Pair.{Pair}
use Rattle.group_search.specs.Columns.{IsBox}
use Rattle.group_search.specs.Floors.{every}
use Rattle.cca_base.specs.declared.limits.TheConstants.{MAX_CHOICES}
use Rattle.group_search.specs.Questions.{Question, CostsAtLeast, IsCut}
use Rattle.group_search.specs.Rooms.{HasRoomsFor, KeepsRooms}
use Rattle.group_search.specs.Stores.{cuts_in}
use Rattle.group_search.specs.Works.{HasRoom, IsWork}
use Rattle.group_search.specs.declared.work.Work.{Work}
use Rattle.group_search.proofs.BoxLaws.{same_or_other}

-- what a list of answers has is the answer to one of the questions
map_contains : {X Y : Type 0} (f : X → Y) (xs : List X) (y : Y) → Contains (map f xs) y → (x : X) × Contains xs x × (f x ≡ y)
map_contains f [] y among = absurd (omega (arith, among.1))
map_contains f (x ∷ xs) y (zero, under, is) = (x, (zero, omega arith, refl), is)
map_contains f (x ∷ xs) y (suc k, under, is) =
    let (z, (j, within, e), same) = map_contains f xs y (k, omega (arith, under), is) in
    (z, (suc j, omega (arith, within), e), same)

-- what a list has with another one in the place of one it had before, or it is that one
pub set_cases : {X : Type 0} (xs : List X) (i : ℕ) (y x : X) → Contains (set xs i y) x → Contains xs x ⊎ (x ≡ y)
set_cases xs i y x (k, under, is) = elim (same_or_other k i) [
  | inl e ↦ inr (sym is ∙ ap (λ j. get_or (set xs i y) j x) e ∙ get_or-set_same xs i y x (omega (arith, under, e, length-set xs i y)))
  | inr other ↦ inl (k, omega (arith, under, length-set xs i y), sym (get_or-set_other xs i k y x other) ∙ is)
]

-- a cut is written into a slot, and each slot in use was so before, or is that one: each cut was there before, or is the new one
pub written_cases : (slots : List (List Pair)) (slot : ℕ) (cut : List Pair) (old new : List ℕ) → slot < length slots → ((x : ℕ) → Contains new x → Contains old x ⊎ (x ≡ slot))
    → (k : List Pair) → Contains (cuts_in (set slots slot cut) new) k → Contains (cuts_in slots old) k ⊎ (k ≡ cut)
written_cases slots slot cut old new within members k among =
    let read = λ (i : ℕ). get_or (set slots slot cut) i [] in
    let here : read slot ≡ cut = get_or-set_same slots slot cut [] within in
    let (x, there, is) = map_contains read new k among in
    elim (members x there) [
      | inr e ↦ inr (sym is ∙ ap read e ∙ here)
      | inl before ↦ elim (same_or_other x slot) [
        | inl e ↦ inr (sym is ∙ ap read e ∙ here)
        | inr other ↦ inl (subst (Contains (cuts_in slots old)) (sym (get_or-set_other slots slot x cut [] other) ∙ is) (contains_map (λ (i : ℕ). get_or slots i []) old x before))
      ]
    ]

-- a store of cuts stays one where a cut comes into it
pub kept_cuts : (q : Question) (old new : List (List Pair)) (cut : List Pair) → All (IsCut q) old → IsCut q cut → ((k : List Pair) → Contains new k → Contains old k ⊎ (k ≡ cut)) → All (IsCut q) new
kept_cuts q old new cut olds is members = all_from (IsCut q) new (λ k among. elim (members k among) [
  | inl before ↦ All-contains (IsCut q) old k olds before
  | inr same ↦ subst (IsCut q) (sym same) is
])

-- where nothing is a cut there is no solution
pub empty_cut : (q : Question) (masks : List ℕ) (limit : ℕ) (cut : List Pair) → IsCut q cut → length cut ≡ 0 → CostsAtLeast q every masks limit
empty_cut q masks limit cut is none values costs s = absurd (is values costs s.solves (λ k d less. absurd (omega (arith, less, none))))

-- what is room enough stays so
pub rooms_kept : (places components : ℕ) (old new : Work) → KeepsRooms old new → HasRoomsFor places components old → HasRoomsFor places components new
rooms_kept places components old new same has = record {
  members = omega (arith, same.members, has.members);
  cuts = omega (arith, same.cuts, has.cuts);
  cut = omega (arith, same.cut, has.cut);
  halves = subst (λ n. MAX_CHOICES * places ≤ n) (sym same.halves) has.halves;
  marks = same.marks ∙ has.marks;
  best = record { values = same.values ∙ has.best.values; costs = same.costs ∙ has.best.costs };
}

-- a search's work stays such where a cut comes into its store, and its components are given other names
pub work_kept : (q : Question) (old new : Work) (cut : List Pair) → IsWork q old → IsCut q cut → new.boxed ≡ old.boxed → length new.names ≡ length old.names → new.spending ≡ old.spending → KeepsRooms old new
    → ((k : List Pair) → Contains new.cuts k → Contains old.cuts k ⊎ (k ≡ cut)) → IsWork q new
work_kept q old new cut work is boxed names spending rooms members = record {
  ready = subst (IsBox q) (sym boxed) work.ready;
  cuts = kept_cuts q old.cuts new.cuts cut work.cuts is members;
  names = names ∙ work.names;
  room = subst (HasRoom q) (sym spending) work.room;
  rooms = rooms_kept (length q.of) q.count old new rooms work.rooms;
}
