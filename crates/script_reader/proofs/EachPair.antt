-- What pairs of names stand for, one by one.
use Rattle.std.proofs.Common.{◌≡◌, ℕ, suc, List, [], ◌∷◌, length, Option, Some, None, Contains, inl, inr, refl, sym, ap, subst, ◌∙◌}
use Rattle.std.proofs.lemmas.Option.{same_Some}
use Rattle.list_laws.proofs.Members.{contains_cases, contains_here, contains_there, contains_none}
use Rattle.cca_base.specs.declared.cube.Pair.{Pair}
use Rattle.text_base.specs.Chain.{◌>>=◌}
use Rattle.text_base.specs.Pairs.{NamedPair}
use Rattle.text_base.proofs.ChainLaws.{bind_some}
use Rattle.script_reader.specs.Named.{each_pair}

-- the first pair and the later ones stand for something
pub record AreEach (f : NamedPair → Option Pair) (p : NamedPair) (ps : List NamedPair) (qs : List Pair) : Type 0 where
  pub first : Pair
  pub rest : List Pair
  pub is_first : f p ≡ Some first
  pub is_rest : each_pair f ps ≡ Some rest
  pub are : first ∷ rest ≡ qs

pub each_of : (f : NamedPair → Option Pair) (p : NamedPair) (ps : List NamedPair) (qs : List Pair) → each_pair f (p ∷ ps) ≡ Some qs → AreEach f p ps qs
each_of f p ps qs h =
    let a = bind_some (f p) (λ (q : Pair). each_pair f ps >>= λ rest. Some (q ∷ rest)) qs h in
    let b = bind_some (each_pair f ps) (λ (rest : List Pair). Some (a.0 ∷ rest)) qs a.2 in
    record { first = a.0; rest = b.0; is_first = a.1; is_rest = b.1; are = same_Some (a.0 ∷ b.0) qs b.2 }

-- as many as there are names
pub as_many : (f : NamedPair → Option Pair) (ps : List NamedPair) (qs : List Pair) → each_pair f ps ≡ Some qs → length qs ≡ length ps
as_many f [] qs h = ap length (sym (same_Some [] qs h))
as_many f (p ∷ ps) qs h =
    let e = each_of f p ps qs h in
    let rest = as_many f ps e.rest e.is_rest in
    ap length (sym e.are) ∙ ap suc rest

-- what stands for something is a pair of the line
pub comes_from : (f : NamedPair → Option Pair) (ps : List NamedPair) (qs : List Pair) (q : Pair) → each_pair f ps ≡ Some qs → Contains qs q → (p : NamedPair) × Contains ps p × (f p ≡ Some q)
comes_from f [] qs q h among = absurd (contains_none q (subst (λ (l : List Pair). Contains l q) (sym (same_Some [] qs h)) among))
comes_from f (p ∷ ps) qs q h among =
    let e = each_of f p ps qs h in
    elim (contains_cases e.first q e.rest (subst (λ (l : List Pair). Contains l q) (sym e.are) among)) [
      | inl here ↦ (p, contains_here p p ps refl, e.is_first ∙ ap (λ (x : Pair). Some x) here)
      | inr there ↦ let r = comes_from f ps e.rest q e.is_rest there in (r.0, contains_there p r.0 ps r.1, r.2)
    ]

-- a pair of the line stands for one of them
pub goes_to : (f : NamedPair → Option Pair) (ps : List NamedPair) (qs : List Pair) (p : NamedPair) → each_pair f ps ≡ Some qs → Contains ps p → (q : Pair) × Contains qs q × (f p ≡ Some q)
goes_to f [] qs p h among = absurd (contains_none p among)
goes_to f (x ∷ ps) qs p h among =
    let e = each_of f x ps qs h in
    elim (contains_cases x p ps among) [
      | inl here ↦ (e.first, subst (λ (l : List Pair). Contains l e.first) e.are (contains_here e.first e.first e.rest refl), ap f (sym here) ∙ e.is_first)
      | inr there ↦ let r = goes_to f ps e.rest p e.is_rest there in (r.0, subst (λ (l : List Pair). Contains l r.0) e.are (contains_there e.first r.0 e.rest r.1), r.2)
    ]

missing_later : (f : NamedPair → Option Pair) (p : NamedPair) (q : Pair) (ps : List NamedPair) (o : Option (List Pair)) → f p ≡ Some q → each_pair f ps ≡ o → each_pair f (p ∷ ps) ≡ None → each_pair f ps ≡ None
missing_later f p q ps None e k h = k
missing_later f p q ps (Some rest) e k h =
    let some : each_pair f (p ∷ ps) ≡ Some (q ∷ rest) = ap (λ o. o >>= λ (x : Pair). each_pair f ps >>= λ qs. Some (x ∷ qs)) e ∙ ap (λ o. o >>= λ (qs : List Pair). Some (q ∷ qs)) k in
    let both : None ≡ Some (q ∷ rest) = sym h ∙ some in
    absurd cc

-- a pair stands for nothing
abbrev Missing : (NamedPair → Option Pair) → List NamedPair → Type 0
Missing f ps = (p : NamedPair) × Contains ps p × (f p ≡ None)

missing_by : (f : NamedPair → Option Pair) (p : NamedPair) (ps : List NamedPair) (o : Option Pair) → f p ≡ o → (each_pair f ps ≡ None → Missing f ps) → each_pair f (p ∷ ps) ≡ None → Missing f (p ∷ ps)
missing_by f p ps None e later h = (p, contains_here p p ps refl, e)
missing_by f p ps (Some q) e later h =
    let r = later (missing_later f p q ps (each_pair f ps) e refl h) in
    (r.0, contains_there p r.0 ps r.1, r.2)

-- one of the pairs stands for nothing
pub missing : (f : NamedPair → Option Pair) (ps : List NamedPair) → each_pair f ps ≡ None → (p : NamedPair) × Contains ps p × (f p ≡ None)
missing f [] h = absurd cc
missing f (p ∷ ps) h = missing_by f p ps (f p) refl (missing f ps) h

-- what a pair stands for, by its item and its value
pub pair_parts : (item : Option ℕ) (value : ℕ → Option ℕ) (q : Pair) → (item >>= λ c. value c >>= λ k. Some (record { item = c; value = k })) ≡ Some q → (item ≡ Some q.item) × (value q.item ≡ Some q.value)
pair_parts item value q h =
    let c = bind_some item (λ (c : ℕ). value c >>= λ k. Some (record { item = c; value = k })) q h in
    let k = bind_some (value c.0) (λ (k : ℕ). Some (record { item = c.0; value = k })) q c.2 in
    let same : record { item = c.0; value = k.0 } ≡ q = same_Some (record { item = c.0; value = k.0 }) q k.2 in
    (c.1 ∙ ap (λ (x : Pair). Some x.item) same, subst (λ (x : Pair). value x.item ≡ Some x.value) same k.1)
