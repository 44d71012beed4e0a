-- Repairs along edges.
use Rattle.std.proofs.Common.{◌≡◌, ◌+◌, ℕ, zero, suc, true, false, List, refl, sym, subst, arith}
use Rattle.std.proofs.lemmas.Bool.{both_ways}
use Rattle.cca_base.specs.declared.model.Move.{Move}
use Rattle.cca_base.specs.Model.{IsNext, RepairChain, RepairsFit, is_broken}
use Rattle.cca_base.proofs.NextModes.{next_broken}
use Rattle.reversibility.specs.Levels.{Edges}
use Rattle.reversibility.specs.Homes.{EdgeRepairs, IsHomeBy}

module _ (version : ℕ) (moves : List Move) (fit : RepairsFit version moves) (edge : Edges) (c : ℕ) where
  pub edge_chain : (a b n : ℕ) → EdgeRepairs moves edge c a b n → RepairChain moves c a b n
  edge_chain a b zero e = e
  edge_chain a b (suc n) p = (p.0, p.1, edge_chain p.0 b n p.3)

  -- one more
  pub edge_push : (a b x n : ℕ) → EdgeRepairs moves edge c a b n → IsNext moves c b x → edge b x → EdgeRepairs moves edge c a x (n + 1)
  edge_push a b x zero e next leads = subst (λ y. EdgeRepairs moves edge c y x 1) (sym e) (x, next, leads, refl)
  edge_push a b x (suc n) p next leads =
      let same : suc (n + 1) ≡ suc n + 1 = omega arith in
      subst (EdgeRepairs moves edge c a x) same (p.0, p.1, p.2, edge_push p.0 b x n p.3 next leads)

  -- from a mode on the way the same way leads on to its end
  edge_on : (a x b n k : ℕ) → EdgeRepairs moves edge c a x n → EdgeRepairs moves edge c a b k → is_broken moves c b ≡ false → (j : ℕ) × EdgeRepairs moves edge c x b j
  edge_on a x b zero k e q sound = (k, subst (λ y. EdgeRepairs moves edge c y b k) e q)
  edge_on a x b (suc n) zero p e sound = absurd (both_ways (is_broken moves c a) (subst (λ y. is_broken moves c y ≡ false) (sym e) sound) (next_broken moves c a p.0 p.1))
  edge_on a x b (suc n) (suc k) p q sound =
      let same : q.0 ≡ p.0 = fit.one_target c a q.0 p.0 q.1 p.1 in
      edge_on p.0 x b n k p.3 (subst (λ y. EdgeRepairs moves edge c y b k) same q.3) sound

  -- where the way comes to a broken mode, it goes on along an edge
  pub goes_on : (a x next b n : ℕ) → EdgeRepairs moves edge c a x n → IsNext moves c x next → IsHomeBy moves edge c a b → edge x next
  goes_on a x next b n p is_next home = on (edge_on a x b n home.1.0 p home.1.1 home.0)
    where
      on : (j : ℕ) × EdgeRepairs moves edge c x b j → edge x next
      on (zero, e) = absurd (both_ways (is_broken moves c b) home.0 (subst (λ y. is_broken moves c y ≡ true) e (next_broken moves c x next is_next)))
      on (suc j, q) = subst (edge x) (fit.one_target c x q.0 next q.1 is_next) q.2
