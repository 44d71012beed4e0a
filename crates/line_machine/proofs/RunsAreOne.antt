-- Runs over joined lines, and that a run is one.
use Rattle.std.proofs.Common.{◌≡◌, ℕ, ◌+◌, List, [], ◌∷◌, ◌++◌, length, Option, Some, None, refl, sym, ap, subst, ◌∙◌, append_assoc, arith}
use Rattle.line_machine.specs.Next.{Next, GoesOn, Stops}
use Rattle.line_machine.specs.Runs.{length_code, TransitionByCode, Runs}
use Rattle.line_machine.specs.declared.machine.End.{End}
use Rattle.line_machine.specs.declared.machine.Machine.{Ghosts}

-- a state and a line lead to one state and one text, and so does the end of the input
pub record IsFixed {S : Type 0} (m : Ghosts S) : Type 0 where
  pub steps : (s : S) (n : ℕ) (l : List ℕ) (u v : Next S) (a c : List ℕ) → m.steps s n l u a → m.steps s n l v c → (u ≡ v) × (a ≡ c)
  pub closes : (s : S) (n : ℕ) (e f : End) (a c : List ℕ) → m.closes s n e a → m.closes s n f c → (e ≡ f) × (a ≡ c)

module _ {S : Type 0} (m : Ghosts S) where
  -- a program that has ended looks at no line
  pub stopped : (e : End) (n : ℕ) (ls : List (List ℕ)) (t : Next S) (a : List ℕ) → Runs m (Stops e) n ls t a → (t ≡ Stops e) × (a ≡ [])
  stopped e n [] t a r = r
  stopped e n (l ∷ ls) t a r = r

  pub stays : (e : End) (n : ℕ) (ls : List (List ℕ)) → Runs m (Stops e) n ls (Stops e) []
  stays e n [] = (refl, refl)
  stays e n (l ∷ ls) = (refl, refl)

  -- one run behind the other
  pub runs_on : (s u t : Next S) (n k : ℕ) (ls ms : List (List ℕ)) (a c : List ℕ) → k ≡ n + length ls → Runs m s n ls u a → Runs m u k ms t c → Runs m s n (ls ++ ms) t (a ++ c)
  runs_on s u t n k [] ms a c e r q =
      let n_is : k ≡ n = omega (arith, e) in
      rw (sym r.0, r.1, sym n_is) q
  runs_on (Stops f) u t n k (l ∷ ls) ms a c e r q =
      let p = stopped f k ms t c (subst (λ v. Runs m v k ms t c) r.0 q) in
      (p.0, rw (r.1, p.1) refl)
  runs_on (GoesOn s) u t n k (l ∷ ls) ms a c e (v, x, y, takes, rest, parts) q =
      (v, x, y ++ c, takes, runs_on v u t (n + 1) k ls ms y c (omega (arith, e)) rest q, rw parts (append_assoc x y c))

  -- a run over joined lines, taken apart
  pub record Apart (s t : Next S) (n k : ℕ) (ls ms : List (List ℕ)) (text : List ℕ) : Type 0 where
    pub here : Next S
    pub before : List ℕ
    pub after : List ℕ
    pub first : Runs m s n ls here before
    pub second : Runs m here k ms t after
    pub parts : text ≡ before ++ after

  pub runs_apart : (s t : Next S) (n k : ℕ) (ls ms : List (List ℕ)) (text : List ℕ) → k ≡ n + length ls → Runs m s n (ls ++ ms) t text → Apart s t n k ls ms text
  runs_apart s t n k [] ms text e r =
      let n_is : k ≡ n = omega (arith, e) in
      record { here = s; before = []; after = text; first = (refl, refl); second = rw n_is r; parts = refl }
  runs_apart (Stops f) t n k (l ∷ ls) ms text e r =
      record { here = Stops f; before = []; after = []; first = (refl, refl); second = rw (r.0) (stays f k ms); parts = r.1 }
  runs_apart (GoesOn s) t n k (l ∷ ls) ms text e (v, x, y, takes, rest, parts) =
      let p = runs_apart v t (n + 1) k ls ms y (omega (arith, e)) rest in
      record { here = p.here; before = x ++ p.before; after = p.after; first = (v, x, p.before, takes, p.first, refl); second = p.second; parts = parts ∙ ap (λ (z : List ℕ). x ++ z) p.parts ∙ sym (append_assoc x p.before p.after) }

  -- a run is one
  module _ (fixed : IsFixed m) where
    takes_are_one : (o : Option ℕ) (s : S) (n : ℕ) (l : List ℕ) (u v : Next S) (a c : List ℕ) → TransitionByCode m o s n l u a → TransitionByCode m o s n l v c → (u ≡ v) × (a ≡ c)
    takes_are_one (Some code) s n l u v a c h k = (h.0 ∙ sym k.0, h.1 ∙ sym k.1)
    takes_are_one None s n l u v a c h k = fixed.steps s n l u v a c h k

    pub runs_are_one : (s t u : Next S) (n : ℕ) (ls : List (List ℕ)) (a c : List ℕ) → Runs m s n ls t a → Runs m s n ls u c → (t ≡ u) × (a ≡ c)
    runs_are_one s t u n [] a c h k = (h.0 ∙ sym k.0, h.1 ∙ sym k.1)
    runs_are_one (Stops e) t u n (l ∷ ls) a c h k = (h.0 ∙ sym k.0, h.1 ∙ sym k.1)
    runs_are_one (GoesOn s) t u n (l ∷ ls) a c (v, x, y, takes, rest, parts) (v', x', y', takes', rest', parts') =
        let p = takes_are_one (length_code (m.limit_of s) (n + 1) (length l)) s (n + 1) l v v' x x' takes takes' in
        let q = runs_are_one v t u (n + 1) ls y y' rest (subst (λ w. Runs m w (n + 1) ls u y') (sym p.0) rest') in
        (q.0, parts ∙ rw (p.1, q.1) refl ∙ sym parts')
