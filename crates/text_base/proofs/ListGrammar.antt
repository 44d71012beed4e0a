-- Parts with commas between them are read from their spelling, and from nothing else.
use Rattle.std.proofs.Common.{◌≡◌, ℕ, zero, suc, ◌+◌, ◌<◌, ◌≤◌, List, [], ◌∷◌, ◌++◌, length, length-append, Option, Some, None, refl, sym, ap, subst, ◌∙◌, append_assoc, arith}
use Rattle.std.specs.List.{AllByRecursion}
use Rattle.std.proofs.lemmas.Option.{same_Some}
use Rattle.text_base.specs.Chain.{◌>>=◌}
use Rattle.text_base.specs.Lexemes.{Lexeme, comma, next_is}
use Rattle.text_base.specs.Lists.{with_part, and_more, list_within, list_at, parts_spelled, list_spelled}
use Rattle.text_base.proofs.ChainLaws.{bind_some, then, after, next_read, next_shorter}

-- a part is read from its spelling, and from nothing else, and takes a lexeme at least
pub record IsGrammar {A : Type 0} (part : List Lexeme → Option (A × List Lexeme)) (spelled : A → List Lexeme) (Fits : A → Type 0) : Type 0 where
  pub reads : (x : A) (behind : List Lexeme) → Fits x → part (spelled x ++ behind) ≡ Some (x, behind)
  pub read : (ls : List Lexeme) (x : A × List Lexeme) → part ls ≡ Some x → (ls ≡ spelled x.0 ++ x.1) × Fits x.0
  pub some : (x : A) → 0 < length (spelled x)

-- this list is spelled so, with this behind it
abbrev pub IsListSpelled : {A : Type 0} → (A → List Lexeme) → (A → Type 0) → List Lexeme → List A × List Lexeme → Type 0
IsListSpelled spelled Fits ls read = (ls ≡ list_spelled spelled read.0 ++ read.1) × (0 < length read.0) × AllByRecursion Fits read.0

with_part_some : {A : Type 0} (x : A) (o : Option (List A × List Lexeme)) (read : List A × List Lexeme)
    → with_part x o ≡ Some read → (rest : List A × List Lexeme) × (o ≡ Some rest) × ((x ∷ rest.0, rest.1) ≡ read)
with_part_some x None read e = absurd cc
with_part_some x (Some rest) read e = (rest, refl, same_Some (x ∷ rest.0, rest.1) read e)

-- the spelling of one part more
list_goes_on : {A : Type 0} (spelled : A → List Lexeme) (x : A) (xs : List A) → 0 < length xs → list_spelled spelled (x ∷ xs) ≡ spelled x ++ comma ∷ list_spelled spelled xs
list_goes_on spelled x [] h = absurd (omega (arith, h))
list_goes_on spelled x (next ∷ xs) h = refl

module _ {A : Type 0} {part : List Lexeme → Option (A × List Lexeme)} {spelled : A → List Lexeme} {Fits : A → Type 0} (g : IsGrammar part spelled Fits) where
  -- a part, and the rest of the list by this reader
  abbrev pub part_then : (List Lexeme → Option (List A × List Lexeme)) → A × List Lexeme → Option (List A × List Lexeme)
  part_then f x = and_more x.0 x.1 (next_is comma x.1) f

  shorter : (ls : List Lexeme) (x : A × List Lexeme) → part ls ≡ Some x → length x.1 < length ls
  shorter ls x e =
      let n : length ls ≡ length (spelled x.0) + length x.1 = ap length (g.read ls x e).0 ∙ length-append (spelled x.0) x.1 in
      omega (arith, n, g.some x.0)

  -- no part is read from nothing
  of_none : (o : Option (A × List Lexeme)) → part [] ≡ o → o ≡ None
  of_none None e = refl
  of_none (Some x) e = absurd (omega (arith, shorter [] x e))

  none_is_read : part [] ≡ None
  none_is_read = of_none (part []) refl

  -- the rest of a list by two readers that agree on what is shorter
  module _ (f h : List Lexeme → Option (List A × List Lexeme)) where
    by_comma : (x : A × List Lexeme) (c : Option (List Lexeme)) → next_is comma x.1 ≡ c → ((more : List Lexeme) → length more < length x.1 → f more ≡ h more) → and_more x.0 x.1 c f ≡ and_more x.0 x.1 c h
    by_comma x None e same = refl
    by_comma x (Some more) e same = ap (with_part x.0) (same more (next_shorter comma x.1 more e))

    by_part : (ls : List Lexeme) (o : Option (A × List Lexeme)) → part ls ≡ o → ((more : List Lexeme) → length more < length ls → f more ≡ h more) → (o >>= part_then f) ≡ (o >>= part_then h)
    by_part ls None e same = refl
    by_part ls (Some x) e same = by_comma x (next_is comma x.1) refl (λ more less. same more (omega (arith, less, shorter ls x e)))

  -- a list is read the same by any number that is large enough
  enough : (n m : ℕ) (ls : List Lexeme) → length ls ≤ n → length ls ≤ m → list_within part n ls ≡ list_within part m ls
  enough zero zero ls a b = refl
  enough zero (suc m) [] a b = sym (then none_is_read (part_then (list_within part m)))
  enough zero (suc m) (l ∷ ls) a b = absurd (omega (arith, a))
  enough (suc n) zero [] a b = then none_is_read (part_then (list_within part n))
  enough (suc n) zero (l ∷ ls) a b = absurd (omega (arith, b))
  enough (suc n) (suc m) ls a b =
      by_part (list_within part n) (list_within part m) ls (part ls) refl (λ more less. enough n m more (omega (arith, a, less)) (omega (arith, b, less)))

  -- a list is a part, and the rest of the list
  pub list_step : (ls : List Lexeme) → list_at part ls ≡ (part ls >>= part_then (list_at part))
  list_step [] = sym (then none_is_read (part_then (list_at part)))
  list_step (l ∷ ls) =
      by_part (list_within part (length ls)) (list_at part) (l ∷ ls) (part (l ∷ ls)) refl (λ more less. enough (length ls) (length more) more (omega (arith, less)) (omega arith))

  -- a list is read from its spelling, before anything but a comma
  pub reads_list : (x : A) (xs : List A) (behind : List Lexeme)
      → AllByRecursion Fits (x ∷ xs) → next_is comma behind ≡ None → list_at part (parts_spelled spelled x xs ++ behind) ≡ Some (x ∷ xs, behind)
  reads_list x [] behind h e =
      list_step (spelled x ++ behind)
      ∙ then (g.reads x behind h.0) (part_then (list_at part))
      ∙ ap (λ (c : Option (List Lexeme)). and_more x behind c (list_at part)) e
  reads_list x (next ∷ xs) behind h e =
      let more = parts_spelled spelled next xs ++ behind in
      ap (list_at part) (append_assoc (spelled x) (comma ∷ parts_spelled spelled next xs) behind)
      ∙ list_step (spelled x ++ comma ∷ more)
      ∙ then (g.reads x (comma ∷ more) h.0) (part_then (list_at part))
      ∙ ap (with_part x) (reads_list next xs behind h.1 e)

  abbrev Spelled : List Lexeme → List A × List Lexeme → Type 0
  Spelled ls read = IsListSpelled spelled Fits ls read

  more_spelled : (x : A × List Lexeme) (ls more : List Lexeme) (rest : List A × List Lexeme)
      → ls ≡ spelled x.0 ++ x.1 → Fits x.0 → x.1 ≡ comma ∷ more → Spelled more rest → Spelled ls (x.0 ∷ rest.0, rest.1)
  more_spelled x ls more rest e fits c s =
      let behind = c ∙ after comma s.0 in
      let on = ap (λ (y : List Lexeme). y ++ rest.1) (list_goes_on spelled x.0 rest.0 s.1) ∙ append_assoc (spelled x.0) (comma ∷ list_spelled spelled rest.0) rest.1 in
      (e ∙ ap (λ (y : List Lexeme). spelled x.0 ++ y) behind ∙ sym on, omega arith, (fits, s.2))

  behind_part : (n : ℕ) (ls : List Lexeme) (x : A × List Lexeme) (read : List A × List Lexeme) (c : Option (List Lexeme))
      → ls ≡ spelled x.0 ++ x.1 → Fits x.0 → next_is comma x.1 ≡ c → ((more : List Lexeme) (rest : List A × List Lexeme) → list_within part n more ≡ Some rest → Spelled more rest)
      → and_more x.0 x.1 c (list_within part n) ≡ Some read → Spelled ls read
  behind_part n ls x read None e fits c ih h = subst (Spelled ls) (same_Some (x.0 ∷ [], x.1) read h) (e, omega arith, (fits, tt))
  behind_part n ls x read (Some more) e fits c ih h =
      let w = with_part_some x.0 (list_within part n more) read h in
      subst (Spelled ls) w.2 (more_spelled x ls more w.0 e fits (next_read comma x.1 more c) (ih more w.0 w.1))

  within_read : (n : ℕ) (ls : List Lexeme) (read : List A × List Lexeme) → list_within part n ls ≡ Some read → Spelled ls read
  within_read zero ls read e = absurd cc
  within_read (suc n) ls read e =
      let a = bind_some (part ls) (part_then (list_within part n)) read e in
      let p = g.read ls a.0 a.1 in
      behind_part n ls a.0 read (next_is comma a.0.1) p.0 p.1 refl (within_read n) a.2

  -- what is read as a list is spelled so
  pub list_read : (ls : List Lexeme) (read : List A × List Lexeme) → list_at part ls ≡ Some read → IsListSpelled spelled Fits ls read
  list_read ls read e = within_read (length ls) ls read e
