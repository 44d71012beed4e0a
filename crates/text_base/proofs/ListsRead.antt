-- Parts of a list read one after the other, as a loop does.
use Rattle.std.proofs.Common.{◌≡◌, ℕ, suc, ◌+◌, ◌-◌, ◌≤◌, List, [], ◌∷◌, ◌++◌, length, length-append, length-drop, drop, take, map, Option, Some, None, refl, sym, ap, ◌∙◌, append_assoc, arith}
use Rattle.std.proofs.lemmas.List.{take_rest, drop-drop, drop-map, length-map}
use Rattle.text_base.specs.declared.token.Token.{Token}
use Rattle.text_base.specs.Lexemes.{Lexeme, lexeme_of, comma, next_is}
use Rattle.text_base.specs.Chain.{◌>>=◌}
use Rattle.text_base.specs.Lists.{with_part, and_more, list_at}
use Rattle.text_base.proofs.ChainLaws.{then, next_read}
use Rattle.text_base.proofs.ListGrammar.{IsGrammar, part_then, list_step}

-- what was read before, put before what is still read
abbrev pub with_parts : {A : Type 0} → List A → Option (List A × List Lexeme) → Option (List A × List Lexeme)
with_parts front None = None
with_parts front (Some read) = Some (front ++ read.0, read.1)

-- what the loop keeps: with the parts before its place, the list from there on is the whole list
pub record IsReadingList {A : Type 0} (part : List Lexeme → Option (A × List Lexeme)) (ts : List Token) (front : List A) (at : ℕ) : Type 0 where
  pub within : at ≤ length ts
  pub same : with_parts front (list_at part (map lexeme_of (drop at ts))) ≡ list_at part (map lexeme_of ts)

pub regroup : {A : Type 0} (front : List A) (x : A) (o : Option (List A × List Lexeme)) → with_parts front (with_part x o) ≡ with_parts (front ++ x ∷ []) o
regroup front x None = refl
regroup {A} front x (Some read) = ap (λ (xs : List A). Some (xs, read.1)) (sym (append_assoc front (x ∷ []) read.0))

-- what stands behind some lexemes and one more
drop_over : (front : List Lexeme) (l : Lexeme) (more : List Lexeme) → drop (suc (length front)) (front ++ l ∷ more) ≡ more
drop_over [] l more = refl
drop_over (f ∷ front) l more = drop_over front l more

-- the same of tokens
behind_both : (at : ℕ) (ts : List Token) (front : List Lexeme) (l : Lexeme) (more : List Lexeme)
    → map lexeme_of (drop at ts) ≡ front ++ l ∷ more → (at + suc (length front) ≤ length ts) × (map lexeme_of (drop (at + suc (length front)) ts) ≡ more)
behind_both at ts front l more e =
    let k = suc (length front) in
    let n : length ts - at ≡ length front + suc (length more) = sym (length-drop at ts) ∙ sym (length-map (drop at ts) lexeme_of) ∙ ap length e ∙ length-append front (l ∷ more) in
    (omega (arith, n), ap (map lexeme_of) (sym (drop-drop k at ts)) ∙ sym (drop-map lexeme_of k (drop at ts)) ∙ ap (drop k) e ∙ drop_over front l more)

module _ {A : Type 0} {part : List Lexeme → Option (A × List Lexeme)} {spelled : A → List Lexeme} {Fits : A → Type 0} (g : IsGrammar part spelled Fits) {ts : List Token} {front : List A} {at : ℕ} (r : IsReadingList part ts front at) where
  -- what the loop sees at its place
  abbrev pub rest : List Token
  rest = take (length ts - at) (drop at ts)

  from_here : (o : Option (A × List Lexeme)) → o ≡ part (map lexeme_of rest) → with_parts front (o >>= part_then g (list_at part)) ≡ list_at part (map lexeme_of ts)
  from_here o e =
      let here = e ∙ ap (λ (x : List Token). part (map lexeme_of x)) (take_rest ts at) in
      ap (with_parts front) (then here (part_then g (list_at part)) ∙ sym (list_step g (map lexeme_of (drop at ts)))) ∙ r.same

  module _ (x : A) (behind : List Lexeme) (e : Some (x, behind) ≡ part (map lexeme_of rest)) where
    by_comma : (c : Option (List Lexeme)) → c ≡ next_is comma behind → with_parts front (and_more x behind c (list_at part)) ≡ list_at part (map lexeme_of ts)
    by_comma c is = ap (λ (o : Option (List Lexeme)). with_parts front (and_more x behind o (list_at part))) is ∙ from_here (Some (x, behind)) e

    -- no comma stands behind the part
    pub ends_list : None ≡ next_is comma behind → Some (front ++ x ∷ [], behind) ≡ list_at part (map lexeme_of ts)
    ends_list c = by_comma None c

    -- a comma stands behind the part
    pub more_list : (more : List Lexeme) → Some more ≡ next_is comma behind → IsReadingList part ts (front ++ x ∷ []) (at + suc (length (spelled x)))
    more_list more c =
        let here = ap (map lexeme_of) (sym (take_rest ts at)) ∙ (g.read (map lexeme_of rest) (x, behind) (sym e)).0 in
        let b = behind_both at ts (spelled x) comma more (here ∙ ap (λ (y : List Lexeme). spelled x ++ y) (next_read comma behind more (sym c))) in
        record {
          within = b.0;
          same = ap (λ (y : List Lexeme). with_parts (front ++ x ∷ []) (list_at part y)) b.1 ∙ sym (regroup front x (list_at part more)) ∙ by_comma (Some more) c;
        }

  -- no part stands there
  pub no_list : None ≡ part (map lexeme_of rest) → None ≡ list_at part (map lexeme_of ts)
  no_list e = from_here None e
