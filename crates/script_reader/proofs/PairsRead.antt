-- Pairs of a line that are read one after the other, as the loop does.
use Rattle.std.proofs.Common.{◌≡◌, ℕ, ◌<◌, ◌==◌, true, false, List, [], ◌∷◌, ◌++◌, length, Option, Some, None, refl, sym, ap, subst, ◌∙◌, arith}
use Rattle.std.proofs.lemmas.Bool.{eqb-true}
use Rattle.cca_base.specs.declared.cube.Pair.{Pair}
use Rattle.cca_base.specs.PlantModel.{PlantModel}
use Rattle.text_base.specs.Chain.{◌>>=◌}
use Rattle.text_base.specs.Lexemes.{Lexeme, comma, next_is}
use Rattle.text_base.specs.Lists.{and_more, list_at, ended}
use Rattle.text_base.specs.Pairs.{NamedPair, pair_at, pairs_at}
use Rattle.text_base.proofs.ChainLaws.{then, next_shorter}
use Rattle.text_base.proofs.ListGrammar.{part_then, list_step}
use Rattle.text_base.proofs.ListsRead.{with_parts, regroup}
use Rattle.text_base.proofs.PairGrammar.{pair_grammar}
use Rattle.script_reader.specs.declared.found.Found.{Found}
use Rattle.script_reader.specs.declared.named.Naming.{Naming}
use Rattle.script_reader.specs.Asked.{IsFoundOf, IsFoundIn}
use Rattle.script_reader.specs.Items.{only_pairs}

-- what the loop keeps: with the pairs before its place, those from there on are all pairs; and what was found of the pairs before
pub record AreReadPairs (naming : Naming) (m : PlantModel) (pending : List Pair) (mirrored : ℕ) (start here : List Lexeme) (f : Found) (items : List Pair) : Type 0 where
  pub named : List NamedPair
  pub same : with_parts named (pairs_at here) ≡ pairs_at start
  pub found : IsFoundOf naming m pending mirrored named f items

is_nothing : (ls : List Lexeme) → true ≡ (length ls == 0) → ls ≡ []
is_nothing [] h = refl
is_nothing (l ∷ ls) h = absurd (omega (arith, eqb-true (length (l ∷ ls)) 0 (sym h)))

module _ (naming : Naming) (m : PlantModel) (pending : List Pair) (mirrored : ℕ) (start : List Lexeme) where
  abbrev Reading : List Lexeme → Found → List Pair → Type 0
  Reading here f items = AreReadPairs naming m pending mirrored start here f items

  unformed : only_pairs start ≡ None → (items : List Pair) → IsFoundIn naming m pending mirrored (only_pairs start) None items
  unformed e items = subst (λ o. IsFoundIn naming m pending mirrored o None items) (sym e) refl

  abbrev only : List NamedPair × List Lexeme → Option (List NamedPair)
  only pairs = ended pairs.0 pairs.1

  only_of : (o : Option (List NamedPair × List Lexeme)) → o ≡ pairs_at start → only_pairs start ≡ (o >>= only)
  unfolding only_pairs
  only_of o e = then (sym e) only

  module _ (here : List Lexeme) (f : Found) (items : List Pair) (r : Reading here f items) where
    from_here : (o : Option (NamedPair × List Lexeme)) → o ≡ pair_at here → with_parts r.named (o >>= part_then pair_grammar (list_at pair_at)) ≡ pairs_at start
    from_here o e = ap (with_parts r.named) (then e (part_then pair_grammar (list_at pair_at)) ∙ sym (list_step pair_grammar here)) ∙ r.same

    -- no pair stands there
    pub no_pair : (new : List Pair) → None ≡ pair_at here → IsFoundIn naming m pending mirrored (only_pairs start) None new
    no_pair new e = unformed (only_of None (from_here None e)) new

    module _ (p : NamedPair) (behind : List Lexeme) (e : Some (p, behind) ≡ pair_at here) where
      by_comma : (c : Option (List Lexeme)) → c ≡ next_is comma behind → with_parts r.named (and_more p behind c (list_at pair_at)) ≡ pairs_at start
      by_comma c is = ap (λ (o : Option (List Lexeme)). with_parts r.named (and_more p behind o (list_at pair_at))) is ∙ from_here (Some (p, behind)) e

      last_is : None ≡ next_is comma behind → only_pairs start ≡ ended (r.named ++ p ∷ []) behind
      last_is c = only_of (Some (r.named ++ p ∷ [], behind)) (by_comma None c)

      -- nothing follows
      pub last_pair : (g : Found) (new : List Pair) → true ≡ (length behind == 0) → IsFoundOf naming m pending mirrored (r.named ++ p ∷ []) g new → IsFoundIn naming m pending mirrored (only_pairs start) (Some g) new
      last_pair g new empty h =
          let none = is_nothing behind empty in
          let all : only_pairs start ≡ Some (r.named ++ p ∷ []) = last_is (ap (next_is comma) (sym none)) ∙ ap (ended (r.named ++ p ∷ [])) none in
          subst (λ o. IsFoundIn naming m pending mirrored o (Some g) new) (sym all) h

      more_behind : (ls : List Lexeme) → false ≡ (length ls == 0) → ended (r.named ++ p ∷ []) ls ≡ None
      more_behind [] some = absurd cc
      more_behind (l ∷ ls) some = refl

      -- something follows, and no comma
      pub no_comma : (new : List Pair) → false ≡ (length behind == 0) → None ≡ next_is comma behind → IsFoundIn naming m pending mirrored (only_pairs start) None new
      no_comma new some c = unformed (last_is c ∙ more_behind behind some) new

      -- a comma follows
      pub more_pairs : (more : List Lexeme) (g : Found) (new : List Pair) → Some more ≡ next_is comma behind → IsFoundOf naming m pending mirrored (r.named ++ p ∷ []) g new → Reading more g new
      more_pairs more g new c h = record {
        named = r.named ++ p ∷ [];
        same = sym (regroup r.named p (pairs_at more)) ∙ by_comma (Some more) c;
        found = h;
      }

      -- less is ahead behind the comma
      pub less_ahead : (more : List Lexeme) → Some more ≡ next_is comma behind → length more < length here
      less_ahead more c =
          let read = ap length (pair_grammar.read here (p, behind) (sym e)).0 in
          omega (arith, read, next_shorter comma behind more (sym c))
