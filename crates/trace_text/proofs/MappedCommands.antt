-- A map has the place of each command, one more with each step.
use Rattle.std.proofs.Common.{◌≡◌, ◌<◌, ◌+◌, ℕ, List, [], ◌∷◌, ◌++◌, length, take, get_or, Option, Some, None, refl, sym, ap, ◌∙◌, subst, arith}
use Rattle.std.specs.Prelude.{nat_eq}
use Rattle.std.specs.Cmp.Lexicographic.{pointwise}
use Rattle.std.specs.declared.hash.FoldHasher.{FoldHasher}
use Rattle.std.specs.declared.hash.BuildHasherDefault.{BuildHasherDefault}
use Rattle.indexmap.specs.IndexMap.{IndexMap, Updates}
use Rattle.std.proofs.lemmas.List.{length-take-le, get_or-take, take_more}
use Rattle.std.proofs.lemmas.Option.{get_or_from_slice_get, slice_get_read}
use Rattle.cca_base.specs.Names.{AreNames}
use Rattle.formula_syntax.specs.Lookups.{place_of}
use Rattle.model_syntax.specs.Reader.{NumbersFit}
use Rattle.model_syntax.proofs.GrowthByMove.{command_numbered}
use Rattle.model_syntax.proofs.NamedPlaces.{at_place}
use Rattle.trace_text.specs.Names.{name_at}
use Rattle.trace_text.proofs.ChosenRows.{name_at_injective}
use Rattle.trace_text.proofs.ReadWords.{place_is_read}

abbrev Places : Type 0
Places = IndexMap (List ℕ) ℕ (BuildHasherDefault FoldHasher)

-- a name doesn't stand before its place
not_before : (names : List (List ℕ)) (i : ℕ) (name : List ℕ) → AreNames names → i < length names → name ≡ get_or names i [] → (o : Option ℕ) → o ≡ place_of (take i names) name → o ≡ None
not_before names i name h lt is None e = refl
not_before names i name h lt is (Some k) e =
    let none : List ℕ = [] in
    let found = place_is_read (take i names) name (Some k) e in
    let front : length (take i names) ≡ i = length-take-le i names (omega arith) in
    let low : k < i = subst (λ n. k < n) front found.0 in
    let there : name_at names k ≡ name = at_place names k (omega arith) ∙ sym (get_or-take i names k none low) ∙ sym (at_place (take i names) k found.0) ∙ found.1 in
    let same : k ≡ i = name_at_injective names k i h (omega arith) lt (there ∙ is ∙ sym (at_place names i lt)) in
    absurd (omega arith)

pub place_added : (old new : Places) (names : List (List ℕ)) (i : ℕ) (name : List ℕ) → AreNames names → i < length names → name ≡ get_or names i name → NumbersFit old (take i names)
    → Updates (pointwise nat_eq) old new name (Some i) → NumbersFit new (take (i + 1) names)
place_added old new names i name h lt at fit updates =
    let none : List ℕ = [] in
    let is : name ≡ get_or names i none = sym (get_or_from_slice_get names i name none (slice_get_read names (length names) i name refl lt at)) in
    let free : place_of (take i names) name ≡ None = not_before names i name h lt is (place_of (take i names) name) refl in
    let front : length (take i names) ≡ i = length-take-le i names (omega arith) in
    let updated : Updates (pointwise nat_eq) old new name (Some (length (take i names))) = subst (λ n. Updates (pointwise nat_eq) old new name (Some n)) (sym front) updates in
    let next : take i names ++ name ∷ [] ≡ take (i + 1) names = ap (λ t. take i names ++ t ∷ []) is ∙ sym (take_more names i none lt) in
    subst (NumbersFit new) next (command_numbered old new (take i names) name fit free updated)
