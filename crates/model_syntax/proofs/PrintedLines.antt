-- A printed line is read as its item, and leads to the model with it.
use Rattle.std.proofs.Common.{◌≡◌, ◌≢◌, ℕ, zero, suc, ◌<◌, ◌^◌, Bool, true, false, not, ◌&&◌, ◌||◌, List, [], ◌∷◌, ◌++◌, length, map, Option, Some, None, Result, Ok, Err, IsTrue, All, slice_get, inl, inr, refl, sym, ap, subst, ◌∙◌, arith, append_assoc}
use Rattle.std.specs.Prelude.{nat_le}
use Rattle.std.specs.List.{list_all, list_any}
use Rattle.std.specs.Option.{option_map_or}
use Rattle.std.specs.Fmt.{decimal}
use Rattle.std.specs.Char.{is_ascii_digit}
use Rattle.std.specs.Str.{bytes_eq}
use Rattle.std.proofs.lemmas.Str.Parse.{numerals_by_value}
use Rattle.std.proofs.lemmas.Fmt.{decimal_is_IsNumeral_wide}
use Rattle.std.proofs.lemmas.Bool.{and_parts, and_from, le-ltb, leb-true}
use Rattle.std.proofs.lemmas.List.{append-nil}
use Rattle.std.proofs.lemmas.List.Elements.{All-head, All-tail}
use Rattle.cca_base.specs.declared.formula.Formula.{Formula}
use Rattle.cca_base.specs.declared.limits.TheConstants.{MAX_NAME, MAX_DEPTH}
use Rattle.cca_base.specs.PlantModel.{PlantModel}
use Rattle.cca_base.specs.Names.{is_name, is_word, is_reserved, AreNames, AreDifferent}
use Rattle.cca_base.specs.Model.{IsFormula, IsVersion, empty_model}
use Rattle.list_laws.proofs.Pairwise.{AllPairs-tail, AllPairs-head}
use Rattle.list_laws.proofs.Places.{all_at}
use Rattle.text_base.specs.Tokens.{Tok, tokens_of, is_digits}
use Rattle.text_base.specs.Lexemes.{Lexeme}
use Rattle.text_base.proofs.NumberTexts.{tells_list_all}
use Rattle.formula_syntax.specs.declared.read_part.ReadPart.TheVariants.{Sound}
use Rattle.formula_syntax.specs.Grammar.{Whole, spelling}
use Rattle.model_syntax.specs.Items.{Item, Header, item_of, line_spelled, IsSpelled}
use Rattle.text_base.specs.Lists.{AreNameWords}
use Rattle.formula_syntax.specs.Lookups.{place_of}
use Rattle.formula_syntax.specs.Meanings.{has_twice, verdict, reading_of, whole_depth, whole_formula, names_unknown, lists_twice, is_deep}
use Rattle.model_syntax.specs.Codes.{is_long}
use Rattle.model_syntax.specs.Lines.{Next, ModelSoFar, Reads, LineLeads, LeadsByForm, LeadsByTokens, IsNextOfItem, outcome, opening}
use Rattle.model_syntax.specs.Printing.{header_said, formula_said, joined, name_at}
use Rattle.model_syntax.specs.RoundTrip.{AreOfTheirKinds, AreTokens, ReadsTo}
use Rattle.formula_syntax.proofs.FormulaReadWhole.{one_way}
use Rattle.model_syntax.proofs.ItemGrammar.{item_again}
use Rattle.model_syntax.proofs.JoinedTokens.{joined_read}
use Rattle.formula_syntax.proofs.UnknownNames.{different_text}
use Rattle.model_syntax.proofs.PrintedFormulas.{printed_text}
use Rattle.model_syntax.proofs.PrintedNames.{HasNames, atom_read, place_found}
use Rattle.model_syntax.proofs.PrintedParts.{name_parts}

-- a reader behind the line of the version
abbrev pub begun : PlantModel → ModelSoFar
begun m = record { model = m; begun = true }

-- ---- from lexemes to lines

tokens_lead : (n : PlantModel) (r : Result (List Tok) ℕ) (ls : List Lexeme) (i : Item) (next : Next) → AreTokens ls r → item_of ls ≡ Some i → IsNextOfItem n i next → LeadsByTokens (begun n) r (outcome next)
tokens_lead n (Err at) ls i next h e k = absurd h
tokens_lead n (Ok []) ls i next h e k = let none : None ≡ Some i = ap item_of h ∙ e in absurd cc
tokens_lead n (Ok (t ∷ ts)) ls i next h e k =
    subst (λ form. LeadsByForm true n form (outcome next)) (sym (ap item_of h ∙ e)) (next, k, refl)

-- an item's printed line leads to what the item leads to
pub line_leads : (n : PlantModel) (ls : List Lexeme) (i : Item) (next : Next) → AreOfTheirKinds ls → ls ≡ line_spelled i → IsSpelled i → IsNextOfItem n i next → LineLeads (begun n) (joined ls) (outcome next)
line_leads n ls i next kinds e spelled k = tokens_lead n (tokens_of (joined ls)) ls i next (joined_read ls kinds) (ap item_of e ∙ item_again i spelled) k

header_tokens : (r : Result (List Tok) ℕ) (ls : List Lexeme) (m n : PlantModel) (i : Item) → AreTokens ls r → item_of ls ≡ Some i → opening m (Some i) ≡ Reads (begun n)
    → LeadsByTokens (record { model = m; begun = false }) r (Reads (begun n))
header_tokens (Err at) ls m n i h e o = absurd h
header_tokens (Ok []) ls m n i h e o = let none : None ≡ Some i = ap item_of h ∙ e in absurd cc
header_tokens (Ok (t ∷ ts)) ls m n i h e o = subst (λ form. LeadsByForm false m form (Reads (begun n))) (sym (ap item_of h ∙ e)) (sym o)

-- the header's tokens are of their kinds
pub header_kinds : (version : ℕ) → IsVersion version → AreOfTheirKinds (header_said version)
header_kinds version (inl first) = subst (λ v. AreOfTheirKinds (header_said v)) (sym first) refl
header_kinds version (inr second) = subst (λ v. AreOfTheirKinds (header_said v)) (sym second) refl

-- the header leads from the first version's empty model to that of its version
pub header_leads : (version : ℕ) → IsVersion version → LineLeads (record { model = empty_model 1; begun = false }) (joined (header_said version)) (Reads (begun (empty_model version)))
header_leads version (inl first) =
    subst (λ v. LineLeads (record { model = empty_model 1; begun = false }) (joined (header_said v)) (Reads (begun (empty_model v)))) (sym first)
    (header_tokens (tokens_of (joined (header_said 1))) (line_spelled (Header false)) (empty_model 1) (empty_model 1) (Header false) (joined_read (line_spelled (Header false)) refl) (item_again (Header false) tt) refl)
header_leads version (inr second) =
    subst (λ v. LineLeads (record { model = empty_model 1; begun = false }) (joined (header_said v)) (Reads (begun (empty_model v)))) (sym second)
    (header_tokens (tokens_of (joined (header_said 2))) (line_spelled (Header true)) (empty_model 1) (empty_model 2) (Header true) (joined_read (line_spelled (Header true)) refl) (item_again (Header true) tt) refl)

-- lines, and then others
pub reads_on : (s t u : ModelSoFar) (ls ms : List (List ℕ)) → ReadsTo s ls t → ReadsTo t ms u → ReadsTo s (ls ++ ms) u
reads_on s t u [] ms h k = subst (λ r. ReadsTo r ms u) (sym h) k
reads_on s t u (l ∷ ls) ms h k = (h.0, h.1, reads_on h.0 t u ls ms h.2 k)

-- the lines of a list's elements, where each line leads from the model with those before to the one with it besides
pub run_leads : {X : Type 0} (say : X → List Lexeme) (model : List X → PlantModel) (all : List X)
    → ((front : List X) (x : X) (rest : List X) → front ++ x ∷ rest ≡ all → LineLeads (begun (model front)) (joined (say x)) (Reads (begun (model (front ++ x ∷ [])))))
    → (front rest : List X) → front ++ rest ≡ all → ReadsTo (begun (model front)) (map joined (map say rest)) (begun (model all))
run_leads say model all leads front [] e = ap (λ xs. begun (model xs)) (sym (append-nil front) ∙ e)
run_leads say model all leads front (x ∷ rest) e =
    (begun (model (front ++ x ∷ [])), leads front x rest e, run_leads say model all leads (front ++ x ∷ []) rest (append_assoc front (x ∷ []) rest ∙ e))

-- ---- names

pub not_too_long : (name : List ℕ) → is_name name ≡ true → is_long name ≡ false
not_too_long name h =
    let p = and_parts (is_word name) (nat_le (length name) MAX_NAME && not (is_reserved name)) h in
    let q = and_parts (nat_le (length name) MAX_NAME) (not (is_reserved name)) p.1 in
    le-ltb MAX_NAME (length name) (leb-true (length name) MAX_NAME q.0)

-- a name of a list
pub record IsAt (names : List (List ℕ)) (k : ℕ) (text : List ℕ) : Type 0 where
  pub found : place_of names text ≡ Some k
  pub name : is_name text ≡ true

name_by : (names : List (List ℕ)) (k : ℕ) (o : Option (List ℕ)) → slice_get names k ≡ o → AreNames names → k < length names → IsAt names k (option_map_or (λ name. name) o [])
name_by names k None e h lt = absurd (missing names k lt e)
  where
    missing : (xs : List (List ℕ)) (i : ℕ) → i < length xs → slice_get xs i ≡ None → ⊥
    missing [] i lt e = omega arith
    missing (x ∷ xs) zero lt e = some_none x e
      where
        some_none : (x : List ℕ) → ◌≡◌ {A = Option (List ℕ)} (Some x) None → ⊥
        some_none x e = absurd cc
    missing (x ∷ xs) (suc i) lt e = missing xs i (omega arith) e
name_by names k (Some x) e h lt = record { found = place_found names k x h.different e; name = all_at (λ name. IsTrue (is_name name)) names k x h.each e }

pub name_there : (names : List (List ℕ)) (k : ℕ) → AreNames names → k < length names → IsAt names k (name_at names k)
name_there names k h lt = name_by names k (slice_get names k) refl h lt

not_in : (y : List ℕ) (names : List (List ℕ)) → All (λ z. y ≢ z) names → list_any (bytes_eq y) names ≡ false
not_in y [] h = refl
not_in y (z ∷ zs) h = ap (λ b. b || list_any (bytes_eq y) zs) (different_text y z (All-head (λ x. y ≢ x) z zs h)) ∙ not_in y zs (All-tail (λ x. y ≢ x) z zs h)

pub never_twice : (names : List (List ℕ)) → AreDifferent names → has_twice names ≡ false
never_twice [] h = refl
never_twice (y ∷ ys) h = ap (λ b. b || has_twice ys) (not_in y ys (AllPairs-head (λ a b. a ≢ b) y ys h)) ∙ never_twice ys (AllPairs-tail (λ a b. a ≢ b) y ys h)

pub none_long : (names : List (List ℕ)) → All (λ name. IsTrue (is_name name)) names → list_any is_long names ≡ false
none_long [] h = refl
none_long (y ∷ ys) h = ap (λ b. b || list_any is_long ys) (not_too_long y (All-head (λ name. IsTrue (is_name name)) y ys h)) ∙ none_long ys (All-tail (λ name. IsTrue (is_name name)) y ys h)

pub name_words : (names : List (List ℕ)) → All (λ name. IsTrue (is_name name)) names → AreNameWords names
name_words [] h = tt
name_words (y ∷ ys) h = ((name_parts y (All-head (λ name. IsTrue (is_name name)) y ys h)).1, name_words ys (All-tail (λ name. IsTrue (is_name name)) y ys h))

pub all_are_names : (names : List (List ℕ)) → All (λ name. IsTrue (is_name name)) names → list_all is_name names ≡ true
all_are_names [] h = refl
all_are_names (y ∷ ys) h = and_from (is_name y) _ (All-head (λ name. IsTrue (is_name name)) y ys h) (all_are_names ys (All-tail (λ name. IsTrue (is_name name)) y ys h))

-- ---- numbers

some_digits : (ds : List ℕ) → 0 < length ds → list_all is_ascii_digit ds ≡ true → is_digits ds ≡ true
some_digits [] some h = absurd (omega arith)
some_digits (b ∷ bs) some h = h

pub decimal_digits : (n : ℕ) → n < 10 ^ 64 → is_digits (decimal n) ≡ true
decimal_digits n h = let k = decimal_is_IsNumeral_wide n h in some_digits (decimal n) k.0.0 ((numerals_by_value _ tells_list_all).from (decimal n) k.0.1)

-- ---- formulas

sound_parts : (u r d : Bool) (f g : Formula) (n k : ℕ) → verdict u r d (Sound f n) ≡ Sound g k → (u ≡ false) × (r ≡ false) × (d ≡ false) × (f ≡ g)
sound_parts true r d f g n k e = absurd cc
sound_parts false true d f g n k e = absurd cc
sound_parts false false true f g n k e = absurd cc
sound_parts false false false f g n k e = (refl, refl, refl, cc)

-- however these lexemes are read as a formula's text, they are read as the formula
pub record IsReadAs (n : PlantModel) (ls : List Lexeme) (f : Formula) : Type 0 where
  pub some : (t : Whole) × (ls ≡ spelling t)
  pub kinds : AreOfTheirKinds ls
  pub each : (t : Whole) → ls ≡ spelling t → (names_unknown n t ≡ false) × (lists_twice t ≡ false) × (is_deep t ≡ false) × (whole_formula n t ≡ f)

verdict_sound : (u r d : Bool) (f g : Formula) (n : ℕ) → u ≡ false → r ≡ false → d ≡ false → f ≡ g → verdict u r d (Sound f n) ≡ Sound g n
verdict_sound u r d f g n a b c e = rw (a, b, c) (ap (λ x. Sound x n) e)

pub formula_read : (n : PlantModel) → HasNames n → (f : Formula) → IsFormula n f → IsReadAs n (formula_said n f) f
unfolding reading_of
formula_read n h f is =
    let x = printed_text n (atom_read n h) f is.fits in
    let same : formula_said n f ≡ spelling x.0 = sym (x.1.same [] ∙ append-nil (formula_said n f)) in
    let shallow : is_deep x.0 ≡ false = let a = x.1.depth in let b = is.shallow in le-ltb MAX_DEPTH (whole_depth x.0) (omega (arith, a, b)) in
    let sound : reading_of true n x.0 ≡ Sound f (whole_depth x.0) = verdict_sound _ _ _ (whole_formula n x.0) f (whole_depth x.0) x.1.known x.1.once shallow x.1.formula in
    record {
      some = (x.0, same);
      kinds = x.1.kinds;
      each = λ t e. sound_parts (names_unknown n t) (lists_twice t) (is_deep t) (whole_formula n t) f (whole_depth t) (whole_depth x.0) (one_way true n t x.0 (sym e ∙ same) ∙ sound);
    }
