-- A line says one thing, or has one code, where items that are spelled alike do.
use Rattle.std.proofs.Common.{◌≡◌, ℕ, List, [], ◌∷◌, map, Option, Some, None, Result, Ok, Err, inl, inr, refl, sym, ap, subst, ◌∙◌, arith}
use Rattle.std.proofs.lemmas.Bool.{cases_order}
use Rattle.list_laws.proofs.Tests.{same_ok}
use Rattle.text_base.proofs.LexemesOfTokens.{lexemes_of}
use Rattle.cca_base.specs.declared.events.Stop.{Stop}
use Rattle.cca_base.specs.declared.events.Stop.TheVariants as stops
use Rattle.cca_base.specs.Refusals.{Answers}
use Rattle.text_base.specs.Lexemes.{Lexeme, lexeme, lexeme_of}
use Rattle.text_base.specs.Tokens.{Tok, tokens_of, token_view}
use Rattle.text_base.specs.declared.token.Token.{Token}
use Rattle.script_reader.specs.SaidLines.{Grammar, AreSpelling, Spells, IsMalformed, IsLeast, SaidByItem, SaidByLine, SaidByTokens}

-- two least codes are one
pub one_least : (Applies : ℕ → Type 0) (a b : ℕ) → IsLeast Applies a → IsLeast Applies b → a ≡ b
one_least Applies a b h k = elim (cases_order a b) [
  | inl same ↦ same
  | inr other ↦ elim other [
    | inl less ↦ absurd (k.1 a less h.0)
    | inr more ↦ absurd (h.1 b more k.0)
  ]
]

module _ {I R : Type 0} (g : Grammar I) (IsNamed : I → R → Type 0) (Applies : I → ℕ → Type 0) where
  -- an item says one thing, or has one code
  pub item_once : ((i : I) (r s : R) → IsNamed i r → IsNamed i s → r ≡ s) → (i : I) (a b : Result R ℕ) → SaidByItem g IsNamed Applies i a → SaidByItem g IsNamed Applies i b → a ≡ b
  item_once one i (Ok r) (Ok s) h k = ap (λ (x : R). Ok x) (one i r s h.0 k.0)
  item_once one i (Ok r) (Err code) h k = absurd (h.1 code k.0)
  item_once one i (Err code) (Ok s) h k = absurd (k.1 code h.0)
  item_once one i (Err code) (Err other) h k = ap (λ (x : ℕ). Err x) (one_least (Applies i) code other h k)

  module _ (line : List ℕ) where
    -- ---- by its tokens

    -- an item that the tokens spell is spelled by the line, and the other way round
    spells : (ts : List Tok) (i : I) → tokens_of line ≡ Ok ts → AreSpelling g (map lexeme ts) i → Spells g line i
    spells ts i e h = (ts, e, h)

    spelled : (ts : List Tok) (i : I) → tokens_of line ≡ Ok ts → Spells g line i → AreSpelling g (map lexeme ts) i
    spelled ts i e (us, f, h) = subst (λ (x : List Tok). AreSpelling g (map lexeme x) i) (same_ok us ts (sym f ∙ e)) h

    -- what the tokens say
    of_tokens : (ts : List Token) (said : Result (Option R) ℕ) → tokens_of line ≡ Ok (map token_view ts) → SaidByTokens g IsNamed Applies (map lexeme_of ts) said → SaidByLine g IsNamed Applies line said
    of_tokens ts said e h = go ts said e (subst (λ (ls : List Lexeme). SaidByTokens g IsNamed Applies ls said) (sym (lexemes_of ts)) h)
      where
        go : (ts : List Token) (said : Result (Option R) ℕ) → tokens_of line ≡ Ok (map token_view ts) → SaidByTokens g IsNamed Applies (map lexeme (map token_view ts)) said → SaidByLine g IsNamed Applies line said
        go [] (Ok None) e h = e
        go (t ∷ ts) (Ok None) e h = absurd cc
        go ts (Ok (Some r)) e (i, s, h) = (i, spells (map token_view ts) i e s, h)
        go [] (Err code) e h = absurd (omega (arith, h.0))
        go (t ∷ ts) (Err code) e (some, inl (is, none)) = inl (is, inr (token_view t, map token_view ts, e, λ i s. none i (spelled (map token_view (t ∷ ts)) i e s)))
        go (t ∷ ts) (Err code) e (some, inr (i, s, h)) = inr (i, spells (map token_view (t ∷ ts)) i e s, h)

    -- the same of what a call answered
    pub line_answer : (ts : List Token) (r : Result (Option R) Stop) → tokens_of line ≡ Ok (map token_view ts) → Answers r (SaidByTokens g IsNamed Applies (map lexeme_of ts)) → Answers r (SaidByLine g IsNamed Applies line)
    line_answer ts (Ok o) e h = of_tokens ts (Ok o) e h
    line_answer ts (Err stops.Memory) e h = tt
    line_answer ts (Err (stops.Refused refusal)) e h = (of_tokens ts (Err refusal.code) e h.0, h.1)

    -- ---- once

    -- of a line that spells an item
    abbrev lifted : Result R ℕ → Result (Option R) ℕ
    lifted (Ok r) = Ok (Some r)
    lifted (Err code) = Err code

    not_malformed : (i : I) → Spells g line i → IsMalformed g line → ⊥
    not_malformed i (ts, e, spelled) (inl (at, bad)) = let both : Ok ts ≡ Err at = sym e ∙ bad in absurd cc
    not_malformed i spells (inr (t, ts, e, none)) = none i spells

    not_both : IsMalformed g line → tokens_of line ≡ Ok [] → ⊥
    not_both (inl (at, bad)) none = let both : Ok [] ≡ Err at = sym none ∙ bad in absurd cc
    not_both (inr (t, ts, e, never)) none = let both : [] ≡ t ∷ ts = same_ok [] (t ∷ ts) (sym none ∙ e) in absurd cc

    alike : (i j : I) → Spells g line i → Spells g line j → g.spelled i ≡ g.spelled j
    alike i j (ts, e, h) (us, f, k) = sym h.0 ∙ ap (map lexeme) (same_ok ts us (sym e ∙ f)) ∙ k.0

    module _ (some_words : (i : I) → [] ≡ g.spelled i → ⊥)
        (spelled_alike : (i j : I) (a b : Result R ℕ) → g.spelled i ≡ g.spelled j → g.IsSpelled i → g.IsSpelled j → SaidByItem g IsNamed Applies i a → SaidByItem g IsNamed Applies j b → a ≡ b) where
      not_empty : (i : I) → Spells g line i → tokens_of line ≡ Ok [] → ⊥
      not_empty i (ts, e, spelled) none = some_words i (ap (map lexeme) (sym (same_ok ts [] (sym e ∙ none))) ∙ spelled.0)

      spelled_once : (i : I) (a : Result R ℕ) (b : Result (Option R) ℕ) → Spells g line i → SaidByItem g IsNamed Applies i a → SaidByLine g IsNamed Applies line b → lifted a ≡ b
      spelled_once i a (Ok None) s h k = absurd (not_empty i s k)
      spelled_once i a (Ok (Some r)) s h (j, s', k) = ap lifted (spelled_alike i j a (Ok r) (alike i j s s') s.2.1 s'.2.1 h k)
      spelled_once i a (Err code) s h (inl (is, bad)) = absurd (not_malformed i s bad)
      spelled_once i a (Err code) s h (inr (j, s', k)) = ap lifted (spelled_alike i j a (Err code) (alike i j s s') s.2.1 s'.2.1 h k)

      empty_once : (b : Result (Option R) ℕ) → tokens_of line ≡ Ok [] → SaidByLine g IsNamed Applies line b → Ok None ≡ b
      empty_once (Ok None) none k = refl
      empty_once (Ok (Some r)) none (i, s, k) = absurd (not_empty i s none)
      empty_once (Err code) none (inl (is, bad)) = absurd (not_both bad none)
      empty_once (Err code) none (inr (i, s, k)) = absurd (not_empty i s none)

      malformed_once : (code : ℕ) (b : Result (Option R) ℕ) → (h : SaidByLine g IsNamed Applies line (Err code)) → IsMalformed g line → SaidByLine g IsNamed Applies line b → Err code ≡ b
      malformed_once code (Ok None) h bad k = absurd (not_both bad k)
      malformed_once code (Ok (Some r)) h bad (i, s, k) = absurd (not_malformed i s bad)
      malformed_once code (Err other) (inl (is, _)) bad (inl (was, _)) = ap (λ (x : ℕ). Err x) (is ∙ sym was)
      malformed_once code (Err other) (inr (i, s, k)) bad was = absurd (not_malformed i s bad)
      malformed_once code (Err other) (inl (is, _)) bad (inr (i, s, k)) = absurd (not_malformed i s bad)

      pub one_said : (a b : Result (Option R) ℕ) → SaidByLine g IsNamed Applies line a → SaidByLine g IsNamed Applies line b → a ≡ b
      one_said (Ok None) b h k = empty_once b h k
      one_said (Ok (Some r)) b (i, s, h) k = spelled_once i (Ok r) b s h k
      one_said (Err code) b (inl (is, bad)) k = malformed_once code b (inl (is, bad)) bad k
      one_said (Err code) b (inr (i, s, h)) k = spelled_once i (Err code) b s h k
