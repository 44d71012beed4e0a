-- Lines of wishes, what they leave for the wishes behind them, and which target is chosen.
use Rattle.std.proofs.Common.{◌≡◌, ◌+◌, ℕ, inl, inr, List, [], ◌∷◌, ◌++◌, length, map, replicate, slice_index, refl, sym, ap, subst, ◌∙◌, arith}
use Rattle.std.specs.Prelude.{codes, zero, suc}
use Rattle.std.specs.Fmt.{decimal}
use Rattle.std.proofs.lemmas.Fmt.{decimal_digit}
use Rattle.cca_base.specs.declared.cube.Pair.{Pair}
use Rattle.cca_base.specs.declared.model.Component.{Component}
use Rattle.want_form.specs.Wishes.{Settings, Wishes, put_in}
use Rattle.wish_laws.specs.Settled.{weight_of}
use Rattle.form_examples.specs.EventExamples.{named}
use Rattle.form_examples.specs.WishExamples.{WishLinesAreSpelt, SettingsAdd, FirstAmongEquals}

zero_in : (n at : ℕ) → slice_index (replicate n 0) at ≡ 0
zero_in zero at = refl
zero_in (suc n) zero = refl
zero_in (suc n) (suc at) = zero_in n at

weighs_nothing : (components : List Component) (t : List ℕ) → weight_of (map (λ (c : Component). replicate (length c.modes) 0) components) t ≡ 0
weighs_nothing [] t = refl
weighs_nothing (c ∷ cs) [] = refl
weighs_nothing (c ∷ cs) (mode ∷ t) = omega (arith, zero_in (length c.modes) mode, weighs_nothing cs t)

put_both : (modes : List ℕ) (ps qs : List Pair) → put_in (put_in modes ps) qs ≡ put_in modes (ps ++ qs)
put_both modes [] qs = refl
put_both modes (p ∷ ps) qs = put_both _ ps qs

pub settings_add : SettingsAdd
settings_add = record {
  nothing = λ m t. weighs_nothing m.components t;
  at_twice = λ m ps qs x n r. (put_both x.modes ps qs, refl);
  weights = λ m n r. refl;
}

four : decimal 4 ≡ 52 ∷ []
four = decimal_digit 4 (omega arith)

pub wish_lines_are_spelt : WishLinesAreSpelt
wish_lines_are_spelt = record {
  weight = (_, refl, (rw (four) refl, (((refl, (refl, tt)), tt), omega arith)));
  at = (_, refl, (refl, (omega arith, ((refl, (refl, tt)), ((refl, (refl, tt)), tt)))));
  greatest = λ m h. elim h [ inl (e, n) ↦ absurd cc | inr more ↦ elim more [ inl (e, few) ↦ absurd (omega (arith, few)) | inr (e, twice) ↦ absurd cc ] ];
  greater = λ m. inr (inl (refl, omega arith));
  twice = λ m. inr (inr (refl, inl (named (codes "valve") (codes "closed"), (0, omega arith, refl), refl)));
}

pub first_among_equals : FirstAmongEquals
first_among_equals m weights s f settled holds same target = target.first (0 ∷ []) settled holds same refl
