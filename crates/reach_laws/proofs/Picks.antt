-- What is picked is determined.
use Rattle.std.proofs.Common.{◌≡◌, [], ◌∷◌, sym, subst, ◌∙◌, refl}
use Rattle.cca_base.specs.Plans.{Whole}
use Rattle.cca_base.specs.Steps.{Step}
use Rattle.cca_laws.proofs.OneOrder.{compiled_none_twice}
use Rattle.cca_laws.proofs.OnePick.{one_command}
use Rattle.reach_laws.specs.Plans.{OnePick, OneWhole}
use Rattle.cca_base.proofs.Commands.{one_step}

pub one_pick_law : OnePick
one_pick_law b s goal k l compiled x y =
    one_command b s (compiled_none_twice b compiled) goal k l x y

pub one_whole : OneWhole
one_whole b goal s [] last [] end compiled x y = (refl, x.1 ∙ sym y.1)
one_whole b goal s [] last (l ∷ ls) end compiled x y = absurd (y.0 x.0)
one_whole b goal s (k ∷ ks) last [] end compiled x y = absurd (x.0 y.0)
one_whole b goal s (k ∷ ks) last (l ∷ ls) end compiled x y =
    let same : k ≡ l = one_pick_law b s goal k l compiled x.1 y.1 in
    let next : x.2 ≡ y.2 = (one_step b.model compiled.accepted.well_formed.commands s x.2 y.2 k x.3 (subst (λ z. Step b.model s z y.2) (sym same) y.3)).1 in
    let rest = one_whole b goal y.2 ks last ls end compiled (subst (λ z. Whole b goal z ks last) next x.4) y.4 in
    ((λ i. same i ∷ rest.0 i), rest.1)
