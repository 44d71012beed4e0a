use Rattle.std.proofs.Common.{◌≡◌, ◌+◌, ◌<◌, List, [], ◌∷◌, ◌++◌, length, map, take, get_or, sym, subst, ap, ◌∙◌, arith, rules, Vec, Global}
use Rattle.std.proofs.lemmas.List.{get_or_default, length-map, take_more}
use Rattle.std.proofs.Math.ListN.{get_or-map}
use Rattle.cca_base.specs.declared.choice.Choice.{Choice}
use Rattle.successors.proofs.choice_space.ChoiceRows.copy.Goals as goal

pub loop-row-preserved : goal.loop-row-preserved
loop-row-preserved c =
    let rows : List (List Choice) = map (λ v. v.items) c.self.inside.rows.items in
    let i = c.loop-row.row-index in
    let is = ap (λ r. r.rows) c.self.view_is in
    let within : i < length rows = omega (arith, c.loop-row-test.true, ap length c.as_slice-row-items.ensures.value, length-map c.self.inside.rows.items (λ v. v.items)) in
    let v = c.row-item.result in
    let got : v ≡ get_or c.self.inside.rows.items i v = c.row-item.is ∙ ap (λ l. get_or l i v) c.as_slice-row-items.ensures.value in
    let from : v.items ≡ get_or rows i [] = ap (λ (w : Vec Choice Global). w.items) got ∙ sym (get_or-map (λ (w : Vec Choice Global). w.items) c.self.inside.rows.items i v) ∙ get_or_default rows i v.items [] within in
    let here : c.of.result ≡ get_or rows i [] = c.of.ensures ∙ c.in_ok-to_vec.ensures.items_if_clones_equal (λ y h. search rules) ∙ c.as_slice.ensures.value ∙ from in
    c.in_ok-push.ensures.ok ∙ ap (λ z. z ++ c.of.result ∷ []) c.loop-row.invariant
    ∙ subst (λ (z : List (List Choice)). take i z ++ c.of.result ∷ [] ≡ take (i + 1) z) is (ap (λ z. take i rows ++ z ∷ []) here ∙ sym (take_more rows i [] within))
